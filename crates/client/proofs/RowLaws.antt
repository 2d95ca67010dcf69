-- Which row the table says of an event, and what is known of what arrives by its row.
use Rattle.std.proofs.Common.{◌≡◌, ℕ, ◌+◌, ◌<◌, ◌≤◌, Bool, true, false, not, eqb, ltb, ◌⊎◌, List, sym, refl, ap, subst, inl, inr, ltb-false, ltb-true, eqb-true}
use mathlib.Core.Bool.{false≢true}
use borrow.Author.Tests.{not-true}
use Rattle.words.specs.Choice.{choose}
use Rattle.words.specs.Sizes.{retry_limit}
use Rattle.words.proofs.Tests.{both_true}
use Rattle.answers.specs.declared.Refusal.{Refusal}
use Rattle.answers.specs.declared.Refusal.TheVariants.{WrongSide}
use Rattle.bodies.specs.Status.{status_in}
use Rattle.bodies.specs.Cancel.{cancel_number_in}
use Rattle.facks.specs.Mask.{acknowledged_by}
use Rattle.fragments.specs.declared.Fragment.{Fragment}
use Rattle.fragments.specs.Fragment.{body_length}
use Rattle.fragments.specs.Put.{put_of}
use Rattle.pdu.specs.declared.Header.{Header}
use Rattle.timers.specs.Tickets.{off}
use Rattle.client.specs.declared.records.Client.{Client}
use Rattle.client.specs.declared.records.TimerKind.{TimerKind}
use Rattle.client.specs.declared.records.TimerKind.TheVariants.{Wait, Ack, Cancel as CancelKind}
use Rattle.client.specs.declared.judge.Row.{Row}
use Rattle.client.specs.declared.judge.Row.TheVariants.{Transmit, Ping, SendAck, Cancel, Response, Fault, Reject, Working, Resend, GiveUp, Fack, CancelAck}
use Rattle.client.specs.judge.Verdict.{Verdict, Refuse, Go}
use Rattle.client.specs.records.States.{is_active, is_dispatched}
use Rattle.client.specs.judge.Rows.{cell_in, is_row, wait_row, timer_row, nocall_row, is_current, arrival_cell}

-- A refusal is no row.
pub unrowed : (row : Row) (r : Refusal) → Refuse r ≡ Go row → ⊥
unfolding is_row
unrowed row r e = false≢true (ap is_row e)

pub same_row : (a b : Row) → ◌≡◌ {A = Verdict} (Go a) (Go b) → a ≡ b
same_row a b e = cc

-- What is known of a header and a body of which the table says that row. A response:
pub record ArrivesResponse (c : Client) (h : Header) (body : List ℕ) (p : Fragment) : Type 0 where
  pub typed : h.kind ≡ 2
  pub row : is_active c.state ≡ true
  pub put : p ≡ put_of c.incoming h.flags1 h.serial h.fragment (body_length body)

-- a fault, 3, or reject, 6;
pub record ArrivesStatus (kind : ℕ) (c : Client) (h : Header) (little : Bool) (body : List ℕ) (told : ℕ) : Type 0 where
  pub typed : h.kind ≡ kind
  pub row : is_active c.state ≡ true
  pub status : told ≡ status_in little body

-- working;
pub record ArrivesWorking (c : Client) (h : Header) : Type 0 where
  pub typed : h.kind ≡ 4
  pub row : is_dispatched c.state ≡ true

-- nocall below its limit;
pub record ArrivesNocall (c : Client) (h : Header) (resends : ℕ) : Type 0 where
  pub typed : h.kind ≡ 5
  pub row : is_dispatched c.state ≡ true
  pub count : resends ≡ c.resends + 1
  pub below : c.resends < retry_limit

-- nocall at its limit;
pub record ArrivesLast (c : Client) (h : Header) (told : ℕ) : Type 0 where
  pub typed : h.kind ≡ 5
  pub row : is_dispatched c.state ≡ true
  pub cause : told ≡ 2
  pub limit : retry_limit ≤ c.resends

-- a fack;
pub record ArrivesFack (c : Client) (h : Header) (told : ℕ) : Type 0 where
  pub typed : h.kind ≡ 9
  pub row : is_active c.state ≡ true
  pub count : told ≡ acknowledged_by h.fragment

-- a cancel_ack.
pub record ArrivesCancelAck (c : Client) (h : Header) (little : Bool) (body : List ℕ) : Type 0 where
  pub typed : h.kind ≡ 10
  pub armed : off c.cancel ≡ false
  pub number : c.cancels ≡ cancel_number_in little body

-- No other row comes of an arrival.
abbrev pub Arrives : Row → Client → Header → Bool → List ℕ → Type 0
Arrives (Transmit last) c h little body = ⊥
Arrives (Ping waits) c h little body = ⊥
Arrives SendAck c h little body = ⊥
Arrives (Cancel number) c h little body = ⊥
Arrives (Response p) c h little body = ArrivesResponse c h body p
Arrives (Fault status) c h little body = ArrivesStatus 3 c h little body status
Arrives (Reject status) c h little body = ArrivesStatus 6 c h little body status
Arrives Working c h little body = ArrivesWorking c h
Arrives (Resend resends) c h little body = ArrivesNocall c h resends
Arrives (GiveUp cause) c h little body = ArrivesLast c h cause
Arrives (Fack count) c h little body = ArrivesFack c h count
Arrives CancelAck c h little body = ArrivesCancelAck c h little body

-- A test chooses the one or the other, and a row stands in the states that have it.
chosen : (t : Bool) (a b v : Verdict) → choose t a b ≡ v → ((t ≡ true) × (a ≡ v)) ⊎ (b ≡ v)
unfolding choose
chosen true a b v e = inl (refl, e)
chosen false a b v e = inr e

row_in : (has : Bool) (row taken : Row) → cell_in has row ≡ Go taken → (has ≡ true) × (row ≡ taken)
unfolding cell_in choose
row_in true row taken e = (refl, same_row row taken e)
row_in false row taken e = absurd (unrowed taken _ e)

-- What arrives is what its row says.
module _ (c : Client) (h : Header) (little : Bool) (body : List ℕ) where
  abbrev ArrivesAs : Row → Type 0
  ArrivesAs row = Arrives row c h little body

  nocall_arrives : h.kind ≡ 5 → is_dispatched c.state ≡ true → ArrivesAs (nocall_row c.resends)
  unfolding nocall_row choose
  nocall_arrives typed row = by_count (ltb c.resends retry_limit) refl
    where
      by_count : (t : Bool) → ltb c.resends retry_limit ≡ t
          → ArrivesAs (choose t (Resend (c.resends + 1)) (GiveUp 2))
      by_count true e =
          record { typed = typed; row = row; count = refl; below = ltb-true c.resends retry_limit e }
      by_count false e =
          record { typed = typed; row = row; cause = refl; limit = ltb-false c.resends retry_limit e }

  current_arrives : h.kind ≡ 10 → is_current c.cancel c.cancels (cancel_number_in little body) ≡ true
      → ArrivesAs CancelAck
  unfolding is_current
  current_arrives typed current =
      let told = both_true (not (off c.cancel)) (eqb c.cancels (cancel_number_in little body)) current in
      record {
        typed = typed;
        armed = not-true (off c.cancel) told.0;
        number = eqb-true c.cancels (cancel_number_in little body) told.1;
      }

  -- A type whose row it is, or one of those behind it.
  of_type : (kind : ℕ) (has : Bool) (own taken : Row) (rest : Verdict)
      → (h.kind ≡ kind → has ≡ true → ArrivesAs own) → (rest ≡ Go taken → ArrivesAs taken)
      → choose (eqb h.kind kind) (cell_in has own) rest ≡ Go taken → ArrivesAs taken
  of_type kind has own taken rest here behind e =
      by_choice (chosen (eqb h.kind kind) (cell_in has own) rest (Go taken) e)
    where
      by_choice : ((eqb h.kind kind ≡ true) × (cell_in has own ≡ Go taken)) ⊎ (rest ≡ Go taken) → ArrivesAs taken
      by_choice (inl f) =
          let row = row_in has own taken f.1 in
          subst ArrivesAs row.1 (here (eqb-true h.kind kind f.0) row.0)
      by_choice (inr f) = behind f

  pub row_arrives : (row : Row) → arrival_cell c h little body ≡ Go row → ArrivesAs row
  unfolding arrival_cell
  row_arrives row =
      of_type 2 _ _ row _ (λ t r. record { typed = t; row = r; put = refl })
      (of_type 3 _ _ row _ (λ t r. record { typed = t; row = r; status = refl })
      (of_type 4 _ _ row _ (λ t r. record { typed = t; row = r })
      (of_type 5 _ _ row _ nocall_arrives
      (of_type 6 _ _ row _ (λ t r. record { typed = t; row = r; status = refl })
      (of_type 9 _ _ row _ (λ t r. record { typed = t; row = r; count = refl })
      (of_type 10 _ _ row _ current_arrives
      (λ e. absurd (unrowed row WrongSide e))))))))

  -- A response, working, a fack and a cancel_ack have their row by their type.
  pub response_typed : h.kind ≡ 2 → (row : Row) → arrival_cell c h little body ≡ Go row
      → row ≡ Response (put_of c.incoming h.flags1 h.serial h.fragment (body_length body))
  unfolding arrival_cell choose
  response_typed typed row e = sym (row_in (is_active c.state) _ row (rw typed at e)).1

  pub working_typed : h.kind ≡ 4 → (row : Row) → arrival_cell c h little body ≡ Go row → row ≡ Working
  unfolding arrival_cell choose
  working_typed typed row e = sym (row_in (is_dispatched c.state) Working row (rw typed at e)).1

  pub fack_typed : h.kind ≡ 9 → (row : Row) → arrival_cell c h little body ≡ Go row
      → row ≡ Fack (acknowledged_by h.fragment)
  unfolding arrival_cell choose
  fack_typed typed row e = sym (row_in (is_active c.state) _ row (rw typed at e)).1

  pub cancel_ack_typed : h.kind ≡ 10 → (row : Row) → arrival_cell c h little body ≡ Go row → row ≡ CancelAck
  unfolding arrival_cell choose
  cancel_ack_typed typed row e =
      sym (row_in (is_current c.cancel c.cancels (cancel_number_in little body)) CancelAck row (rw typed at e)).1

  -- What holds of each row of an arrival holds of the row that one has,
  pub arrival-rows : (P : Row → Type 0) → ((p : Fragment) → ArrivesResponse c h body p → P (Response p))
      → ((status : ℕ) → P (Fault status)) → ((status : ℕ) → P (Reject status)) → P Working
      → ((resends : ℕ) → P (Resend resends)) → ((cause : ℕ) → P (GiveUp cause)) → ((count : ℕ) → P (Fack count))
      → P CancelAck → (row : Row) → ArrivesAs row → P row
  arrival-rows P response fault reject working resend over fack ack (Transmit last) a = absurd a
  arrival-rows P response fault reject working resend over fack ack (Ping waits) a = absurd a
  arrival-rows P response fault reject working resend over fack ack SendAck a = absurd a
  arrival-rows P response fault reject working resend over fack ack (Cancel number) a = absurd a
  arrival-rows P response fault reject working resend over fack ack (Response p) a = response p a
  arrival-rows P response fault reject working resend over fack ack (Fault status) a = fault status
  arrival-rows P response fault reject working resend over fack ack (Reject status) a = reject status
  arrival-rows P response fault reject working resend over fack ack Working a = working
  arrival-rows P response fault reject working resend over fack ack (Resend resends) a = resend resends
  arrival-rows P response fault reject working resend over fack ack (GiveUp cause) a = over cause
  arrival-rows P response fault reject working resend over fack ack (Fack count) a = fack count
  arrival-rows P response fault reject working resend over fack ack CancelAck a = ack

-- and what holds of each row of a timer, of the row that a timer event has.
pub timer-rows : (P : Row → Type 0) → ((waits : ℕ) → P (Ping waits)) → P SendAck → ((cause : ℕ) → P (GiveUp cause))
    → (kind : TimerKind) (c : Client) → P (timer_row kind c)
unfolding timer_row wait_row choose
timer-rows P ping ack over Wait c = by_count (ltb c.waits retry_limit)
  where
    by_count : (t : Bool) → P (choose t (Ping (c.waits + 1)) (GiveUp 1))
    by_count true = ping (c.waits + 1)
    by_count false = over 1
timer-rows P ping ack over Ack c = ack
timer-rows P ping ack over CancelKind c = over 3
