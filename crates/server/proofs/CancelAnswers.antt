-- Which number an arriving cancel is answered with.
use Prim.Native.Nat.{ℕ, ◌≤◌, ◌<◌}
use mathlib.Core.Bool.{Bool, true, false, not, false≢true, true≢false}
use mathlib.Core.List.{List}
use mathlib.Core.Logic.{◌⊎◌, inl, inr}
use mathlib.Core.Path.{◌≡◌, refl, sym, ap, subst, ◌∙◌}
use native.Mathlib.Omega.{arith}
use lib.Dec.{ltb, eqb}
use lib.ListN.{length}
use borrow.Author.Tests.{ltb-true, ltb-false, eq-eqb}
use Rattle.words.specs.Choice.{choose, both, either}
use Rattle.words.specs.Number.{number}
use Rattle.words.specs.Sizes.{pdu_size, slots_size}
use Rattle.words.proofs.Tests.{choose_true, choose_false}
use Rattle.answers.specs.declared.Refusal.{Refusal}
use Rattle.answers.specs.declared.Refusal.TheVariants.{OldCall, MalformedBody, NoRow}
use Rattle.answers.specs.Answer.{Answer, Done, Refused}
use Rattle.answers.specs.Table.{first_of}
use Rattle.bodies.specs.Cancel.{cancel_malformed, cancel_number_in, cancel_reading}
use Rattle.bodies.proofs.CancelTrip.{cancel_formed}
use Rattle.pdu.specs.declared.Header.{Header}
use Rattle.pdu.specs.Header.{body_of}
use Rattle.reader.specs.Reading.{reading}
use Rattle.server.specs.declared.records.State.{State}
use Rattle.server.specs.declared.records.State.TheVariants.{Idle as IdleState, Collect, Running, Replying, Held}
use Rattle.server.specs.declared.records.Server.{Server}
use Rattle.server.specs.records.States.{is_fresh, is_idle, is_running}
use Rattle.server.specs.records.Rules.{sound}
use Rattle.server.specs.declared.judge.Order.{Order}
use Rattle.server.specs.declared.judge.Order.TheVariants.{Below, Equal, Newer}
use Rattle.server.specs.declared.judge.Row.{Row}
use Rattle.server.specs.declared.judge.Row.TheVariants.{HearCancel, AcceptCancel, DeclineCancel}
use Rattle.server.specs.judge.Verdict.{Verdict, Refuse, Go}
use Rattle.server.specs.judge.Rows.{says, order_of, order_for, running_cancel, cancel_equal, cancel_cell, is_for_server}
use Rattle.server.specs.judge.Refusals.{is_request, is_malformed, is_contradiction, pdu_refusals, pdu_verdict, arrival_verdict}
use Rattle.server.specs.Machine.{refused, arrival_by, arriving}
use Rattle.server.proofs.TableLaws.{choice_by, newer_ordered, equal_ordered, below_ordered, cancel_arrives}
use Rattle.server.proofs.Arriving.{arrive_taken, entered_judged}

-- A cancel comes: the record keeps its rules, the buffers lent have their lengths, and the reader takes the datagram as a
-- PDU of the record's activity, of type 8.
pub record CancelComes (s : Server) (datagram slots out : List ℕ) : Type 0 where
  pub kept : sound s ≡ true
  pub slotted : length slots ≡ slots_size
  pub room : length out ≡ pdu_size
  pub read : (reading datagram).answer ≡ Done
  pub activity : s.activity ≡ (reading datagram).header.activity
  pub typed : (reading datagram).header.kind ≡ 8

-- It is well formed: a body of 8 bytes, version 0 first,
pub record WellFormed (datagram : List ℕ) : Type 0 where
  pub size : length (body_of datagram) ≡ 8
  pub version : number 4 (reading datagram).little (body_of datagram) 0 ≡ 0

-- and then its number, in the sender's order.
abbrev pub cancel_number : List ℕ → ℕ
cancel_number datagram = cancel_number_in (reading datagram).little (body_of datagram)

module _ (datagram : List ℕ) where
  -- The body of one that is well formed is not malformed,
  well_formed : WellFormed datagram → cancel_malformed (reading datagram).little (body_of datagram) ≡ false
  unfolding cancel_malformed either
  well_formed f =
      choose_false (not (eqb (length (body_of datagram)) 8)) _ _ (ap not (eq-eqb (length (body_of datagram)) 8 f.size))
      ∙ ap not (eq-eqb (number 4 (reading datagram).little (body_of datagram) 0) 0 f.version)

  -- so it is read so,
  pub formed_read : WellFormed datagram
      → cancel_reading (reading datagram).little (body_of datagram) ≡ record { answer = Done; number = cancel_number datagram }
  formed_read f = (cancel_formed (reading datagram).little (body_of datagram) (well_formed f)).reading

  -- and one that is not malformed is well formed.
  pub formed_told : cancel_malformed (reading datagram).little (body_of datagram) ≡ false → WellFormed datagram
  formed_told e =
      let f = cancel_formed (reading datagram).little (body_of datagram) e in
      record { size = f.size; version = f.version }

  malformed : (WellFormed datagram → ⊥) → cancel_malformed (reading datagram).little (body_of datagram) ≡ true
  malformed other = by_test (cancel_malformed (reading datagram).little (body_of datagram)) refl
    where
      by_test : (t : Bool) → cancel_malformed (reading datagram).little (body_of datagram) ≡ t → t ≡ true
      by_test true e = refl
      by_test false e = absurd (other (formed_told e))

-- A state but IDLE is not fresh.
busy_unfresh : (state : State) → is_idle state ≡ false → is_fresh state ≡ false
unfolding is_idle is_fresh
busy_unfresh (IdleState idle) e = absurd (true≢false e)
busy_unfresh Collect e = refl
busy_unfresh Running e = refl
busy_unfresh Replying e = refl
busy_unfresh (Held reply) e = refl

-- What the table says of a cancel of number n with an equal call number: there is a row in every state but IDLE,
busy_row : (state : State) (seen n : ℕ) → is_idle state ≡ false
    → cancel_equal state seen n ≡ Go (choose (is_running state) (running_cancel seen n) (DeclineCancel n))
unfolding is_idle is_running cancel_equal choose
busy_row (IdleState idle) seen n e = absurd (true≢false e)
busy_row Collect seen n e = refl
busy_row Running seen n e = refl
busy_row Replying seen n e = refl
busy_row (Held reply) seen n e = refl

idle_row : (state : State) (seen n : ℕ) → is_idle state ≡ true → cancel_equal state seen n ≡ Refuse NoRow
unfolding is_idle cancel_equal
idle_row (IdleState idle) seen n e = refl
idle_row Collect seen n e = absurd (false≢true e)
idle_row Running seen n e = absurd (false≢true e)
idle_row Replying seen n e = absurd (false≢true e)
idle_row (Held reply) seen n e = absurd (false≢true e)

-- and of any order it is 13, 15, or one of three rows.
pub cancel-rows : (s : Server) (order : Order) (n : ℕ) (P : Verdict → Type 0) → P (Refuse OldCall) → P (Refuse NoRow)
    → (s.state ≡ Running → s.seen < n → P (Go (HearCancel n)))
    → (s.state ≡ Running → n ≤ s.seen → P (Go (AcceptCancel n)))
    → (is_running s.state ≡ false → P (Go (DeclineCancel n))) → P (cancel_cell order s.state s.seen n)
unfolding cancel_cell cancel_equal running_cancel is_running
cancel-rows s order n P old none hear accept decline = by_order order
  where
    by_state : (state : State) → s.state ≡ state → P (cancel_equal state s.seen n)
    by_state (IdleState idle) is = none
    by_state Collect is = decline (ap is_running is)
    by_state Running is =
        choice_by (λ (r : Row). P (Go r)) (ltb s.seen n) _ _ (λ above. hear is (ltb-true s.seen n above))
        (λ below. accept is (ltb-false s.seen n below))
    by_state Replying is = decline (ap is_running is)
    by_state (Held reply) is = decline (ap is_running is)

    by_order : (o : Order) → P (cancel_cell o s.state s.seen n)
    by_order Below = old
    by_order Equal = by_state s.state refl
    by_order Newer = none

-- Only a number below is old.
unold : (s : Server) (order : Order) (n : ℕ) → (order ≡ Newer) ⊎ (order ≡ Equal)
    → says OldCall (cancel_cell order s.state s.seen n) ≡ false
unfolding cancel_cell says
unold s order n (inl e) = ap (λ (x : Order). says OldCall (cancel_cell x s.state s.seen n)) e
unold s order n (inr e) = ap (λ (x : Order). says OldCall (cancel_cell x s.state s.seen n)) e ∙ by_state s.state
  where
    by_state : (x : State) → says OldCall (cancel_equal x s.seen n) ≡ false
    by_state (IdleState idle) = unfold cancel_equal says in refl
    by_state Collect = unfold cancel_equal says in refl
    by_state Running = unfold cancel_equal says in refl
    by_state Replying = unfold cancel_equal says in refl
    by_state (Held reply) = unfold cancel_equal says in refl

not_below : (fresh : Bool) (mine theirs : ℕ) → (fresh ≡ true) ⊎ (mine ≤ theirs)
    → (order_of fresh mine theirs ≡ Newer) ⊎ (order_of fresh mine theirs ≡ Equal)
not_below fresh mine theirs (inl e) = inl (newer_ordered fresh mine theirs (inl e))
not_below true mine theirs (inr most) = inl (newer_ordered true mine theirs (inl refl))
not_below false mine theirs (inr most) = by_order (ltb mine theirs) refl
  where
    by_order : (t : Bool) → ltb mine theirs ≡ t
        → (order_of false mine theirs ≡ Newer) ⊎ (order_of false mine theirs ≡ Equal)
    by_order true e = inl (newer_ordered false mine theirs (inr (ltb-true mine theirs e)))
    by_order false e = let least = ltb-false mine theirs e in inr (equal_ordered false mine theirs refl (omega (arith, least)))

-- Of a PDU of type 8 nothing is judged but 13, 14 and 15: 13 first, then its body, then what the table says.
module _ (s : Server) (h : Header) (little : Bool) (body : List ℕ) (typed : h.kind ≡ 8) where
  abbrev says_of : Verdict
  says_of = cancel_cell (order_for s h) s.state s.seen (cancel_number_in little body)

  abbrev in_order : Verdict → Verdict
  in_order v = choose (says OldCall v) (Refuse OldCall) (choose (cancel_malformed little body) (Refuse MalformedBody) v)

  abbrev Judges : Verdict → Type 0
  Judges v = first_of Refuse (pdu_refusals s h little body v) v ≡ in_order v

  old_judged : Judges (Refuse OldCall)
  unfolding pdu_refusals first_of is_for_server is_request is_malformed is_contradiction says both either choose
  old_judged = rw typed

  none_judged : Judges (Refuse NoRow)
  unfolding pdu_refusals first_of is_for_server is_request is_malformed is_contradiction says both either choose
  none_judged = rw typed

  go_judged : (row : Row) → Judges (Go row)
  unfolding pdu_refusals first_of is_for_server is_request is_malformed is_contradiction says both either choose
  go_judged row = rw typed

  pub cancel_judged_lem : pdu_verdict s h little body ≡ in_order says_of
  unfolding pdu_verdict
  cancel_judged_lem =
      subst (λ (v : Verdict). first_of Refuse (pdu_refusals s h little body v) v ≡ in_order says_of) (sym (cancel_arrives s h little body typed))
      (cancel-rows s (order_for s h) (cancel_number_in little body) Judges old_judged none_judged (λ is above. go_judged _) (λ is seen. go_judged _)
      (λ stopped. go_judged _))

module _ (s : Server) (datagram slots out : List ℕ) where
  abbrev h : Header
  h = (reading datagram).header

  abbrev verdict : Verdict
  verdict = arrival_verdict s (length slots) (length out) datagram

  abbrev answer : Answer
  answer = (arriving s datagram slots out).outcome.answer

  -- One that takes a row is well formed.
  pub taken_formed : (row : Row) → h.kind ≡ 8 → verdict ≡ Go row → WellFormed datagram
  unfolding is_malformed choose
  taken_formed row typed taken =
      formed_told datagram
      (subst (λ (kind : ℕ). is_malformed kind (reading datagram).little (body_of datagram) ≡ false) typed
      (arrive_taken s (length slots) (length out) datagram row taken).formed)

  module _ (c : CancelComes s datagram slots out) where
    abbrev row : Verdict
    row = cancel_cell (order_for s h) s.state s.seen (cancel_number datagram)

    judged : verdict
        ≡ choose (says OldCall row) (Refuse OldCall)
        (choose (cancel_malformed (reading datagram).little (body_of datagram)) (Refuse MalformedBody) row)
    judged =
        entered_judged s (length slots) (length out) datagram c.slotted c.room c.kept c.read c.activity
        ∙ cancel_judged_lem s h (reading datagram).little (body_of datagram) c.typed

    answered_by_lem : (r : Refusal) → verdict ≡ Refuse r → answer ≡ Refused r
    unfolding arriving arrival_by refused
    answered_by_lem r e = ap (λ (v : Verdict). (arrival_by v s h (body_of datagram) slots out).outcome.answer) e

    -- A cancel of a call below the server's is 13, whatever its body is.
    pub old_cancel : is_fresh s.state ≡ false → h.number < s.number → answer ≡ Refused OldCall
    unfolding order_for cancel_cell says
    old_cancel known below =
        let is = ap (λ (x : Order). cancel_cell x s.state s.seen (cancel_number datagram))
        (below_ordered (is_fresh s.state) s.number h.number known below) in
        answered_by_lem OldCall (judged ∙ choose_true (says OldCall row) _ _ (ap (says OldCall) is))

    -- Any other that is not well formed is 14,
    pub malformed_cancel : (is_fresh s.state ≡ true) ⊎ (s.number ≤ h.number) → (WellFormed datagram → ⊥)
        → answer ≡ Refused MalformedBody
    unfolding order_for
    malformed_cancel known other =
        let order = not_below (is_fresh s.state) s.number h.number known in
        answered_by_lem MalformedBody
        (judged ∙ choose_false (says OldCall row) _ _ (unold s (order_for s h) (cancel_number datagram) order)
        ∙ choose_true (cancel_malformed (reading datagram).little (body_of datagram)) _ _ (malformed datagram other))

    module _ (f : WellFormed datagram) where
      formed_judged : (v : Verdict) → row ≡ v → says OldCall v ≡ false → verdict ≡ v
      formed_judged v is current =
          judged ∙ choose_false (says OldCall row) _ _ (ap (says OldCall) is ∙ current)
          ∙ choose_false (cancel_malformed (reading datagram).little (body_of datagram)) _ _ (well_formed datagram f) ∙ is

      rowless : row ≡ Refuse NoRow → answer ≡ Refused NoRow
      unfolding says
      rowless is = answered_by_lem NoRow (formed_judged (Refuse NoRow) is refl)

      -- one of a newer call, or to a fresh server, is 15,
      pub newer_cancel : (is_fresh s.state ≡ true) ⊎ (s.number < h.number) → answer ≡ Refused NoRow
      unfolding order_for cancel_cell
      newer_cancel newer =
          rowless (ap (λ (x : Order). cancel_cell x s.state s.seen (cancel_number datagram))
          (newer_ordered (is_fresh s.state) s.number h.number newer))

      -- one of the record's own call is 15 in IDLE,
      pub idle_cancel : s.number ≡ h.number → is_idle s.state ≡ true → answer ≡ Refused NoRow
      unfolding order_for cancel_cell
      idle_cancel equal idle = by_fresh (is_fresh s.state) refl
        where
          by_fresh : (t : Bool) → is_fresh s.state ≡ t → answer ≡ Refused NoRow
          by_fresh true e = newer_cancel (inl e)
          by_fresh false e =
              rowless
              (ap (λ (x : Order). cancel_cell x s.state s.seen (cancel_number datagram))
              (equal_ordered (is_fresh s.state) s.number h.number e equal)
              ∙ idle_row s.state s.seen (cancel_number datagram) idle)

      -- and elsewhere it takes its row.
      pub own_cancel_taken : s.number ≡ h.number → is_idle s.state ≡ false
          → verdict ≡ Go (choose (is_running s.state) (running_cancel s.seen (cancel_number datagram)) (DeclineCancel (cancel_number datagram)))
      unfolding order_for cancel_cell says
      own_cancel_taken equal busy =
          formed_judged (Go _)
          (ap (λ (x : Order). cancel_cell x s.state s.seen (cancel_number datagram))
          (equal_ordered (is_fresh s.state) s.number h.number (busy_unfresh s.state busy) equal)
          ∙ busy_row s.state s.seen (cancel_number datagram) busy)
          refl
