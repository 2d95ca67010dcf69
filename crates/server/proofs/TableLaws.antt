-- What the order of an arriving PDU's number tells, and what a row tells of the PDU that it stands for.
use Prim.Native.Nat.{ℕ, ◌<◌, ◌≤◌}
use mathlib.Core.Bool.{Bool, true, false, true≢false, false≢true}
use mathlib.Core.List.{List}
use mathlib.Core.Logic.{◌⊎◌, inl, inr}
use mathlib.Core.Path.{◌≡◌, refl, sym, ap, subst, ◌∙◌}
use native.Mathlib.Omega.{arith}
use lib.Dec.{ltb, eqb}
use borrow.Author.Tests.{ltb-true, ltb-false, eqb-true, lt-ltb, le-ltb, eq-eqb, ne_eqb}
use Rattle.words.specs.Choice.{choose, either}
use Rattle.words.proofs.Tests.{choose_false}
use Rattle.answers.specs.declared.Refusal.{Refusal}
use Rattle.answers.specs.declared.Refusal.TheVariants.{OldCall, NoRow, Repeated}
use Rattle.bodies.specs.Cancel.{cancel_number_in}
use Rattle.facks.specs.Mask.{acknowledged_by}
use Rattle.flags.specs.Flags.{idempotent, has_flag}
use Rattle.incoming.specs.Slots.{cleared}
use Rattle.pdu.specs.declared.Header.{Header}
use Rattle.server.specs.declared.records.Idle.TheVariants.{Fresh, Spent, Repeatable}
use Rattle.server.specs.declared.records.Reply.{Reply}
use Rattle.server.specs.declared.records.Reply.TheVariants.{Data, Fault}
use Rattle.server.specs.declared.records.State.{State}
use Rattle.server.specs.declared.records.State.TheVariants.{Idle as IdleState, Collect, Running, Replying, Held}
use Rattle.server.specs.declared.records.Server.{Server}
use Rattle.server.specs.records.States.{is_idle, is_running, is_held}
use Rattle.server.specs.declared.judge.Order.{Order}
use Rattle.server.specs.declared.judge.Order.TheVariants.{Below, Equal, Newer}
use Rattle.server.specs.declared.judge.Row.{Row}
use Rattle.server.specs.declared.judge.Row.TheVariants.{Reply as ReplyRow, TransmitMore, TransmitRepeatable, TransmitHeld, FaultRepeatable, FaultHeld, ResendData, ResendFault, Spend, Begin, Put, Working, Nocall, Rewind, RepeatFault, Acknowledge, HearCancel, AcceptCancel, DeclineCancel}
use Rattle.server.specs.judge.Verdict.{Verdict, Refuse, Go}
use Rattle.server.specs.judge.Rows.{is_row, says, order_by, order_of, order_for, replay_row, request_newer, request_again, request_idle, request_equal, request_cell, ping_equal, ping_cell, where_replied, acknowledgement_cell, ack_cell, running_cancel, cancel_equal, cancel_cell, request_put, is_for_server, arrival_cell}

-- What is known of both ways of a choice, by its test, is known of it.
pub choice_by : {A : Type 0} (P : A → Type 0) (t : Bool) (a b : A) → (t ≡ true → P a) → (t ≡ false → P b)
    → P (choose t a b)
unfolding choose
choice_by P true a b holds fails = holds refl
choice_by P false a b holds fails = fails refl

-- A refusal is no row, and a row is the one that was taken.
pub refusal_no_row : (r : Refusal) (row : Row) → Refuse r ≡ Go row → ⊥
unfolding is_row
refusal_no_row r row e = false≢true (ap is_row e)

pub same_row : (row taken : Row) → ◌≡◌ {A = Verdict} (Go row) (Go taken) → row ≡ taken
same_row row taken e = cc

-- What an order tells of the two numbers.
OrderTells : Bool → ℕ → ℕ → Order → Type 0
OrderTells fresh mine theirs Below = Unit {0}
OrderTells fresh mine theirs Equal = (fresh ≡ false) × (mine ≡ theirs)
OrderTells fresh mine theirs Newer = (fresh ≡ true) ⊎ (mine < theirs)

module _ (fresh : Bool) (mine theirs : ℕ) where
  -- The order of two numbers tells it.
  order_tells : OrderTells fresh mine theirs (order_of fresh mine theirs)
  unfolding OrderTells order_of order_by either choose
  order_tells = by_fresh fresh refl
    where
      by_number : (t : Bool) → eqb mine theirs ≡ t → fresh ≡ false → OrderTells fresh mine theirs (choose t Equal Below)
      by_number true e f = (f, eqb-true mine theirs e)
      by_number false e f = tt

      by_order : (t : Bool) → ltb mine theirs ≡ t → fresh ≡ false
          → OrderTells fresh mine theirs (choose t Newer (choose (eqb mine theirs) Equal Below))
      by_order true e f = inr (ltb-true mine theirs e)
      by_order false e f = by_number (eqb mine theirs) refl f

      by_fresh : (t : Bool) → fresh ≡ t
          → OrderTells fresh mine theirs (choose (choose t true (ltb mine theirs)) Newer (choose (eqb mine theirs) Equal Below))
      by_fresh true e = inl e
      by_fresh false e = by_order (ltb mine theirs) refl e

  -- A newer number is greater, or the server is fresh.
  pub newer_told : order_of fresh mine theirs ≡ Newer → (fresh ≡ true) ⊎ (mine < theirs)
  unfolding OrderTells
  newer_told e = subst (OrderTells fresh mine theirs) e order_tells

  -- An equal number is the server's, which is not fresh.
  pub equal_told : order_of fresh mine theirs ≡ Equal → (fresh ≡ false) × (mine ≡ theirs)
  unfolding OrderTells
  equal_told e = subst (OrderTells fresh mine theirs) e order_tells

  -- So the order is told by the numbers: newer,
  pub newer_ordered : (fresh ≡ true) ⊎ (mine < theirs) → order_of fresh mine theirs ≡ Newer
  unfolding order_of order_by either choose
  newer_ordered (inl e) = ap (λ (t : Bool). order_by (choose t true (ltb mine theirs)) mine theirs) e
  newer_ordered (inr above) = by_fresh fresh
    where
      by_fresh : (t : Bool) → order_by (choose t true (ltb mine theirs)) mine theirs ≡ Newer
      by_fresh true = refl
      by_fresh false = ap (λ (t : Bool). order_by t mine theirs) (lt-ltb mine theirs above)

  -- equal,
  pub equal_ordered : fresh ≡ false → mine ≡ theirs → order_of fresh mine theirs ≡ Equal
  unfolding order_of order_by either choose
  equal_ordered e same =
      ap (λ (t : Bool). order_by (choose t true (ltb mine theirs)) mine theirs) e
      ∙ ap (λ (t : Bool). order_by t mine theirs) (le-ltb mine theirs (omega arith))
      ∙ ap (λ (t : Bool). choose t Equal Below) (eq-eqb mine theirs same)

  -- or below.
  pub below_ordered : fresh ≡ false → theirs < mine → order_of fresh mine theirs ≡ Below
  unfolding order_of order_by either choose
  below_ordered e under =
      ap (λ (t : Bool). order_by (choose t true (ltb mine theirs)) mine theirs) e
      ∙ ap (λ (t : Bool). order_by t mine theirs) (le-ltb mine theirs (omega arith))
      ∙ ap (λ (t : Bool). choose t Equal Below) (ne_eqb mine theirs (λ same. omega arith))

-- REPLYING or HELD.
abbrev pub Replied : State → Type 0
Replied state = (state ≡ Replying) ⊎ (is_held state ≡ true)

-- A request or a ping.
abbrev pub IsCall : ℕ → Type 0
IsCall kind = (kind ≡ 0) ⊎ (kind ≡ 1)

-- A request begins: a newer one, not in RUNNING, or an equal one with the bit set in IDLE repeatable.
abbrev pub Begins : Server → Header → Type 0
Begins s h =
    ((order_for s h ≡ Newer) × (is_running s.state ≡ false))
    ⊎ ((order_for s h ≡ Equal) × (s.state ≡ IdleState Repeatable) × (has_flag idempotent h.flags1 ≡ true))

-- A ping finds no call: a newer one, or an equal one in IDLE or COLLECT.
abbrev pub FindsNone : Server → Header → Type 0
FindsNone s h = (order_for s h ≡ Newer) ⊎ ((order_for s h ≡ Equal) × ((is_idle s.state ≡ true) ⊎ (s.state ≡ Collect)))

-- What a row tells of the PDU that it stands for: its type, the order of its number, the state, and what the row carries. The
-- rows of the stub and the timer stand for none.
abbrev pub RowTells : Row → Server → Header → Bool → List ℕ → Type 0
RowTells (ReplyRow n) s h little body = ⊥
RowTells TransmitMore s h little body = ⊥
RowTells TransmitRepeatable s h little body = ⊥
RowTells TransmitHeld s h little body = ⊥
RowTells (FaultRepeatable status) s h little body = ⊥
RowTells (FaultHeld status) s h little body = ⊥
RowTells (ResendData resends) s h little body = ⊥
RowTells (ResendFault status resends) s h little body = ⊥
RowTells Spend s h little body = (h.kind ≡ 7) × (order_for s h ≡ Equal) × Replied s.state × (s.call.idempotent ≡ false)
RowTells (Begin p) s h little body = (h.kind ≡ 0) × Begins s h × (p ≡ request_put cleared h body)
RowTells (Put p) s h little body =
    (h.kind ≡ 0) × (order_for s h ≡ Equal) × (s.state ≡ Collect) × (p ≡ request_put s.incoming h body)
RowTells Working s h little body = IsCall h.kind × (order_for s h ≡ Equal) × (s.state ≡ Running)
RowTells Nocall s h little body = (h.kind ≡ 1) × FindsNone s h
RowTells Rewind s h little body = IsCall h.kind × (order_for s h ≡ Equal) × (s.state ≡ Held Data)
RowTells (RepeatFault status) s h little body = IsCall h.kind × (order_for s h ≡ Equal) × (s.state ≡ Held (Fault status))
RowTells (Acknowledge n) s h little body =
    (h.kind ≡ 9) × (order_for s h ≡ Equal) × Replied s.state × (n ≡ acknowledged_by h.fragment)
RowTells (HearCancel n) s h little body =
    (h.kind ≡ 8) × (order_for s h ≡ Equal) × (s.state ≡ Running) × (n ≡ cancel_number_in little body) × (s.seen < n)
RowTells (AcceptCancel n) s h little body =
    (h.kind ≡ 8) × (order_for s h ≡ Equal) × (s.state ≡ Running) × (n ≡ cancel_number_in little body) × (n ≤ s.seen)
RowTells (DeclineCancel n) s h little body =
    (h.kind ≡ 8) × (order_for s h ≡ Equal) × (is_idle s.state ≡ false) × (is_running s.state ≡ false)
    × (n ≡ cancel_number_in little body)

-- The table says one of the refusals that may stand in a row's place: 13, 15 or 16, and 10 only of a type that is not taken.
abbrev pub Stops : Header → Verdict → Type 0
Stops h v =
    (says OldCall v ≡ true) ⊎ ((says NoRow v ≡ true) ⊎ ((says Repeated v ≡ true) ⊎ (is_for_server h.kind ≡ false)))

abbrev Tells : Server → Header → Bool → List ℕ → Verdict → Type 0
Tells s h little body (Refuse r) = Stops h (Refuse r)
Tells s h little body (Go row) = RowTells row s h little body

-- What stands in REPLYING and HELD alone is what it is, where it has a row.
replied_row : (order : Order) (state : State) (v : Verdict) (row : Row) → acknowledgement_cell order state v ≡ Go row
    → v ≡ Go row
unfolding acknowledgement_cell where_replied
replied_row Below state v row e = absurd (refusal_no_row OldCall row e)
replied_row Equal (IdleState idle) v row e = absurd (refusal_no_row NoRow row e)
replied_row Equal Collect v row e = absurd (refusal_no_row NoRow row e)
replied_row Equal Running v row e = absurd (refusal_no_row NoRow row e)
replied_row Equal Replying v row e = e
replied_row Equal (Held reply) v row e = e
replied_row Newer state v row e = absurd (refusal_no_row NoRow row e)

-- What the table says of a PDU tells it.
module _ (s : Server) (h : Header) (little : Bool) (body : List ℕ) where
  -- A replay,
  replay_tells : (reply : Reply) → IsCall h.kind → order_for s h ≡ Equal → s.state ≡ Held reply
      → RowTells (replay_row reply) s h little body
  unfolding replay_row
  replay_tells Data k o t = (k, o, t)
  replay_tells (Fault status) k o t = (k, o, t)

  -- a request: of a number equal to the record's, by its state,
  request_again_tells : (bit : Bool) → h.kind ≡ 0 → order_for s h ≡ Equal → s.state ≡ IdleState Repeatable
      → has_flag idempotent h.flags1 ≡ bit → Tells s h little body (request_again bit (request_put cleared h body))
  unfolding request_again choose says
  request_again_tells true k o t b = (k, inr (o, t, b), refl)
  request_again_tells false k o t b = inl refl

  request_equal_tells : (state : State) → h.kind ≡ 0 → order_for s h ≡ Equal → s.state ≡ state
      → Tells s h little body
      (request_equal state (has_flag idempotent h.flags1) (request_put cleared h body) (request_put s.incoming h body))
  unfolding request_equal request_idle says
  request_equal_tells (IdleState Fresh) k o t = inl refl
  request_equal_tells (IdleState Spent) k o t = inl refl
  request_equal_tells (IdleState Repeatable) k o t = request_again_tells (has_flag idempotent h.flags1) k o t refl
  request_equal_tells Collect k o t = (k, o, t, refl)
  request_equal_tells Running k o t = (inl k, o, t)
  request_equal_tells Replying k o t = inr (inr (inl refl))
  request_equal_tells (Held reply) k o t = replay_tells reply (inl k) o t

  -- newer,
  request_newer_tells : (state : State) → h.kind ≡ 0 → order_for s h ≡ Newer → s.state ≡ state
      → Tells s h little body (request_newer state (request_put cleared h body))
  unfolding request_newer says is_running
  request_newer_tells (IdleState idle) k o t = (k, inl (o, ap is_running t), refl)
  request_newer_tells Collect k o t = (k, inl (o, ap is_running t), refl)
  request_newer_tells Running k o t = inr (inl refl)
  request_newer_tells Replying k o t = (k, inl (o, ap is_running t), refl)
  request_newer_tells (Held reply) k o t = (k, inl (o, ap is_running t), refl)

  -- or any;
  request_tells : (order : Order) → h.kind ≡ 0 → order_for s h ≡ order
      → Tells s h little body
      (request_cell order s.state (has_flag idempotent h.flags1) (request_put cleared h body) (request_put s.incoming h body))
  unfolding request_cell says
  request_tells Below k o = inl refl
  request_tells Equal k o = request_equal_tells s.state k o refl
  request_tells Newer k o = request_newer_tells s.state k o refl

  -- a ping,
  ping_equal_tells : (state : State) → h.kind ≡ 1 → order_for s h ≡ Equal → s.state ≡ state
      → Tells s h little body (ping_equal state)
  unfolding ping_equal says is_idle
  ping_equal_tells (IdleState idle) k o t = (k, inr (o, inl (ap is_idle t)))
  ping_equal_tells Collect k o t = (k, inr (o, inr t))
  ping_equal_tells Running k o t = (inr k, o, t)
  ping_equal_tells Replying k o t = inr (inr (inl refl))
  ping_equal_tells (Held reply) k o t = replay_tells reply (inr k) o t

  ping_tells : (order : Order) → h.kind ≡ 1 → order_for s h ≡ order → Tells s h little body (ping_cell order s.state)
  unfolding ping_cell says
  ping_tells Below k o = inl refl
  ping_tells Equal k o = ping_equal_tells s.state k o refl
  ping_tells Newer k o = (k, inl o)

  -- what stands in REPLYING and HELD alone,
  replied_tells : (v : Verdict) (state : State) → s.state ≡ state → (Replied s.state → Tells s h little body v)
      → Tells s h little body (where_replied state v)
  unfolding where_replied says is_held
  replied_tells v (IdleState idle) t told = inr (inl refl)
  replied_tells v Collect t told = inr (inl refl)
  replied_tells v Running t told = inr (inl refl)
  replied_tells v Replying t told = told (inl t)
  replied_tells v (Held reply) t told = told (inr (ap is_held t))

  acknowledgement_tells : (v : Verdict) (order : Order) → order_for s h ≡ order
      → (order_for s h ≡ Equal → Replied s.state → Tells s h little body v)
      → Tells s h little body (acknowledgement_cell order s.state v)
  unfolding acknowledgement_cell says
  acknowledgement_tells v Below o told = inl refl
  acknowledgement_tells v Equal o told = replied_tells v s.state refl (told o)
  acknowledgement_tells v Newer o told = inr (inl refl)

  -- of these an ack
  ack_tells : (mark : Bool) → h.kind ≡ 7 → s.call.idempotent ≡ mark → order_for s h ≡ Equal → Replied s.state
      → Tells s h little body (ack_cell mark)
  unfolding ack_cell says choose
  ack_tells true k m o replied = inr (inl refl)
  ack_tells false k m o replied = (k, o, replied, m)

  -- and a fack,
  fack_tells : h.kind ≡ 9 → order_for s h ≡ Equal → Replied s.state
      → Tells s h little body (Go (Acknowledge (acknowledged_by h.fragment)))
  fack_tells k o replied = (k, o, replied, refl)

  -- and a cancel,
  running_cancel_tells : (above : Bool) → h.kind ≡ 8 → order_for s h ≡ Equal → s.state ≡ Running
      → ltb s.seen (cancel_number_in little body) ≡ above
      → RowTells (choose above (HearCancel (cancel_number_in little body)) (AcceptCancel (cancel_number_in little body))) s h little body
  unfolding choose
  running_cancel_tells true k o t seen = (k, o, t, refl, ltb-true s.seen (cancel_number_in little body) seen)
  running_cancel_tells false k o t seen = (k, o, t, refl, ltb-false s.seen (cancel_number_in little body) seen)

  cancel_equal_tells : (state : State) → h.kind ≡ 8 → order_for s h ≡ Equal → s.state ≡ state
      → Tells s h little body (cancel_equal state s.seen (cancel_number_in little body))
  unfolding cancel_equal running_cancel says is_idle is_running
  cancel_equal_tells (IdleState idle) k o t = inr (inl refl)
  cancel_equal_tells Collect k o t = (k, o, ap is_idle t, ap is_running t, refl)
  cancel_equal_tells Running k o t = running_cancel_tells (ltb s.seen (cancel_number_in little body)) k o t refl
  cancel_equal_tells Replying k o t = (k, o, ap is_idle t, ap is_running t, refl)
  cancel_equal_tells (Held reply) k o t = (k, o, ap is_idle t, ap is_running t, refl)

  cancel_tells : (order : Order) → h.kind ≡ 8 → order_for s h ≡ order
      → Tells s h little body (cancel_cell order s.state s.seen (cancel_number_in little body))
  unfolding cancel_cell says
  cancel_tells Below k o = inl refl
  cancel_tells Equal k o = cancel_equal_tells s.state k o refl
  cancel_tells Newer k o = inr (inl refl)

  -- and so of every type.
  arrival_tells : Tells s h little body (arrival_cell s h little body)
  unfolding arrival_cell is_for_server either
  arrival_tells =
      choice_by (Tells s h little body) (eqb h.kind 0) _ _ (λ e. request_tells (order_for s h) (eqb-true h.kind 0 e) refl) (λ other-0.
      choice_by (Tells s h little body) (eqb h.kind 1) _ _ (λ e. ping_tells (order_for s h) (eqb-true h.kind 1 e) refl) (λ other-1.
      choice_by (Tells s h little body) (eqb h.kind 7) _ _
      (λ e.
      acknowledgement_tells (ack_cell s.call.idempotent) (order_for s h) refl
      (ack_tells s.call.idempotent (eqb-true h.kind 7 e) refl))
      (λ other-7.
      choice_by (Tells s h little body) (eqb h.kind 8) _ _ (λ e. cancel_tells (order_for s h) (eqb-true h.kind 8 e) refl) (λ other-8.
      choice_by (Tells s h little body) (eqb h.kind 9) _ _
      (λ e.
      acknowledgement_tells (Go (Acknowledge (acknowledged_by h.fragment))) (order_for s h) refl
      (fack_tells (eqb-true h.kind 9 e)))
      (λ other-9.
      inr (inr (inr
      (choose_false _ _ _ other-0 ∙ choose_false _ _ _ other-1 ∙ choose_false _ _ _ other-7 ∙ choose_false _ _ _ other-8 ∙ other-9))))))))

  -- So a row tells of its PDU,
  pub row_tells : (row : Row) → arrival_cell s h little body ≡ Go row → RowTells row s h little body
  row_tells row is = subst (Tells s h little body) is arrival_tells

  -- and where the table has none, one of its refusals stands there.
  pub table_stops : (r : Refusal) → arrival_cell s h little body ≡ Refuse r → Stops h (Refuse r)
  table_stops r is = subst (Tells s h little body) is arrival_tells

  -- What the table says of a PDU, by its type: a request,
  pub request_arrives : h.kind ≡ 0
      → arrival_cell s h little body
      ≡ request_cell (order_for s h) s.state (has_flag idempotent h.flags1) (request_put cleared h body) (request_put s.incoming h body)
  unfolding arrival_cell choose
  request_arrives k = rw k

  -- a cancel
  pub cancel_arrives : h.kind ≡ 8
      → arrival_cell s h little body ≡ cancel_cell (order_for s h) s.state s.seen (cancel_number_in little body)
  unfolding arrival_cell choose
  cancel_arrives k = rw k

  -- and a fack.
  pub fack_arrives : h.kind ≡ 9
      → arrival_cell s h little body
      ≡ acknowledgement_cell (order_for s h) s.state (Go (Acknowledge (acknowledged_by h.fragment)))
  unfolding arrival_cell choose
  fack_arrives k = rw k

  -- A newer request begins but in RUNNING,
  pub newer_begins : h.kind ≡ 0 → order_for s h ≡ Newer → is_running s.state ≡ false
      → arrival_cell s h little body ≡ Go (Begin (request_put cleared h body))
  unfolding request_cell request_newer is_running
  newer_begins k newer idle =
      request_arrives k
      ∙ ap (λ (o : Order). request_cell o s.state (has_flag idempotent h.flags1) (request_put cleared h body) (request_put s.incoming h body)) newer
      ∙ by_state s.state idle
    where
      by_state : (state : State) → is_running state ≡ false
          → request_newer state (request_put cleared h body) ≡ Go (Begin (request_put cleared h body))
      by_state (IdleState idle) e = refl
      by_state Collect e = refl
      by_state Running e = absurd (true≢false e)
      by_state Replying e = refl
      by_state (Held reply) e = refl

  -- and one of an equal number with the bit set does in IDLE repeatable.
  pub again_begins : h.kind ≡ 0 → order_for s h ≡ Equal → s.state ≡ IdleState Repeatable
      → has_flag idempotent h.flags1 ≡ true
      → arrival_cell s h little body ≡ Go (Begin (request_put cleared h body))
  unfolding request_cell request_equal request_idle request_again choose
  again_begins k equal state bit =
      request_arrives k
      ∙ (λ i. request_cell (equal i) (state i) (bit i) (request_put cleared h body) (request_put s.incoming h body))

  -- A fack that has a row acknowledges.
  pub fack_row : (row : Row) → h.kind ≡ 9 → arrival_cell s h little body ≡ Go row
      → row ≡ Acknowledge (acknowledged_by h.fragment)
  fack_row row k is = sym (same_row _ row (replied_row (order_for s h) s.state _ row (sym (fack_arrives k) ∙ is)))
