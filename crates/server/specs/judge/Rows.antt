-- The server's table: which row an event has, by its number, the state and the marks. A cell of the table is that row, or
-- the refusal that stands there.
use Rattle.std.specs.Prelude.{ℕ, ◌+◌, Bool, true, false, List, ltb, eqb}
use Rattle.words.specs.Choice.{choose, either}
use Rattle.words.specs.Sizes.{retry_limit}
use Rattle.answers.specs.declared.Refusal.{Refusal}
use Rattle.answers.specs.declared.Refusal.TheVariants.{WrongSide, OldCall, NoRow, Repeated}
use Rattle.answers.specs.Number.{refusal_number}
use Rattle.bodies.specs.Cancel.{cancel_number_in}
use Rattle.facks.specs.Mask.{acknowledged_by}
use Rattle.flags.specs.Flags.{idempotent, has_flag}
use Rattle.fragments.specs.declared.Fragment.{Fragment}
use Rattle.fragments.specs.Fragment.{body_length}
use Rattle.fragments.specs.Put.{put_of}
use Rattle.incoming.specs.declared.Incoming.{Incoming}
use Rattle.incoming.specs.Slots.{cleared}
use Rattle.outgoing.specs.Sending.{sends_last}
use Rattle.pdu.specs.declared.Header.{Header}
use Rattle.server.specs.declared.records.Idle.{Idle}
use Rattle.server.specs.declared.records.Idle.TheVariants.{Fresh, Spent, Repeatable}
use Rattle.server.specs.declared.records.Reply.{Reply}
use Rattle.server.specs.declared.records.Reply.TheVariants.{Data, Fault}
use Rattle.server.specs.declared.records.State.{State}
use Rattle.server.specs.declared.records.State.TheVariants.{Idle as IdleState, Collect, Running, Replying, Held}
use Rattle.server.specs.declared.records.Server.{Server}
use Rattle.server.specs.declared.judge.Order.{Order}
use Rattle.server.specs.declared.judge.Order.TheVariants.{Below, Equal, Newer}
use Rattle.server.specs.declared.judge.Row.{Row}
use Rattle.server.specs.declared.judge.Row.TheVariants.{Reply as ReplyRow, TransmitMore, TransmitRepeatable, TransmitHeld, FaultRepeatable, FaultHeld, ResendData, ResendFault, Spend, Begin, Put, Working, Nocall, Rewind, RepeatFault, Acknowledge, HearCancel, AcceptCancel, DeclineCancel}
use Rattle.server.specs.judge.Verdict.{Verdict, Refuse, Go}
use Rattle.server.specs.records.States.{is_fresh}
use Rattle.server.specs.records.Repeatable.{runs_again}

-- The cell has a row.
unfoldable pub is_row : Verdict → Bool
is_row (Refuse r) = false
is_row (Go row) = true

-- The cell has that refusal.
unfoldable pub says : Refusal → Verdict → Bool
says r (Refuse q) = eqb (refusal_number q) (refusal_number r)
says r (Go row) = false

-- A number that is not newer is equal or below.
unfoldable pub order_by : Bool → ℕ → ℕ → Order
order_by newer mine theirs = choose newer Newer (choose (eqb mine theirs) Equal Below)

-- Newer means greater as a plain number; to a fresh server every number is newer.
unfoldable pub order_of : Bool → ℕ → ℕ → Order
order_of fresh mine theirs = order_by (either fresh (ltb mine theirs)) mine theirs

-- The order of an arriving PDU's number.
unfoldable pub order_for : Server → Header → Order
order_for s h = order_of (is_fresh s.state) s.number h.number

-- Replay: a fault is sent again; data goes to REPLYING.
unfoldable pub replay_row : Reply → Row
replay_row Data = Rewind
replay_row (Fault status) = RepeatFault status

-- Request, newer number or fresh, not in RUNNING: begin. In RUNNING: 15.
unfoldable pub request_newer : State → Fragment → Verdict
request_newer (IdleState idle) begin = Go (Begin begin)
request_newer Collect begin = Go (Begin begin)
request_newer Running begin = Refuse NoRow
request_newer Replying begin = Go (Begin begin)
request_newer (Held reply) begin = Go (Begin begin)

-- A repeatable call begins again where its request has the bit set.
unfoldable pub request_again : Bool → Fragment → Verdict
request_again bit begin = choose bit (Go (Begin begin)) (Refuse OldCall)

-- Request, equal number, in IDLE: repeatable with the bit set begins; otherwise spent, 13. To a fresh server no number is
-- equal, so its cell is never asked, here and below.
unfoldable pub request_idle : Idle → Bool → Fragment → Verdict
request_idle Fresh bit begin = Refuse OldCall
request_idle Spent bit begin = Refuse OldCall
request_idle Repeatable bit begin = request_again bit begin

-- Request, equal number: COLLECT puts; RUNNING sends working; REPLYING 16; HELD replays.
unfoldable pub request_equal : State → Bool → Fragment → Fragment → Verdict
request_equal (IdleState idle) bit begin put = request_idle idle bit begin
request_equal Collect bit begin put = Go (Put put)
request_equal Running bit begin put = Go Working
request_equal Replying bit begin put = Refuse Repeated
request_equal (Held reply) bit begin put = Go (replay_row reply)

-- Request, by its number: below the server's, 13. Begin is the fragment put into empty slots, put the one put into the call's.
unfoldable pub request_cell : Order → State → Bool → Fragment → Fragment → Verdict
request_cell Below state bit begin put = Refuse OldCall
request_cell Equal state bit begin put = request_equal state bit begin put
request_cell Newer state bit begin put = request_newer state begin

-- Ping, equal: COLLECT and IDLE send nocall; RUNNING working; REPLYING 16; HELD replays.
unfoldable pub ping_equal : State → Verdict
ping_equal (IdleState idle) = Go Nocall
ping_equal Collect = Go Nocall
ping_equal Running = Go Working
ping_equal Replying = Refuse Repeated
ping_equal (Held reply) = Go (replay_row reply)

-- Ping: newer or fresh, in any state, sends nocall.
unfoldable pub ping_cell : Order → State → Verdict
ping_cell Below state = Refuse OldCall
ping_cell Equal state = ping_equal state
ping_cell Newer state = Go Nocall

-- What stands in REPLYING and HELD alone; elsewhere 15.
unfoldable pub where_replied : State → Verdict → Verdict
where_replied (IdleState idle) cell = Refuse NoRow
where_replied Collect cell = Refuse NoRow
where_replied Running cell = Refuse NoRow
where_replied Replying cell = cell
where_replied (Held reply) cell = cell

-- A fack or ack of another number not below the server's: 15.
unfoldable pub acknowledgement_cell : Order → State → Verdict → Verdict
acknowledgement_cell Below state cell = Refuse OldCall
acknowledgement_cell Equal state cell = where_replied state cell
acknowledgement_cell Newer state cell = Refuse NoRow

-- Ack, equal, there, of a call that is not idempotent: to IDLE spent.
unfoldable pub ack_cell : Bool → Verdict
ack_cell idempotent = choose idempotent (Refuse NoRow) (Go Spend)

-- A cancel in RUNNING: a number above the last seen is heard.
unfoldable pub running_cancel : ℕ → ℕ → Row
running_cancel seen n = choose (ltb seen n) (HearCancel n) (AcceptCancel n)

-- Cancel, equal: RUNNING accepts it; COLLECT, REPLYING and HELD answer too, and decline it. IDLE: 15.
unfoldable pub cancel_equal : State → ℕ → ℕ → Verdict
cancel_equal (IdleState idle) seen n = Refuse NoRow
cancel_equal Collect seen n = Go (DeclineCancel n)
cancel_equal Running seen n = Go (running_cancel seen n)
cancel_equal Replying seen n = Go (DeclineCancel n)
cancel_equal (Held reply) seen n = Go (DeclineCancel n)

-- Cancel: of a call below the server's 13; newer or fresh, in any state, 15.
unfoldable pub cancel_cell : Order → State → ℕ → ℕ → Verdict
cancel_cell Below state seen n = Refuse OldCall
cancel_cell Equal state seen n = cancel_equal state seen n
cancel_cell Newer state seen n = Refuse NoRow

-- A request's fragment, put into these slots.
unfoldable pub request_put : Incoming → Header → List ℕ → Fragment
request_put m h body = put_of m h.flags1 h.serial h.fragment (body_length body)

-- The server takes types 0, 1, 7, 8 and 9.
unfoldable pub is_for_server : ℕ → Bool
is_for_server kind = either (eqb kind 0) (either (eqb kind 1) (either (eqb kind 7) (either (eqb kind 8) (eqb kind 9))))

-- What arrives, by its type: request 0, ping 1, ack 7, cancel 8, fack 9.
unfoldable pub arrival_cell : Server → Header → Bool → List ℕ → Verdict
arrival_cell s h little body =
    choose (eqb h.kind 0)
    (request_cell (order_for s h) s.state (has_flag idempotent h.flags1) (request_put cleared h body) (request_put s.incoming h body))
    (choose (eqb h.kind 1) (ping_cell (order_for s h) s.state)
    (choose (eqb h.kind 7) (acknowledgement_cell (order_for s h) s.state (ack_cell s.call.idempotent))
    (choose (eqb h.kind 8) (cancel_cell (order_for s h) s.state s.seen (cancel_number_in little body))
    (choose (eqb h.kind 9) (acknowledgement_cell (order_for s h) s.state (Go (Acknowledge (acknowledged_by h.fragment))))
    (Refuse WrongSide)))))

-- Transmit: the next fragment; with the last, an idempotent call whose reply is one fragment is repeatable, any other held.
unfoldable pub transmit_row : Server → Row
transmit_row s =
    choose (sends_last s.outgoing) (choose (runs_again s.call.idempotent s.outgoing) TransmitRepeatable TransmitHeld) TransmitMore

-- Fault: of an idempotent call, repeatable; else held.
unfoldable pub fault_row : Server → ℕ → Row
fault_row s status = choose s.call.idempotent (FaultRepeatable status) (FaultHeld status)

-- RESEND below its limit, its count + 1 told: replay.
unfoldable pub resend_held : Reply → ℕ → Row
resend_held Data resends = ResendData resends
resend_held (Fault status) resends = ResendFault status resends

-- RESEND: if the count is 5, to IDLE spent; else replay.
unfoldable pub resend_row : Reply → ℕ → Row
resend_row reply resends = choose (ltb resends retry_limit) (resend_held reply (resends + 1)) Spend

-- Only HELD has the timer's row.
unfoldable pub timer_cell : State → ℕ → Verdict
timer_cell (IdleState idle) resends = Refuse NoRow
timer_cell Collect resends = Refuse NoRow
timer_cell Running resends = Refuse NoRow
timer_cell Replying resends = Refuse NoRow
timer_cell (Held reply) resends = Go (resend_row reply resends)

-- Rows that arm RESEND: a reply or fault that is held, and a fault that is sent again by the timer.
unfoldable pub arms : Row → Bool
arms (ReplyRow n) = false
arms TransmitMore = false
arms TransmitRepeatable = false
arms TransmitHeld = true
arms (FaultRepeatable status) = false
arms (FaultHeld status) = true
arms (ResendData resends) = false
arms (ResendFault status resends) = true
arms Spend = false
arms (Begin p) = false
arms (Put p) = false
arms Working = false
arms Nocall = false
arms Rewind = false
arms (RepeatFault status) = false
arms (Acknowledge count) = false
arms (HearCancel n) = false
arms (AcceptCancel n) = false
arms (DeclineCancel n) = false

-- The same of a cell: where it has no row, nothing is armed.
unfoldable pub arms_timer : Verdict → Bool
arms_timer (Refuse r) = false
arms_timer (Go row) = arms row
