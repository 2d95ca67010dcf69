-- The client's table: which row an event has, by the state. A cell of the table is that row, or the refusal that stands
-- there.
use Rattle.std.specs.Prelude.{ℕ, ◌+◌, ◌%◌, Bool, true, false, not, List, ◌==◌, nat_lt}
use Rattle.words.specs.Choice.{choose, both, either}
use Rattle.words.specs.Sizes.{retry_limit}
use Rattle.answers.specs.declared.Refusal.TheVariants.{WrongSide, NoRow}
use Rattle.bodies.specs.Status.{status_in}
use Rattle.bodies.specs.Cancel.{cancel_number_in}
use Rattle.facks.specs.Mask.{acknowledged_by}
use Rattle.fragments.specs.Fragment.{body_length}
use Rattle.fragments.specs.Put.{put_of}
use Rattle.outgoing.specs.Sending.{sends_last}
use Rattle.pdu.specs.declared.Header.{Header}
use Rattle.timers.specs.Timer.{Timer}
use Rattle.timers.specs.Tickets.{off}
use Rattle.client.specs.declared.records.Client.{Client}
use Rattle.client.specs.declared.records.TimerKind.{TimerKind}
use Rattle.client.specs.declared.records.TimerKind.TheVariants.{Wait, Ack, Cancel as CancelKind}
use Rattle.client.specs.declared.judge.Row.{Row}
use Rattle.client.specs.declared.judge.Row.TheVariants.{Transmit, Ping, SendAck, Cancel, Response, Fault, Reject, Working, Resend, GiveUp, Fack, CancelAck}
use Rattle.client.specs.judge.Verdict.{Verdict, Refuse, Go}
use Rattle.client.specs.records.States.{is_active, is_dispatched}

-- A cell has its row in the states that have it, elsewhere none: 15.
unfoldable pub cell_in : Bool → Row → Verdict
cell_in has row = choose has (Go row) (Refuse NoRow)

-- The cell has a row.
unfoldable pub is_row : Verdict → Bool
is_row (Refuse r) = false
is_row (Go row) = true

-- One more, as 32 bits keep it.
abbrev pub one_more : ℕ → ℕ
one_more n = (n + 1) % 4294967296

-- The number of a call that starts: 0 in a fresh client, else one more.
unfoldable pub next_number : Bool → ℕ → ℕ
next_number queued number = choose queued 0 (one_more number)

-- Transmit sends the next fragment, and tells whether it is the last.
unfoldable pub transmit_row : Client → Row
transmit_row c = Transmit (sends_last c.outgoing)

-- WAIT: if the count is 5, local cause 1; else ping, count + 1.
unfoldable pub wait_row : ℕ → Row
wait_row waits = choose (nat_lt waits retry_limit) (Ping (waits + 1)) (GiveUp 1)

-- ACK: send ack. CANCEL: local cause 3.
unfoldable pub timer_row : TimerKind → Client → Row
timer_row Wait c = wait_row c.waits
timer_row Ack c = SendAck
timer_row CancelKind c = GiveUp 3

-- Local cancel: the cancel number + 1.
unfoldable pub cancel_row : Client → Row
cancel_row c = Cancel (one_more c.cancels)

-- Nocall: if resends are 5, local cause 2; else the request goes out again, resends + 1.
unfoldable pub nocall_row : ℕ → Row
nocall_row resends = choose (nat_lt resends retry_limit) (Resend (resends + 1)) (GiveUp 2)

-- A cancel_ack is the current one where CANCEL is armed and it has the record's cancel number.
unfoldable pub is_current : Timer → ℕ → ℕ → Bool
is_current cancel mine theirs = both (not (off cancel)) (mine == theirs)

-- The client takes types 2 to 6, 9 and 10.
unfoldable pub is_for_client : ℕ → Bool
is_for_client kind =
    either (kind == 2) (either (kind == 3) (either (kind == 4) (either (kind == 5)
    (either (kind == 6) (either (kind == 9) (kind == 10))))))

-- What arrives, by its type. Response 2, fault 3, reject 6 and fack 9 have a row in the three active states, working 4 and
-- nocall 5 in DISPATCHED, a cancel_ack 10 where it is the current one.
unfoldable pub arrival_cell : Client → Header → Bool → List ℕ → Verdict
arrival_cell c h little body =
    choose (h.kind == 2)
    (cell_in (is_active c.state) (Response (put_of c.incoming h.flags1 h.serial h.fragment (body_length body))))
    (choose (h.kind == 3) (cell_in (is_active c.state) (Fault (status_in little body)))
    (choose (h.kind == 4) (cell_in (is_dispatched c.state) Working)
    (choose (h.kind == 5) (cell_in (is_dispatched c.state) (nocall_row c.resends))
    (choose (h.kind == 6) (cell_in (is_active c.state) (Reject (status_in little body)))
    (choose (h.kind == 9) (cell_in (is_active c.state) (Fack (acknowledged_by h.fragment)))
    (choose (h.kind == 10) (cell_in (is_current c.cancel c.cancels (cancel_number_in little body)) CancelAck)
    (Refuse WrongSide)))))))

-- Rows that arm a timer: the last fragment sent, a ping, a cancel where CANCEL is off, a response unless it completes an
-- idempotent call, and working.
unfoldable pub arms : Client → Row → Bool
arms c (Transmit last) = last
arms c (Ping waits) = true
arms c SendAck = false
arms c (Cancel number) = off c.cancel
arms c (Response p) = not (both p.complete c.call.idempotent)
arms c (Fault status) = false
arms c (Reject status) = false
arms c Working = true
arms c (Resend resends) = false
arms c (GiveUp cause) = false
arms c (Fack count) = false
arms c CancelAck = false

-- The same of a cell: where it has no row, nothing is armed.
unfoldable pub arms_timer : Client → Verdict → Bool
arms_timer c (Refuse r) = false
arms_timer c (Go row) = arms c row
