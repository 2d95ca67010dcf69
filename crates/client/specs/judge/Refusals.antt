-- Document 01's refusals of each event, line by line, and the verdict: the first that holds, or the row.
use Rattle.std.specs.Prelude.{ℕ, Bool, not, List, [], ◌∷◌, ◌++◌, ◌==◌, nat_lt}
use Rattle.words.specs.Choice.{choose, both, either}
use Rattle.words.specs.Same.{same}
use Rattle.words.specs.Sizes.{pdu_size, message_size}
use Rattle.answers.specs.declared.Refusal.TheVariants.{WrongLength, BrokenRecord, OtherActivity, WrongSide, WrongFragment, OldCall, MalformedBody, NoRow, Repeated, Contradiction, LateTimer, NumbersUsedUp, TicketsUsedUp}
use Rattle.answers.specs.Table.{Line, ◌when◌, first_of}
use Rattle.bodies.specs.Fack.{fack_malformed}
use Rattle.bodies.specs.Status.{status_malformed}
use Rattle.bodies.specs.Cancel.{cancel_ack_malformed}
use Rattle.facks.specs.Mask.{acknowledges_more}
use Rattle.fragments.specs.Fragment.{lent_right, is_last, wrong_fragment}
use Rattle.fragments.specs.Judgement.{held, contradicts}
use Rattle.outgoing.specs.Lent.{transmit_lent}
use Rattle.pdu.specs.declared.Header.{Header}
use Rattle.pdu.specs.Header.{body_of}
use Rattle.reader.specs.Reading.{read_refusals, reading}
use Rattle.timers.specs.Tickets.{used_up, armed_with}
use Rattle.client.specs.declared.records.State.{State}
use Rattle.client.specs.declared.records.Client.{Client}
use Rattle.client.specs.declared.records.TimerKind.{TimerKind}
use Rattle.client.specs.judge.Verdict.{Verdict, Refuse, Go, StartVerdict, Refuse as RefuseStart, Go as GoStart}
use Rattle.client.specs.records.States.{may_start, is_queued, is_sending, is_active}
use Rattle.client.specs.records.Rules.{sound}
use Rattle.client.specs.records.Named.{named_timer, named_by}
use Rattle.client.specs.judge.Rows.{is_row, next_number, transmit_row, timer_row, cancel_row, is_for_client, arrival_cell, arms, arms_timer}

-- The last call number, and the last cancel number.
abbrev pub last_call_number : ℕ
last_call_number = 4294967295

abbrev pub last_cancel_number : ℕ
last_cancel_number = 4294967295

-- Start, with a message of n bytes: in QUEUED, ACK_PENDING, COMPLETE and FAULT.
unfoldable pub start_refusals : Client → ℕ → List Line
start_refusals c n =
    WrongLength when nat_lt message_size n
    ∷ BrokenRecord when not (sound c)
    ∷ NoRow when not (may_start c.state)
    ∷ NumbersUsedUp when both (not (is_queued c.state)) (c.number == last_call_number)
    ∷ []

-- A start that is taken has the call's number.
unfoldable pub start_verdict : Client → ℕ → StartVerdict
start_verdict c n = first_of RefuseStart (start_refusals c n) (GoStart (next_number (is_queued c.state) c.number))

-- Transmit, by the lengths of what is lent: in SEND_FRAGS.
unfoldable pub transmit_refusals : Client → ℕ → ℕ → List Line
transmit_refusals c message out =
    WrongLength when not (transmit_lent (is_sending c.state) message c.outgoing.length out)
    ∷ BrokenRecord when not (sound c)
    ∷ NoRow when not (is_sending c.state)
    ∷ TicketsUsedUp when both (arms c (transmit_row c)) (used_up c.tickets)
    ∷ []

unfoldable pub transmit_verdict : Client → ℕ → ℕ → Verdict
transmit_verdict c message out = first_of Refuse (transmit_refusals c message out) (Go (transmit_row c))

-- A timer event: in the states that name the timer.
unfoldable pub timer_refusals : Client → TimerKind → ℕ → ℕ → List Line
timer_refusals c kind ticket out =
    WrongLength when not (out == pdu_size)
    ∷ BrokenRecord when not (sound c)
    ∷ NoRow when not (named_by kind c.state)
    ∷ LateTimer when not (armed_with (named_timer kind c.wait c.ack c.cancel) ticket)
    ∷ TicketsUsedUp when both (arms c (timer_row kind c)) (used_up c.tickets)
    ∷ []

unfoldable pub timer_verdict : Client → TimerKind → ℕ → ℕ → Verdict
timer_verdict c kind ticket out = first_of Refuse (timer_refusals c kind ticket out) (Go (timer_row kind c))

-- A local cancel has a row in the three active states, and not behind the last cancel number.
unfoldable pub may_cancel : State → ℕ → Bool
may_cancel state cancels = both (is_active state) (not (cancels == last_cancel_number))

unfoldable pub cancel_refusals : Client → ℕ → List Line
cancel_refusals c out =
    WrongLength when not (out == pdu_size)
    ∷ BrokenRecord when not (sound c)
    ∷ NoRow when not (may_cancel c.state c.cancels)
    ∷ TicketsUsedUp when both (arms c (cancel_row c)) (used_up c.tickets)
    ∷ []

unfoldable pub cancel_verdict : Client → ℕ → Verdict
cancel_verdict c out = first_of Refuse (cancel_refusals c out) (Go (cancel_row c))

-- Type 2, the response, which is a fragment.
unfoldable pub is_response : ℕ → Bool
is_response kind = kind == 2

-- The number is not the client's; in QUEUED it has none.
unfoldable pub is_old : State → ℕ → ℕ → Bool
is_old state mine theirs = either (is_queued state) (not (mine == theirs))

-- A malformed body of a fault 3, reject 6, fack 9 or cancel_ack 10.
unfoldable pub is_malformed : ℕ → Bool → List ℕ → Bool
is_malformed kind little body =
    choose (either (kind == 3) (kind == 6)) (status_malformed body)
    (choose (kind == 9) (fack_malformed little body)
    (both (kind == 10) (cancel_ack_malformed little body)))

-- A response that contradicts what is held, or a fack 9 of more fragments than the request has.
unfoldable pub is_contradiction : Client → Header → Bool
is_contradiction c h =
    choose (is_response h.kind) (contradicts c.incoming h.fragment (is_last h.flags1))
    (both (h.kind == 9) (acknowledges_more c.outgoing.count h.fragment))

-- 10 to 20, of a header and a body that were read, with their cell of the table. 11, 18 and 19 are not of an arriving
-- PDU here.
unfoldable pub pdu_refusals : Client → Header → Bool → List ℕ → Verdict → List Line
pdu_refusals c h little body cell =
    WrongSide when not (is_for_client h.kind)
    ∷ WrongFragment when both (is_response h.kind) (wrong_fragment h.flags1 h.fragment)
    ∷ OldCall when is_old c.state c.number h.number
    ∷ MalformedBody when is_malformed h.kind little body
    ∷ NoRow when not (is_row cell)
    ∷ Repeated when both (is_response h.kind) (held c.incoming h.fragment)
    ∷ Contradiction when is_contradiction c h
    ∷ TicketsUsedUp when both (arms_timer c cell) (used_up c.tickets)
    ∷ []

unfoldable pub pdu_verdict : Client → Header → Bool → List ℕ → Verdict
pdu_verdict c h little body = first_of Refuse (pdu_refusals c h little body (arrival_cell c h little body)) (arrival_cell c h little body)

-- The same with 9 in front.
abbrev pub activity_refusals : Client → Header → Bool → List ℕ → List Line
activity_refusals c h little body =
    OtherActivity when not (same c.activity h.activity)
    ∷ pdu_refusals c h little body (arrival_cell c h little body)

unfoldable pub activity_verdict : Client → Header → Bool → List ℕ → Verdict
activity_verdict c h little body = first_of Refuse (activity_refusals c h little body) (arrival_cell c h little body)

-- An arriving datagram, by the lengths of what is lent: 1, 2, those of the reader, 9, those of the PDU.
unfoldable pub arrival_refusals : Client → ℕ → ℕ → List ℕ → List Line
arrival_refusals c slots out d =
    WrongLength when not (lent_right slots out)
    ∷ BrokenRecord when not (sound c)
    ∷ read_refusals d
    ++ activity_refusals c (reading d).header (reading d).little (body_of d)

unfoldable pub arrival_verdict : Client → ℕ → ℕ → List ℕ → Verdict
arrival_verdict c slots out d =
    first_of Refuse (arrival_refusals c slots out d) (arrival_cell c (reading d).header (reading d).little (body_of d))
