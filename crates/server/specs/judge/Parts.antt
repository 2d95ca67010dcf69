-- Parts of the judgement, as the code is cut.
use Rattle.std.specs.Prelude.{ℕ, Bool, Result, false, not, List, [], ◌∷◌}
use Rattle.words.specs.Choice.{choose, both, either}
use Rattle.answers.specs.Answer.{Answer}
use Rattle.answers.specs.declared.Refusal.{Refusal}
use Rattle.answers.specs.declared.Refusal.TheVariants.{MaybeOrBroadcast, WrongFragment, OldCall, MalformedBody, NoRow, Repeated, Contradiction, TicketsUsedUp}
use Rattle.answers.specs.Table.{◌when◌, first_of, answer_of, behind_answer}
use Rattle.bodies.specs.Cancel.{cancel_malformed, cancel_number_in}
use Rattle.bodies.specs.Fack.{fack_malformed}
use Rattle.facks.specs.Mask.{acknowledged_by, acknowledges_more}
use Rattle.flags.specs.Flags.{idempotent, has_flag}
use Rattle.fragments.specs.Fragment.{is_last, wrong_fragment}
use Rattle.fragments.specs.Judgement.{held, contradicts}
use Rattle.incoming.specs.Slots.{cleared}
use Rattle.pdu.specs.declared.Header.{Header}
use Rattle.reader.specs.Reading.{Reading}
use Rattle.server.specs.declared.records.State.{State}
use Rattle.server.specs.declared.records.Server.{Server}
use Rattle.server.specs.declared.judge.Order.{Order}
use Rattle.server.specs.declared.judge.Row.{Row}
use Rattle.server.specs.declared.judge.Row.TheVariants.{Acknowledge}
use Rattle.server.specs.judge.Verdict.{Verdict, Refuse, Go}
use Rattle.server.specs.judge.Rows.{says, order_for, request_cell, ping_cell, acknowledgement_cell, ack_cell, cancel_cell, request_put, arms}
use Rattle.server.specs.judge.Refusals.{is_maybe_or_broadcast, puts, slots_for, same_call, is_other_call, activity_verdict, entry_refusals}

-- A row that arms RESEND asks for a ticket: 20 where they are used up.
abbrev pub ticketed : Row → Bool → Verdict
ticketed row up = choose (both (arms row) up) (Refuse TicketsUsedUp) (Go row)

-- What is left of the table for a PDU whose cell is known, and behind 10, 11 and 12: with a malformed body, with a
-- fragment already held, and where it contradicts what is known.
unfoldable pub row_left : Bool → Bool → Bool → Verdict → Verdict
row_left malformed again clash cell =
    first_of Refuse (
    OldCall when says OldCall cell
    ∷ MalformedBody when malformed
    ∷ NoRow when says NoRow cell
    ∷ Repeated when either (says Repeated cell) again
    ∷ Contradiction when clash
    ∷ []
    ) cell

-- A request behind 11 and 12, with a number of that order, in that state.
unfoldable pub request_left : Server → Header → List ℕ → Order → State → Verdict
request_left s h body order state =
    row_left false (both (puts order state) (held (slots_for order state s.incoming) h.fragment))
    (either (contradicts (slots_for order state s.incoming) h.fragment (is_last h.flags1))
    (is_other_call order s.call h))
    (request_cell order state (has_flag idempotent h.flags1) (request_put cleared h body) (request_put s.incoming h body))

-- A request: 11, 12, and by its number and the state 13, 15, 16, 17.
unfoldable pub request_verdict : Server → Header → List ℕ → Verdict
request_verdict s h body =
    choose (is_maybe_or_broadcast h.flags1) (Refuse MaybeOrBroadcast)
    (choose (wrong_fragment h.flags1 h.fragment) (Refuse WrongFragment)
    (request_left s h body (order_for s h) s.state))

-- A ping, and an ack: 13, 15, 16. A number has no other refusal.
unfoldable pub ping_verdict : Server → Header → Verdict
ping_verdict s h = ping_cell (order_for s h) s.state

unfoldable pub ack_verdict : Server → Header → Verdict
ack_verdict s h = acknowledgement_cell (order_for s h) s.state (ack_cell s.call.idempotent)

-- A cancel: 13, 14, 15.
unfoldable pub cancel_verdict : Server → Header → Bool → List ℕ → Verdict
cancel_verdict s h little body =
    row_left (cancel_malformed little body) false false
    (cancel_cell (order_for s h) s.state s.seen (cancel_number_in little body))

-- A fack: 13, 14, 15, 17.
unfoldable pub fack_verdict : Server → Header → Bool → List ℕ → Verdict
fack_verdict s h little body =
    row_left (fack_malformed little body) false (acknowledges_more s.outgoing.count h.fragment)
    (acknowledgement_cell (order_for s h) s.state (Go (Acknowledge (acknowledged_by h.fragment))))

-- A request with an equal number contradicts what is held of the call, or is not of it.
abbrev pub contradicts_call : Server → Header → Bool
contradicts_call s h = either (contradicts s.incoming h.fragment (is_last h.flags1)) (not (same_call s.call h))

-- 1 and 2 of a datagram, by the lengths of what is lent; Done where neither holds.
abbrev pub entry_answer : Server → ℕ → ℕ → Answer
entry_answer s slots out = answer_of (entry_refusals s slots out)

-- A datagram behind its entry, by what reading it gave: those of the reader, 9, those of the PDU.
abbrev pub read_verdict : Server → Reading → List ℕ → Verdict
read_verdict s read body = behind_answer Refuse (activity_verdict s read.header read.little body) read.answer

-- A verdict with the header of the PDU that arrived, which what is sent for it echoes.
abbrev pub with_header : Header → Verdict → Result (Row × Header) Refusal
with_header h (Go row) = Go (row, h)
with_header h (Refuse r) = Refuse r
