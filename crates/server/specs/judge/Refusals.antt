-- Document 01's refusals of each event, line by line, and the verdict: the first that holds, or the row.
use Rattle.std.specs.Prelude.{ℕ, Bool, true, false, not, List, [], ◌∷◌, ◌++◌, ltb, eqb}
use Rattle.words.specs.Choice.{choose, both, either}
use Rattle.words.specs.Same.{same}
use Rattle.words.specs.Sizes.{pdu_size, message_size}
use Rattle.answers.specs.declared.Refusal.TheVariants.{WrongLength, BrokenRecord, OtherActivity, WrongSide, MaybeOrBroadcast, WrongFragment, OldCall, MalformedBody, NoRow, Repeated, Contradiction, LateTimer, TicketsUsedUp}
use Rattle.answers.specs.Table.{Line, ◌when◌, first_of}
use Rattle.bodies.specs.Fack.{fack_malformed}
use Rattle.bodies.specs.Cancel.{cancel_malformed}
use Rattle.calls.specs.declared.Call.{Call}
use Rattle.facks.specs.Mask.{acknowledges_more}
use Rattle.flags.specs.Flags.{maybe, idempotent, broadcast, has_flag}
use Rattle.fragments.specs.Fragment.{lent_right, is_last, wrong_fragment}
use Rattle.fragments.specs.Judgement.{held, contradicts}
use Rattle.incoming.specs.declared.Incoming.{Incoming}
use Rattle.incoming.specs.Slots.{cleared}
use Rattle.outgoing.specs.Lent.{transmit_lent}
use Rattle.pdu.specs.declared.Header.{Header}
use Rattle.pdu.specs.Header.{body_of}
use Rattle.reader.specs.Reading.{read_refusals, reading}
use Rattle.timers.specs.Tickets.{used_up, armed_with}
use Rattle.server.specs.declared.records.State.{State}
use Rattle.server.specs.declared.records.State.TheVariants.{Idle as IdleState, Collect, Running, Replying, Held}
use Rattle.server.specs.declared.records.Server.{Server}
use Rattle.server.specs.declared.judge.Order.{Order}
use Rattle.server.specs.declared.judge.Order.TheVariants.{Below, Equal, Newer}
use Rattle.server.specs.declared.judge.Row.TheVariants.{Reply}
use Rattle.server.specs.judge.Verdict.{Verdict, Refuse, Go}
use Rattle.server.specs.records.States.{is_running, is_replying}
use Rattle.server.specs.records.Rules.{sound}
use Rattle.server.specs.judge.Rows.{is_row, says, order_for, is_for_server, arrival_cell, transmit_row, fault_row, timer_cell, arms, arms_timer}

-- Reply, with a message of n bytes: in RUNNING.
unfoldable pub reply_refusals : Server → ℕ → List Line
reply_refusals s n =
    WrongLength when ltb message_size n
    ∷ BrokenRecord when not (sound s)
    ∷ NoRow when not (is_running s.state)
    ∷ []

unfoldable pub reply_verdict : Server → ℕ → Verdict
reply_verdict s n = first_of Refuse (reply_refusals s n) (Go (Reply n))

-- Transmit, by the lengths of what is lent: in REPLYING.
unfoldable pub transmit_refusals : Server → ℕ → ℕ → List Line
transmit_refusals s message out =
    WrongLength when not (transmit_lent (is_replying s.state) message s.outgoing.length out)
    ∷ BrokenRecord when not (sound s)
    ∷ NoRow when not (is_replying s.state)
    ∷ TicketsUsedUp when both (arms (transmit_row s)) (used_up s.tickets)
    ∷ []

unfoldable pub transmit_verdict : Server → ℕ → ℕ → Verdict
transmit_verdict s message out = first_of Refuse (transmit_refusals s message out) (Go (transmit_row s))

-- Fault: in RUNNING.
unfoldable pub fault_refusals : Server → ℕ → ℕ → List Line
fault_refusals s status out =
    WrongLength when not (eqb out pdu_size)
    ∷ BrokenRecord when not (sound s)
    ∷ NoRow when not (is_running s.state)
    ∷ TicketsUsedUp when both (arms (fault_row s status)) (used_up s.tickets)
    ∷ []

unfoldable pub fault_verdict : Server → ℕ → ℕ → Verdict
fault_verdict s status out = first_of Refuse (fault_refusals s status out) (Go (fault_row s status))

-- The RESEND timer, with its cell of the table.
unfoldable pub timer_refusals : Server → ℕ → ℕ → Verdict → List Line
timer_refusals s ticket out cell =
    WrongLength when not (eqb out pdu_size)
    ∷ BrokenRecord when not (sound s)
    ∷ NoRow when not (is_row cell)
    ∷ LateTimer when not (armed_with s.resend ticket)
    ∷ TicketsUsedUp when both (arms_timer cell) (used_up s.tickets)
    ∷ []

unfoldable pub timer_verdict : Server → ℕ → ℕ → Verdict
timer_verdict s ticket out =
    first_of Refuse (timer_refusals s ticket out (timer_cell s.state s.resends)) (timer_cell s.state s.resends)

-- Type 0, the request, which is a fragment.
unfoldable pub is_request : ℕ → Bool
is_request kind = eqb kind 0

-- Maybe or broadcast.
unfoldable pub is_maybe_or_broadcast : ℕ → Bool
is_maybe_or_broadcast flags1 = either (has_flag maybe flags1) (has_flag broadcast flags1)

-- A malformed body of a cancel 8 or fack 9.
unfoldable pub is_malformed : ℕ → Bool → List ℕ → Bool
is_malformed kind little body =
    choose (eqb kind 8) (cancel_malformed little body) (both (eqb kind 9) (fack_malformed little body))

-- A request's fragment is put: a begin, and COLLECT. Where no call may begin, 13 or 15 stands before 16.
unfoldable pub puts : Order → State → Bool
puts Below state = false
puts Equal (IdleState idle) = true
puts Equal Collect = true
puts Equal Running = false
puts Equal Replying = false
puts Equal (Held reply) = false
puts Newer state = true

-- The slots that a request's fragment is judged against: those of the call; a begin's are empty.
unfoldable pub slots_for : Order → State → Incoming → Incoming
slots_for Below state m = m
slots_for Equal (IdleState idle) m = cleared
slots_for Equal Collect m = m
slots_for Equal Running m = m
slots_for Equal Replying m = m
slots_for Equal (Held reply) m = m
slots_for Newer state m = cleared

-- A request puts a fragment already held.
unfoldable pub is_held_already : Server → Header → Bool
is_held_already s h =
    both (puts (order_for s h) s.state) (held (slots_for (order_for s h) s.state s.incoming) h.fragment)

-- Two tests are the same.
unfoldable pub agree : Bool → Bool → Bool
agree a b = choose a b (not b)

-- The idempotent bit, object, interface, version and operation of a request are the call's.
unfoldable pub same_call : Call → Header → Bool
same_call call h =
    both (agree call.idempotent (has_flag idempotent h.flags1))
    (both (same call.object h.object)
    (both (same call.interface h.interface)
    (both (eqb call.version h.version)
    (eqb call.operation h.operation))))

-- A request with an equal number that is not of the call.
unfoldable pub is_other_call : Order → Call → Header → Bool
is_other_call Below call h = false
is_other_call Equal call h = not (same_call call h)
is_other_call Newer call h = false

-- A request that contradicts what is held or the call, or a fack 9 of more fragments than the reply has.
unfoldable pub is_contradiction : Server → Header → Bool
is_contradiction s h =
    choose (is_request h.kind)
    (either (contradicts (slots_for (order_for s h) s.state s.incoming) h.fragment (is_last h.flags1))
    (is_other_call (order_for s h) s.call h))
    (both (eqb h.kind 9) (acknowledges_more s.outgoing.count h.fragment))

-- 10 to 17, of a header and a body that were read, with their cell of the table. No row of theirs arms a timer.
unfoldable pub pdu_refusals : Server → Header → Bool → List ℕ → Verdict → List Line
pdu_refusals s h little body cell =
    WrongSide when not (is_for_server h.kind)
    ∷ MaybeOrBroadcast when both (is_request h.kind) (is_maybe_or_broadcast h.flags1)
    ∷ WrongFragment when both (is_request h.kind) (wrong_fragment h.flags1 h.fragment)
    ∷ OldCall when says OldCall cell
    ∷ MalformedBody when is_malformed h.kind little body
    ∷ NoRow when says NoRow cell
    ∷ Repeated when either (says Repeated cell) (both (is_request h.kind) (is_held_already s h))
    ∷ Contradiction when is_contradiction s h
    ∷ []

unfoldable pub pdu_verdict : Server → Header → Bool → List ℕ → Verdict
pdu_verdict s h little body = first_of Refuse (pdu_refusals s h little body (arrival_cell s h little body)) (arrival_cell s h little body)

-- The same with 9 in front.
abbrev pub activity_refusals : Server → Header → Bool → List ℕ → List Line
activity_refusals s h little body =
    OtherActivity when not (same s.activity h.activity)
    ∷ pdu_refusals s h little body (arrival_cell s h little body)

unfoldable pub activity_verdict : Server → Header → Bool → List ℕ → Verdict
activity_verdict s h little body = first_of Refuse (activity_refusals s h little body) (arrival_cell s h little body)

-- 1 and 2 of a datagram, by the lengths of what is lent.
abbrev pub entry_refusals : Server → ℕ → ℕ → List Line
entry_refusals s slots out = WrongLength when not (lent_right slots out) ∷ BrokenRecord when not (sound s) ∷ []

-- An arriving datagram, by the lengths of what is lent: 1, 2, those of the reader, 9, those of the PDU.
unfoldable pub arrival_refusals : Server → ℕ → ℕ → List ℕ → List Line
arrival_refusals s slots out d =
    entry_refusals s slots out ++ (read_refusals d ++ activity_refusals s (reading d).header (reading d).little (body_of d))

unfoldable pub arrival_verdict : Server → ℕ → ℕ → List ℕ → Verdict
arrival_verdict s slots out d =
    first_of Refuse (arrival_refusals s slots out d) (arrival_cell s (reading d).header (reading d).little (body_of d))
