-- Every event of the server keeps the widths of its record's fields.
use Prim.Native.Nat.{ℕ, ◌<◌, ◌≤◌}
use mathlib.Core.Bool.{Bool}
use mathlib.Core.List.{List}
use mathlib.Core.Path.{sym, subst}
use native.Mathlib.Omega.{arith}
use lib.ListN.{length}
use Rattle.words.specs.Sizes.{body_size, last_number}
use Rattle.calls.specs.Events.{Step, Arrival}
use Rattle.fragments.specs.declared.Fragment.{Fragment}
use Rattle.outgoing.specs.Sending.{after_send, acknowledged_to, rewound, replied}
use Rattle.pdu.specs.declared.Header.{Header}
use Rattle.pdu.specs.Header.{body_of, blank}
use Rattle.reader.specs.Reading.{reading}
use Rattle.server.specs.declared.records.Idle.TheVariants.{Spent, Repeatable}
use Rattle.server.specs.declared.records.Reply.TheVariants.{Data, Fault as FaultReply}
use Rattle.server.specs.declared.records.State.TheVariants.{Idle as IdleState, Collect, Running, Replying}
use Rattle.server.specs.declared.records.Server.{Server}
use Rattle.server.specs.declared.judge.Row.{Row}
use Rattle.server.specs.declared.judge.Row.TheVariants.{Reply, TransmitMore, TransmitRepeatable, TransmitHeld, FaultRepeatable, FaultHeld, ResendData, ResendFault, Spend, Begin, Put, Working, Nocall, Rewind, RepeatFault, Acknowledge, HearCancel, AcceptCancel, DeclineCancel}
use Rattle.server.specs.step.Plan.{going}
use Rattle.server.specs.step.Steps.{answered, transmitted, repeatable, rewinding, call_of, begun, put_state, put_plan, acknowledged, heard_plan, step_of}
use Rattle.server.specs.Outcome.{Outcome}
use Rattle.server.specs.Machine.{refused, done, sending, acted}
use Rattle.server.proofs.TableLaws.{RowTells}
use Rattle.server.proofs.Judging.{CanTake, reply_taken, transmit-rows, transmit_taken, fault-rows, fault_taken, resend-rows, timer_taken}
use Rattle.server.proofs.Arriving.{arrive_taken}
use Rattle.server.proofs.Accepting.{reply_cases, transmit_cases, timer_cases, fault_cases, arrive_cases}
use Rattle.history.specs.World.{Side}
use Rattle.history.specs.Events.{ServerEvent, ServerArrive, ServerTransmit, ServerTimer, Reply as ReplyEvent, Fault}
use Rattle.history.specs.Steps.{bytes_lent, server_turn}
use Rattle.record_bytes.specs.Fits.{Octets}
use Rattle.record_bytes.proofs.Keeping.{choice_keeps, after_send_fits, acknowledged_fits, rewound_fits, replied_fits, no_message_fits, cleared_fits, stored_fits}
use Rattle.server_bytes.specs.Fits.{FitsState, FitsServer}
use Rattle.host_history.specs.Arguments.{ServerFits}
use Rattle.host_history.proofs.Headers.{FitsHeader, reading_fits, cancel_number_fits}
use Rattle.host_history.proofs.ServerFields.{holding_fits, unarmed_fits, outgoing_fits, incoming_fits, resends_fits, seen_fits}

-- What each row makes of a record that fits: a transmit,
module _ (s : Server) (fits : FitsServer s) where
  sent_fits : FitsServer (transmitted s)
  unfolding transmitted
  sent_fits = outgoing_fits s fits (after_send s.outgoing) (after_send_fits s.outgoing fits.outgoing)

  -- a call that can be run again,
  repeatable_fits : FitsServer (repeatable s)
  unfolding repeatable
  repeatable_fits = unarmed_fits s fits (IdleState Repeatable) tt

  -- data that is sent again,
  rewinding_fits : FitsServer (rewinding s)
  unfolding rewinding
  rewinding_fits =
      unarmed_fits _
      (outgoing_fits s fits (rewound s.outgoing) (rewound_fits s.outgoing fits.outgoing)) Replying tt

  -- a request put,
  put_state_fits : (all : Bool) → FitsState (put_state all)
  unfolding put_state
  put_state_fits all = choice_keeps FitsState all Running Collect tt tt

  put_fits : (p : Fragment) → p.number ≤ last_number → p.length ≤ body_size → FitsServer (put_plan s p).machine
  unfolding put_plan
  put_fits p low short =
      incoming_fits _ (unarmed_fits s fits _ (put_state_fits p.complete)) _
      (stored_fits s.incoming p.number p.length p.last fits.incoming (omega arith) (omega arith))

  -- a call begun.
  begun_fits : (h : Header) → FitsHeader h → FitsServer (begun s h)
  unfolding begun call_of
  begun_fits h carried = record {
    activity = fits.activity;
    boot = fits.boot;
    number = carried.number;
    call =
        record {
          object = carried.object;
          interface = carried.interface;
          version = carried.version;
          operation = carried.operation;
        };
    outgoing = no_message_fits;
    incoming = cleared_fits;
    resends = omega arith;
    seen = omega arith;
    tickets = fits.tickets;
    resend = tt;
    state = tt;
  }

-- What a row carries into the record fits it: the header of a request that begins, a fault's status, a cancel's number.
abbrev Carries : Row → Header → Type 0
Carries (Reply n) h = Unit {0}
Carries TransmitMore h = Unit {0}
Carries TransmitRepeatable h = Unit {0}
Carries TransmitHeld h = Unit {0}
Carries (FaultRepeatable status) h = Unit {0}
Carries (FaultHeld status) h = status < 4294967296
Carries (ResendData resends) h = Unit {0}
Carries (ResendFault status resends) h = Unit {0}
Carries Spend h = Unit {0}
Carries (Begin p) h = FitsHeader h
Carries (Put p) h = Unit {0}
Carries Working h = Unit {0}
Carries Nocall h = Unit {0}
Carries Rewind h = Unit {0}
Carries (RepeatFault status) h = Unit {0}
Carries (Acknowledge count) h = Unit {0}
Carries (HearCancel n) h = n < 4294967296
Carries (AcceptCancel n) h = Unit {0}
Carries (DeclineCancel n) h = Unit {0}

-- So every row that is taken keeps the widths.
module _ (s : Server) (fits : FitsServer s) (h : Header) where
  row_fits : (row : Row) → CanTake row s h → Carries row h → FitsServer (step_of row s h).machine
  unfolding step_of going answered acknowledged heard_plan
  row_fits (Reply n) can carried =
      unarmed_fits _
      (outgoing_fits s fits (replied s.outgoing n)
      (replied_fits s.outgoing n fits.outgoing (omega (arith, can.short)))) Replying tt
  row_fits TransmitMore can carried = sent_fits s fits
  row_fits TransmitRepeatable can carried = repeatable_fits _ (sent_fits s fits)
  row_fits TransmitHeld can carried = holding_fits _ (sent_fits s fits) Data tt
  row_fits (FaultRepeatable status) can carried = repeatable_fits s fits
  row_fits (FaultHeld status) can carried = holding_fits s fits (FaultReply status) carried
  row_fits (ResendData resends) can carried =
      rewinding_fits _ (resends_fits s fits resends (omega (arith, can.count, can.below)))
  row_fits (ResendFault status resends) can carried =
      holding_fits _ (resends_fits s fits resends (omega (arith, can.count, can.below))) (FaultReply status)
      (subst FitsState can.held fits.state)
  row_fits Spend can carried = unarmed_fits s fits (IdleState Spent) tt
  row_fits (Begin p) can carried = put_fits _ (begun_fits s fits h carried) p can.can.number can.short
  row_fits (Put p) can carried = put_fits s fits p can.can.number can.short
  row_fits Working can carried = fits
  row_fits Nocall can carried = fits
  row_fits Rewind can carried = rewinding_fits s fits
  row_fits (RepeatFault status) can carried = fits
  row_fits (Acknowledge count) can carried =
      outgoing_fits s fits (acknowledged_to s.outgoing count)
      (acknowledged_fits s.outgoing fits.outgoing count can.fits)
  row_fits (HearCancel n) can carried = seen_fits s fits n carried
  row_fits (AcceptCancel n) can carried = fits
  row_fits (DeclineCancel n) can carried = fits

-- What the row of an arriving datagram carries fits.
module _ (s : Server) (d : List ℕ) (octets : Octets d) where
  arrival_carries : (row : Row) → RowTells row s (reading d).header (reading d).little (body_of d)
      → Carries row (reading d).header
  arrival_carries (Reply n) told = tt
  arrival_carries TransmitMore told = tt
  arrival_carries TransmitRepeatable told = tt
  arrival_carries TransmitHeld told = tt
  arrival_carries (FaultRepeatable status) told = tt
  arrival_carries (FaultHeld status) told = absurd told
  arrival_carries (ResendData resends) told = tt
  arrival_carries (ResendFault status resends) told = tt
  arrival_carries Spend told = tt
  arrival_carries (Begin p) told = reading_fits d octets
  arrival_carries (Put p) told = tt
  arrival_carries Working told = tt
  arrival_carries Nocall told = tt
  arrival_carries Rewind told = tt
  arrival_carries (RepeatFault status) told = tt
  arrival_carries (Acknowledge count) told = tt
  arrival_carries (HearCancel n) told =
      subst (λ (m : ℕ). m < 4294967296) (sym told.3) (cancel_number_fits d (reading d).little octets)
  arrival_carries (AcceptCancel n) told = tt
  arrival_carries (DeclineCancel n) told = tt

-- So every event of the server keeps the widths of its record.
pub server_turn_fits : (side : Side Server) (e : ServerEvent) → FitsServer side.machine → ServerFits e
    → FitsServer (server_turn side e).machine
unfolding refused done sending acted
server_turn_fits side (ServerArrive p lent out) fits given =
    let s = side.machine in
    let slots = bytes_lent lent side.slots in
    arrive_cases s p.bytes slots out (λ (x : Arrival Outcome). FitsServer x.outcome.machine) (λ r e. fits)
    (λ row e.
    let taken = arrive_taken s (length slots) (length out) p.bytes row e in
    row_fits s fits (reading p.bytes).header row taken.judged.can
    (arrival_carries s p.bytes given.0 row taken.told))
server_turn_fits side (ServerTransmit message out) fits given =
    let s = side.machine in
    transmit_cases s message out (λ (x : Step Outcome). FitsServer x.outcome.machine) (λ r e. fits)
    (λ row e.
    let taken = transmit_taken s (length message) (length out) row e in
    row_fits s fits blank row taken.judged.can
    (subst (λ (r : Row). Carries r blank) (sym taken.is)
    (transmit-rows s (λ (r : Row). Carries r blank) (λ more. tt) (λ last again. tt) (λ last once. tt))))
server_turn_fits side (ServerTimer ticket out) fits given =
    let s = side.machine in
    timer_cases s ticket out (λ (x : Step Outcome). FitsServer x.outcome.machine) (λ r e. fits)
    (λ row e.
    let taken = timer_taken s ticket (length out) row e in
    row_fits s fits blank row taken.judged.can
    (resend-rows s row (λ (r : Row). Carries r blank) taken.is (λ held below. tt) (λ status held below. tt)
    (λ held limit. tt)))
server_turn_fits side (ReplyEvent n message) fits given =
    let s = side.machine in
    reply_cases s n (λ (o : Outcome). FitsServer o.machine) (λ r e. fits)
    (λ row e.
    let taken = reply_taken s n row e in
    row_fits s fits blank row taken.judged.can (subst (λ (r : Row). Carries r blank) (sym taken.is) tt))
server_turn_fits side (Fault status out) fits given =
    let s = side.machine in
    fault_cases s status out (λ (x : Step Outcome). FitsServer x.outcome.machine) (λ r e. fits)
    (λ row e.
    let taken = fault_taken s status (length out) row e in
    row_fits s fits blank row taken.judged.can
    (subst (λ (r : Row). Carries r blank) (sym taken.is)
    (fault-rows s status (λ (r : Row). Carries r blank) (λ mark. tt) (λ mark. given.0))))
