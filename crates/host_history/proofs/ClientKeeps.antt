-- Every event of the client keeps the widths of its record's fields.
use Prim.Native.Nat.{ℕ, ◌<◌}
use mathlib.Core.Bool.{Bool}
use mathlib.Core.List.{List}
use mathlib.Core.Path.{sym, subst}
use native.Mathlib.Omega.{arith}
use Rattle.calls.specs.declared.Call.{Call}
use Rattle.calls.specs.declared.Notice.{Notice}
use Rattle.calls.specs.declared.Notice.TheVariants.{Fault as FaultNotice, Reject as RejectNotice, Cause}
use Rattle.fragments.specs.declared.Fragment.{Fragment}
use Rattle.outgoing.specs.Sending.{after_send, after_ping, acknowledged_to, rewound}
use Rattle.client.specs.declared.records.State.TheVariants.{Dispatched, ReceiveFrags, Complete, Fault as FaultState}
use Rattle.client.specs.declared.records.Client.{Client}
use Rattle.client.specs.declared.judge.Row.{Row}
use Rattle.client.specs.declared.judge.Row.TheVariants.{Transmit, Ping, SendAck, Cancel, Response, Fault, Reject, Working, Resend, GiveUp, Fack, CancelAck}
use Rattle.client.specs.records.Record.{cancel_armed, with_outgoing, with_waits}
use Rattle.client.specs.records.States.{is_queued}
use Rattle.client.specs.judge.Rows.{one_more, next_number}
use Rattle.client.specs.step.Plan.{going, failed}
use Rattle.client.specs.step.Steps.{started, transmitted, pinged, cancelled, put_record, response_plan, working_plan, resent, acknowledged, step_of}
use Rattle.client.proofs.Judging.{CanPing, CanCancel, CanRespond, CanResend, CanTake, CanStart}
use Rattle.client.proofs.ByRows.{start_by_rows, transmit_by_rows, timer_by_rows, cancel_by_rows, arrive_by_rows}
use Rattle.history.specs.World.{Side}
use Rattle.history.specs.Events.{ClientEvent, Start, ClientTransmit, ClientArrive, ClientTimer, ClientCancel}
use Rattle.history.specs.Steps.{bytes_lent, client_turn}
use Rattle.record_bytes.specs.Fits.{FitsCall}
use Rattle.record_bytes.proofs.Keeping.{choice_keeps, after_send_fits, after_ping_fits, acknowledged_fits, rewound_fits, started_fits, cleared_fits, stored_fits}
use Rattle.client_bytes.specs.Fits.{FitsClient}
use Rattle.host_history.specs.Arguments.{ClientFits}
use Rattle.host_history.proofs.ClientFields.{waiting_fits, sending_fits, ack_pending_fits, unarmed_fits, cancel_armed_fits, cancel_disarmed_fits, outgoing_fits, incoming_fits, waits_fits, resends_fits, cancels_fits}

-- What each row makes of a record that fits: a start,
module _ (c : Client) (fits : FitsClient c) where
  number_fits : next_number (is_queued c.state) c.number < 4294967296
  unfolding next_number
  number_fits =
      choice_keeps (λ (n : ℕ). n < 4294967296) (is_queued c.state) 0 (one_more c.number) (omega arith) (omega arith)

  start_fits : (number : ℕ) (call : Call) (n : ℕ) → CanStart c n number → FitsCall call → n < 4294967296
      → FitsClient (started c number call n)
  unfolding started
  start_fits number call n can carried short = record {
    activity = fits.activity;
    number = subst (λ (m : ℕ). m < 4294967296) (sym can.is) number_fits;
    call = carried;
    outgoing = started_fits n short;
    incoming = cleared_fits;
    waits = omega arith;
    resends = omega arith;
    cancels = omega arith;
    tickets = fits.tickets;
    wait = tt;
    ack = tt;
    cancel = tt;
  }

  -- a transmit,
  transmit_fits : (last : Bool) → FitsClient (transmitted last c)
  unfolding transmitted
  transmit_fits last =
      let sent = outgoing_fits c fits (after_send c.outgoing) (after_send_fits c.outgoing fits.outgoing) in
      choice_keeps FitsClient last _ _ (waiting_fits (with_outgoing c (after_send c.outgoing)) sent Dispatched) sent

  -- a ping,
  ping_fits : (waits : ℕ) → CanPing c waits → FitsClient (pinged c waits)
  unfolding pinged
  ping_fits waits can =
      let sent = outgoing_fits c fits (after_ping c.outgoing) (after_ping_fits c.outgoing fits.outgoing) in
      waits_fits _ (waiting_fits _ sent c.state) waits (omega (arith, can.count, can.below))

  -- a local cancel,
  cancel_fits : (number : ℕ) → CanCancel c number → FitsClient (cancelled c number)
  unfolding cancelled
  cancel_fits number can = cancels_fits (cancel_armed c) (cancel_armed_fits c fits) number (omega (arith, can.number))

  -- the end of a call,
  failed_fits : (notice : Notice) → FitsClient (failed c notice).machine
  unfolding failed going
  failed_fits notice = unarmed_fits c fits FaultState

  -- a response,
  put_record_fits : (all idempotent : Bool) → FitsClient (put_record all idempotent c)
  unfolding put_record
  put_record_fits all idempotent =
      choice_keeps FitsClient all _ _
      (choice_keeps FitsClient idempotent _ _ (unarmed_fits c fits Complete) (ack_pending_fits c fits))
      (waiting_fits c fits ReceiveFrags)

  response_fits : (p : Fragment) → CanRespond c p → FitsClient (response_plan c p).machine
  unfolding response_plan
  response_fits p can =
      incoming_fits _ (put_record_fits p.complete c.call.idempotent) _
      (stored_fits c.incoming p.number p.length p.last fits.incoming (omega (arith, can.can.number))
      (omega (arith, can.short)))

  -- a nocall,
  resend_fits : (resends : ℕ) → CanResend c resends → FitsClient (resent c resends)
  unfolding resent
  resend_fits resends can =
      let back = outgoing_fits c fits (rewound c.outgoing) (rewound_fits c.outgoing fits.outgoing) in
      resends_fits _ (sending_fits _ back) resends (omega (arith, can.count, can.below))

  -- and so every row that is taken.
  row_fits : (row : Row) → CanTake row c → FitsClient (step_of row c).machine
  unfolding step_of going working_plan acknowledged
  row_fits (Transmit last) can = transmit_fits last
  row_fits (Ping waits) can = ping_fits waits can
  row_fits SendAck can = unarmed_fits c fits Complete
  row_fits (Cancel number) can = cancel_fits number can
  row_fits (Response p) can = response_fits p can
  row_fits (Fault status) can = failed_fits (FaultNotice status)
  row_fits (Reject status) can = failed_fits (RejectNotice status)
  row_fits Working can = waiting_fits (with_waits c 0) (waits_fits c fits 0 (omega arith)) Dispatched
  row_fits (Resend resends) can = resend_fits resends can
  row_fits (GiveUp cause) can = failed_fits (Cause cause)
  row_fits (Fack count) can =
      outgoing_fits c fits (acknowledged_to c.outgoing count)
      (acknowledged_fits c.outgoing fits.outgoing count can.fits)
  row_fits CancelAck can = cancel_disarmed_fits c fits

-- So every event of the client keeps the widths of its record.
pub client_turn_fits : (side : Side Client) (e : ClientEvent) → FitsClient side.machine → ClientFits e
    → FitsClient (client_turn side e).machine
client_turn_fits side (Start call n message) fits given =
    start_by_rows side.machine FitsClient fits call n
    (λ number can. start_fits side.machine fits number call n can given.0 given.1)
client_turn_fits side (ClientTransmit message out) fits given =
    transmit_by_rows side.machine FitsClient fits message out
    (λ row taken. row_fits side.machine fits row taken.judged.can)
client_turn_fits side (ClientArrive p lent out) fits given =
    arrive_by_rows side.machine p.bytes (bytes_lent lent side.slots) out
    (λ (c : Client) (slots : List ℕ). FitsClient c) fits
    (λ row taken. row_fits side.machine fits row taken.judged.can)
client_turn_fits side (ClientTimer kind ticket out) fits given =
    timer_by_rows side.machine FitsClient fits kind ticket out
    (λ row taken. row_fits side.machine fits row taken.judged.can)
client_turn_fits side (ClientCancel out) fits given =
    cancel_by_rows side.machine FitsClient fits out
    (λ row taken. row_fits side.machine fits row taken.judged.can)
