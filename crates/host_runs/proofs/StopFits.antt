-- Every event of the runs with cancels has arguments that fit, where the PDU buffer is bytes.
use Prim.Native.Nat.{ℕ, ◌<◌}
use mathlib.Core.Bool.{Bool, true}
use mathlib.Core.List.{List, ◌++◌}
use native.Mathlib.Omega.{arith}
use Rattle.words.specs.Choice.{mark_of}
use Rattle.words.specs.Number.{digits}
use Rattle.pdu.specs.Header.{datagram}
use Rattle.bodies.specs.Cancel.{cancel_bytes, cancel_ack_bytes}
use Rattle.bodies.specs.Status.{status_bytes}
use Rattle.calls.specs.Sent.{sent_header}
use Rattle.record_bytes.specs.Fits.{Octets}
use Rattle.record_bytes.proofs.ByteLaws.{octets_joined, octets_three, octets_digits}
use Rattle.client.specs.declared.records.TimerKind.TheVariants.{Cancel}
use Rattle.history.specs.Events.{Own, ClientTimer, OfClient}
use Rattle.history.proofs.ListLaws.{All}
use Rattle.host_history.specs.Arguments.{EventFits}
use Rattle.runs.specs.Runs.{events_of, activity, client_gets, server_gets, called, question}
use Rattle.runs.specs.Stops.{stop_request, cancel_pdu, cancel_ack_pdu, fault_pdu, cancel_ticket, pressed, heard, faulted, stopped, unheard, unanswered}
use Rattle.host_runs.proofs.PduOctets.{pdu_octets}
use Rattle.host_runs.proofs.LossyFits.{StoryFits, story_joined, story_events_lem, called_fits}

-- The PDUs: a header of the call, and a body of bytes.
stop_octets : (kind serial boot : ℕ) (body : List ℕ) → kind < 256 → Octets body
    → Octets (datagram (sent_header kind 0 serial activity boot 0 called 0) body)
stop_octets kind serial boot body named octets =
    pdu_octets kind 0 serial activity boot 0 called 0 body named (omega arith) (omega arith) called_fits octets

cancel_octets : (number : ℕ) → Octets (cancel_pdu number)
unfolding cancel_bytes
cancel_octets number =
    stop_octets 8 1 0 (cancel_bytes number) (omega arith)
    (octets_joined (digits 4 0) (digits 4 number) (octets_digits 4 0) (octets_digits 4 number))

ack_octets : (number : ℕ) (accepts : Bool) → Octets (cancel_ack_pdu number accepts)
unfolding cancel_ack_bytes
ack_octets number accepts =
    stop_octets 10 0 7 (cancel_ack_bytes number accepts) (omega arith)
    (octets_three (digits 4 0) (digits 4 number) (digits 4 (mark_of accepts)) (octets_digits 4 0)
    (octets_digits 4 number) (octets_digits 4 (mark_of accepts)))

module _ (out : List ℕ) (room : Octets out) where
  -- The request, a fault, a cancel or a cancel_ack that arrives,
  asks : EventFits (server_gets stop_request Own out)
  asks = (stop_octets 0 1 0 question (omega arith) (omega arith), tt, room)

  faults : EventFits (client_gets (fault_pdu 23) Own out)
  faults = (stop_octets 3 0 7 (status_bytes 23) (omega arith) (octets_digits 4 23), tt, room)

  stops : (number : ℕ) → EventFits (server_gets (cancel_pdu number) Own out)
  stops number = (cancel_octets number, tt, room)

  acked : (number : ℕ) (accepts : Bool) → EventFits (client_gets (cancel_ack_pdu number accepts) Own out)
  acked number accepts = (ack_octets number accepts, tt, room)

  -- the timer CANCEL,
  runs_out : EventFits (OfClient (ClientTimer Cancel cancel_ticket out))
  runs_out = (omega arith, room)

  -- and so each part of the runs.
  pressed_fits : StoryFits (pressed out)
  pressed_fits = ((called_fits, omega arith), ((omega arith, room), (asks, (room, tt))))

  heard_fits : StoryFits (heard out)
  heard_fits =
      (stops 1, (stops 1, (room, (acked 1 true, (stops 2, (acked 2 true, (runs_out, (acked 2 true, tt))))))))

  faulted_fits : StoryFits (faulted out)
  faulted_fits = ((omega arith, room), (faults, ((omega arith, room), (runs_out, (room, (stops 2, tt))))))

  unheard_fits : StoryFits (unheard out)
  unheard_fits = (room, (stops 2, (runs_out, (runs_out, ((omega arith, room), tt)))))

  pub stopped_fits : All EventFits (events_of (stopped out))
  stopped_fits =
      story_events_lem (stopped out)
      (story_joined (pressed out) (heard out ++ faulted out) pressed_fits
      (story_joined (heard out) (faulted out) heard_fits faulted_fits))

  pub unanswered_fits : All EventFits (events_of (unanswered out))
  unanswered_fits =
      story_events_lem (unanswered out) (story_joined (pressed out) (unheard out) pressed_fits unheard_fits)
