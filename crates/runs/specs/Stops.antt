-- Two runs more, in which a fitter presses stop, so the theorem's parts on cancels speak of something: in the first the
-- stub hears of both cancels and gives the call up by a fault; in the second no cancel_ack comes, and the client gives it
-- up.
use Rattle.std.specs.Prelude.{ℕ, Bool, true, false, List, [], ◌∷◌, ◌++◌}
use Rattle.pdu.specs.Header.{datagram}
use Rattle.bodies.specs.Cancel.{cancel_bytes, cancel_ack_bytes}
use Rattle.bodies.specs.Status.{status_bytes}
use Rattle.calls.specs.declared.Notice.{Notice}
use Rattle.calls.specs.declared.Notice.TheVariants.{Nothing as Untold, Dispatch, Cancel as CancelTold, Fault as FaultTold, Cause}
use Rattle.calls.specs.Sent.{sent_header}
use Rattle.client.specs.declared.records.TimerKind.TheVariants.{Wait, Cancel}
use Rattle.history.specs.World.{Cancelled, Heard, SentPdu}
use Rattle.history.specs.Events.{Own, Start, ClientTransmit, ClientTimer, ClientCancel, Fault, OfClient, OfServer}
use Rattle.runs.specs.Runs.{Story, untold, of_start, activity, client_gets, server_gets, called, question}

-- The PDUs of the call, which is not idempotent, of number 0 and with a request of one fragment: the request,
abbrev pub stop_request : List ℕ
stop_request = datagram (sent_header 0 0 1 activity 0 0 called 0) question

-- the client's cancel with that cancel number,
abbrev pub cancel_pdu : ℕ → List ℕ
cancel_pdu number = datagram (sent_header 8 0 1 activity 0 0 called 0) (cancel_bytes number)

-- the server's cancel_ack with that cancel number, and whether the server accepts cancels,
abbrev pub cancel_ack_pdu : ℕ → Bool → List ℕ
cancel_ack_pdu number accepts = datagram (sent_header 10 0 0 activity 7 0 called 0) (cancel_ack_bytes number accepts)

-- and its fault with that status. Neither of them raises a serial.
abbrev pub fault_pdu : ℕ → List ℕ
fault_pdu status = datagram (sent_header 3 0 0 activity 7 0 called 0) (status_bytes status)

-- The ticket with which CANCEL is armed at the first cancel; at the second it keeps that.
abbrev pub cancel_ticket : ℕ
cancel_ticket = 7

-- The PDU buffer that every event is lent.
module _ (out : List ℕ) where
  -- The call runs, and the fitter presses stop.
  abbrev pub pressed : Story
  pressed =
      -- The client starts the call
      (OfClient (Start called 3 question), 0)
      -- and sends it: DISPATCHED, WAIT armed with ticket 6.
      ∷ (OfClient (ClientTransmit question out), 0)
      -- It arrives whole: the server dispatches.
      ∷ (server_gets stop_request Own out, 0)
      -- Stop is pressed: cancel 1 goes out, CANCEL armed with ticket 7.
      ∷ (OfClient (ClientCancel out), 0)
      ∷ []

  -- The first run goes on: the stub hears of the cancel, and of one more.
  abbrev pub heard : Story
  heard =
      -- Cancel 1 arrives in RUNNING: the stub is told, a cancel_ack goes out.
      (server_gets (cancel_pdu 1) Own out, 0)
      -- It arrives once more: a cancel_ack again, and nobody is told.
      ∷ (server_gets (cancel_pdu 1) Own out, 0)
      -- Stop is pressed a second time: cancel 2 goes out; CANCEL keeps ticket 7.
      ∷ (OfClient (ClientCancel out), 0)
      -- The cancel_ack of cancel 1 is not the current one: nothing is disarmed.
      ∷ (client_gets (cancel_ack_pdu 1 true) Own out, 15)
      -- Cancel 2 arrives: the stub is told of it too.
      ∷ (server_gets (cancel_pdu 2) Own out, 0)
      -- Its cancel_ack is the current one: CANCEL is disarmed,
      ∷ (client_gets (cancel_ack_pdu 2 true) Own out, 0)
      -- so ticket 7 is late,
      ∷ (OfClient (ClientTimer Cancel cancel_ticket out), 18)
      -- and the cancel_ack has no row when it comes once more.
      ∷ (client_gets (cancel_ack_pdu 2 true) Own out, 15)
      ∷ []

  -- The stub gives the call up.
  abbrev pub faulted : Story
  faulted =
      -- The stub faults: the fault goes out; HELD, RESEND armed with ticket 101.
      (OfServer (Fault 23 out), 0)
      -- It arrives: the client is in FAULT, its stub is told the status,
      ∷ (client_gets (fault_pdu 23) Own out, 0)
      -- and the tickets of WAIT
      ∷ (OfClient (ClientTimer Wait 6 out), 15)
      -- and CANCEL have no row there, nor has
      ∷ (OfClient (ClientTimer Cancel cancel_ticket out), 15)
      -- a local cancel.
      ∷ (OfClient (ClientCancel out), 15)
      -- Cancel 2 comes late: in HELD a cancel_ack says that it is not accepted, and nobody is told.
      ∷ (server_gets (cancel_pdu 2) Own out, 0)
      ∷ []

  abbrev pub stopped : Story
  stopped = pressed ++ (heard ++ faulted)

  -- The second run goes on: no cancel_ack comes.
  abbrev pub unheard : Story
  unheard =
      -- Cancel 1 is lost; stop is pressed a second time: cancel 2 goes out; CANCEL keeps ticket 7.
      (OfClient (ClientCancel out), 0)
      -- Cancel 2 arrives: the stub is told of it; the cancel_ack is lost.
      ∷ (server_gets (cancel_pdu 2) Own out, 0)
      -- CANCEL: the client is in FAULT, its stub is told local cause 3,
      ∷ (OfClient (ClientTimer Cancel cancel_ticket out), 0)
      -- and the tickets of CANCEL
      ∷ (OfClient (ClientTimer Cancel cancel_ticket out), 15)
      -- and WAIT have no row there.
      ∷ (OfClient (ClientTimer Wait 6 out), 15)
      ∷ []

  abbrev pub unanswered : Story
  unanswered = pressed ++ unheard

-- What the stubs are told in each: the server's to execute the call, once, and of cancels; the client's how the call
-- ended.
abbrev pub stopped_notices : List Notice
stopped_notices =
    untold 2 ++ (Dispatch ∷ Untold ∷ CancelTold ∷ untold 3 ++ (CancelTold ∷ untold 4 ++ (FaultTold 23 ∷ untold 4)))

abbrev pub unanswered_notices : List Notice
unanswered_notices = untold 2 ++ (Dispatch ∷ untold 2 ++ (CancelTold ∷ Cause 3 ∷ untold 2))

-- All that the client has sent, in both of them,
abbrev pub stop_client_pdus : List SentPdu
stop_client_pdus = of_start 0 (stop_request ∷ cancel_pdu 1 ∷ cancel_pdu 2 ∷ [])

-- and the server.
abbrev pub stopped_server_pdus : List SentPdu
stopped_server_pdus =
    of_start 0
    (cancel_ack_pdu 1 true ∷ cancel_ack_pdu 1 true ∷ cancel_ack_pdu 2 true ∷ fault_pdu 23 ∷ cancel_ack_pdu 2 false ∷ [])

abbrev pub unanswered_server_pdus : List SentPdu
unanswered_server_pdus = of_start 0 (cancel_ack_pdu 2 true ∷ [])

-- The local cancels, in both of them, and the cancels told: each of start 0, and in the first run of a call.
abbrev pub stop_cancels : List Cancelled
stop_cancels = record { ordinal = 0; number = 1 } ∷ record { ordinal = 0; number = 2 } ∷ []

abbrev pub told_of : ℕ → Heard
told_of number = record { run = 1; ordinal = 0; number = number }
