-- An event: all that a caller hands in, of any length. Refused events count.
use Rattle.std.specs.Prelude.{ℕ, List}
use Rattle.calls.specs.declared.Call.{Call}
use Rattle.client.specs.declared.records.TimerKind.{TimerKind}
use Rattle.history.specs.World.{SentPdu}

-- The slot buffer lent at an event: the side's own, or any other bytes.
pub data Lent : Type 0 where
  Own : Lent
  Other : List ℕ → Lent

-- A start has the call, a length and, beside what is handed in, the message that it is for; a transmit the message
-- lent and the PDU buffer; an arrival the datagram, with the start that it is of, the slot buffer and the PDU
-- buffer; a timer its kind, its ticket and the PDU buffer; a local cancel the PDU buffer.
pub data ClientEvent : Type 0 where
  Start : Call → ℕ → List ℕ → ClientEvent
  ClientTransmit : List ℕ → List ℕ → ClientEvent
  ClientArrive : SentPdu → Lent → List ℕ → ClientEvent
  ClientTimer : TimerKind → ℕ → List ℕ → ClientEvent
  ClientCancel : List ℕ → ClientEvent

-- A reply has a length and the message that it is for; a fault its status and the PDU buffer; the others are as the
-- client's.
pub data ServerEvent : Type 0 where
  ServerArrive : SentPdu → Lent → List ℕ → ServerEvent
  ServerTransmit : List ℕ → List ℕ → ServerEvent
  ServerTimer : ℕ → List ℕ → ServerEvent
  Reply : ℕ → List ℕ → ServerEvent
  Fault : ℕ → List ℕ → ServerEvent

pub data Event : Type 0 where
  OfClient : ClientEvent → Event
  OfServer : ServerEvent → Event
