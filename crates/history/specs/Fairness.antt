-- The premises of document 01, of events that are answered 0. A refused event is bound by none of them.
use Rattle.std.specs.Prelude.{ℕ, ◌<◌, List, [], ◌∷◌, ◌≡◌, length}
use Rattle.answers.specs.Answer.{Done}
use Rattle.calls.specs.declared.Call.{Call}
use Rattle.history.specs.Lists.{In, OfLast}
use Rattle.history.specs.World.{Started, Replied, SentPdu, World}
use Rattle.history.specs.Events.{Lent, Own, ClientEvent, ServerEvent, Event, Start, ClientTransmit, ClientArrive, ClientTimer, ClientCancel, ServerArrive, ServerTransmit, ServerTimer, Reply, Fault, OfClient, OfServer}
use Rattle.history.specs.Steps.{step, answer_to}

-- The message is that of the last start, or of the last reply; where there is none yet, any.
abbrev pub OfLastStart : List Started → List ℕ → Type 0
OfLastStart starts message = OfLast (λ s. message ≡ s.message) starts

abbrev pub OfLastReply : List Replied → List ℕ → Type 0
OfLastReply replies message = OfLast (λ r. message ≡ r.message) replies

-- A call as its type has it: UUIDs of 16 bytes, a u32, a u16. The definitions take any number, the functions only
-- these.
pub record Typed (call : Call) : Type 0 where
  pub object : length call.object ≡ 16
  pub interface : length call.interface ≡ 16
  pub version : call.version < 4294967296
  pub operation : call.operation < 65536

-- A start has a message of the length that it gave.
pub record FairStart (call : Call) (n : ℕ) (message : List ℕ) : Type 0 where
  pub typed : Typed call
  pub whole : length message ≡ n

-- A PDU that arrives was sent by the other side earlier, of the start that is named, and the slot buffer lent is
-- the side's own.
pub record FairArrival (sent : List SentPdu) (p : SentPdu) (lent : Lent) : Type 0 where
  pub earlier : In p sent
  pub own : lent ≡ Own

-- What is owed by an event that is answered 0. That a reply has a message of its length is document 01's word; the
-- claim does not need it, since a message of another length is refused at every transmit.
abbrev pub ClientPremise : World → ClientEvent → Type 0
ClientPremise w (Start call n message) = FairStart call n message
ClientPremise w (ClientTransmit message out) = OfLastStart w.books.starts message
ClientPremise w (ClientArrive p lent out) = FairArrival w.server.sent p lent
ClientPremise w (ClientTimer kind ticket out) = Unit {0}
ClientPremise w (ClientCancel out) = Unit {0}

abbrev pub ServerPremise : World → ServerEvent → Type 0
ServerPremise w (ServerArrive p lent out) = FairArrival w.client.sent p lent
ServerPremise w (ServerTransmit message out) = OfLastReply w.books.replies message
ServerPremise w (ServerTimer ticket out) = Unit {0}
ServerPremise w (Reply n message) = length message ≡ n
ServerPremise w (Fault status out) = Unit {0}

abbrev pub Premise : World → Event → Type 0
Premise w (OfClient e) = ClientPremise w e
Premise w (OfServer e) = ServerPremise w e

-- Every event of the list that is answered 0 keeps its premise.
abbrev pub Fair : World → List Event → Type 0
Fair w [] = Unit {0}
Fair w (e ∷ es) = (answer_to w e ≡ Done → Premise w e) × Fair (step w e) es
