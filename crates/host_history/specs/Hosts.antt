-- Hosts that call exports only, the client's and the server's taken together: what they keep, the calls that they
-- make, and what they keep after each. They call morphelai_client_fresh and morphelai_server_fresh only once, at the
-- beginning (`FreshHost`); so neither is among the calls.
use Rattle.std.specs.Prelude.{ℕ, List, [], ◌∷◌, eqb}
use Rattle.client.specs.declared.records.Client.{Client}
use Rattle.client_bytes.specs.Layout.{client_in}
use Rattle.server.specs.declared.records.Server.{Server}
use Rattle.server_bytes.specs.Layout.{server_in}
use Rattle.answers.specs.Answer.{Answer}
use Rattle.calls.specs.declared.Call.{Call}
use Rattle.history.specs.World.{Started, Replied, Cancelled, SentPdu, Side, Books, World}
use Rattle.history.specs.Events.{Lent}
use Rattle.history.specs.Steps.{bytes_lent, own_after, last_start, Turn, started_after, cancelled_after, replied_after, last_dispatched, Subject, of_record, of_arrival, client_world, server_world}
use Rattle.morphelai.specs.Export.{Export}
use Rattle.morphelai.specs.ClientDoor.{client_start, client_transmit, client_arrive, client_timer, client_cancel}
use Rattle.morphelai.specs.ServerDoor.{server_arrive, server_transmit, server_timer, server_reply, server_fault}
use Rattle.host_history.specs.Results.{answer_in, notice_in, sent_in}

-- What a host keeps: of each side the bytes of its record, its slot buffer and what it has sent; and the books, which
-- are there for the claim alone.
pub record HostWorld : Type 0 where
  pub client : Side (List ℕ)
  pub server : Side (List ℕ)
  pub books : Books

-- The world of the theorem that a host's stands for: each record is the one that its bytes stand for.
abbrev pub side_of : {Machine : Type 0} → (List ℕ → Machine) → Side (List ℕ) → Side Machine
side_of record_in side = record { machine = record_in side.machine; slots = side.slots; sent = side.sent }

abbrev pub world_of : HostWorld → World
world_of h = record { client = side_of client_in h.client; server = side_of server_in h.server; books = h.books }

-- The calls of exported events, each with the very arguments that a host hands in beside the record: a start has
-- idempotent, object, interface, version, operation and length, and beside them the message that it is for; a
-- transmit the message lent and the PDU buffer; an arrival the datagram, with the start that it is of, the slot
-- buffer and the PDU buffer; a timer its kind, its ticket and the PDU buffer; a cancel the PDU buffer.
pub data ClientCall : Type 0 where
  ClientStart : ℕ → List ℕ → List ℕ → ℕ → ℕ → ℕ → List ℕ → ClientCall
  ClientTransmit : List ℕ → List ℕ → ClientCall
  ClientArrive : SentPdu → Lent → List ℕ → ClientCall
  ClientTimer : ℕ → ℕ → List ℕ → ClientCall
  ClientCancel : List ℕ → ClientCall

-- A reply has a length and the message that it is for; a fault its status and the PDU buffer.
pub data ServerCall : Type 0 where
  ServerArrive : SentPdu → Lent → List ℕ → ServerCall
  ServerTransmit : List ℕ → List ℕ → ServerCall
  ServerTimer : ℕ → ℕ → List ℕ → ServerCall
  ServerReply : ℕ → List ℕ → ServerCall
  ServerFault : ℕ → List ℕ → ServerCall

pub data HostCall : Type 0 where
  ToClient : ClientCall → HostCall
  ToServer : ServerCall → HostCall

-- What the export gives and leaves: the record lent is the side's own.
abbrev pub client_export : Side (List ℕ) → ClientCall → Export
client_export c (ClientStart idempotent object interface version operation n message) =
    client_start c.machine idempotent object interface version operation n
client_export c (ClientTransmit message out) = client_transmit c.machine message out
client_export c (ClientArrive p lent out) = client_arrive c.machine p.bytes (bytes_lent lent c.slots) out
client_export c (ClientTimer kind ticket out) = client_timer c.machine kind ticket out
client_export c (ClientCancel out) = client_cancel c.machine out

abbrev pub server_export : Side (List ℕ) → ServerCall → Export
server_export s (ServerArrive p lent out) = server_arrive s.machine p.bytes (bytes_lent lent s.slots) out
server_export s (ServerTransmit message out) = server_transmit s.machine message out
server_export s (ServerTimer kind ticket out) = server_timer s.machine kind ticket out
server_export s (ServerReply n message) = server_reply s.machine n
server_export s (ServerFault status out) = server_fault s.machine status out

abbrev pub exported : HostWorld → HostCall → Export
exported h (ToClient call) = client_export h.client call
exported h (ToServer call) = server_export h.server call

-- A side's own slot buffer after a call: only an arrival is lent one.
abbrev pub slots_of_client : Side (List ℕ) → ClientCall → Export → List ℕ
slots_of_client c (ClientStart idempotent object interface version operation n message) x = c.slots
slots_of_client c (ClientTransmit message out) x = c.slots
slots_of_client c (ClientArrive p lent out) x = own_after lent c.slots x.slots
slots_of_client c (ClientTimer kind ticket out) x = c.slots
slots_of_client c (ClientCancel out) x = c.slots

abbrev pub slots_of_server : Side (List ℕ) → ServerCall → Export → List ℕ
slots_of_server s (ServerArrive p lent out) x = own_after lent s.slots x.slots
slots_of_server s (ServerTransmit message out) x = s.slots
slots_of_server s (ServerTimer kind ticket out) x = s.slots
slots_of_server s (ServerReply n message) x = s.slots
slots_of_server s (ServerFault status out) x = s.slots

-- The turn as a host sees it: what it reads of the result, and the memory as the export left it.
abbrev pub turn_of : {Machine : Type 0} → (List ℕ → Machine) → Export → List ℕ → Turn Machine
turn_of record_in x slots = record {
  answer = answer_in x.result;
  notice = notice_in x.result;
  sent = sent_in x.result;
  out = x.out;
  machine = record_in x.bytes;
  slots = slots;
}

abbrev pub client_seen : Side (List ℕ) → ClientCall → Turn Client
client_seen c call = turn_of client_in (client_export c call) (slots_of_client c call (client_export c call))

abbrev pub server_seen : Side (List ℕ) → ServerCall → Turn Server
server_seen s call = turn_of server_in (server_export s call) (slots_of_server s call (server_export s call))

-- The call data of a start as they were handed in.
abbrev pub call_given : ℕ → List ℕ → List ℕ → ℕ → ℕ → Call
call_given idempotent object interface version operation = record {
  idempotent = eqb idempotent 1;
  object = object;
  interface = interface;
  version = version;
  operation = operation;
}

-- The books, by the rules of the theorem's world: the starts after a call,
abbrev pub starts_seen : List Started → ClientCall → Turn Client → List Started
starts_seen before (ClientStart idempotent object interface version operation n message) t =
    started_after before t (call_given idempotent object interface version operation) message
starts_seen before (ClientTransmit message out) t = before
starts_seen before (ClientArrive p lent out) t = before
starts_seen before (ClientTimer kind ticket out) t = before
starts_seen before (ClientCancel out) t = before

-- the cancels, of the start with that ordinal,
abbrev pub cancels_seen : List Cancelled → ClientCall → Turn Client → ℕ → List Cancelled
cancels_seen before (ClientStart idempotent object interface version operation n message) t ordinal = before
cancels_seen before (ClientTransmit message out) t ordinal = before
cancels_seen before (ClientArrive p lent out) t ordinal = before
cancels_seen before (ClientTimer kind ticket out) t ordinal = before
cancels_seen before (ClientCancel out) t ordinal = cancelled_after before t ordinal

-- the replies,
abbrev pub replies_seen : Books → ServerCall → Turn Server → List Replied
replies_seen b (ServerArrive p lent out) t = b.replies
replies_seen b (ServerTransmit message out) t = b.replies
replies_seen b (ServerTimer kind ticket out) t = b.replies
replies_seen b (ServerReply n message) t = replied_after b.replies t (last_dispatched b.dispatches) message
replies_seen b (ServerFault status out) t = b.replies

-- and what a call of the server is of.
abbrev pub subject_seen : World → ServerCall → Answer → Subject
subject_seen w (ServerArrive p lent out) answer = of_arrival w p answer
subject_seen w (ServerTransmit message out) answer = of_record w
subject_seen w (ServerTimer kind ticket out) answer = of_record w
subject_seen w (ServerReply n message) answer = of_record w
subject_seen w (ServerFault status out) answer = of_record w

-- A host's world whose records are those bytes, and that is w in all else.
abbrev pub keeping : List ℕ → List ℕ → World → HostWorld
keeping client server w = record {
  client = record { machine = client; slots = w.client.slots; sent = w.client.sent };
  server = record { machine = server; slots = w.server.slots; sent = w.server.sent };
  books = w.books;
}

-- What a host keeps after a call: the bytes that the export left, and what goes on record of the turn that it saw.
abbrev pub after_client : World → ClientCall → Turn Client → World
after_client w call t =
    client_world w t (starts_seen w.books.starts call t)
    (cancels_seen w.books.cancels call t (last_start w.books.starts))

abbrev pub after_server : World → ServerCall → Turn Server → World
after_server w call t = server_world w t (subject_seen w call t.answer) (replies_seen w.books call t)

unfoldable pub host_step : HostWorld → HostCall → HostWorld
host_step h (ToClient call) =
    keeping (client_export h.client call).bytes h.server.machine
    (after_client (world_of h) call (client_seen h.client call))
host_step h (ToServer call) =
    keeping h.client.machine (server_export h.server call).bytes
    (after_server (world_of h) call (server_seen h.server call))

-- After a list of calls.
unfoldable pub host_run : HostWorld → List HostCall → HostWorld
host_run h [] = h
host_run h (call ∷ calls) = host_run (host_step h call) calls
