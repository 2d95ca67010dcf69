-- What a refused call leaves: all lent memory as it was, and a result that is the answer's number alone. And what 1 and
-- 2 judge of a call: its lengths, and whether the bytes lent as a record are readable.
use Rattle.std.specs.Prelude.{ℕ, Bool, true, not, List, [], ◌≡◌, eqb, leb, length, get_or}
use Rattle.words.specs.Choice.{both, either}
use Rattle.words.specs.Number.{number}
use Rattle.words.specs.Sizes.{pdu_size, slots_size, message_size}
use Rattle.answers.specs.Answer.{Done}
use Rattle.answers.specs.Number.{number_of}
use Rattle.calls.specs.declared.Notice.TheVariants.{Nothing as Untold}
use Rattle.calls.specs.Sent.{Nothing}
use Rattle.client_bytes.specs.Layout.{readable as client_readable}
use Rattle.server_bytes.specs.Layout.{readable as server_readable}
use Rattle.history.specs.World.{Side}
use Rattle.history.specs.Steps.{bytes_lent}
use Rattle.morphelai.specs.Export.{Export, sized}
use Rattle.host_history.specs.Results.{answer_in, notice_in, sent_in}
use Rattle.host_history.specs.Hosts.{HostWorld, ClientCall, ServerCall, HostCall, ClientStart, ClientTransmit, ClientArrive, ClientTimer, ClientCancel, ServerArrive, ServerTransmit, ServerTimer, ServerReply, ServerFault, ToClient, ToServer}
use Rattle.host_history.specs.Meaning.{startable}

-- The answer that a host reads is not 0.
abbrev pub Undone : Export → Type 0
Undone x = answer_in x.result ≡ Done → ⊥

-- Nothing beside the answer is in the result, so nothing is sent and the stub is told nothing; and the record's bytes,
-- the slot buffer and the PDU buffer are those that were lent.
pub record Refused (x : Export) (bytes slots out : List ℕ) : Type 0 where
  pub alone : x.result ≡ number_of (answer_in x.result)
  pub unsent : sent_in x.result ≡ Nothing
  pub untold : notice_in x.result ≡ Untold
  pub kept : x.bytes ≡ bytes
  pub stored : x.slots ≡ slots
  pub buffer : x.out ≡ out

-- The slot buffer that a call lends of a side's own or of another; none where it lends none.
abbrev pub client_lends : Side (List ℕ) → ClientCall → List ℕ
client_lends c (ClientStart idempotent object interface version operation n message) = []
client_lends c (ClientTransmit message out) = []
client_lends c (ClientArrive p lent out) = bytes_lent lent c.slots
client_lends c (ClientTimer kind ticket out) = []
client_lends c (ClientCancel out) = []

abbrev pub server_lends : Side (List ℕ) → ServerCall → List ℕ
server_lends s (ServerArrive p lent out) = bytes_lent lent s.slots
server_lends s (ServerTransmit message out) = []
server_lends s (ServerTimer kind ticket out) = []
server_lends s (ServerReply n message) = []
server_lends s (ServerFault status out) = []

-- The PDU buffer that it lends.
abbrev pub client_buffer : ClientCall → List ℕ
client_buffer (ClientStart idempotent object interface version operation n message) = []
client_buffer (ClientTransmit message out) = out
client_buffer (ClientArrive p lent out) = out
client_buffer (ClientTimer kind ticket out) = out
client_buffer (ClientCancel out) = out

abbrev pub server_buffer : ServerCall → List ℕ
server_buffer (ServerArrive p lent out) = out
server_buffer (ServerTransmit message out) = out
server_buffer (ServerTimer kind ticket out) = out
server_buffer (ServerReply n message) = []
server_buffer (ServerFault status out) = out

-- What a call lends of a host's memory.
abbrev pub record_lent : HostWorld → HostCall → List ℕ
record_lent h (ToClient call) = h.client.machine
record_lent h (ToServer call) = h.server.machine

abbrev pub slots_lent : HostWorld → HostCall → List ℕ
slots_lent h (ToClient call) = client_lends h.client call
slots_lent h (ToServer call) = server_lends h.server call

abbrev pub buffer_lent : HostCall → List ℕ
buffer_lent (ToClient call) = client_buffer call
buffer_lent (ToServer call) = server_buffer call

-- Whether the bytes are readable that a call lends as a record: those of the client, or of the server.
abbrev pub readable_at : HostWorld → HostCall → Bool
readable_at h (ToClient call) = client_readable h.client.machine
readable_at h (ToServer call) = server_readable h.server.machine

-- The message of a transmit has at most 44,544 bytes, and in the state that sends, by the state byte, as many as the
-- record says at 24.
abbrev pub message_sized : ℕ → List ℕ → List ℕ → Bool
message_sized sending bytes message =
    both (leb (length message) message_size)
    (either (not (eqb (get_or bytes 0 0) sending)) (eqb (length message) (number 4 true bytes 24)))

-- What 1 judges beside the record's length is as it should be: a PDU buffer has 1,472 bytes, a slot buffer 44,544, a
-- message at most 44,544, and a start's other arguments are an event's. The client sends in state 1, SEND_FRAGS,
abbrev pub client_sized : Side (List ℕ) → ClientCall → Bool
client_sized c (ClientStart idempotent object interface version operation n message) =
    both (startable idempotent object interface) (leb n message_size)
client_sized c (ClientTransmit message out) = both (eqb (length out) pdu_size) (message_sized 1 c.machine message)
client_sized c (ClientArrive p lent out) =
    both (eqb (length (bytes_lent lent c.slots)) slots_size) (eqb (length out) pdu_size)
client_sized c (ClientTimer kind ticket out) = eqb (length out) pdu_size
client_sized c (ClientCancel out) = eqb (length out) pdu_size

-- the server in state 5, REPLYING.
abbrev pub server_sized : Side (List ℕ) → ServerCall → Bool
server_sized s (ServerArrive p lent out) =
    both (eqb (length (bytes_lent lent s.slots)) slots_size) (eqb (length out) pdu_size)
server_sized s (ServerTransmit message out) = both (eqb (length out) pdu_size) (message_sized 5 s.machine message)
server_sized s (ServerTimer kind ticket out) = eqb (length out) pdu_size
server_sized s (ServerReply n message) = leb n message_size
server_sized s (ServerFault status out) = eqb (length out) pdu_size

-- 1 has nothing to refuse: the record has 272 bytes, and the rest is as it should be.
abbrev pub sized_at : HostWorld → HostCall → Bool
sized_at h (ToClient call) = both (sized h.client.machine) (client_sized h.client call)
sized_at h (ToServer call) = both (sized h.server.machine) (server_sized h.server call)
