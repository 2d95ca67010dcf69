-- What a host reads in the bytes of a record: the state, the timers that are armed, the cancel number, and the call
-- that is dispatched; and in those of a datagram.
use Rattle.std.specs.Prelude.{ℕ, Bool, true, false, List, ◌⊎◌, ◌≡◌, eqb, get_or}
use Rattle.words.specs.Number.{part, number as number_at}
use Rattle.pdu.specs.Header.{uuid_at}
use Rattle.history.specs.World.{Dispatched, Side}
use Rattle.host_history.specs.Hosts.{HostWorld, ClientTimer, HostCall, ServerArrive, ServerTransmit, ServerTimer, ServerReply, ServerFault, ToClient, ToServer}
use Rattle.host_history.specs.HandedUp.{server_parts}

-- The state stands at 0. Of the client 0 is QUEUED, 1 SEND_FRAGS, 2 DISPATCHED, 3 RECEIVE_FRAGS, 4 ACK_PENDING,
-- 5 COMPLETE, 6 FAULT; of the server 0 to 2 are IDLE, 4 is RUNNING, 6 and 7 are HELD.
abbrev pub state_byte : Side (List ℕ) → ℕ
state_byte side = get_or side.machine 0 0

-- The server is in RUNNING; the client is in ACK_PENDING or COMPLETE, where the call has its reply.
abbrev pub InRunning : Side (List ℕ) → Type 0
InRunning server = state_byte server ≡ 4

abbrev pub HasReply : Side (List ℕ) → Type 0
HasReply client = (state_byte client ≡ 4) ⊎ (state_byte client ≡ 5)

-- The states that name a timer: WAIT in DISPATCHED and RECEIVE_FRAGS, ACK in ACK_PENDING, CANCEL in the three of an
-- active call, SEND_FRAGS, DISPATCHED and RECEIVE_FRAGS, RESEND in HELD.
abbrev pub NamesWait : ℕ → Type 0
NamesWait state = (state ≡ 2) ⊎ (state ≡ 3)

abbrev pub NamesAck : ℕ → Type 0
NamesAck state = state ≡ 4

abbrev pub NamesCancel : ℕ → Type 0
NamesCancel state = (state ≡ 1) ⊎ ((state ≡ 2) ⊎ (state ≡ 3))

abbrev pub NamesResend : ℕ → Type 0
NamesResend state = (state ≡ 6) ⊎ (state ≡ 7)

-- The timers: the client's WAIT, ACK and CANCEL, the server's RESEND.
pub data HostTimer : Type 0 where
  WaitTimer : HostTimer
  AckTimer : HostTimer
  CancelTimer : HostTimer
  ResendTimer : HostTimer

-- Whether a timer is armed stands at 64, of ACK at 65, of CANCEL at 66; its ticket of eight bytes at 40, of ACK at 48,
-- of CANCEL at 56.
unfoldable pub mark_byte : HostWorld → HostTimer → ℕ
mark_byte h WaitTimer = get_or h.client.machine 64 0
mark_byte h AckTimer = get_or h.client.machine 65 0
mark_byte h CancelTimer = get_or h.client.machine 66 0
mark_byte h ResendTimer = get_or h.server.machine 64 0

unfoldable pub ticket_bytes : HostWorld → HostTimer → ℕ
ticket_bytes h WaitTimer = number_at 8 true h.client.machine 40
ticket_bytes h AckTimer = number_at 8 true h.client.machine 48
ticket_bytes h CancelTimer = number_at 8 true h.client.machine 56
ticket_bytes h ResendTimer = number_at 8 true h.server.machine 40

-- The bytes have that ticket armed.
pub record ArmedWith (h : HostWorld) (timer : HostTimer) (ticket : ℕ) : Type 0 where
  pub mark : mark_byte h timer ≡ 1
  pub same : ticket_bytes h timer ≡ ticket

-- The call of a timer that ran out: kinds 1, 2 and 4 of the client, 3 of the server.
unfoldable pub timer_call : HostTimer → ℕ → List ℕ → HostCall
timer_call WaitTimer ticket out = ToClient (ClientTimer 1 ticket out)
timer_call AckTimer ticket out = ToClient (ClientTimer 2 ticket out)
timer_call CancelTimer ticket out = ToClient (ClientTimer 4 ticket out)
timer_call ResendTimer ticket out = ToServer (ServerTimer 3 ticket out)

-- The cancel number of four bytes stands at 68: of the client that of its last cancel, of the server the last seen.
abbrev pub last_cancel : Side (List ℕ) → ℕ
last_cancel side = number_at 4 true side.machine 68

-- The last ticket that was armed stands at 32, in eight bytes.
abbrev pub last_ticket : Side (List ℕ) → ℕ
last_ticket side = number_at 8 true side.machine 32

-- The call number of four bytes stands at 16.
abbrev pub last_call : Side (List ℕ) → ℕ
last_call side = number_at 4 true side.machine 16

-- Of a datagram its type stands at 1, and 16 at 4 where its sender is little-endian. In the sender's order stand its
-- activity at 40 and its call number of four bytes at 64,
abbrev pub type_byte : List ℕ → ℕ
type_byte datagram = get_or datagram 1 0

abbrev pub is_little : List ℕ → Bool
is_little datagram = eqb (get_or datagram 4 0) 16

abbrev pub activity_carried : List ℕ → List ℕ
activity_carried datagram = uuid_at (is_little datagram) datagram 40

abbrev pub call_carried : List ℕ → ℕ
call_carried datagram = number_at 4 (is_little datagram) datagram 64

-- and in the body of a cancel or a cancel_ack its version of four bytes at 80 and its cancel number of four at 84.
abbrev pub version_carried : List ℕ → ℕ
version_carried datagram = number_at 4 (is_little datagram) datagram 80

abbrev pub cancel_carried : List ℕ → ℕ
cancel_carried datagram = number_at 4 (is_little datagram) datagram 84

-- A dispatch is what a host reads of the server: the parts of the message, and the call data in the record's bytes.
pub record ReadsDispatch (server : Side (List ℕ)) (d : Dispatched) : Type 0 where
  pub parts : server_parts server ≡ d.bytes
  pub number : last_call server ≡ d.number
  pub operation : number_at 2 true server.machine 14 ≡ d.call.operation
  pub version : number_at 4 true server.machine 20 ≡ d.call.version
  pub object : part 16 server.machine 112 ≡ d.call.object
  pub interface : part 16 server.machine 128 ≡ d.call.interface
  pub idempotent : eqb (get_or server.machine 1 0) 1 ≡ d.call.idempotent

-- The calls that end a run: reply and fault.
abbrev pub ends_run : HostCall → Bool
ends_run (ToClient call) = false
ends_run (ToServer (ServerArrive p lent out)) = false
ends_run (ToServer (ServerTransmit message out)) = false
ends_run (ToServer (ServerTimer kind ticket out)) = false
ends_run (ToServer (ServerReply n message)) = true
ends_run (ToServer (ServerFault status out)) = true
