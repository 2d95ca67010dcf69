-- What is on the books is what a host does, is told and reads, at any further call.
use Rattle.std.specs.Prelude.{ℕ, Bool, true, false, List, ◌≡◌, length}
use Rattle.words.specs.Number.{number as number_at}
use Rattle.answers.specs.Answer.{Done}
use Rattle.calls.specs.declared.Call.{Call}
use Rattle.calls.specs.declared.Notice.TheVariants.{Last, Dispatch, Cancel}
use Rattle.history.specs.Lists.{and_then}
use Rattle.history.specs.World.{Started, Dispatched, Completed, Cancelled, Heard, SentPdu}
use Rattle.history.specs.Events.{Lent}
use Rattle.history.specs.Steps.{last_start, last_dispatched}
use Rattle.host_history.specs.Results.{answer_in, notice_in}
use Rattle.host_history.specs.Hosts.{HostWorld, HostCall, ClientStart, ClientTransmit, ClientArrive, ClientTimer, ClientCancel, ServerArrive, ServerTransmit, ServerTimer, ServerReply, ServerFault, ToClient, ToServer, call_given, exported, host_step}
use Rattle.host_history.specs.Meaning.{HostFits}
use Rattle.host_history.specs.HandedUp.{client_parts}
use Rattle.host_history.specs.HostReads.{InRunning, HasReply, last_cancel, type_byte, cancel_carried, ReadsDispatch}

-- A start that is answered 0 is one more: with the call data handed in, the message that it is for, and the number at
-- 16 in the client's bytes after it. Its ordinal is how many came before.
pub record StartGiven (before after : HostWorld) (call : Call) (message : List ℕ) : Type 0 where
  pub start : Started
  pub added : after.books.starts ≡ and_then before.books.starts start
  pub ordinal : start.ordinal ≡ length before.books.starts
  pub number : number_at 4 true after.client.machine 16 ≡ start.number
  pub same : start.call ≡ call
  pub whole : start.message ≡ message

abbrev pub is_start : HostCall → Bool
is_start (ToClient (ClientStart idempotent object interface version operation n message)) = true
is_start (ToClient (ClientTransmit message out)) = false
is_start (ToClient (ClientArrive p lent out)) = false
is_start (ToClient (ClientTimer kind ticket out)) = false
is_start (ToClient (ClientCancel out)) = false
is_start (ToServer call) = false

-- No other call adds one.
pub record StartsGiven (h : HostWorld) : Type 0 where
  pub taken :
      (idempotent : ℕ) (object interface : List ℕ) (version operation n : ℕ) (message : List ℕ)
      → let call = ToClient (ClientStart idempotent object interface version operation n message) in
      answer_in (exported h call).result ≡ Done
      → StartGiven h (host_step h call) (call_given idempotent object interface version operation) message
  pub none :
      (call : HostCall) → (is_start call ≡ true → answer_in (exported h call).result ≡ Done → ⊥)
      → (host_step h call).books.starts ≡ h.books.starts

-- A cancel that is answered 0 is one more, of the last start, with the number at 68 in the client's bytes after it.
pub record CancelGiven (before after : HostWorld) : Type 0 where
  pub cancel : Cancelled
  pub added : after.books.cancels ≡ and_then before.books.cancels cancel
  pub ordinal : cancel.ordinal ≡ last_start before.books.starts
  pub number : last_cancel after.client ≡ cancel.number

abbrev pub is_cancel : HostCall → Bool
is_cancel (ToClient (ClientStart idempotent object interface version operation n message)) = false
is_cancel (ToClient (ClientTransmit message out)) = false
is_cancel (ToClient (ClientArrive p lent out)) = false
is_cancel (ToClient (ClientTimer kind ticket out)) = false
is_cancel (ToClient (ClientCancel out)) = true
is_cancel (ToServer call) = false

pub record CancelsGiven (h : HostWorld) : Type 0 where
  pub taken :
      (out : List ℕ) → answer_in (exported h (ToClient (ClientCancel out))).result ≡ Done
      → CancelGiven h (host_step h (ToClient (ClientCancel out)))
  pub none :
      (call : HostCall) → (is_cancel call ≡ true → answer_in (exported h call).result ≡ Done → ⊥)
      → (host_step h call).books.cancels ≡ h.books.cancels

-- A reply that is answered 0 is one more, with the message that it is for, given to the start last dispatched.
abbrev pub is_reply : HostCall → Bool
is_reply (ToClient call) = false
is_reply (ToServer (ServerArrive p lent out)) = false
is_reply (ToServer (ServerTransmit message out)) = false
is_reply (ToServer (ServerTimer kind ticket out)) = false
is_reply (ToServer (ServerReply n message)) = true
is_reply (ToServer (ServerFault status out)) = false

pub record RepliesGiven (h : HostWorld) : Type 0 where
  pub taken :
      (n : ℕ) (message : List ℕ) → answer_in (exported h (ToServer (ServerReply n message))).result ≡ Done
      → (host_step h (ToServer (ServerReply n message))).books.replies
      ≡ and_then h.books.replies (record { ordinal = last_dispatched h.books.dispatches; message = message })
  pub none :
      (call : HostCall) → (is_reply call ≡ true → answer_in (exported h call).result ≡ Done → ⊥)
      → (host_step h call).books.replies ≡ h.books.replies

-- Where the result of a call tells "dispatch", one more is on the books, it is what the host then reads of the
-- server, and the server is in RUNNING;
pub record DispatchRead (before after : HostWorld) : Type 0 where
  pub dispatch : Dispatched
  pub added : after.books.dispatches ≡ and_then before.books.dispatches dispatch
  pub read : ReadsDispatch after.server dispatch
  pub running : InRunning after.server

-- where it tells anything else, there is none.
pub record DispatchesRead (h : HostWorld) : Type 0 where
  pub told :
      (call : HostCall) → HostFits call → notice_in (exported h call).result ≡ Dispatch
      → DispatchRead h (host_step h call)
  pub untold :
      (call : HostCall) → (notice_in (exported h call).result ≡ Dispatch → ⊥)
      → (host_step h call).books.dispatches ≡ h.books.dispatches

-- The same of "last": a call told complete is what the host then reads of the client, for its last start, and the
-- client is in ACK_PENDING or COMPLETE.
pub record CompletionRead (before after : HostWorld) : Type 0 where
  pub completion : Completed
  pub added : after.books.completions ≡ and_then before.books.completions completion
  pub parts : client_parts after.client ≡ completion.bytes
  pub last : completion.ordinal ≡ last_start after.books.starts
  pub answered : HasReply after.client

pub record CompletionsRead (h : HostWorld) : Type 0 where
  pub told :
      (call : HostCall) → HostFits call → notice_in (exported h call).result ≡ Last
      → CompletionRead h (host_step h call)
  pub untold :
      (call : HostCall) → (notice_in (exported h call).result ≡ Last → ⊥)
      → (host_step h call).books.completions ≡ h.books.completions

-- The same of "cancel", which only an arriving cancel tells, a PDU of type 8, and only in RUNNING, where the server
-- stays. What is told has the run, which is how many dispatches there are, the start that the PDU is of, and the
-- number that it carries, which then stands at 68 in the server's bytes.
pub record CancelRead (before : HostWorld) (call : HostCall) (after : HostWorld) : Type 0 where
  pub pdu : SentPdu
  pub lent : Lent
  pub out : List ℕ
  pub arrives : call ≡ ToServer (ServerArrive pdu lent out)
  pub cancel : type_byte pdu.bytes ≡ 8
  pub running : InRunning before.server
  pub heard : Heard
  pub added : after.books.heard ≡ and_then before.books.heard heard
  pub run : heard.run ≡ length before.books.dispatches
  pub ordinal : heard.ordinal ≡ pdu.ordinal
  pub number : heard.number ≡ cancel_carried pdu.bytes
  pub seen : last_cancel after.server ≡ heard.number
  pub still : InRunning after.server

pub record CancelsRead (h : HostWorld) : Type 0 where
  pub told :
      (call : HostCall) → HostFits call → notice_in (exported h call).result ≡ Cancel
      → CancelRead h call (host_step h call)
  pub untold :
      (call : HostCall) → (notice_in (exported h call).result ≡ Cancel → ⊥)
      → (host_step h call).books.heard ≡ h.books.heard
