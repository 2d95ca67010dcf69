-- Demand 3, of a host that calls exports only, in its own terms: the bytes that it keeps, what exports give back, and
-- the parts that it reads.
use Rattle.std.specs.Prelude.{ℕ, ◌≤◌, ◌<◌, true, false, List, [], ◌++◌, ◌⊎◌, ◌≡◌, length, get_or, take, drop}
use Rattle.words.specs.Number.{part, number as number_at}
use Rattle.words.specs.Sizes.{pdu_size, slots_size}
use Rattle.answers.specs.Answer.{Done}
use Rattle.calls.specs.declared.Notice.{Notice}
use Rattle.calls.specs.declared.Notice.TheVariants.{Nothing as Untold, Cancel}
use Rattle.calls.specs.Sent.{Nothing}
use Rattle.fragments.specs.Joined.{Leads}
use Rattle.history.specs.Lists.{In, and_then}
use Rattle.history.specs.World.{call_number, Started, Dispatched, Replied, Completed, Heard, SentPdu}
use Rattle.history.specs.Events.{Lent}
use Rattle.history.specs.Steps.{bytes_lent, last_start}
use Rattle.history.specs.Dispatches.{times, DispatchOf, WholeMessage}
use Rattle.history.specs.Replies.{WholeReply}
use Rattle.history.specs.Cancels.{times_cancelled, AskedFor, times_heard}
use Rattle.morphelai.specs.CodecDoor.{codec_read}
use Rattle.host_history.specs.Results.{answer_in, notice_in, sent_in}
use Rattle.host_history.specs.Hosts.{HostWorld, HostCall, ClientArrive, ClientTimer, ClientCancel, ServerArrive, ServerTimer, ToClient, ToServer, exported, host_step, host_run}
use Rattle.host_history.specs.Meaning.{HostFits}
use Rattle.host_history.specs.Refusal.{buffer_lent}
use Rattle.host_history.specs.HandedUp.{client_parts}
use Rattle.host_history.specs.HostReads.{state_byte, InRunning, HasReply, NamesWait, NamesAck, NamesCancel, NamesResend, HostTimer, WaitTimer, AckTimer, CancelTimer, ResendTimer, mark_byte, ArmedWith, timer_call, last_cancel, last_ticket, last_call, type_byte, activity_carried, call_carried, version_carried, cancel_carried, ReadsDispatch, ends_run}
use Rattle.host_history.specs.HostBooks.{StartsGiven, CancelsGiven, RepliesGiven, DispatchesRead, CompletionsRead, CancelsRead}

-- A start that is not marked idempotent is dispatched at most once.
unfoldable pub DispatchedOnce : HostWorld → Type 0
DispatchedOnce h =
    (s : Started) → In s h.books.starts → s.call.idempotent ≡ false
    → times s.ordinal h.books.dispatches ≤ 1

-- Each dispatch has the whole message of its one start, and its call data.
unfoldable pub DispatchesWhole : HostWorld → Type 0
DispatchesWhole h = (d : Dispatched) → In d h.books.dispatches → WholeMessage h.books.starts d

-- Both have the call number of their start, so a number names its start.
pub record Numbers (h : HostWorld) : Type 0 where
  pub starts : (s : Started) → In s h.books.starts → s.number ≡ call_number s.ordinal
  pub dispatches : (d : Dispatched) → In d h.books.dispatches → d.number ≡ call_number d.ordinal

-- While a call runs, in RUNNING, a host still reads all of what was last dispatched;
pub record RunReads (h : HostWorld) : Type 0 where
  pub before : List Dispatched
  pub dispatch : Dispatched
  pub last : h.books.dispatches ≡ and_then before dispatch
  pub read : ReadsDispatch h.server dispatch
  pub whole : WholeMessage h.books.starts dispatch

unfoldable pub RunningWhole : HostWorld → Type 0
RunningWhole h = InRunning h.server → RunReads h

-- and no further call but reply or fault changes the server's bytes, its slot buffer or the dispatches. Only where the
-- host is told "cancel" is the cancel number at 68 another one and greater, and all other bytes are as they were.
pub record OnlyRaised (before after : List ℕ) : Type 0 where
  pub front : take 68 after ≡ take 68 before
  pub raised : number_at 4 true before 68 < number_at 4 true after 68
  pub back : drop 72 after ≡ drop 72 before

pub record ServerSame (before after : HostWorld) (notice : Notice) : Type 0 where
  pub bytes :
      (after.server.machine ≡ before.server.machine)
      ⊎ ((notice ≡ Cancel) × OnlyRaised before.server.machine after.server.machine)
  pub slots : after.server.slots ≡ before.server.slots
  pub dispatches : after.books.dispatches ≡ before.books.dispatches

unfoldable pub RunningAlone : HostWorld → Type 0
RunningAlone h =
    (call : HostCall) → HostFits call → InRunning h.server → ends_run call ≡ false
    → ServerSame h (host_step h call) (notice_in (exported h call).result)

-- A reply is given to a start that was dispatched.
unfoldable pub RepliesDispatched : HostWorld → Type 0
RepliesDispatched h = (r : Replied) → In r h.books.replies → DispatchOf h.books.dispatches r.ordinal

-- What a host reads of the client is nothing, or leads one reply to the last start.
pub record ReplyLed (h : HostWorld) : Type 0 where
  pub reply : Replied
  pub given : In reply h.books.replies
  pub last : reply.ordinal ≡ last_start h.books.starts
  pub leads : Leads (client_parts h.client) reply.message

unfoldable pub OneReplyRead : HostWorld → Type 0
OneReplyRead h = (client_parts h.client ≡ []) ⊎ ReplyLed h

-- A call told complete has the whole of one reply to its start;
unfoldable pub CompletionsWhole : HostWorld → Type 0
CompletionsWhole h = (c : Completed) → In c h.books.completions → WholeReply h.books.replies c

-- and in ACK_PENDING and COMPLETE a host reads the whole of one reply to the last start.
pub record ReplyRead (h : HostWorld) : Type 0 where
  pub reply : Replied
  pub given : In reply h.books.replies
  pub last : reply.ordinal ≡ last_start h.books.starts
  pub whole : client_parts h.client ≡ reply.message

unfoldable pub AnsweredWhole : HostWorld → Type 0
AnsweredWhole h = HasReply h.client → ReplyRead h

-- It only grows: while no further start is accepted, what was read before leads what is read later.
unfoldable pub ReplyGrows : HostWorld → List HostCall → Type 0
ReplyGrows h calls =
    (before after : List HostCall) → calls ≡ before ++ after
    → (host_run h calls).books.starts ≡ (host_run h before).books.starts
    → Leads (client_parts (host_run h before).client) (client_parts (host_run h calls).client)

-- A call that does nothing: it is not answered 0, tells nothing, sends nothing, and all that the host keeps and lent
-- is as it was.
pub record DoesNothing (h : HostWorld) (call : HostCall) : Type 0 where
  pub refused : answer_in (exported h call).result ≡ Done → ⊥
  pub untold : notice_in (exported h call).result ≡ Untold
  pub unsent : sent_in (exported h call).result ≡ Nothing
  pub same : host_step h call ≡ h
  pub buffer : (exported h call).out ≡ buffer_lent call

-- A late timer does nothing: one whose ticket the bytes do not have armed, since the mark is 0 or the ticket another;
unfoldable pub LateDoesNothing : HostWorld → Type 0
LateDoesNothing h =
    (timer : HostTimer) (ticket : ℕ) (out : List ℕ) → HostFits (timer_call timer ticket out)
    → (ArmedWith h timer ticket → ⊥) → DoesNothing h (timer_call timer ticket out)

-- so does a timer's call of a kind that the side does not have: the client has 1, 2 and 4, the server 3;
pub record StrangeDoesNothing (h : HostWorld) : Type 0 where
  pub client :
      (kind ticket : ℕ) (out : List ℕ)
      → let call = ToClient (ClientTimer kind ticket out) in
      HostFits call → (kind ≡ 1 → ⊥) → (kind ≡ 2 → ⊥) → (kind ≡ 4 → ⊥) → DoesNothing h call
  pub server :
      (kind ticket : ℕ) (out : List ℕ)
      → let call = ToServer (ServerTimer kind ticket out) in
      HostFits call → (kind ≡ 3 → ⊥) → DoesNothing h call

-- a ticket that was armed and is no longer never is again;
unfoldable pub TicketsGone : HostWorld → List HostCall → Type 0
TicketsGone h calls =
    (before between after : List HostCall) → calls ≡ before ++ (between ++ after) → (timer : HostTimer) (ticket : ℕ)
    → ArmedWith (host_run h before) timer ticket → (ArmedWith (host_run h (before ++ between)) timer ticket → ⊥)
    → ArmedWith (host_run h calls) timer ticket → ⊥

-- and a ticket that acts is no longer armed.
unfoldable pub TicketsActOnce : HostWorld → Type 0
TicketsActOnce h =
    (timer : HostTimer) (ticket : ℕ) (out : List ℕ) → HostFits (timer_call timer ticket out)
    → answer_in (exported h (timer_call timer ticket out)).result ≡ Done
    → ArmedWith (host_step h (timer_call timer ticket out)) timer ticket → ⊥

-- Nor is WAIT, with the ticket that it had, after an arriving working, whose byte 1 is 4, that is answered 0, or after
-- such a response, 2, that changed what is held: the known last at 10, or the slots from 144 on.
pub record HeldSame (before after : List ℕ) : Type 0 where
  pub last : number_at 2 true after 10 ≡ number_at 2 true before 10
  pub slots : drop 144 after ≡ drop 144 before

abbrev pub RenewsWait : ℕ → List ℕ → List ℕ → Type 0
RenewsWait kind before after = (kind ≡ 4) ⊎ ((kind ≡ 2) × (HeldSame before after → ⊥))

unfoldable pub WaitAfresh : HostWorld → Type 0
WaitAfresh h =
    (p : SentPdu) (lent : Lent) (out : List ℕ)
    → let call = ToClient (ClientArrive p lent out) in
    HostFits call → answer_in (exported h call).result ≡ Done
    → RenewsWait (type_byte p.bytes) h.client.machine (host_step h call).client.machine → (ticket : ℕ)
    → ArmedWith h WaitTimer ticket → ArmedWith (host_step h call) WaitTimer ticket → ⊥

-- A timer is armed only in the states that name it, and the server has no second or third timer. So nothing is armed
-- in a finished call: COMPLETE, 5, FAULT, 6, and IDLE, 0 to 2.
abbrev pub NothingArmed : HostWorld → Type 0
NothingArmed h = (mark_byte h WaitTimer ≡ 0) × (mark_byte h AckTimer ≡ 0) × (mark_byte h CancelTimer ≡ 0)

pub record QuietBytes (h : HostWorld) : Type 0 where
  pub wait : (NamesWait (state_byte h.client) → ⊥) → mark_byte h WaitTimer ≡ 0
  pub ack : (NamesAck (state_byte h.client) → ⊥) → mark_byte h AckTimer ≡ 0
  pub cancel : (NamesCancel (state_byte h.client) → ⊥) → mark_byte h CancelTimer ≡ 0
  pub resend : (NamesResend (state_byte h.server) → ⊥) → mark_byte h ResendTimer ≡ 0
  pub second : get_or h.server.machine 65 0 ≡ 0
  pub third : get_or h.server.machine 66 0 ≡ 0
  pub complete : state_byte h.client ≡ 5 → NothingArmed h
  pub fault : state_byte h.client ≡ 6 → NothingArmed h
  pub idle : state_byte h.server ≤ 2 → mark_byte h ResendTimer ≡ 0

-- CANCEL stays armed, with the ticket that it has, while the call is active, in states 1 to 3: nothing disarms it
-- there but an arriving cancel_ack, type 10, that is answered 0 and carries the client's call number and cancel number,
-- and nothing arms it afresh.
pub record CancelAnswered (h : HostWorld) (call : HostCall) : Type 0 where
  pub pdu : SentPdu
  pub lent : Lent
  pub out : List ℕ
  pub arrives : call ≡ ToClient (ClientArrive pdu lent out)
  pub taken : answer_in (exported h call).result ≡ Done
  pub cancel-ack : type_byte pdu.bytes ≡ 10
  pub call-number : call_carried pdu.bytes ≡ last_call h.client
  pub number : cancel_carried pdu.bytes ≡ last_cancel h.client
  pub disarmed : (ticket : ℕ) → ArmedWith (host_step h call) CancelTimer ticket → ⊥

unfoldable pub CancelStays : HostWorld → Type 0
CancelStays h =
    (call : HostCall) → HostFits call → (ticket : ℕ) → ArmedWith h CancelTimer ticket
    → NamesCancel (state_byte (host_step h call).client)
    → CancelAnswered h call ⊎ ArmedWith (host_step h call) CancelTimer ticket

-- A cancel is answered 0 in states 1 to 3, where the PDU buffer has its length, and a cancel number and a ticket are left.
unfoldable pub CancelsTaken : HostWorld → Type 0
CancelsTaken h =
    (out : List ℕ)
    → let call = ToClient (ClientCancel out) in
    HostFits call → NamesCancel (state_byte h.client) → length out ≡ pdu_size
    → (last_cancel h.client ≡ 4294967295 → ⊥) → (last_ticket h.client ≡ 18446744073709551615 → ⊥)
    → answer_in (exported h call).result ≡ Done

-- One that is answered 0 leaves CANCEL armed and sends a PDU more, of the last start: type 8, with the call number at 16,
-- version 0 and the cancel number that then stands at 68.
pub record CancelSent (before after : HostWorld) : Type 0 where
  pub ticket : ℕ
  pub armed : ArmedWith after CancelTimer ticket
  pub pdu : SentPdu
  pub sent : after.client.sent ≡ and_then before.client.sent pdu
  pub ordinal : pdu.ordinal ≡ last_start before.books.starts
  pub cancel : type_byte pdu.bytes ≡ 8
  pub call : call_carried pdu.bytes ≡ last_call before.client
  pub version : version_carried pdu.bytes ≡ 0
  pub number : cancel_carried pdu.bytes ≡ last_cancel after.client

unfoldable pub CancelsSent : HostWorld → Type 0
CancelsSent h =
    (out : List ℕ)
    → let call = ToClient (ClientCancel out) in
    HostFits call → answer_in (exported h call).result ≡ Done → CancelSent h (host_step h call)

-- The client's cancel number is how often its last start was cancelled, wherever it has a call: not in QUEUED, 0.
unfoldable pub CancelNumberCounts : HostWorld → Type 0
CancelNumberCounts h =
    (state_byte h.client ≡ 0 → ⊥)
    → last_cancel h.client ≡ times_cancelled (last_start h.books.starts) h.books.cancels

-- A cancel that a host is told was asked for at the client, of that start and with that number, and the run that it is
-- told of is of that start.
unfoldable pub CancelsAsked : HostWorld → Type 0
CancelsAsked h =
    (heard : Heard) → In heard h.books.heard → AskedFor h.books.cancels h.books.dispatches heard

-- In each run it is told a number at most once;
unfoldable pub CancelsOnce : HostWorld → Type 0
CancelsOnce h = (run number : ℕ) → times_heard run number h.books.heard ≤ 1

-- and a cancel of the server's call that arrives in RUNNING with a number above 0 and above all that were told in this
-- run is answered 0 and told. Such a cancel has 88 bytes that morphelai_read answers 0, type 8, version 0, and the
-- server's activity and call number; and the buffers lent for it have their lengths.
pub record OwnCancel (h : HostWorld) (p : SentPdu) (lent : Lent) (out : List ℕ) : Type 0 where
  pub slotted : length (bytes_lent lent h.server.slots) ≡ slots_size
  pub room : length out ≡ pdu_size
  pub header : List ℕ
  pub read : (codec_read p.bytes header).result ≡ 0
  pub cancel : type_byte p.bytes ≡ 8
  pub activity : activity_carried p.bytes ≡ part 16 h.server.machine 96
  pub call : call_carried p.bytes ≡ last_call h.server
  pub size : length p.bytes ≡ 88
  pub version : version_carried p.bytes ≡ 0

unfoldable pub CancelsTold : HostWorld → Type 0
CancelsTold h =
    (p : SentPdu) (lent : Lent) (out : List ℕ)
    → let call = ToServer (ServerArrive p lent out) in
    HostFits call → InRunning h.server → OwnCancel h p lent out → 0 < cancel_carried p.bytes
    → ((heard : Heard) → In heard h.books.heard → heard.run ≡ length h.books.dispatches
    → heard.number < cancel_carried p.bytes)
    → (answer_in (exported h call).result ≡ Done) × (notice_in (exported h call).result ≡ Cancel)

-- All of it, of what a host keeps after a list of calls. It holds after every beginning of the list too
-- (`always_demanded`), so of each of the calls.
pub record HostDemand (h : HostWorld) (calls : List HostCall) : Type 0 where
  -- A call that is not idempotent is dispatched at most once.
  pub once : DispatchedOnce (host_run h calls)
  -- A start, a cancel or a reply is on the books where the host gave it and it was answered 0; a dispatch, a call told
  -- complete and a cancel told, where the host is told so, and it is what the host then reads.
  pub starts : StartsGiven (host_run h calls)
  pub cancels : CancelsGiven (host_run h calls)
  pub replies : RepliesGiven (host_run h calls)
  pub dispatches : DispatchesRead (host_run h calls)
  pub completions : CompletionsRead (host_run h calls)
  pub told : CancelsRead (host_run h calls)
  -- A dispatch gets a whole message and its call data,
  pub whole : DispatchesWhole (host_run h calls)
  -- under the number of its start,
  pub numbers : Numbers (host_run h calls)
  -- and the host reads all of it still while the call runs.
  pub running : RunningWhole (host_run h calls)
  -- Nothing but its reply or fault touches a call that runs, and a cancel that is told only its cancel number.
  pub alone : RunningAlone (host_run h calls)
  -- Replies are given to what was dispatched.
  pub replied : RepliesDispatched (host_run h calls)
  -- One of them is read,
  pub reply : OneReplyRead (host_run h calls)
  -- whole when the host is told "last",
  pub complete : CompletionsWhole (host_run h calls)
  -- and whole from then on.
  pub answered : AnsweredWhole (host_run h calls)
  -- What is read only grows.
  pub grows : ReplyGrows h calls
  -- A late timer does nothing.
  pub late : LateDoesNothing (host_run h calls)
  -- So does one of a kind that the side does not have.
  pub strange : StrangeDoesNothing (host_run h calls)
  -- A ticket that is no longer armed is late for good,
  pub gone : TicketsGone h calls
  -- and a ticket that has acted is no longer armed,
  pub acts : TicketsActOnce (host_run h calls)
  -- nor is WAIT's after a working, or after a response that was put.
  pub afresh : WaitAfresh (host_run h calls)
  -- No timer is armed where no state names it, and so none in a finished call.
  pub quiet : QuietBytes (host_run h calls)
  -- CANCEL stays armed until the cancel is answered or the call ends.
  pub stays : CancelStays (host_run h calls)
  -- A cancel of an active call is accepted,
  pub taken : CancelsTaken (host_run h calls)
  -- and sent, with CANCEL armed.
  pub sent : CancelsSent (host_run h calls)
  -- The client's cancel number counts the cancels of its call.
  pub counted : CancelNumberCounts (host_run h calls)
  -- The host is told cancels that were asked for,
  pub asked : CancelsAsked (host_run h calls)
  -- each at most once in a run,
  pub heard : CancelsOnce (host_run h calls)
  -- and every one that comes in time.
  pub hears : CancelsTold (host_run h calls)
