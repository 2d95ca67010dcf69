-- Cancels: what a local cancel does, what answers it, and what the stub is told.
use Rattle.std.specs.Prelude.{ℕ, ◌+◌, ◌≤◌, ◌<◌, Bool, true, false, List, ◌∷◌, ◌++◌, ◌⊎◌, ◌≡◌, eqb, length}
use Rattle.words.specs.Choice.{both}
use Rattle.words.specs.Sizes.{pdu_size, slots_size}
use Rattle.answers.specs.Answer.{Done}
use Rattle.calls.specs.declared.Notice.TheVariants.{Cancel as CancelTold}
use Rattle.bodies.specs.Cancel.{cancel_reading, cancel_ack_reading}
use Rattle.pdu.specs.Header.{body_of}
use Rattle.reader.specs.Reading.{reading}
use Rattle.timers.specs.Timer.{Off, Armed}
use Rattle.client.specs.declared.records.Client.{Client}
use Rattle.client.specs.declared.records.TimerKind.TheVariants.{Cancel}
use Rattle.history.specs.Lists.{In, and_then, how_many}
use Rattle.history.specs.World.{Dispatched, Cancelled, Heard, SentPdu, Side, World}
use Rattle.history.specs.Events.{Lent, Event, ClientArrive, ClientCancel, ServerArrive, OfClient, OfServer}
use Rattle.history.specs.Steps.{bytes_lent, last_start, cancel_of, answer_to, notice_of, step}
use Rattle.history.specs.Dispatches.{runs}
use Rattle.history.specs.Timers.{timer_in, names_cancel, OnClient}
use Rattle.history.specs.Numbers.{client_calls}

-- A cancel_ack that the client has taken answers its last cancel: it has the client's call number and cancel number, and
-- CANCEL is off then.
pub record Answered (w : World) (e : Event) : Type 0 where
  pub pdu : SentPdu
  pub lent : Lent
  pub out : List ℕ
  pub is : e ≡ OfClient (ClientArrive pdu lent out)
  pub done : answer_to w e ≡ Done
  pub kind : (reading pdu.bytes).header.kind ≡ 10
  pub call : (reading pdu.bytes).header.number ≡ w.client.machine.number
  pub number : (cancel_ack_reading (reading pdu.bytes).little (body_of pdu.bytes)).number ≡ w.client.machine.cancels
  pub disarmed : timer_in (step w e) (OnClient Cancel) ≡ Off

-- CANCEL stays armed, with the ticket that it has, while the call is active: nothing but a cancel_ack of the last cancel
-- disarms it there, and nothing arms it afresh.
unfoldable pub StaysArmed : World → Type 0
StaysArmed w =
    (e : Event) (ticket : ℕ) → timer_in w (OnClient Cancel) ≡ Armed ticket → names_cancel (step w e).client.machine.state ≡ true
    → Answered w e ⊎ (timer_in (step w e) (OnClient Cancel) ≡ Armed ticket)

-- A local cancel that is answered 0 leaves CANCEL armed, and sends a cancel: one more PDU, of the last start, that the
-- reader takes, of type 8, with the client's call number, and with a body that has its cancel number then.
pub record Asked (w : World) (after : Side Client) : Type 0 where
  pub ticket : ℕ
  pub armed : after.machine.cancel ≡ Armed ticket
  pub pdu : SentPdu
  pub sent : after.sent ≡ and_then w.client.sent pdu
  pub ordinal : pdu.ordinal ≡ last_start w.books.starts
  pub read : (reading pdu.bytes).answer ≡ Done
  pub kind : (reading pdu.bytes).header.kind ≡ 8
  pub call : (reading pdu.bytes).header.number ≡ w.client.machine.number
  pub formed : (cancel_reading (reading pdu.bytes).little (body_of pdu.bytes)).answer ≡ Done
  pub number : cancel_of pdu ≡ after.machine.cancels

unfoldable pub CancelsSent : World → Type 0
CancelsSent w =
    (out : List ℕ) → answer_to w (OfClient (ClientCancel out)) ≡ Done → Asked w (step w (OfClient (ClientCancel out))).client

-- It is answered 0 in the three active states, where the PDU buffer has its length and a cancel number and a ticket are
-- left.
unfoldable pub CancelsTaken : World → Type 0
CancelsTaken w =
    (out : List ℕ) → names_cancel w.client.machine.state ≡ true → length out ≡ pdu_size
    → (w.client.machine.cancels ≡ 4294967295 → ⊥) → (w.client.machine.tickets ≡ 18446744073709551615 → ⊥)
    → answer_to w (OfClient (ClientCancel out)) ≡ Done

-- How often a start was cancelled at the client.
abbrev pub times_cancelled : ℕ → List Cancelled → ℕ
times_cancelled n = how_many (λ k. eqb n k.ordinal)

-- The client's cancel number is how often its last start was cancelled, and so it begins at 0 with each start.
unfoldable pub CancelsCounted : World → Type 0
CancelsCounted w =
    client_calls w.client.machine.state ≡ true
    → w.client.machine.cancels ≡ times_cancelled (last_start w.books.starts) w.books.cancels

-- A run is of a start: the dispatch of that place, counted from 1, is.
pub record RunOf (dispatches : List Dispatched) (run ordinal : ℕ) : Type 0 where
  pub before : List Dispatched
  pub dispatch : Dispatched
  pub after : List Dispatched
  pub split : dispatches ≡ before ++ (dispatch ∷ after)
  pub place : run ≡ length before + 1
  pub same : dispatch.ordinal ≡ ordinal

-- A cancel that the stub is told was asked for at the client, of that start and with that number, and the run that it is
-- told of is of that start.
pub record AskedFor (cancels : List Cancelled) (dispatches : List Dispatched) (h : Heard) : Type 0 where
  pub cancel : Cancelled
  pub asked : In cancel cancels
  pub ordinal : cancel.ordinal ≡ h.ordinal
  pub number : cancel.number ≡ h.number
  pub ran : RunOf dispatches h.run h.ordinal

unfoldable pub HeardAskedFor : World → Type 0
HeardAskedFor w = (h : Heard) → In h w.books.heard → AskedFor w.books.cancels w.books.dispatches h

-- How often the stub was told a cancel number in a run.
abbrev pub times_heard : ℕ → ℕ → List Heard → ℕ
times_heard run n = how_many (λ h. both (eqb run h.run) (eqb n h.number))

-- In each run it is told a number at most once,
unfoldable pub HeardOnce : World → Type 0
HeardOnce w = (run n : ℕ) → times_heard run n w.books.heard ≤ 1

-- and only by the server, while the call runs.
abbrev pub server_event : Event → Bool
server_event (OfClient e) = false
server_event (OfServer e) = true

unfoldable pub HeardRunning : World → Type 0
HeardRunning w =
    (e : Event) → notice_of w e ≡ CancelTold → (server_event e ≡ true) × (runs w.server.machine.state ≡ true)

-- A cancel of the server's call comes: the buffers lent have their lengths, the reader takes the PDU, its type is 8, it has
-- the server's activity and call number, and its body is well formed.
pub record OwnCancel (w : World) (p : SentPdu) (lent : Lent) (out : List ℕ) : Type 0 where
  pub slotted : length (bytes_lent lent w.server.slots) ≡ slots_size
  pub room : length out ≡ pdu_size
  pub read : (reading p.bytes).answer ≡ Done
  pub kind : (reading p.bytes).header.kind ≡ 8
  pub activity : (reading p.bytes).header.activity ≡ w.server.machine.activity
  pub call : (reading p.bytes).header.number ≡ w.server.machine.number
  pub formed : (cancel_reading (reading p.bytes).little (body_of p.bytes)).answer ≡ Done

-- One that comes in RUNNING, with a number above 0 and above all that were told in this run, is taken and told.
unfoldable pub Hears : World → Type 0
Hears w =
    (p : SentPdu) (lent : Lent) (out : List ℕ) → runs w.server.machine.state ≡ true → OwnCancel w p lent out
    → 0 < cancel_of p
    → ((h : Heard) → In h w.books.heard → h.run ≡ length w.books.dispatches → h.number < cancel_of p)
    → (answer_to w (OfServer (ServerArrive p lent out)) ≡ Done) × (notice_of w (OfServer (ServerArrive p lent out)) ≡ CancelTold)
