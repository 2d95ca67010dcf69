-- Timers: a late one changes nothing, a ticket acts once, and none is armed where no state names it.
use Rattle.std.specs.Prelude.{ℕ, Bool, true, false, List, ◌++◌, ◌⊎◌, ◌≡◌}
use Rattle.answers.specs.Answer.{Done}
use Rattle.calls.specs.declared.Notice.TheVariants.{Nothing as Untold}
use Rattle.incoming.specs.declared.Incoming.{Incoming}
use Rattle.reader.specs.Reading.{reading}
use Rattle.timers.specs.Timer.{Timer, Off, Armed}
use Rattle.client.specs.declared.records.State.{State as ClientState}
use Rattle.client.specs.declared.records.State.TheVariants.{Queued, SendFrags, Dispatched as DispatchedState, ReceiveFrags, AckPending, Complete, Fault as FaultState}
use Rattle.client.specs.declared.records.TimerKind.{TimerKind}
use Rattle.client.specs.declared.records.TimerKind.TheVariants.{Wait, Ack, Cancel}
use Rattle.server.specs.declared.records.State.{State as ServerState}
use Rattle.server.specs.declared.records.State.TheVariants.{Idle, Collect, Running, Replying, Held}
use Rattle.history.specs.World.{SentPdu, World}
use Rattle.history.specs.Events.{Lent, Event, ClientArrive, ClientTimer, ServerTimer, OfClient, OfServer}
use Rattle.history.specs.Steps.{answer_to, notice_of, left_in, step, run}

-- The timers of a world: the client's three and the server's RESEND.
pub data TimerOf : Type 0 where
  OnClient : TimerKind → TimerOf
  OnServer : TimerOf

unfoldable pub timer_in : World → TimerOf → Timer
timer_in w (OnClient Wait) = w.client.machine.wait
timer_in w (OnClient Ack) = w.client.machine.ack
timer_in w (OnClient Cancel) = w.client.machine.cancel
timer_in w OnServer = w.server.machine.resend

-- The event of a timer, with its ticket and a PDU buffer.
unfoldable pub timer_event : TimerOf → ℕ → List ℕ → Event
timer_event (OnClient kind) ticket out = OfClient (ClientTimer kind ticket out)
timer_event OnServer ticket out = OfServer (ServerTimer ticket out)

-- An event that changes nothing: it is refused, the stub is told nothing, the whole world is as it was, and so is
-- the PDU buffer.
pub record ChangesNothing (w : World) (e : Event) (out : List ℕ) : Type 0 where
  pub refused : answer_to w e ≡ Done → ⊥
  pub untold : notice_of w e ≡ Untold
  pub same : step w e ≡ w
  pub buffer : left_in w e ≡ out

-- A late timer changes nothing: where a ticket is not the armed one, its event is such,
unfoldable pub LateTimers : World → Type 0
LateTimers w =
    (timer : TimerOf) (ticket : ℕ) (out : List ℕ) → (timer_in w timer ≡ Armed ticket → ⊥)
    → ChangesNothing w (timer_event timer ticket out) out

-- a ticket that was armed and is no longer never is again,
unfoldable pub GoneTickets : World → List Event → Type 0
GoneTickets w events =
    (before between after : List Event) → events ≡ before ++ (between ++ after) → (timer : TimerOf) (ticket : ℕ)
    → timer_in (run w before) timer ≡ Armed ticket → (timer_in (run w (before ++ between)) timer ≡ Armed ticket → ⊥)
    → timer_in (run w events) timer ≡ Armed ticket → ⊥

-- and a ticket that acts is no longer armed.
unfoldable pub ActsOnce : World → Type 0
ActsOnce w =
    (timer : TimerOf) (ticket : ℕ) (out : List ℕ) → answer_to w (timer_event timer ticket out) ≡ Done
    → timer_in (step w (timer_event timer ticket out)) timer ≡ Armed ticket → ⊥

-- WAIT is armed afresh, or the waiting ends, by a working, 4, and by a response, 2, that changed what is held:
-- where such a one is taken, WAIT is not armed any more with the ticket that it had.
abbrev pub Renews : ℕ → Incoming → Incoming → Type 0
Renews kind before after = (kind ≡ 4) ⊎ ((kind ≡ 2) × (after ≡ before → ⊥))

unfoldable pub ArmedAfresh : World → Type 0
ArmedAfresh w =
    (p : SentPdu) (lent : Lent) (out : List ℕ) → answer_to w (OfClient (ClientArrive p lent out)) ≡ Done
    → Renews (reading p.bytes).header.kind w.client.machine.incoming
    (step w (OfClient (ClientArrive p lent out))).client.machine.incoming
    → (ticket : ℕ) → timer_in w (OnClient Wait) ≡ Armed ticket
    → timer_in (step w (OfClient (ClientArrive p lent out))) (OnClient Wait) ≡ Armed ticket → ⊥

-- A timer is armed only in the states that name it: WAIT in DISPATCHED and RECEIVE_FRAGS, ACK in ACK_PENDING, CANCEL in
-- the three active states SEND_FRAGS, DISPATCHED and RECEIVE_FRAGS, RESEND in HELD. So leaving a state disarms its
-- timer, and nothing is armed in a finished call: COMPLETE, FAULT, IDLE.
abbrev pub names_wait : ClientState → Bool
names_wait Queued = false
names_wait SendFrags = false
names_wait DispatchedState = true
names_wait ReceiveFrags = true
names_wait AckPending = false
names_wait Complete = false
names_wait FaultState = false

abbrev pub names_ack : ClientState → Bool
names_ack Queued = false
names_ack SendFrags = false
names_ack DispatchedState = false
names_ack ReceiveFrags = false
names_ack AckPending = true
names_ack Complete = false
names_ack FaultState = false

abbrev pub names_cancel : ClientState → Bool
names_cancel Queued = false
names_cancel SendFrags = true
names_cancel DispatchedState = true
names_cancel ReceiveFrags = true
names_cancel AckPending = false
names_cancel Complete = false
names_cancel FaultState = false

abbrev pub names_resend : ServerState → Bool
names_resend (Idle idle) = false
names_resend Collect = false
names_resend Running = false
names_resend Replying = false
names_resend (Held reply) = true

pub record Quiet (w : World) : Type 0 where
  pub wait : names_wait w.client.machine.state ≡ false → w.client.machine.wait ≡ Off
  pub ack : names_ack w.client.machine.state ≡ false → w.client.machine.ack ≡ Off
  pub cancel : names_cancel w.client.machine.state ≡ false → w.client.machine.cancel ≡ Off
  pub resend : names_resend w.server.machine.state ≡ false → w.server.machine.resend ≡ Off
