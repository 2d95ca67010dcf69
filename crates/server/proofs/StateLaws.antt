-- What the tests of a state tell of it.
use mathlib.Core.Bool.{true, false, false≢true}
use mathlib.Core.Path.{◌≡◌, refl}
use Rattle.server.specs.declared.records.Reply.{Reply}
use Rattle.server.specs.declared.records.State.{State}
use Rattle.server.specs.declared.records.State.TheVariants.{Idle as IdleState, Collect, Running, Replying, Held}
use Rattle.server.specs.records.States.{is_idle, is_running, is_replying, is_held}

-- Reply's and fault's is RUNNING.
pub running_state : (state : State) → is_running state ≡ true → state ≡ Running
unfolding is_running
running_state (IdleState idle) e = absurd (false≢true e)
running_state Collect e = absurd (false≢true e)
running_state Running e = refl
running_state Replying e = absurd (false≢true e)
running_state (Held reply) e = absurd (false≢true e)

-- Transmit's is REPLYING.
pub replying_state : (state : State) → is_replying state ≡ true → state ≡ Replying
unfolding is_replying
replying_state (IdleState idle) e = absurd (false≢true e)
replying_state Collect e = absurd (false≢true e)
replying_state Running e = absurd (false≢true e)
replying_state Replying e = refl
replying_state (Held reply) e = absurd (false≢true e)

-- What is held in HELD.
pub record HeldWith (state : State) : Type 0 where
  pub reply : Reply
  pub is : state ≡ Held reply

-- RESEND's is HELD, with some reply.
pub held_state : (state : State) → is_held state ≡ true → HeldWith state
unfolding is_held
held_state (IdleState idle) e = absurd (false≢true e)
held_state Collect e = absurd (false≢true e)
held_state Running e = absurd (false≢true e)
held_state Replying e = absurd (false≢true e)
held_state (Held reply) e = record { reply = reply; is = refl }

-- IDLE does not name RESEND.
pub idle_state : (state : State) → is_idle state ≡ true → is_held state ≡ false
unfolding is_idle is_held
idle_state (IdleState idle) e = refl
idle_state Collect e = absurd (false≢true e)
idle_state Running e = absurd (false≢true e)
idle_state Replying e = absurd (false≢true e)
idle_state (Held reply) e = absurd (false≢true e)
