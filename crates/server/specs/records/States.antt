-- What document 01's sentences call the server's states by.
use Rattle.std.specs.Prelude.{Bool, true, false}
use Rattle.server.specs.declared.records.Idle.{Idle}
use Rattle.server.specs.declared.records.Idle.TheVariants.{Fresh, Spent, Repeatable}
use Rattle.server.specs.declared.records.State.{State}
use Rattle.server.specs.declared.records.State.TheVariants.{Idle as IdleState, Collect, Running, Replying, Held}

-- In IDLE fresh no call has come: the record has no number.
unfoldable pub never_called : Idle → Bool
never_called Fresh = true
never_called Spent = false
never_called Repeatable = false

unfoldable pub is_fresh : State → Bool
is_fresh (IdleState idle) = never_called idle
is_fresh Collect = false
is_fresh Running = false
is_fresh Replying = false
is_fresh (Held reply) = false

-- IDLE: no call is in progress.
unfoldable pub is_idle : State → Bool
is_idle (IdleState idle) = true
is_idle Collect = false
is_idle Running = false
is_idle Replying = false
is_idle (Held reply) = false

-- Reply and fault have a row in RUNNING.
unfoldable pub is_running : State → Bool
is_running (IdleState idle) = false
is_running Collect = false
is_running Running = true
is_running Replying = false
is_running (Held reply) = false

-- Transmit has a row in REPLYING.
unfoldable pub is_replying : State → Bool
is_replying (IdleState idle) = false
is_replying Collect = false
is_replying Running = false
is_replying Replying = true
is_replying (Held reply) = false

-- HELD names RESEND.
unfoldable pub is_held : State → Bool
is_held (IdleState idle) = false
is_held Collect = false
is_held Running = false
is_held Replying = false
is_held (Held reply) = true
