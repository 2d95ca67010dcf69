-- Which timer an event names, and the states that have its row.
use Rattle.std.specs.Prelude.{Bool}
use Rattle.timers.specs.Timer.{Timer}
use Rattle.client.specs.declared.records.State.{State}
use Rattle.client.specs.declared.records.TimerKind.{TimerKind}
use Rattle.client.specs.declared.records.TimerKind.TheVariants.{Wait, Ack, Cancel}
use Rattle.client.specs.records.States.{is_active, is_waiting, is_ack_pending}

-- The timer of a kind.
unfoldable pub named_timer : TimerKind → Timer → Timer → Timer → Timer
named_timer Wait wait ack cancel = wait
named_timer Ack wait ack cancel = ack
named_timer Cancel wait ack cancel = cancel

-- The states that have the row of a timer.
unfoldable pub named_by : TimerKind → State → Bool
named_by Wait state = is_waiting state
named_by Ack state = is_ack_pending state
named_by Cancel state = is_active state
