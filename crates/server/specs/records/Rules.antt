-- The record rules of the server: a record that breaks one is refused with 2.
use Rattle.std.specs.Prelude.{Bool, ltb, leb}
use Rattle.words.specs.Choice.{both, either}
use Rattle.words.specs.Sizes.{retry_limit}
use Rattle.outgoing.specs.declared.Outgoing.{Outgoing}
use Rattle.outgoing.specs.Sending.{bounded, has_message, has_nothing}
use Rattle.incoming.specs.Slots.{sound as incoming_sound}
use Rattle.timers.specs.Tickets.{timer_sound}
use Rattle.server.specs.declared.records.Idle.{Idle}
use Rattle.server.specs.declared.records.Idle.TheVariants.{Fresh, Spent, Repeatable}
use Rattle.server.specs.declared.records.Reply.{Reply}
use Rattle.server.specs.declared.records.Reply.TheVariants.{Data, Fault}
use Rattle.server.specs.declared.records.State.{State}
use Rattle.server.specs.declared.records.State.TheVariants.{Idle as IdleState, Collect, Running, Replying, Held}
use Rattle.server.specs.declared.records.Server.{Server}
use Rattle.server.specs.records.States.{is_held}

-- In IDLE fresh no message is out; in IDLE spent and repeatable the reply still is, or a fault came and none is.
unfoldable pub idle_rule : Idle → Bool → Bool → Bool
idle_rule Fresh nothing message = nothing
idle_rule Spent nothing message = either nothing message
idle_rule Repeatable nothing message = either nothing message

-- In HELD the reply is out, where it is data.
unfoldable pub held_rule : Reply → Bool → Bool → Bool
held_rule Data nothing message = message
held_rule (Fault status) nothing message = nothing

-- In COLLECT and RUNNING no message is out; in REPLYING one is and sent is below its count.
unfoldable pub message_rule : State → Bool → Bool → Bool → Bool
message_rule (IdleState idle) nothing unsent message = idle_rule idle nothing message
message_rule Collect nothing unsent message = nothing
message_rule Running nothing unsent message = nothing
message_rule Replying nothing unsent message = unsent
message_rule (Held reply) nothing unsent message = held_rule reply nothing message

-- Sent and acknowledged at most the fragment count, which is the message length's where a message is out, else 0.
unfoldable pub outgoing_sound : State → Outgoing → Bool
outgoing_sound state o =
    both (bounded o) (message_rule state (has_nothing o) (both (has_message o) (ltb o.sent o.count)) (has_message o))

-- The record keeps its rules: the count at most 5, the message sent, the fragments held, and RESEND armed only in HELD.
-- The cancel number last seen may be any.
unfoldable pub sound : Server → Bool
sound s =
    both (leb s.resends retry_limit)
    (both (outgoing_sound s.state s.outgoing)
    (both (incoming_sound s.incoming)
    (timer_sound (is_held s.state) s.resend s.tickets)))
