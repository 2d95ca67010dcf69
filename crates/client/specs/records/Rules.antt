-- The record rules of the client: a record that breaks one is refused with 2.
use Rattle.std.specs.Prelude.{ℕ, Bool, nat_le, nat_lt}
use Rattle.words.specs.Choice.{both}
use Rattle.words.specs.Sizes.{retry_limit}
use Rattle.outgoing.specs.declared.Outgoing.{Outgoing}
use Rattle.outgoing.specs.Sending.{bounded, has_message, has_nothing}
use Rattle.incoming.specs.Slots.{sound as incoming_sound}
use Rattle.timers.specs.Timer.{Timer}
use Rattle.timers.specs.Tickets.{timer_sound}
use Rattle.client.specs.declared.records.State.{State}
use Rattle.client.specs.declared.records.State.TheVariants.{Queued, SendFrags, Dispatched, ReceiveFrags, AckPending, Complete, Fault}
use Rattle.client.specs.declared.records.Client.{Client}
use Rattle.client.specs.records.States.{is_active, is_waiting, is_ack_pending}

-- Counts at most 5.
unfoldable pub counts_sound : ℕ → ℕ → Bool
counts_sound waits resends = both (nat_le waits retry_limit) (nat_le resends retry_limit)

-- In QUEUED no message is out; in SEND_FRAGS one is and sent is below its count; in the others one is.
unfoldable pub message_rule : State → Bool → Bool → Bool → Bool
message_rule Queued nothing unsent message = nothing
message_rule SendFrags nothing unsent message = unsent
message_rule Dispatched nothing unsent message = message
message_rule ReceiveFrags nothing unsent message = message
message_rule AckPending nothing unsent message = message
message_rule Complete nothing unsent message = message
message_rule Fault nothing unsent message = message

-- Sent and acknowledged at most the fragment count, which is the message length's where a message is out, else 0.
unfoldable pub outgoing_sound : State → Outgoing → Bool
outgoing_sound state o =
    both (bounded o) (message_rule state (has_nothing o) (both (has_message o) (nat_lt o.sent o.count)) (has_message o))

-- WAIT is armed only where the state is waiting, ACK only in ACK_PENDING, CANCEL only in the three active states, each with
-- a ticket at most the counter.
unfoldable pub timers_sound : State → Timer → Timer → Timer → ℕ → Bool
timers_sound state wait ack cancel tickets =
    both (timer_sound (is_waiting state) wait tickets)
    (both (timer_sound (is_ack_pending state) ack tickets)
    (timer_sound (is_active state) cancel tickets))

-- The record keeps its rules; those of the fragments held are the crate incoming's. The cancel number may be any.
unfoldable pub sound : Client → Bool
sound c =
    both (counts_sound c.waits c.resends)
    (both (outgoing_sound c.state c.outgoing)
    (both (incoming_sound c.incoming)
    (timers_sound c.state c.wait c.ack c.cancel c.tickets)))
