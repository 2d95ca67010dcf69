-- What a row computes with: what unfolds one of these unfolds all that its line names.
use Rattle.words.specs.Choice
use Rattle.words.specs.Number
use Rattle.words.specs.Place
use Rattle.answers.specs.Table
use Rattle.pdu.specs.Header
use Rattle.reader.specs.Reading
use Rattle.incoming.specs.Slots
use Rattle.facks.specs.Mask
use Rattle.outgoing.specs.Message
use Rattle.outgoing.specs.Sending
use Rattle.timers.specs.Tickets
use Rattle.client.specs.records.States as ClientStates
use Rattle.client.specs.records.Rules as ClientRules
use Rattle.client.specs.records.Record as ClientRecord
use Rattle.client.specs.records.Named as ClientNamed
use Rattle.client.specs.judge.Rows as ClientRows
use Rattle.client.specs.judge.Refusals as ClientRefusals
use Rattle.client.specs.Machine as ClientMachine
use Rattle.server.specs.records.States as ServerStates
use Rattle.server.specs.records.Rules as ServerRules
use Rattle.server.specs.records.Record as ServerRecord
use Rattle.server.specs.judge.Rows as ServerRows
use Rattle.server.specs.judge.Refusals as ServerRefusals
use Rattle.server.specs.Machine as ServerMachine

-- Tests, messages and timers.
unfoldable pub shared : Unit {0}
unfolding Choice.choose Choice.both Choice.either
    Table.first_of
    Slots.slot_sound Slots.sound Slots.contiguous Slots.cleared Slots.slots_with Slots.stored
    Mask.last_contiguous Mask.mask_from Mask.mask_of
    Message.fragments
    Sending.next_serial Sending.sent_more Sending.after_send Sending.in_field Sending.message_of Sending.started_message Sending.no_message
    Sending.bounded Sending.has_message Sending.has_nothing
    Tickets.used_up Tickets.armed_with Tickets.off Tickets.sound Tickets.timer_sound
shared = tt

-- The reader.
unfoldable pub reads : Unit {0}
unfolding shared
    Number.number Place.put_at
    Header.header_of
    Reading.order_is Reading.reader_refusals Reading.read_refusals Reading.read_by Reading.reading
reads = tt

-- The client's start and timers.
unfoldable pub client_events : Unit {0}
unfolding shared
    ClientStates.may_start ClientStates.is_queued ClientStates.is_active ClientStates.is_waiting ClientStates.is_ack_pending
    ClientRules.counts_sound ClientRules.message_rule ClientRules.outgoing_sound ClientRules.timers_sound ClientRules.sound
    ClientRecord.fresh ClientRecord.with_outgoing
    ClientNamed.named_timer ClientNamed.named_by
    ClientRows.wait_row ClientRows.timer_row ClientRows.arms
    ClientRefusals.start_refusals ClientRefusals.start_verdict ClientRefusals.timer_refusals ClientRefusals.timer_verdict
    ClientMachine.refused ClientMachine.done ClientMachine.start_by ClientMachine.starting ClientMachine.sending
    ClientMachine.step_by ClientMachine.timing
client_events = tt

-- The server's reply and timer.
unfoldable pub server_events : Unit {0}
unfolding shared
    ServerStates.is_running ServerStates.is_held
    ServerRules.held_rule ServerRules.message_rule ServerRules.outgoing_sound ServerRules.sound
    ServerRecord.fresh ServerRecord.unarmed ServerRecord.with_outgoing
    ServerRows.is_row ServerRows.resend_held ServerRows.resend_row ServerRows.timer_cell ServerRows.arms ServerRows.arms_timer
    ServerRefusals.reply_refusals ServerRefusals.reply_verdict ServerRefusals.timer_refusals ServerRefusals.timer_verdict
    ServerMachine.refused ServerMachine.done ServerMachine.reply_by ServerMachine.replying ServerMachine.sending
    ServerMachine.step_by ServerMachine.timing
server_events = tt
