-- What a run computes with: what unfolds one of these unfolds all that its line names.
use Rattle.words.specs.Choice
use Rattle.answers.specs.Table
use Rattle.flags.specs.Flags
use Rattle.bodies.specs.Fack as FackBody
use Rattle.bodies.specs.Cancel as CancelBody
use Rattle.bodies.specs.Status as StatusBody
use Rattle.incoming.specs.Slots
use Rattle.outgoing.specs.Lent
use Rattle.outgoing.specs.Message
use Rattle.outgoing.specs.Sending
use Rattle.fragments.specs.Fragment
use Rattle.fragments.specs.Judgement
use Rattle.fragments.specs.Put
use Rattle.timers.specs.Tickets
use Rattle.facks.specs.Mask
use Rattle.calls.specs.Sent
use Rattle.client.specs.records.States as ClientStates
use Rattle.client.specs.records.Rules as ClientRules
use Rattle.client.specs.records.Record as ClientRecord
use Rattle.client.specs.records.Named as ClientNamed
use Rattle.client.specs.judge.Rows as ClientRows
use Rattle.client.specs.judge.Refusals as ClientRefusals
use Rattle.client.specs.step.Plan as ClientPlan
use Rattle.client.specs.step.Steps as ClientSteps
use Rattle.client.specs.Sending as ClientSending
use Rattle.client.specs.Machine as ClientMachine
use Rattle.server.specs.records.States as ServerStates
use Rattle.server.specs.records.Rules as ServerRules
use Rattle.server.specs.records.Record as ServerRecord
use Rattle.server.specs.records.Repeatable as ServerRepeatable
use Rattle.server.specs.judge.Rows as ServerRows
use Rattle.server.specs.judge.Refusals as ServerRefusals
use Rattle.server.specs.step.Plan as ServerPlan
use Rattle.server.specs.step.Steps as ServerSteps
use Rattle.server.specs.Sending as ServerSending
use Rattle.server.specs.Machine as ServerMachine
use Rattle.history.specs.Steps

-- What both sides judge by.
unfoldable pub shared : Unit {0}
unfolding Choice.choose Choice.both Choice.either Choice.mark_of
    Table.first_of
    Flags.has_flag Flags.with_flag
    FackBody.fack_malformed
    CancelBody.cancel_malformed CancelBody.cancel_reading CancelBody.cancel_ack_malformed
    StatusBody.status_malformed
    Slots.slot_sound Slots.sound Slots.contiguous Slots.complete Slots.cleared Slots.slots_with Slots.last_with Slots.stored
    Lent.same_message Lent.transmit_lent
    Message.fragments Message.flags_of
    Sending.next_serial Sending.sent_more Sending.after_send Sending.sends_last Sending.after_ping Sending.acknowledged_to Sending.first_to_send
    Sending.rewound Sending.in_field Sending.message_of Sending.started_message Sending.replied Sending.no_message Sending.bounded Sending.has_message
    Sending.has_nothing
    Fragment.lent_right Fragment.is_last Fragment.wants_fack Fragment.wrong_fragment
    Judgement.held Judgement.held_above Judgement.above_last Judgement.other_last Judgement.last_below_held Judgement.contradicts
    Put.put_of Put.storing
    Tickets.used_up Tickets.next_ticket Tickets.armed_afresh Tickets.armed_if_off Tickets.tickets_if_off Tickets.armed_with Tickets.off Tickets.sound Tickets.timer_sound
    Mask.last_contiguous Mask.acknowledged_by Mask.acknowledges_more Mask.mask_from
    Sent.sent_header
shared = tt

-- The client's tables.
unfoldable pub client_tables : Unit {0}
unfolding ClientStates.may_start ClientStates.is_queued ClientStates.is_sending ClientStates.is_active ClientStates.is_dispatched
    ClientStates.is_waiting ClientStates.is_ack_pending
    ClientRules.counts_sound ClientRules.message_rule ClientRules.outgoing_sound ClientRules.timers_sound ClientRules.sound
    ClientRecord.fresh ClientRecord.waiting ClientRecord.sending_again ClientRecord.ack_pending ClientRecord.unarmed ClientRecord.cancel_armed
    ClientRecord.cancel_disarmed ClientRecord.with_outgoing ClientRecord.with_waits ClientRecord.with_incoming ClientRecord.with_resends
    ClientRecord.with_cancels
    ClientNamed.named_timer ClientNamed.named_by
    ClientRows.cell_in ClientRows.is_row ClientRows.next_number ClientRows.transmit_row ClientRows.wait_row ClientRows.timer_row ClientRows.cancel_row
    ClientRows.nocall_row ClientRows.is_current ClientRows.is_for_client ClientRows.arrival_cell ClientRows.arms ClientRows.arms_timer
    ClientRefusals.start_refusals ClientRefusals.start_verdict ClientRefusals.transmit_refusals ClientRefusals.transmit_verdict
    ClientRefusals.timer_refusals ClientRefusals.timer_verdict ClientRefusals.may_cancel ClientRefusals.cancel_refusals
    ClientRefusals.cancel_verdict ClientRefusals.is_response ClientRefusals.is_old ClientRefusals.is_malformed ClientRefusals.is_contradiction
    ClientRefusals.pdu_refusals ClientRefusals.arrival_refusals ClientRefusals.arrival_verdict
    ClientPlan.going ClientPlan.failed
    ClientSteps.started ClientSteps.transmitted ClientSteps.pinged ClientSteps.cancelled ClientSteps.put_record ClientSteps.put_notice
    ClientSteps.fack_for ClientSteps.response_plan ClientSteps.working_plan ClientSteps.resent ClientSteps.acknowledged ClientSteps.step_of
client_tables = tt

-- The server's tables.
unfoldable pub server_tables : Unit {0}
unfolding ServerStates.never_called ServerStates.is_fresh ServerStates.is_running ServerStates.is_replying ServerStates.is_held
    ServerRules.idle_rule ServerRules.held_rule ServerRules.message_rule ServerRules.outgoing_sound ServerRules.sound
    ServerRecord.fresh ServerRecord.holding ServerRecord.unarmed
    ServerRecord.with_outgoing ServerRecord.with_incoming ServerRecord.with_seen
    ServerRepeatable.runs_again
    ServerRows.is_row ServerRows.says ServerRows.order_by ServerRows.order_of ServerRows.order_for ServerRows.replay_row ServerRows.request_newer
    ServerRows.request_again ServerRows.request_idle ServerRows.request_equal ServerRows.request_cell ServerRows.ping_equal ServerRows.ping_cell
    ServerRows.where_replied ServerRows.acknowledgement_cell ServerRows.ack_cell ServerRows.running_cancel ServerRows.cancel_equal
    ServerRows.cancel_cell ServerRows.request_put ServerRows.is_for_server ServerRows.arrival_cell ServerRows.transmit_row ServerRows.fault_row
    ServerRows.timer_cell ServerRows.arms
    ServerRefusals.reply_refusals ServerRefusals.reply_verdict ServerRefusals.transmit_refusals ServerRefusals.transmit_verdict
    ServerRefusals.fault_refusals ServerRefusals.fault_verdict ServerRefusals.timer_refusals ServerRefusals.timer_verdict
    ServerRefusals.is_request ServerRefusals.is_maybe_or_broadcast ServerRefusals.is_malformed ServerRefusals.puts ServerRefusals.slots_for
    ServerRefusals.is_held_already ServerRefusals.agree ServerRefusals.same_call ServerRefusals.is_other_call ServerRefusals.is_contradiction
    ServerRefusals.pdu_refusals
    ServerPlan.going
    ServerSteps.answered ServerSteps.transmitted ServerSteps.repeatable ServerSteps.rewinding ServerSteps.call_of ServerSteps.begun
    ServerSteps.put_state ServerSteps.put_notice ServerSteps.fack_for ServerSteps.put_plan ServerSteps.acknowledged ServerSteps.heard_plan
    ServerSteps.step_of
server_tables = tt

-- The events, and all of these.
unfoldable pub opened : Unit {0}
unfolding shared client_tables server_tables
    ClientSending.pdu_header
    ClientMachine.refused ClientMachine.done ClientMachine.start_by ClientMachine.starting ClientMachine.arrival_by ClientMachine.arriving
    ServerSending.reply_header ServerSending.echoed ServerSending.echo_header
    ServerMachine.reply_by ServerMachine.replying
    Steps.bytes_lent Steps.own_after Steps.sent_after Steps.dispatches_after Steps.completions_after Steps.heard_after Steps.happens Steps.step Steps.answer_to Steps.notice_of
opened = tt
