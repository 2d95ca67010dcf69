-- A fresh record, the ways in which a row leaves its timers, and the record with another part.
use Rattle.std.specs.Prelude.{ℕ, List}
use Rattle.calls.specs.declared.Call.{Call}
use Rattle.calls.specs.Sent.{blank_call}
use Rattle.outgoing.specs.declared.Outgoing.{Outgoing}
use Rattle.outgoing.specs.Sending.{no_message}
use Rattle.incoming.specs.declared.Incoming.{Incoming}
use Rattle.incoming.specs.Slots.{cleared}
use Rattle.timers.specs.Timer.{Timer, Off}
use Rattle.timers.specs.Tickets.{next_ticket, armed_afresh, armed_if_off, tickets_if_off}
use Rattle.client.specs.declared.records.State.{State}
use Rattle.client.specs.declared.records.State.TheVariants.{Queued, SendFrags, AckPending}
use Rattle.client.specs.declared.records.Client.{Client}

-- Fresh: QUEUED, no number, counts and cancel number 0, nothing held or armed, any ticket counter.
unfoldable pub fresh : List ℕ → ℕ → Client
fresh activity tickets = record {
  state = Queued;
  activity = activity;
  number = 0;
  call = blank_call;
  outgoing = no_message 0;
  incoming = cleared;
  waits = 0;
  resends = 0;
  cancels = 0;
  tickets = tickets;
  wait = Off;
  ack = Off;
  cancel = Off;
}

-- The record in another state, with these timers and this counter.
abbrev pub timed : Client → State → ℕ → Timer → Timer → Timer → Client
timed c state tickets wait ack cancel = record {
  state = state;
  activity = c.activity;
  number = c.number;
  call = c.call;
  outgoing = c.outgoing;
  incoming = c.incoming;
  waits = c.waits;
  resends = c.resends;
  cancels = c.cancels;
  tickets = tickets;
  wait = wait;
  ack = ack;
  cancel = cancel;
}

-- To a state of the active call, WAIT armed afresh; CANCEL stays as it is.
unfoldable pub waiting : Client → State → Client
waiting c state = timed c state (next_ticket c.tickets) (armed_afresh c.tickets) Off c.cancel

-- To SEND_FRAGS, WAIT disarmed; CANCEL stays as it is.
unfoldable pub sending_again : Client → Client
sending_again c = timed c SendFrags c.tickets Off Off c.cancel

-- To ACK_PENDING with only ACK armed.
unfoldable pub ack_pending : Client → Client
ack_pending c = timed c AckPending (next_ticket c.tickets) Off (armed_afresh c.tickets) Off

-- To a state with nothing armed.
unfoldable pub unarmed : Client → State → Client
unarmed c state = timed c state c.tickets Off Off Off

-- CANCEL armed if it is not; the state and the other timers stay as they are.
unfoldable pub cancel_armed : Client → Client
cancel_armed c = timed c c.state (tickets_if_off c.cancel c.tickets) c.wait c.ack (armed_if_off c.cancel c.tickets)

-- CANCEL disarmed, and nothing else.
unfoldable pub cancel_disarmed : Client → Client
cancel_disarmed c = timed c c.state c.tickets c.wait c.ack Off

-- The record with another message sent.
unfoldable pub with_outgoing : Client → Outgoing → Client
with_outgoing c o = record {
  state = c.state;
  activity = c.activity;
  number = c.number;
  call = c.call;
  outgoing = o;
  incoming = c.incoming;
  waits = c.waits;
  resends = c.resends;
  cancels = c.cancels;
  tickets = c.tickets;
  wait = c.wait;
  ack = c.ack;
  cancel = c.cancel;
}

-- The record with other fragments held.
unfoldable pub with_incoming : Client → Incoming → Client
with_incoming c m = record {
  state = c.state;
  activity = c.activity;
  number = c.number;
  call = c.call;
  outgoing = c.outgoing;
  incoming = m;
  waits = c.waits;
  resends = c.resends;
  cancels = c.cancels;
  tickets = c.tickets;
  wait = c.wait;
  ack = c.ack;
  cancel = c.cancel;
}

-- The record with another WAIT count.
unfoldable pub with_waits : Client → ℕ → Client
with_waits c waits = record {
  state = c.state;
  activity = c.activity;
  number = c.number;
  call = c.call;
  outgoing = c.outgoing;
  incoming = c.incoming;
  waits = waits;
  resends = c.resends;
  cancels = c.cancels;
  tickets = c.tickets;
  wait = c.wait;
  ack = c.ack;
  cancel = c.cancel;
}

-- The record with another count of resends.
unfoldable pub with_resends : Client → ℕ → Client
with_resends c resends = record {
  state = c.state;
  activity = c.activity;
  number = c.number;
  call = c.call;
  outgoing = c.outgoing;
  incoming = c.incoming;
  waits = c.waits;
  resends = resends;
  cancels = c.cancels;
  tickets = c.tickets;
  wait = c.wait;
  ack = c.ack;
  cancel = c.cancel;
}

-- The record with another cancel number.
unfoldable pub with_cancels : Client → ℕ → Client
with_cancels c cancels = record {
  state = c.state;
  activity = c.activity;
  number = c.number;
  call = c.call;
  outgoing = c.outgoing;
  incoming = c.incoming;
  waits = c.waits;
  resends = c.resends;
  cancels = cancels;
  tickets = c.tickets;
  wait = c.wait;
  ack = c.ack;
  cancel = c.cancel;
}

-- Another call in place of the last one, of which nothing stays: its number, data and message; counts and cancel number 0, slots
-- and known last forgotten, nothing armed.
abbrev pub with_call : Client → State → ℕ → Call → Outgoing → Client
with_call c state number call outgoing = record {
  state = state;
  activity = c.activity;
  number = number;
  call = call;
  outgoing = outgoing;
  incoming = cleared;
  waits = 0;
  resends = 0;
  cancels = 0;
  tickets = c.tickets;
  wait = Off;
  ack = Off;
  cancel = Off;
}
