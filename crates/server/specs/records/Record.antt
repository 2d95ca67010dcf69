-- A fresh record, the two ways in which a row leaves its timer, and the record with another part.
use Rattle.std.specs.Prelude.{ℕ, List}
use Rattle.calls.specs.declared.Call.{Call}
use Rattle.calls.specs.Sent.{blank_call}
use Rattle.outgoing.specs.declared.Outgoing.{Outgoing}
use Rattle.outgoing.specs.Sending.{no_message}
use Rattle.incoming.specs.declared.Incoming.{Incoming}
use Rattle.incoming.specs.Slots.{cleared}
use Rattle.timers.specs.Timer.{Timer, Off}
use Rattle.timers.specs.Tickets.{next_ticket, armed_afresh}
use Rattle.server.specs.declared.records.Idle.TheVariants.{Fresh}
use Rattle.server.specs.declared.records.Reply.{Reply}
use Rattle.server.specs.declared.records.State.{State}
use Rattle.server.specs.declared.records.State.TheVariants.{Idle as IdleState, Held}
use Rattle.server.specs.declared.records.Server.{Server}

-- Fresh: IDLE fresh, no number, counts and cancel number last seen 0, nothing held or armed, any ticket counter.
unfoldable pub fresh : List ℕ → ℕ → ℕ → Server
fresh activity boot tickets = record {
  state = IdleState Fresh;
  activity = activity;
  boot = boot;
  number = 0;
  call = blank_call;
  outgoing = no_message 0;
  incoming = cleared;
  resends = 0;
  seen = 0;
  tickets = tickets;
  resend = Off;
}

-- The record in another state, with this timer and this counter.
abbrev pub timed : Server → State → ℕ → Timer → Server
timed s state tickets resend = record {
  state = state;
  activity = s.activity;
  boot = s.boot;
  number = s.number;
  call = s.call;
  outgoing = s.outgoing;
  incoming = s.incoming;
  resends = s.resends;
  seen = s.seen;
  tickets = tickets;
  resend = resend;
}

-- To HELD with RESEND armed.
unfoldable pub holding : Server → Reply → Server
holding s reply = timed s (Held reply) (next_ticket s.tickets) (armed_afresh s.tickets)

-- To a state with nothing armed.
unfoldable pub unarmed : Server → State → Server
unarmed s state = timed s state s.tickets Off

-- The record with another message sent.
unfoldable pub with_outgoing : Server → Outgoing → Server
with_outgoing s o = record {
  state = s.state;
  activity = s.activity;
  boot = s.boot;
  number = s.number;
  call = s.call;
  outgoing = o;
  incoming = s.incoming;
  resends = s.resends;
  seen = s.seen;
  tickets = s.tickets;
  resend = s.resend;
}

-- The record with other fragments held.
unfoldable pub with_incoming : Server → Incoming → Server
with_incoming s m = record {
  state = s.state;
  activity = s.activity;
  boot = s.boot;
  number = s.number;
  call = s.call;
  outgoing = s.outgoing;
  incoming = m;
  resends = s.resends;
  seen = s.seen;
  tickets = s.tickets;
  resend = s.resend;
}

-- The record with another RESEND count.
unfoldable pub with_resends : Server → ℕ → Server
with_resends s resends = record {
  state = s.state;
  activity = s.activity;
  boot = s.boot;
  number = s.number;
  call = s.call;
  outgoing = s.outgoing;
  incoming = s.incoming;
  resends = resends;
  seen = s.seen;
  tickets = s.tickets;
  resend = s.resend;
}

-- The record with another cancel number last seen.
unfoldable pub with_seen : Server → ℕ → Server
with_seen s seen = record {
  state = s.state;
  activity = s.activity;
  boot = s.boot;
  number = s.number;
  call = s.call;
  outgoing = s.outgoing;
  incoming = s.incoming;
  resends = s.resends;
  seen = seen;
  tickets = s.tickets;
  resend = s.resend;
}

-- Another call in place of the last one, of which nothing stays: its number and data; no message, counts and cancel number
-- last seen 0, slots and known last forgotten, nothing armed.
abbrev pub with_call : Server → State → ℕ → Call → Server
with_call s state number call = record {
  state = state;
  activity = s.activity;
  boot = s.boot;
  number = number;
  call = call;
  outgoing = no_message 0;
  incoming = cleared;
  resends = 0;
  seen = 0;
  tickets = s.tickets;
  resend = Off;
}
