-- What a row sets of a server's record that fits leaves it fitting, and a fresh record fits.
use Prim.Native.Nat.{ℕ, ◌<◌}
use mathlib.Core.List.{List}
use native.Mathlib.Omega.{arith}
use Rattle.incoming.specs.declared.Incoming.{Incoming}
use Rattle.outgoing.specs.declared.Outgoing.{Outgoing}
use Rattle.timers.specs.Timer.{Timer, Off}
use Rattle.timers.specs.Tickets.{next_ticket, armed_afresh}
use Rattle.server.specs.declared.records.Reply.{Reply}
use Rattle.server.specs.declared.records.State.{State}
use Rattle.server.specs.declared.records.State.TheVariants.{Held}
use Rattle.server.specs.declared.records.Server.{Server}
use Rattle.server.specs.records.Record.{fresh, timed, holding, unarmed, with_outgoing, with_resends, with_seen, with_incoming}
use Rattle.record_bytes.specs.Fits.{Uuid, FitsOutgoing, FitsIncoming, FitsTimer}
use Rattle.record_bytes.proofs.Keeping.{no_message_fits, cleared_fits, next_ticket_fits, armed_fits, blank_call_fits}
use Rattle.server_bytes.specs.Fits.{FitsReply, FitsState, FitsServer}

-- A fresh record fits.
pub fresh_server_fits : (activity : List ℕ) (boot tickets : ℕ) → Uuid activity → boot < 4294967296
    → tickets < 18446744073709551616 → FitsServer (fresh activity boot tickets)
unfolding fresh
fresh_server_fits activity boot tickets uuid started small = record {
  activity = uuid;
  boot = started;
  number = omega arith;
  call = blank_call_fits;
  outgoing = no_message_fits;
  incoming = cleared_fits;
  resends = omega arith;
  seen = omega arith;
  tickets = small;
  resend = tt;
  state = tt;
}

-- What a row sets of a record that fits: the state and the timer,
module _ (s : Server) (fits : FitsServer s) where
  timed_fits : (state : State) (tickets : ℕ) (resend : Timer)
      → FitsState state → tickets < 18446744073709551616 → FitsTimer resend → FitsServer (timed s state tickets resend)
  timed_fits state tickets resend known small armed = record {
    activity = fits.activity;
    boot = fits.boot;
    number = fits.number;
    call = fits.call;
    outgoing = fits.outgoing;
    incoming = fits.incoming;
    resends = fits.resends;
    seen = fits.seen;
    tickets = small;
    resend = armed;
    state = known;
  }

  pub holding_fits : (reply : Reply) → FitsReply reply → FitsServer (holding s reply)
  unfolding holding
  holding_fits reply known =
      timed_fits (Held reply) (next_ticket s.tickets) (armed_afresh s.tickets) known
      (next_ticket_fits s.tickets fits.tickets) (armed_fits s.tickets fits.tickets)

  pub unarmed_fits : (state : State) → FitsState state → FitsServer (unarmed s state)
  unfolding unarmed
  unarmed_fits state known = timed_fits state s.tickets Off known fits.tickets tt

  -- the message sent,
  pub outgoing_fits : (o : Outgoing) → FitsOutgoing o → FitsServer (with_outgoing s o)
  unfolding with_outgoing
  outgoing_fits o small = record {
    activity = fits.activity;
    boot = fits.boot;
    number = fits.number;
    call = fits.call;
    outgoing = small;
    incoming = fits.incoming;
    resends = fits.resends;
    seen = fits.seen;
    tickets = fits.tickets;
    resend = fits.resend;
    state = fits.state;
  }

  -- what is held,
  pub incoming_fits : (m : Incoming) → FitsIncoming m → FitsServer (with_incoming s m)
  unfolding with_incoming
  incoming_fits m small = record {
    activity = fits.activity;
    boot = fits.boot;
    number = fits.number;
    call = fits.call;
    outgoing = fits.outgoing;
    incoming = small;
    resends = fits.resends;
    seen = fits.seen;
    tickets = fits.tickets;
    resend = fits.resend;
    state = fits.state;
  }

  -- the count,
  pub resends_fits : (resends : ℕ) → resends < 256 → FitsServer (with_resends s resends)
  unfolding with_resends
  resends_fits resends small = record {
    activity = fits.activity;
    boot = fits.boot;
    number = fits.number;
    call = fits.call;
    outgoing = fits.outgoing;
    incoming = fits.incoming;
    resends = small;
    seen = fits.seen;
    tickets = fits.tickets;
    resend = fits.resend;
    state = fits.state;
  }

  -- and the cancel number last seen.
  pub seen_fits : (seen : ℕ) → seen < 4294967296 → FitsServer (with_seen s seen)
  unfolding with_seen
  seen_fits seen small = record {
    activity = fits.activity;
    boot = fits.boot;
    number = fits.number;
    call = fits.call;
    outgoing = fits.outgoing;
    incoming = fits.incoming;
    resends = fits.resends;
    seen = small;
    tickets = fits.tickets;
    resend = fits.resend;
    state = fits.state;
  }
