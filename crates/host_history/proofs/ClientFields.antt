-- What a row sets of a client's record that fits leaves it fitting, and a fresh record fits.
use Prim.Native.Nat.{ℕ, ◌<◌}
use mathlib.Core.List.{List}
use native.Mathlib.Omega.{arith}
use Rattle.incoming.specs.declared.Incoming.{Incoming}
use Rattle.outgoing.specs.declared.Outgoing.{Outgoing}
use Rattle.timers.specs.Timer.{Timer, Off}
use Rattle.timers.specs.Tickets.{next_ticket, armed_afresh, armed_if_off, tickets_if_off}
use Rattle.client.specs.declared.records.State.{State}
use Rattle.client.specs.declared.records.State.TheVariants.{SendFrags, AckPending}
use Rattle.client.specs.declared.records.Client.{Client}
use Rattle.client.specs.records.Record.{fresh, timed, waiting, sending_again, ack_pending, unarmed, cancel_armed, cancel_disarmed, with_outgoing, with_waits, with_incoming, with_resends, with_cancels}
use Rattle.client.specs.step.Steps.{received}
use Rattle.record_bytes.specs.Fits.{Uuid, FitsOutgoing, FitsIncoming, FitsTimer}
use Rattle.record_bytes.proofs.Keeping.{no_message_fits, cleared_fits, next_ticket_fits, armed_fits, armed_if_off_fits, tickets_if_off_fits, blank_call_fits}
use Rattle.client_bytes.specs.Fits.{FitsClient}

-- A fresh record fits.
pub fresh_client_fits : (activity : List ℕ) (tickets : ℕ) → Uuid activity → tickets < 18446744073709551616
    → FitsClient (fresh activity tickets)
unfolding fresh
fresh_client_fits activity tickets uuid small = record {
  activity = uuid;
  number = omega arith;
  call = blank_call_fits;
  outgoing = no_message_fits;
  incoming = cleared_fits;
  waits = omega arith;
  resends = omega arith;
  cancels = omega arith;
  tickets = small;
  wait = tt;
  ack = tt;
  cancel = tt;
}

-- What a row sets of a record that fits: the timers,
module _ (c : Client) (fits : FitsClient c) where
  timed_fits : (state : State) (tickets : ℕ) (wait ack cancel : Timer)
      → tickets < 18446744073709551616 → FitsTimer wait → FitsTimer ack → FitsTimer cancel
      → FitsClient (timed c state tickets wait ack cancel)
  timed_fits state tickets wait ack cancel small first second third = record {
    activity = fits.activity;
    number = fits.number;
    call = fits.call;
    outgoing = fits.outgoing;
    incoming = fits.incoming;
    waits = fits.waits;
    resends = fits.resends;
    cancels = fits.cancels;
    tickets = small;
    wait = first;
    ack = second;
    cancel = third;
  }

  pub waiting_fits : (state : State) → FitsClient (waiting c state)
  unfolding waiting
  waiting_fits state =
      timed_fits state (next_ticket c.tickets) (armed_afresh c.tickets) Off c.cancel
      (next_ticket_fits c.tickets fits.tickets) (armed_fits c.tickets fits.tickets) tt fits.cancel

  pub sending_fits : FitsClient (sending_again c)
  unfolding sending_again
  sending_fits = timed_fits SendFrags c.tickets Off Off c.cancel fits.tickets tt tt fits.cancel

  pub ack_pending_fits : FitsClient (ack_pending c)
  unfolding ack_pending
  ack_pending_fits =
      timed_fits AckPending (next_ticket c.tickets) Off (armed_afresh c.tickets) Off
      (next_ticket_fits c.tickets fits.tickets) tt (armed_fits c.tickets fits.tickets) tt

  pub unarmed_fits : (state : State) → FitsClient (unarmed c state)
  unfolding unarmed
  unarmed_fits state = timed_fits state c.tickets Off Off Off fits.tickets tt tt tt

  pub cancel_armed_fits : FitsClient (cancel_armed c)
  unfolding cancel_armed
  cancel_armed_fits =
      timed_fits c.state (tickets_if_off c.cancel c.tickets) c.wait c.ack
      (armed_if_off c.cancel c.tickets) (tickets_if_off_fits c.cancel c.tickets fits.tickets)
      fits.wait fits.ack (armed_if_off_fits c.cancel c.tickets fits.cancel fits.tickets)

  pub cancel_disarmed_fits : FitsClient (cancel_disarmed c)
  unfolding cancel_disarmed
  cancel_disarmed_fits =
      timed_fits c.state c.tickets c.wait c.ack Off fits.tickets fits.wait fits.ack tt

  -- the message sent,
  pub outgoing_fits : (o : Outgoing) → FitsOutgoing o → FitsClient (with_outgoing c o)
  unfolding with_outgoing
  outgoing_fits o small = record {
    activity = fits.activity;
    number = fits.number;
    call = fits.call;
    outgoing = small;
    incoming = fits.incoming;
    waits = fits.waits;
    resends = fits.resends;
    cancels = fits.cancels;
    tickets = fits.tickets;
    wait = fits.wait;
    ack = fits.ack;
    cancel = fits.cancel;
  }

  -- what is held,
  pub incoming_fits : (m : Incoming) → FitsIncoming m → FitsClient (received c m)
  unfolding with_incoming with_waits
  incoming_fits m small = record {
    activity = fits.activity;
    number = fits.number;
    call = fits.call;
    outgoing = fits.outgoing;
    incoming = small;
    waits = omega arith;
    resends = fits.resends;
    cancels = fits.cancels;
    tickets = fits.tickets;
    wait = fits.wait;
    ack = fits.ack;
    cancel = fits.cancel;
  }

  -- and the counts.
  pub waits_fits : (waits : ℕ) → waits < 256 → FitsClient (with_waits c waits)
  unfolding with_waits
  waits_fits waits small = record {
    activity = fits.activity;
    number = fits.number;
    call = fits.call;
    outgoing = fits.outgoing;
    incoming = fits.incoming;
    waits = small;
    resends = fits.resends;
    cancels = fits.cancels;
    tickets = fits.tickets;
    wait = fits.wait;
    ack = fits.ack;
    cancel = fits.cancel;
  }

  pub resends_fits : (resends : ℕ) → resends < 256 → FitsClient (with_resends c resends)
  unfolding with_resends
  resends_fits resends small = record {
    activity = fits.activity;
    number = fits.number;
    call = fits.call;
    outgoing = fits.outgoing;
    incoming = fits.incoming;
    waits = fits.waits;
    resends = small;
    cancels = fits.cancels;
    tickets = fits.tickets;
    wait = fits.wait;
    ack = fits.ack;
    cancel = fits.cancel;
  }

  pub cancels_fits : (cancels : ℕ) → cancels < 4294967296 → FitsClient (with_cancels c cancels)
  unfolding with_cancels
  cancels_fits cancels small = record {
    activity = fits.activity;
    number = fits.number;
    call = fits.call;
    outgoing = fits.outgoing;
    incoming = fits.incoming;
    waits = fits.waits;
    resends = fits.resends;
    cancels = small;
    tickets = fits.tickets;
    wait = fits.wait;
    ack = fits.ack;
    cancel = fits.cancel;
  }
