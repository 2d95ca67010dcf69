-- A fresh record keeps the record rules, and so do the ways in which a row leaves its timers.
use Rattle.std.proofs.Common.{◌≡◌, ℕ, ◌<◌, true, false, List, refl}
use Rattle.words.specs.Choice.{choose, both}
use Rattle.words.proofs.Tests.{both_hold, both_true}
use Rattle.incoming.specs.declared.Incoming.{Incoming}
use Rattle.incoming.specs.Slots.{sound as incoming_sound}
use Rattle.outgoing.specs.declared.Outgoing.{Outgoing}
use Rattle.incoming.proofs.SlotLaws.{cleared-sound}
use Rattle.outgoing.specs.Sending.{no_message, bounded, has_message, has_nothing}
use Rattle.timers.specs.Timer.{Timer, Off}
use Rattle.timers.specs.Tickets.{used_up, next_ticket, armed_afresh, armed_if_off, tickets_if_off, off, sound as timer_ticket_sound, timer_sound}
use Rattle.timers.proofs.TimerLaws.{armed_sound, sound_kept, named_sound, off-sound, if_off_sound, if_off_sound_beside}
use Rattle.client.specs.declared.records.State.{State}
use Rattle.client.specs.declared.records.State.TheVariants.{Queued, SendFrags, AckPending}
use Rattle.client.specs.declared.records.Client.{Client}
use Rattle.client.specs.records.States.{is_queued, is_sending, is_active, is_waiting, is_ack_pending}
use Rattle.client.specs.records.Rules.{counts_sound, message_rule, outgoing_sound, timers_sound, sound}
use Rattle.client.specs.records.Record.{fresh, waiting, sending_again, ack_pending, unarmed, cancel_armed, cancel_disarmed}
use Rattle.client.proofs.StateLaws.{waiting_state, waiting_active}
use Rattle.client.proofs.RuleLaws.{rules_told, rules_hold, message_told, message_holds, unsent_holds, timers_hold, timers_kept}

-- What no timer touches, where a message is out: the counts, the message, the fragments held.
pub record Untimed (waits resends : ℕ) (o : Outgoing) (m : Incoming) : Type 0 where
  pub counts : counts_sound waits resends ≡ true
  pub bound : bounded o ≡ true
  pub message : has_message o ≡ true
  pub held : incoming_sound m ≡ true

-- A sound record has it but in QUEUED.
pub untimed_told : (c : Client) → sound c ≡ true → is_queued c.state ≡ false → Untimed c.waits c.resends c.outgoing c.incoming
untimed_told c kept e =
    let r = rules_told c kept in
    let told = message_told c.outgoing c.state e r.outgoing in
    record { counts = r.counts; bound = told.0; message = told.1; held = r.incoming }

-- With nothing armed the timers are right in every state.
pub unarmed_timers : (state : State) (tickets : ℕ) → timers_sound state Off Off Off tickets ≡ true
unarmed_timers state tickets =
    timers_hold state Off Off Off tickets
    (record {
      wait = off-sound (is_waiting state) tickets;
      ack = off-sound (is_ack_pending state) tickets;
      cancel = off-sound (is_active state) tickets;
    })

-- A fresh record is sound, whatever its ticket counter.
pub fresh-sound : (activity : List ℕ) (tickets : ℕ) → sound (fresh activity tickets) ≡ true
unfolding fresh outgoing_sound message_rule bounded has_nothing no_message counts_sound both choose
fresh-sound activity tickets =
    rules_hold (fresh activity tickets)
    (record { counts = refl; outgoing = refl; incoming = cleared-sound; timers = unarmed_timers Queued tickets })

-- A timer that an active state names is right as the counter goes up.
raised : (timer : Timer) (tickets : ℕ) → used_up tickets ≡ false → timer_sound true timer tickets ≡ true → timer_sound true timer (next_ticket tickets) ≡ true
unfolding timer_sound
raised timer tickets free right =
    named_sound timer (next_ticket tickets) (sound_kept tickets free timer (both_true _ (timer_ticket_sound timer tickets) right).1)

module _ (c : Client) (b : Untimed c.waits c.resends c.outgoing c.incoming) where
  -- To DISPATCHED or RECEIVE_FRAGS with WAIT armed, where a ticket is left; CANCEL was right in the active call.
  pub waiting-sound : (state : State) → is_waiting state ≡ true → used_up c.tickets ≡ false
      → timer_sound true c.cancel c.tickets ≡ true → sound (waiting c state) ≡ true
  unfolding waiting
  waiting-sound state e free right =
      rules_hold (waiting c state)
      (record {
        counts = b.counts;
        outgoing = message_holds c.outgoing state (waiting_state state e).0 (waiting_state state e).1 b.bound b.message;
        incoming = b.held;
        timers =
            timers_hold state (armed_afresh c.tickets) Off c.cancel (next_ticket c.tickets)
            (record {
              wait = rw e (named_sound (armed_afresh c.tickets) (next_ticket c.tickets) (armed_sound c.tickets free));
              ack = off-sound (is_ack_pending state) (next_ticket c.tickets);
              cancel = rw (waiting_active state e) (raised c.cancel c.tickets free right);
            });
      })

  -- To ACK_PENDING with ACK armed.
  pub ack_pending_sound : used_up c.tickets ≡ false → sound (ack_pending c) ≡ true
  unfolding ack_pending is_queued is_sending is_waiting is_ack_pending is_active
  ack_pending_sound free =
      rules_hold (ack_pending c)
      (record {
        counts = b.counts;
        outgoing = message_holds c.outgoing AckPending refl refl b.bound b.message;
        incoming = b.held;
        timers =
            timers_hold AckPending Off (armed_afresh c.tickets) Off (next_ticket c.tickets)
            (record {
              wait = off-sound false (next_ticket c.tickets);
              ack = named_sound (armed_afresh c.tickets) (next_ticket c.tickets) (armed_sound c.tickets free);
              cancel = off-sound false (next_ticket c.tickets);
            });
      })

  -- To COMPLETE or FAULT, or any state but QUEUED and SEND_FRAGS, with nothing armed.
  pub unarmed-sound : (state : State) → is_queued state ≡ false → is_sending state ≡ false → sound (unarmed c state) ≡ true
  unfolding unarmed
  unarmed-sound state q s =
      rules_hold (unarmed c state)
      (record {
        counts = b.counts;
        outgoing = message_holds c.outgoing state q s b.bound b.message;
        incoming = b.held;
        timers = unarmed_timers state c.tickets;
      })

  -- To SEND_FRAGS with WAIT off, where a fragment is left to send; CANCEL was right in the active call.
  pub sending-sound : c.outgoing.sent < c.outgoing.count → timer_sound true c.cancel c.tickets ≡ true → sound (sending_again c) ≡ true
  unfolding sending_again is_waiting is_ack_pending is_active
  sending-sound h right =
      rules_hold (sending_again c)
      (record {
        counts = b.counts;
        outgoing = unsent_holds c.outgoing b.bound b.message h;
        incoming = b.held;
        timers =
            timers_hold SendFrags Off Off c.cancel c.tickets
            (record { wait = off-sound false c.tickets; ack = off-sound false c.tickets; cancel = right });
      })

-- With CANCEL armed if it is not, in an active state with a ticket left where one is needed, a sound record stays sound,
pub cancel_armed_sound : (c : Client) → sound c ≡ true → is_active c.state ≡ true → (off c.cancel ≡ true → used_up c.tickets ≡ false)
    → sound (cancel_armed c) ≡ true
unfolding cancel_armed timer_sound
cancel_armed_sound c kept active free =
    let r = rules_told c kept in
    let t = timers_kept c kept in
    let beside : (timer : Timer) → timer_ticket_sound timer c.tickets ≡ true
    → timer_ticket_sound timer (tickets_if_off c.cancel c.tickets) ≡ true
    = λ timer. if_off_sound_beside c.cancel timer c.tickets free in
    rules_hold (cancel_armed c)
    (record {
      counts = r.counts;
      outgoing = r.outgoing;
      incoming = r.incoming;
      timers =
          timers_hold c.state c.wait c.ack (armed_if_off c.cancel c.tickets) (tickets_if_off c.cancel c.tickets)
          (record {
            wait = let e = both_true _ (timer_ticket_sound c.wait c.tickets) t.wait in both_hold _ _ e.0 (beside c.wait e.1);
            ack = let e = both_true _ (timer_ticket_sound c.ack c.tickets) t.ack in both_hold _ _ e.0 (beside c.ack e.1);
            cancel =
                rw active (named_sound (armed_if_off c.cancel c.tickets) (tickets_if_off c.cancel c.tickets)
                (if_off_sound c.cancel c.tickets free (both_true _ (timer_ticket_sound c.cancel c.tickets) t.cancel).1));
          });
    })

-- and so it does with CANCEL disarmed.
pub cancel_disarmed_sound : (c : Client) → sound c ≡ true → sound (cancel_disarmed c) ≡ true
unfolding cancel_disarmed
cancel_disarmed_sound c kept =
    let r = rules_told c kept in
    let t = timers_kept c kept in
    rules_hold (cancel_disarmed c)
    (record {
      counts = r.counts;
      outgoing = r.outgoing;
      incoming = r.incoming;
      timers =
          timers_hold c.state c.wait c.ack Off c.tickets
          (record { wait = t.wait; ack = t.ack; cancel = off-sound (is_active c.state) c.tickets });
    })
