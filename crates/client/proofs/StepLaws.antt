-- What each row of the client's table leaves keeps the record rules.
use Rattle.std.proofs.Common.{◌≡◌, ℕ, ◌+◌, ◌<◌, ◌≤◌, Bool, true, false, sym, refl, ap, ◌∙◌, subst, arith}
use borrow.Author.Tests.{eqb-false}
use Rattle.words.specs.Choice.{choose, both}
use Rattle.words.specs.Sizes.{last_number, message_size, retry_limit}
use Rattle.words.proofs.Tests.{both_true, both_hold}
use Rattle.calls.specs.declared.Call.{Call}
use Rattle.calls.specs.declared.Notice.{Notice}
use Rattle.fragments.specs.declared.Fragment.{Fragment}
use Rattle.fragments.specs.Put.{put_into}
use Rattle.incoming.specs.declared.Incoming.{Incoming}
use Rattle.incoming.specs.Slots.{slot_sound, cleared, sound as incoming_sound}
use Rattle.outgoing.specs.Sending.{bounded, has_message, has_nothing, next_serial, started_message, after_send, after_ping, sends_last, acknowledged_to, rewound}
use Rattle.outgoing.proofs.SendLaws.{message_count_range, started-bounded, started-message, started_below, sent_more_lem, sent-bounded, sent-message, serial_message, serial_bounded, acknowledged-bounded, rewound_below, rewound-bounded, rewound-message}
use Rattle.timers.specs.Tickets.{used_up, off, timer_sound}
use Rattle.client.specs.declared.records.State.{State}
use Rattle.client.specs.declared.records.State.TheVariants.{SendFrags, Dispatched, ReceiveFrags, Complete, Fault}
use Rattle.client.specs.declared.records.Client.{Client}
use Rattle.client.specs.records.States.{is_queued, is_sending, is_active, is_dispatched, is_waiting, is_ack_pending}
use Rattle.client.specs.records.Rules.{outgoing_sound, sound}
use Rattle.client.specs.records.Record.{waiting, sending_again, ack_pending, unarmed, cancel_armed, with_outgoing, with_incoming, with_waits, with_resends, with_cancels}
use Rattle.client.specs.judge.Rows.{one_more, next_number}
use Rattle.client.specs.step.Plan.{going, failed}
use Rattle.client.specs.step.Steps.{started, transmitted, pinged, cancelled, put_record, received, response_plan, working_plan, resent, acknowledged}
use Rattle.client.proofs.StateLaws.{sending_state, dispatched_state, ack_pending_state, active_state, waiting_state, waiting_active}
use Rattle.client.proofs.RuleLaws.{rules_told, rules_hold, counts_told, counts_hold, unsent_told, unsent_holds, timers_kept}
use Rattle.client.proofs.RecordLaws.{Untimed, untimed_told, unarmed_timers, waiting-sound, ack_pending_sound, unarmed-sound, sending-sound, cancel_armed_sound}

-- The number of a call that starts is one more than a u32 that is not used up, with no modulus; that of a fresh
-- client is 0.
pub next_number_lem : (queued : Bool) (number : ℕ) → number < 4294967296 → (queued ≡ false → number ≡ 4294967295 → ⊥)
    → next_number queued number ≡ choose queued 0 (number + 1)
unfolding next_number choose
next_number_lem true number small left = refl
next_number_lem false number small left = omega (arith, left refl)

-- The number of a local cancel is one more than a u32 that is not the last, with no modulus.
pub next_cancel : (cancels : ℕ) → cancels < 4294967296 → (cancels ≡ 4294967295 → ⊥) → one_more cancels ≡ cancels + 1
next_cancel cancels small left = omega (arith, left)

-- Start: the new call's record keeps the rules.
pub started-sound : (c : Client) (number : ℕ) (call : Call) (n : ℕ) → n ≤ message_size
    → sound (started c number call n) ≡ true
unfolding started incoming_sound cleared slot_sound both choose
started-sound c number call n short =
    rules_hold (started c number call n)
    (record {
      counts = counts_hold 0 0 (omega arith) (omega arith);
      outgoing = unsent_holds (started_message n) (started-bounded n) (started-message n short) (started_below n short);
      incoming = refl;
      timers = unarmed_timers SendFrags c.tickets;
    })

module _ (c : Client) (kept : sound c ≡ true) where
  -- In an active state CANCEL may be armed.
  pub active_cancel : is_active c.state ≡ true → timer_sound true c.cancel c.tickets ≡ true
  active_cancel active =
      subst (λ (named : Bool). timer_sound named c.cancel c.tickets ≡ true) active (timers_kept c kept).cancel

  -- In SEND_FRAGS a fragment is left to send, of at most 32,
  fragment_left : is_sending c.state ≡ true
      → (c.outgoing.sent < c.outgoing.count) × (c.outgoing.count ≤ last_number + 1)
  unfolding is_queued
  fragment_left sends =
      let state = sending_state c.state sends in
      let parts = untimed_told c kept (ap is_queued state) in (
        unsent_told c.outgoing
            (subst (λ (s : State). outgoing_sound s c.outgoing ≡ true) state (rules_told c kept).outgoing),
        (message_count_range c.outgoing parts.message).1,
      )

  -- so a transmit counts one more as sent, be it the last or not;
  pub transmitted_one_more : is_sending c.state ≡ true → (last : Bool)
      → (transmitted last c).outgoing.sent ≡ c.outgoing.sent + 1
  unfolding transmitted with_outgoing waiting choose
  transmitted_one_more sends true = sent_more_lem c.outgoing (fragment_left sends).0 (fragment_left sends).1
  transmitted_one_more sends false = sent_more_lem c.outgoing (fragment_left sends).0 (fragment_left sends).1

  -- the record then keeps the rules, where a ticket is left for the last.
  pub transmitted-sound : is_sending c.state ≡ true → (sends_last c.outgoing ≡ true → used_up c.tickets ≡ false)
      → sound (transmitted (sends_last c.outgoing) c) ≡ true
  unfolding transmitted with_outgoing after_send sends_last choose is_queued is_waiting is_active
  transmitted-sound sends free = by_last (sends_last c.outgoing) refl
    where
      state : c.state ≡ SendFrags
      state = sending_state c.state sends

      parts : Untimed c.waits c.resends c.outgoing c.incoming
      parts = untimed_told c kept (ap is_queued state)

      below : c.outgoing.sent < c.outgoing.count
      below = (fragment_left sends).0

      most : c.outgoing.count ≤ last_number + 1
      most = (fragment_left sends).1

      bound : bounded (after_send c.outgoing) ≡ true
      bound = sent-bounded c.outgoing parts.bound below most

      message : has_message (after_send c.outgoing) ≡ true
      message = sent-message c.outgoing ∙ parts.message

      left : sends_last c.outgoing ≡ false → (after_send c.outgoing).sent < (after_send c.outgoing).count
      left e =
          let more = sent_more_lem c.outgoing below most in
          let other = eqb-false (c.outgoing.sent + 1) c.outgoing.count e in
          let same : (after_send c.outgoing).count ≡ c.outgoing.count = refl in
          omega (arith, below)

      by_last : (t : Bool) → sends_last c.outgoing ≡ t → sound (transmitted t c) ≡ true
      by_last true e =
          waiting-sound (with_outgoing c (after_send c.outgoing))
          (record { counts = parts.counts; bound = bound; message = message; held = parts.held })
          Dispatched refl (free e) (active_cancel (ap is_active state))
      by_last false e =
          rules_hold (with_outgoing c (after_send c.outgoing))
          (record {
            counts = parts.counts;
            outgoing =
                subst (λ (s : State). outgoing_sound s (after_send c.outgoing) ≡ true) (sym state)
                (unsent_holds (after_send c.outgoing) bound message (left e));
            incoming = parts.held;
            timers = (rules_told c kept).timers;
          })

  -- A ping, with a count within the limit.
  pub pinged-sound : (waits : ℕ) → is_waiting c.state ≡ true → waits ≤ retry_limit → used_up c.tickets ≡ false
      → sound (pinged c waits) ≡ true
  unfolding pinged with_waits with_outgoing waiting after_ping
  pinged-sound waits named few free =
      let parts = untimed_told c kept (waiting_state c.state named).0 in
      waiting-sound (with_waits (with_outgoing c (after_ping c.outgoing)) waits)
      (record {
        counts = counts_hold waits c.resends few (counts_told c.waits c.resends parts.counts).1;
        bound = serial_bounded c.outgoing (next_serial c.outgoing.serial) ∙ parts.bound;
        message = serial_message c.outgoing (next_serial c.outgoing.serial) ∙ parts.message;
        held = parts.held;
      })
      c.state named free (active_cancel (waiting_active c.state named))

  -- ACK, to COMPLETE.
  pub ack-sound : is_ack_pending c.state ≡ true → sound (unarmed c Complete) ≡ true
  unfolding is_queued is_sending
  ack-sound confirms =
      unarmed-sound c (untimed_told c kept (ap is_queued (ack_pending_state c.state confirms))) Complete refl refl

  -- To FAULT from any state but QUEUED.
  pub failed-sound : (notice : Notice) → is_queued c.state ≡ false → sound (failed c notice).machine ≡ true
  unfolding failed going is_queued is_sending
  failed-sound notice e = unarmed-sound c (untimed_told c kept e) Fault refl refl

  -- A local cancel in an active state, with a ticket left where CANCEL is off.
  pub cancelled-sound : (number : ℕ) → is_active c.state ≡ true
      → (off c.cancel ≡ true → used_up c.tickets ≡ false)
      → sound (cancelled c number) ≡ true
  unfolding cancelled with_cancels
  cancelled-sound number active free =
      let r = rules_told (cancel_armed c) (cancel_armed_sound c kept active free) in
      rules_hold (cancelled c number)
      (record { counts = r.counts; outgoing = r.outgoing; incoming = r.incoming; timers = r.timers })

  -- Fack: where no more is acknowledged than the message has.
  pub acknowledged-sound : (count : ℕ) → is_active c.state ≡ true → count ≤ c.outgoing.count
      → sound (acknowledged c count) ≡ true
  unfolding acknowledged with_outgoing outgoing_sound has_nothing has_message acknowledged_to
  acknowledged-sound count active fits =
      let r = rules_told c kept in
      let parts = untimed_told c kept (active_state c.state active) in
      rules_hold (acknowledged c count)
      (record {
        counts = r.counts;
        outgoing =
            both_hold _ _ (acknowledged-bounded c.outgoing count parts.bound fits)
            (both_true (bounded c.outgoing) _ r.outgoing).1;
        incoming = r.incoming;
        timers = r.timers;
      })

  -- Response: where what is held after the put keeps its rules, and a ticket is left unless an idempotent call is
  -- complete.
  pub response-sound : (p : Fragment) → is_active c.state ≡ true → incoming_sound (put_into c.incoming p) ≡ true
      → (both p.complete c.call.idempotent ≡ false → used_up c.tickets ≡ false)
      → sound (response_plan c p).machine ≡ true
  unfolding response_plan put_record with_incoming with_waits waiting ack_pending unarmed both choose is_queued is_sending is_waiting
  response-sound p active right free = by_tests p.complete c.call.idempotent free
    where
      m : Incoming
      m = put_into c.incoming p

      parts : Untimed 0 c.resends c.outgoing m
      parts =
          let old = untimed_told c kept (active_state c.state active) in
          let counts = counts_told c.waits c.resends old.counts in
          record {
            counts = counts_hold 0 c.resends (omega arith) counts.1;
            bound = old.bound;
            message = old.message;
            held = right;
          }

      by_tests : (all idempotent : Bool) → (both all idempotent ≡ false → used_up c.tickets ≡ false)
          → sound (received (put_record all idempotent c) m) ≡ true
      by_tests true true left = unarmed-sound (received c m) parts Complete refl refl
      by_tests true false left = ack_pending_sound (received c m) parts (left refl)
      by_tests false idempotent left =
          waiting-sound (received c m) parts ReceiveFrags refl (left refl) (active_cancel active)

  -- DISPATCHED is active.
  dispatched_active : is_dispatched c.state ≡ true → is_active c.state ≡ true
  unfolding is_active
  dispatched_active dispatched = ap is_active (dispatched_state c.state dispatched)

  -- Working: where a ticket is left.
  pub working-sound : is_dispatched c.state ≡ true → used_up c.tickets ≡ false
      → sound (working_plan c).machine ≡ true
  unfolding working_plan going with_waits is_queued is_waiting
  working-sound dispatched free =
      let old = untimed_told c kept (ap is_queued (dispatched_state c.state dispatched)) in
      let counts = counts_told c.waits c.resends old.counts in
      waiting-sound (with_waits c 0)
      (record {
        counts = counts_hold 0 c.resends (omega arith) counts.1;
        bound = old.bound;
        message = old.message;
        held = old.held;
      })
      Dispatched refl free (active_cancel (dispatched_active dispatched))

  -- Nocall with a count within the limit: the message goes out again.
  pub resent-sound : (resends : ℕ) → is_dispatched c.state ≡ true → resends ≤ retry_limit
      → sound (resent c resends) ≡ true
  unfolding resent with_resends with_outgoing sending_again is_queued
  resent-sound resends dispatched few =
      let old = untimed_told c kept (ap is_queued (dispatched_state c.state dispatched)) in
      let counts = counts_told c.waits c.resends old.counts in
      sending-sound (with_resends (with_outgoing c (rewound c.outgoing)) resends)
      (record {
        counts = counts_hold c.waits resends counts.0 few;
        bound = rewound-bounded c.outgoing old.bound;
        message = rewound-message c.outgoing ∙ old.message;
        held = old.held;
      })
      (rewound_below c.outgoing (message_count_range c.outgoing old.message).0)
      (active_cancel (dispatched_active dispatched))
