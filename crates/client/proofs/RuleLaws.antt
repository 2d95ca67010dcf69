-- What a record that keeps its rules is known to be.
use Rattle.std.proofs.Common.{◌≡◌, ℕ, ◌<◌, ◌≤◌, Bool, true, false, ltb, leb, sym, ap, subst, ltb-true, lt-ltb, le-leb, leb-true}
use mathlib.Core.Bool.{false≢true}
use Rattle.words.specs.Choice.{both}
use Rattle.words.specs.Sizes.{retry_limit}
use Rattle.words.proofs.Tests.{both_true, both_hold}
use Rattle.incoming.specs.Slots.{sound as incoming_sound}
use Rattle.outgoing.specs.declared.Outgoing.{Outgoing}
use Rattle.outgoing.specs.Sending.{bounded, has_message, has_nothing}
use Rattle.timers.specs.Timer.{Timer, Off}
use Rattle.timers.specs.Tickets.{timer_sound}
use Rattle.timers.proofs.TimerLaws.{unnamed_off}
use Rattle.client.specs.declared.records.State.{State}
use Rattle.client.specs.declared.records.State.TheVariants.{Queued, SendFrags, Dispatched, ReceiveFrags, AckPending, Complete, Fault}
use Rattle.client.specs.declared.records.Client.{Client}
use Rattle.client.specs.records.States.{is_queued, is_sending, is_active, is_waiting, is_ack_pending}
use Rattle.client.specs.records.Rules.{counts_sound, message_rule, outgoing_sound, timers_sound, sound}

-- The four rules of a record, one by one,
pub record Rules (c : Client) : Type 0 where
  pub counts : counts_sound c.waits c.resends ≡ true
  pub outgoing : outgoing_sound c.state c.outgoing ≡ true
  pub incoming : incoming_sound c.incoming ≡ true
  pub timers : timers_sound c.state c.wait c.ack c.cancel c.tickets ≡ true

-- are what a sound record keeps,
pub rules_told : (c : Client) → sound c ≡ true → Rules c
unfolding sound
rules_told c e0 =
    let e1 = both_true (counts_sound c.waits c.resends) _ e0 in
    let e2 = both_true (outgoing_sound c.state c.outgoing) _ e1.1 in
    let e3 = both_true (incoming_sound c.incoming) (timers_sound c.state c.wait c.ack c.cancel c.tickets) e2.1 in
    record { counts = e1.0; outgoing = e2.0; incoming = e3.0; timers = e3.1 }

-- and a record that keeps them is sound.
pub rules_hold : (c : Client) → Rules c → sound c ≡ true
unfolding sound
rules_hold c r = both_hold _ _ r.counts (both_hold _ _ r.outgoing (both_hold _ _ r.incoming r.timers))

-- Both counts are at most 5.
module _ (waits resends : ℕ) where
  -- The rule tells it,
  pub counts_told : counts_sound waits resends ≡ true → (waits ≤ retry_limit) × (resends ≤ retry_limit)
  unfolding counts_sound
  counts_told e =
      let told = both_true (leb waits retry_limit) (leb resends retry_limit) e in
      (leb-true waits retry_limit told.0, leb-true resends retry_limit told.1)

  -- and it is enough for the rule.
  pub counts_hold : waits ≤ retry_limit → resends ≤ retry_limit → counts_sound waits resends ≡ true
  unfolding counts_sound
  counts_hold p q = both_hold (leb waits retry_limit) (leb resends retry_limit) (le-leb waits retry_limit p) (le-leb resends retry_limit q)

-- A message is out but in QUEUED.
module _ (o : Outgoing) where
  rule_message : (state : State) → is_queued state ≡ false
      → message_rule state (has_nothing o) (both (has_message o) (ltb o.sent o.count)) (has_message o) ≡ true → has_message o ≡ true
  unfolding is_queued message_rule
  rule_message Queued q e = absurd (false≢true (sym q))
  rule_message SendFrags q e = (both_true (has_message o) (ltb o.sent o.count) e).0
  rule_message Dispatched q e = e
  rule_message ReceiveFrags q e = e
  rule_message AckPending q e = e
  rule_message Complete q e = e
  rule_message Fault q e = e

  -- It is within its bounds and its count is its length's,
  pub message_told : (state : State) → is_queued state ≡ false → outgoing_sound state o ≡ true → (bounded o ≡ true) × (has_message o ≡ true)
  unfolding outgoing_sound
  message_told state q e = let told = both_true (bounded o) _ e in (told.0, rule_message state q told.1)

  -- and this is enough but in SEND_FRAGS,
  pub message_holds : (state : State) → is_queued state ≡ false → is_sending state ≡ false → bounded o ≡ true → has_message o ≡ true
      → outgoing_sound state o ≡ true
  unfolding is_queued is_sending outgoing_sound message_rule
  message_holds Queued q s b m = absurd (false≢true (sym q))
  message_holds SendFrags q s b m = absurd (false≢true (sym s))
  message_holds Dispatched q s b m = both_hold (bounded o) (has_message o) b m
  message_holds ReceiveFrags q s b m = both_hold (bounded o) (has_message o) b m
  message_holds AckPending q s b m = both_hold (bounded o) (has_message o) b m
  message_holds Complete q s b m = both_hold (bounded o) (has_message o) b m
  message_holds Fault q s b m = both_hold (bounded o) (has_message o) b m

  -- where a fragment is left to send too.
  pub unsent_told : outgoing_sound SendFrags o ≡ true → o.sent < o.count
  unfolding outgoing_sound message_rule
  unsent_told e = ltb-true o.sent o.count (both_true (has_message o) _ (both_true (bounded o) _ e).1).1

  -- This and the rest is enough there.
  pub unsent_holds : bounded o ≡ true → has_message o ≡ true → o.sent < o.count → outgoing_sound SendFrags o ≡ true
  unfolding outgoing_sound message_rule
  unsent_holds b m h =
      both_hold (bounded o) _ b (both_hold (has_message o) (ltb o.sent o.count) m (lt-ltb o.sent o.count h))

-- What the rule of the timers says of each.
pub record TimersKept (state : State) (first second third : Timer) (tickets : ℕ) : Type 0 where
  pub wait : timer_sound (is_waiting state) first tickets ≡ true
  pub ack : timer_sound (is_ack_pending state) second tickets ≡ true
  pub cancel : timer_sound (is_active state) third tickets ≡ true

module _ (state : State) (wait ack cancel : Timer) (tickets : ℕ) where
  pub timers_told : timers_sound state wait ack cancel tickets ≡ true → TimersKept state wait ack cancel tickets
  unfolding timers_sound
  timers_told e0 =
      let e1 = both_true (timer_sound (is_waiting state) wait tickets) _ e0 in
      let e2 = both_true (timer_sound (is_ack_pending state) ack tickets) _ e1.1 in
      record { wait = e1.0; ack = e2.0; cancel = e2.1 }

  pub timers_hold : TimersKept state wait ack cancel tickets → timers_sound state wait ack cancel tickets ≡ true
  unfolding timers_sound
  timers_hold t = both_hold _ _ t.wait (both_hold _ _ t.ack t.cancel)

-- In a sound record a timer is off that the state does not name:
module _ (c : Client) (kept : sound c ≡ true) where
  pub timers_kept : TimersKept c.state c.wait c.ack c.cancel c.tickets
  timers_kept = timers_told c.state c.wait c.ack c.cancel c.tickets (rules_told c kept).timers

  unnamed : (timer : Timer) (named : Bool) → timer_sound named timer c.tickets ≡ true → named ≡ false → timer ≡ Off
  unnamed timer named right e =
      unnamed_off timer c.tickets (subst (λ (t : Bool). timer_sound t timer c.tickets ≡ true) e right)

  -- WAIT, in a state other than DISPATCHED and RECEIVE_FRAGS,
  pub wait_off : is_waiting c.state ≡ false → c.wait ≡ Off
  wait_off = unnamed c.wait (is_waiting c.state) timers_kept.wait

  -- ACK, in one other than ACK_PENDING,
  pub ack-off : is_ack_pending c.state ≡ false → c.ack ≡ Off
  ack-off = unnamed c.ack (is_ack_pending c.state) timers_kept.ack

  -- and CANCEL, outside the three active ones.
  pub cancel-off : is_active c.state ≡ false → c.cancel ≡ Off
  cancel-off = unnamed c.cancel (is_active c.state) timers_kept.cancel

  -- In COMPLETE nothing is armed,
  pub complete-unarmed : c.state ≡ Complete → (c.wait ≡ Off) × (c.ack ≡ Off) × (c.cancel ≡ Off)
  unfolding is_waiting is_ack_pending is_active
  complete-unarmed e = (wait_off (ap is_waiting e), ack-off (ap is_ack_pending e), cancel-off (ap is_active e))

  -- nor in FAULT.
  pub fault-unarmed : c.state ≡ Fault → (c.wait ≡ Off) × (c.ack ≡ Off) × (c.cancel ≡ Off)
  unfolding is_waiting is_ack_pending is_active
  fault-unarmed e = (wait_off (ap is_waiting e), ack-off (ap is_ack_pending e), cancel-off (ap is_active e))
