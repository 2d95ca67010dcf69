-- What a record that keeps its rules is known to be.
use Prim.Native.Nat.{◌<◌}
use mathlib.Core.Bool.{Bool, true, false, false≢true}
use mathlib.Core.Path.{◌≡◌, refl, subst}
use lib.Dec.{ltb, leb}
use borrow.Author.Tests.{ltb-true, lt-ltb}
use Rattle.words.specs.Choice.{choose, both, either}
use Rattle.words.specs.Sizes.{retry_limit}
use Rattle.words.proofs.Tests.{both_true, both_hold}
use Rattle.incoming.specs.Slots.{sound as incoming_sound}
use Rattle.outgoing.specs.declared.Outgoing.{Outgoing}
use Rattle.outgoing.specs.Sending.{bounded, has_message, has_nothing}
use Rattle.timers.specs.Timer.{Off}
use Rattle.timers.specs.Tickets.{timer_sound}
use Rattle.timers.proofs.TimerLaws.{unnamed_off}
use Rattle.server.specs.declared.records.Idle.TheVariants.{Fresh, Spent, Repeatable}
use Rattle.server.specs.declared.records.Reply.TheVariants.{Data, Fault}
use Rattle.server.specs.declared.records.State.{State}
use Rattle.server.specs.declared.records.State.TheVariants.{Idle as IdleState, Collect, Running, Replying, Held}
use Rattle.server.specs.declared.records.Server.{Server}
use Rattle.server.specs.records.States.{is_idle, is_held}
use Rattle.server.specs.records.Rules.{idle_rule, held_rule, message_rule, outgoing_sound, sound}
use Rattle.server.proofs.StateLaws.{idle_state}

-- The four rules of a record, one by one,
pub record Rules (s : Server) : Type 0 where
  pub count : leb s.resends retry_limit ≡ true
  pub outgoing : outgoing_sound s.state s.outgoing ≡ true
  pub incoming : incoming_sound s.incoming ≡ true
  pub timer : timer_sound (is_held s.state) s.resend s.tickets ≡ true

-- are what a sound record keeps,
pub rules_told : (s : Server) → sound s ≡ true → Rules s
unfolding sound
rules_told s e0 =
    let e1 = both_true (leb s.resends retry_limit) _ e0 in
    let e2 = both_true (outgoing_sound s.state s.outgoing) _ e1.1 in
    let e3 = both_true (incoming_sound s.incoming) (timer_sound (is_held s.state) s.resend s.tickets) e2.1 in
    record { count = e1.0; outgoing = e2.0; incoming = e3.0; timer = e3.1 }

-- and a record that keeps them is sound.
pub rules_hold : (s : Server) → Rules s → sound s ≡ true
unfolding sound
rules_hold s r = both_hold _ _ r.count (both_hold _ _ r.outgoing (both_hold _ _ r.incoming r.timer))

-- One of two tests holds where the first does,
either_first : (a b : Bool) → a ≡ true → either a b ≡ true
unfolding either choose
either_first true b e = refl
either_first false b e = absurd (false≢true e)

-- and where the second does.
either_second : (a b : Bool) → b ≡ true → either a b ≡ true
unfolding either choose
either_second true b e = refl
either_second false b e = e

-- What the state says of the message sent holds of it.
abbrev pub Rule : State → Outgoing → Type 0
Rule state o = message_rule state (has_nothing o) (both (has_message o) (ltb o.sent o.count)) (has_message o) ≡ true

module _ (o : Outgoing) where
  -- The message is within its bounds, and what the state says holds,
  pub out_told : (state : State) → outgoing_sound state o ≡ true → (bounded o ≡ true) × Rule state o
  unfolding outgoing_sound
  out_told state e = both_true (bounded o) _ e

  -- and this is enough.
  pub out_holds : (state : State) → bounded o ≡ true → Rule state o → outgoing_sound state o ≡ true
  unfolding outgoing_sound
  out_holds state b r = both_hold (bounded o) _ b r

  -- In COLLECT no message is out,
  pub collect_told : outgoing_sound Collect o ≡ true → has_nothing o ≡ true
  unfolding message_rule
  collect_told e = (out_told Collect e).1

  -- nor in RUNNING;
  pub running_told : outgoing_sound Running o ≡ true → has_nothing o ≡ true
  unfolding message_rule
  running_told e = (out_told Running e).1

  -- in HELD with data one is,
  pub data_told : outgoing_sound (Held Data) o ≡ true → has_message o ≡ true
  unfolding message_rule held_rule
  data_told e = (out_told (Held Data) e).1

  -- and in REPLYING, where a fragment of it is left to send.
  pub replying_told : outgoing_sound Replying o ≡ true → (has_message o ≡ true) × (o.sent < o.count)
  unfolding message_rule
  replying_told e =
      let told = both_true (has_message o) (ltb o.sent o.count) (out_told Replying e).1 in
      (told.0, ltb-true o.sent o.count told.1)

  -- This is enough there.
  pub replying_holds : bounded o ≡ true → has_message o ≡ true → o.sent < o.count → outgoing_sound Replying o ≡ true
  unfolding message_rule
  replying_holds b m h = out_holds Replying b (both_hold (has_message o) (ltb o.sent o.count) m (lt-ltb o.sent o.count h))

  -- In every state none is out or one is.
  one_told : (state : State) → Rule state o → either (has_nothing o) (has_message o) ≡ true
  unfolding message_rule idle_rule held_rule
  one_told (IdleState Fresh) r = either_first (has_nothing o) (has_message o) r
  one_told (IdleState Spent) r = r
  one_told (IdleState Repeatable) r = r
  one_told Collect r = either_first (has_nothing o) (has_message o) r
  one_told Running r = either_first (has_nothing o) (has_message o) r
  one_told Replying r = either_second (has_nothing o) (has_message o) (both_true (has_message o) (ltb o.sent o.count) r).0
  one_told (Held Data) r = either_second (has_nothing o) (has_message o) r
  one_told (Held (Fault status)) r = either_first (has_nothing o) (has_message o) r

  -- So in IDLE spent it is right whatever the state was before,
  pub spent_holds : (state : State) → outgoing_sound state o ≡ true → outgoing_sound (IdleState Spent) o ≡ true
  unfolding message_rule idle_rule
  spent_holds state e = out_holds (IdleState Spent) (out_told state e).0 (one_told state (out_told state e).1)

  -- and in IDLE repeatable.
  pub repeatable_holds : (state : State) → outgoing_sound state o ≡ true → outgoing_sound (IdleState Repeatable) o ≡ true
  unfolding message_rule idle_rule
  repeatable_holds state e = out_holds (IdleState Repeatable) (out_told state e).0 (one_told state (out_told state e).1)

-- In a sound record RESEND is off where the state does not name it.
module _ (s : Server) (kept : sound s ≡ true) where
  -- In a state other than HELD,
  pub resend-off : is_held s.state ≡ false → s.resend ≡ Off
  resend-off e =
      unnamed_off s.resend s.tickets
      (subst (λ (named : Bool). timer_sound named s.resend s.tickets ≡ true) e (rules_told s kept).timer)

  -- so nothing is armed in IDLE.
  pub idle_unarmed : is_idle s.state ≡ true → s.resend ≡ Off
  idle_unarmed e = resend-off (idle_state s.state e)
