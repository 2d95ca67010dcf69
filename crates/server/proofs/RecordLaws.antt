-- A fresh record keeps the record rules, and so do the two ways in which a row leaves its timer.
use Prim.Native.Nat.{ℕ}
use mathlib.Core.Bool.{true, false}
use mathlib.Core.List.{List}
use mathlib.Core.Path.{◌≡◌, refl}
use lib.Dec.{leb}
use Rattle.words.specs.Choice.{choose, both}
use Rattle.words.specs.Sizes.{retry_limit}
use Rattle.incoming.specs.declared.Incoming.{Incoming}
use Rattle.incoming.specs.Slots.{sound as incoming_sound}
use Rattle.incoming.proofs.SlotLaws.{cleared-sound}
use Rattle.outgoing.specs.declared.Outgoing.{Outgoing}
use Rattle.outgoing.specs.Sending.{no_message, bounded, has_nothing}
use Rattle.timers.specs.Tickets.{used_up, next_ticket, armed_afresh}
use Rattle.timers.proofs.TimerLaws.{armed_sound, named_sound, off-sound}
use Rattle.server.specs.declared.records.Idle.TheVariants.{Spent}
use Rattle.server.specs.declared.records.Reply.{Reply}
use Rattle.server.specs.declared.records.State.{State}
use Rattle.server.specs.declared.records.State.TheVariants.{Idle as IdleState, Held}
use Rattle.server.specs.declared.records.Server.{Server}
use Rattle.server.specs.records.States.{is_held}
use Rattle.server.specs.records.Rules.{idle_rule, message_rule, outgoing_sound, sound}
use Rattle.server.specs.records.Record.{fresh, holding, unarmed}
use Rattle.server.proofs.RuleLaws.{rules_told, rules_hold, spent_holds}

-- What no timer touches, for a state to go to: the count, the message, the fragments held.
pub record Untimed (state : State) (resends : ℕ) (o : Outgoing) (m : Incoming) : Type 0 where
  pub count : leb resends retry_limit ≡ true
  pub outgoing : outgoing_sound state o ≡ true
  pub held : incoming_sound m ≡ true

-- A sound record has it for its own state.
pub untimed_told : (s : Server) → sound s ≡ true → Untimed s.state s.resends s.outgoing s.incoming
untimed_told s kept =
    let r = rules_told s kept in
    record { count = r.count; outgoing = r.outgoing; held = r.incoming }

-- A fresh record is sound, whatever its ticket counter.
pub fresh-sound : (activity : List ℕ) (boot tickets : ℕ) → sound (fresh activity boot tickets) ≡ true
unfolding fresh outgoing_sound message_rule idle_rule bounded has_nothing no_message is_held both choose
fresh-sound activity boot tickets =
    rules_hold (fresh activity boot tickets)
    (record { count = refl; outgoing = refl; incoming = cleared-sound; timer = off-sound false tickets })

module _ (s : Server) where
  -- To HELD with RESEND armed, where a ticket is left.
  pub holding-sound : (reply : Reply) → Untimed (Held reply) s.resends s.outgoing s.incoming
      → used_up s.tickets ≡ false
      → sound (holding s reply) ≡ true
  unfolding holding is_held
  holding-sound reply b free =
      rules_hold (holding s reply)
      (record {
        count = b.count;
        outgoing = b.outgoing;
        incoming = b.held;
        timer = named_sound (armed_afresh s.tickets) (next_ticket s.tickets) (armed_sound s.tickets free);
      })

  -- To a state with nothing armed.
  pub unarmed-sound : (state : State) → Untimed state s.resends s.outgoing s.incoming
      → sound (unarmed s state) ≡ true
  unfolding unarmed
  unarmed-sound state b =
      rules_hold (unarmed s state)
      (record { count = b.count; outgoing = b.outgoing; incoming = b.held; timer = off-sound (is_held state) s.tickets })

  -- So a call can be spent from every state.
  pub spent-sound : sound s ≡ true → sound (unarmed s (IdleState Spent)) ≡ true
  spent-sound kept =
      let b = untimed_told s kept in
      unarmed-sound (IdleState Spent) (record { count = b.count; outgoing = spent_holds s.outgoing s.state b.outgoing; held = b.held })
