-- The record rules of a message received, by name.
use Prim.Native.Nat.{ℕ, ◌<◌, ◌≤◌}
use mathlib.Core.Bool.{true, false≢true}
use mathlib.Core.Path.{◌≡◌, sym, ap, ◌∙◌}
use native.Mathlib.Omega.{arith}
use native.Mathlib.Decide.{dec_lt}
use native.Mathlib.Nat.{zero-add}
use lib.Dec.{eqb}
use lib.ListN.{length, get_or, get_or-eq_default}
use borrow.Author.Tests.{eq-eqb, eqb-true}
use Rattle.words.specs.Sizes.{body_size, window_size}
use Rattle.words.proofs.Tests.{both_hold, both_true}
use Rattle.incoming.specs.declared.Slot.{Slot}
use Rattle.incoming.specs.declared.Incoming.{Incoming}
use Rattle.incoming.specs.Slots.{missing, window, within, sound_from, last_sound, sound, ready}
use Rattle.incoming.proofs.SlotLaws.{count_held, sound_told}

-- It has its 32 slots, the known last is at most 31, and every slot keeps its rule.
pub record Kept (m : Incoming) : Type 0 where
  pub slotted : length m.slots ≡ window_size
  pub last : last_sound m.last ≡ true
  pub slots : sound_from m.last 0 (window m) ≡ true

-- A sound record is so,
pub kept_by : (m : Incoming) → sound m ≡ true → Kept m
unfolding sound
kept_by m e =
    let size = both_true (eqb (length m.slots) window_size) _ e in
    let rules = both_true (last_sound m.last) (sound_from m.last 0 (window m)) size.1 in
    record { slotted = eqb-true (length m.slots) window_size size.0; last = rules.0; slots = rules.1 }

-- and one that is so is sound.
pub sound_by : (m : Incoming) → Kept m → sound m ≡ true
unfolding sound
sound_by m kept =
    both_hold (eqb (length m.slots) window_size) _ (eq-eqb (length m.slots) window_size kept.slotted)
    (both_hold (last_sound m.last) (sound_from m.last 0 (window m)) kept.last kept.slots)

-- A slot that is held is one of them,
pub held_inside : (m : Incoming) → Kept m → (g : ℕ) → (get_or (window m) g missing).held ≡ true → g < window_size
held_inside m kept g k = by_place (dec_lt g window_size)
  where
    by_place : Dec (g < window_size) → g < window_size
    by_place (yes here) = here
    by_place (no past) =
        let beyond : length (window m) ≤ g = omega (arith, kept.slotted) in
        absurd (false≢true (sym (ap (λ (s : Slot). s.held) (get_or-eq_default (window m) missing beyond)) ∙ k))

-- at most 1,392 long, and not above the known last.
pub held_rule_lem : (m : Incoming) → Kept m → (g : ℕ) → (get_or (window m) g missing).held ≡ true
    → ((get_or (window m) g missing).length ≤ body_size) × (within m.last g ≡ true)
held_rule_lem m kept g k =
    rw zero-add at
    (sound_told m.last 0 (window m) g missing kept.slots
    (omega (arith, kept.slotted, held_inside m kept g k)) k)

-- What is ready is held.
pub ready_held : (m : Incoming) (j : ℕ) → j < ready m → (get_or (window m) j missing).held ≡ true
ready_held m j below = count_held (window m) j missing below
