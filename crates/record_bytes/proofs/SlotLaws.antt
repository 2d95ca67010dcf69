-- Slots as bytes and back are the slots again.
use Prim.Native.Nat.{ℕ, zero, suc, ◌+◌, ◌*◌, ◌≤◌}
use mathlib.Core.Bool.{Bool, true, false}
use mathlib.Core.List.{List, [], ◌∷◌, map}
use mathlib.Core.Path.{◌≡◌, refl, sym, ap, subst, ◌∙◌}
use native.Mathlib.Numerals.{add-one}
use native.Mathlib.Omega.{arith}
use lib.ListN.{length, get_or, drop, drop_of_length-le}
use lib.Seq.{drop-cons}
use Rattle.words.specs.Choice.{choose, both, mark_of}
use Rattle.words.specs.Number.{digits, number}
use Rattle.words.specs.Sizes.{window_size}
use Rattle.words.proofs.Number.{value-bytes}
use Rattle.incoming.specs.declared.Slot.{Slot}
use Rattle.incoming.specs.Slots.{missing}
use Rattle.record_bytes.specs.Fits.{Octets, FitsSlot, FitsSlots}
use Rattle.record_bytes.specs.Canonical.{LengthsClear}
use Rattle.record_bytes.specs.Held.{length_where, slot_bytes, slots_bytes, slot_of, slot_in, slots_below, slots_in}
use Rattle.record_bytes.specs.Held.{slot_readable, readable_below, slots_readable}
use Rattle.record_bytes.proofs.PartLaws.{mark-readable, mark_small}

-- A slot as bytes and back.
abbrev again : Slot → Slot
again x = slot_in (slot_bytes x.held x.length) 0

slot-back : (held : Bool) (n : ℕ) → FitsSlot held n → slot_in (slot_bytes held n) 0 ≡ record { held = held; length = n }
unfolding slot_in slot_of length_where mark_of choose number
slot-back true n fits = λ i. record { held = true; length = value-bytes 2 true n fits i }
slot-back false n fits = λ i. record { held = false; length = sym fits i }

again_same : (xs : List Slot) → FitsSlots xs → map again xs ≡ xs
again_same [] fits = refl
again_same (x ∷ xs) fits = λ i. slot-back x.held x.length fits.0 i ∷ again_same xs fits.1 i

-- The n slots of a list from `at` on, each written out.
abbrev spelled : ℕ → List Slot → ℕ → List Slot
spelled zero xs at = []
spelled (suc n) xs at = get_or xs at missing ∷ spelled n xs (at + 1)

back_spelled : (xs : List Slot) → slots_in (slots_bytes (spelled window_size xs 0)) ≡ map again (spelled window_size xs 0)
unfolding slots_in slots_below slot_in number
back_spelled xs = refl

readable_spelled : (xs : List Slot) → slots_readable (slots_bytes (spelled window_size xs 0)) ≡ true
unfolding slots_readable readable_below slot_readable both choose
readable_spelled xs = simp mark-readable

spelled_drop : (n at : ℕ) (xs : List Slot) → at + n ≡ length xs → spelled n xs at ≡ drop at xs
spelled_drop zero at xs e =
    let end : length xs ≤ at = omega arith in
    sym (drop_of_length-le xs end)
spelled_drop (suc n) at xs e =
    rw (drop-cons xs at missing (omega arith), ← add-one at)
    (ap (λ (l : List Slot). get_or xs at missing ∷ l) (spelled_drop n (at + 1) xs (omega arith)))

module _ (xs : List Slot) (size : length xs ≡ window_size) where
  spelled_same : spelled window_size xs 0 ≡ xs
  spelled_same = spelled_drop window_size 0 xs (sym size)

  pub slots-back : FitsSlots xs → slots_in (slots_bytes xs) ≡ xs
  slots-back fits =
      subst (λ (l : List Slot). slots_in (slots_bytes l) ≡ map again l) spelled_same (back_spelled xs)
      ∙ again_same xs fits

  pub slots-readable : slots_readable (slots_bytes xs) ≡ true
  slots-readable = subst (λ (l : List Slot). slots_readable (slots_bytes l) ≡ true) spelled_same (readable_spelled xs)

-- The bytes of slots are bytes.
pub octets_slots : (xs : List Slot) → Octets (slots_bytes xs)
octets_slots [] = tt
octets_slots (x ∷ xs) = (omega arith, (omega arith, (mark_small x.held, (omega arith, octets_slots xs))))

-- A slot that is not held is written with length 0.
length-clear : (held : Bool) (n : ℕ) → mark_of held ≡ 0 → number 2 true (digits 2 (length_where held n)) 0 ≡ 0
unfolding mark_of length_where choose number
length-clear true n e = absurd (omega (arith, e))
length-clear false n e = refl

behind-first : (x : Slot) (xs : List Slot) (k place : ℕ) → place ≡ suc (suc (suc (suc k)))
    → get_or (slots_bytes (x ∷ xs)) place 0 ≡ get_or (slots_bytes xs) k 0
behind-first x xs k place e = ap (λ (n : ℕ). get_or (slots_bytes (x ∷ xs)) n 0) e

pub lengths_clear : (xs : List Slot) → LengthsClear (slots_bytes xs)
unfolding number
lengths_clear [] f h e = refl
lengths_clear (x ∷ xs) zero h e = length-clear x.held x.length e
lengths_clear (x ∷ xs) (suc f) h e =
    let mark : get_or (slots_bytes xs) (4 * f + 2) 0 ≡ 0 =
    sym (behind-first x xs (4 * f + 2) (4 * suc f + 2) (omega arith)) ∙ e in
    let rest : number 2 true (slots_bytes xs) (4 * f) ≡ 0 = lengths_clear xs f (omega arith) mark in
    omega (
      arith,
      rest,
      behind-first x xs (4 * f) (4 * suc f) (omega arith),
      behind-first x xs (4 * f + 1) (4 * suc f + 1) (omega arith),
    )
