-- Slots read out of bytes fit them, and written again they are those bytes.
use Prim.Native.Nat.{ℕ, zero, suc, ◌+◌, ◌*◌, ◌≤◌, ◌<◌}
use mathlib.Core.Bool.{Bool, true, false}
use mathlib.Core.List.{List, [], ◌∷◌, ◌++◌}
use mathlib.Core.Path.{◌≡◌, refl, sym, ap, subst, ◌∙◌}
use native.Mathlib.Omega.{arith}
use lib.Dec.{eqb, leb}
use lib.ListN.{length, get_or}
use borrow.Author.Tests.{eqb-true}
use Rattle.words.specs.Choice.{choose, mark_of}
use Rattle.words.specs.Number.{digits, part, number}
use Rattle.words.specs.Sizes.{window_size}
use Rattle.words.proofs.Number.{digits-part, part_all}
use Rattle.words.proofs.Tests.{both_true}
use Rattle.incoming.specs.declared.Slot.{Slot}
use Rattle.record_bytes.specs.Fits.{Octets, FitsSlot, FitsSlots}
use Rattle.record_bytes.specs.Canonical.{LengthsClear}
use Rattle.record_bytes.specs.Held.{length_where, slots_bytes, slot_of, slot_in, slots_below, slots_in}
use Rattle.record_bytes.specs.Held.{slot_readable, readable_below, slots_readable}
use Rattle.record_bytes.proofs.ByteLaws.{octet_at, number_below}
use Rattle.record_bytes.proofs.Reading.{each_of, mark_zero, mark_again}

-- The slots of bytes from fragment f on, n of them, and their four bytes each.
abbrev slots_from : ℕ → List ℕ → ℕ → List Slot
slots_from zero s f = []
slots_from (suc n) s f = slot_in s f ∷ slots_from n s (f + 1)

abbrev fours_from : ℕ → List ℕ → ℕ → List ℕ
fours_from zero s f = []
fours_from (suc n) s f =
    get_or s (4 * f) 0 ∷ (get_or s (4 * f + 1) 0 ∷ (get_or s (4 * f + 2) 0 ∷ (get_or s (4 * f + 3) 0 ∷ fours_from n s (f + 1))))

slots_from_lem : (s : List ℕ) → slots_in s ≡ slots_from window_size s 0
unfolding slots_in slots_below
slots_from_lem s = refl

-- The length of a slot by its mark.
length_fits : (held : Bool) (n : ℕ) → n < 65536 → FitsSlot held (length_where held n)
unfolding length_where choose
length_fits true n h = h
length_fits false n h = refl

length_again : (held : Bool) (n : ℕ) → (held ≡ false → n ≡ 0) → length_where held (length_where held n) ≡ n
unfolding length_where choose
length_again true n h = refl
length_again false n h = sym (h refl)

-- A slot's mark and its length.
abbrev mark_at : List ℕ → ℕ → ℕ
mark_at s f = get_or s (4 * f + 2) 0

abbrev length_at : List ℕ → ℕ → ℕ
length_at s f = number 2 true s (4 * f)

module _ (s : List ℕ) (octets : Octets s) where
  from_fits : (n f : ℕ) → FitsSlots (slots_from n s f)
  unfolding slot_in slot_of
  from_fits zero f = tt
  from_fits (suc n) f =
      (length_fits (eqb (mark_at s f) 1) _ (number_below 2 true s (4 * f) octets), from_fits n (f + 1))

  pub slots_fit : FitsSlots (slots_in s)
  slots_fit = subst FitsSlots (sym (slots_from_lem s)) (from_fits window_size 0)

  module _ (size : length s ≡ 128) (readable : slots_readable s ≡ true) (clear : LengthsClear s) where
    -- One slot's mark is 0 or 1, and its spare byte 0.
    marks : (f : ℕ) → f < window_size → (leb (mark_at s f) 1 ≡ true) × (eqb (get_or s (4 * f + 3) 0) 0 ≡ true)
    unfolding slots_readable readable_below slot_readable
    marks f h = both_true _ _ (each_of (readable_below s) (slot_readable s) (λ (n : ℕ). refl) window_size readable f h)

    -- Its length is written as it stands.
    length_digits : (f : ℕ) → f < window_size
        → digits 2 (length_where (eqb (mark_at s f) 1) (length_where (eqb (mark_at s f) 1) (length_at s f)))
        ≡ part 2 s (4 * f)
    length_digits f h =
        ap (digits 2)
        (length_again _ _ (λ (e : eqb (mark_at s f) 1 ≡ false). clear f h (mark_zero (mark_at s f) (marks f h).0 e)))
        ∙ digits-part 2 s (4 * f) (octet_at s octets)

    from_again : (n f : ℕ) → f + n ≤ window_size → slots_bytes (slots_from n s f) ≡ fours_from n s f
    unfolding slot_in slot_of
    from_again zero f h = refl
    from_again (suc n) f h =
        let here : f < window_size = omega arith in
        let mark : mark_of (eqb (mark_at s f) 1) ≡ mark_at s f = mark_again (mark_at s f) (marks f here).0 in
        let spare : get_or s (4 * f + 3) 0 ≡ 0 = eqb-true (get_or s (4 * f + 3) 0) 0 (marks f here).1 in
        let rest : slots_bytes (slots_from n s (f + 1)) ≡ fours_from n s (f + 1) = from_again n (f + 1) (omega arith) in
        λ i. length_digits f here i ++ (mark i ∷ (sym spare i ∷ rest i))

    pub slots_again : slots_bytes (slots_in s) ≡ s
    slots_again = ap slots_bytes (slots_from_lem s) ∙ from_again window_size 0 (omega arith) ∙ part_all 128 s size
