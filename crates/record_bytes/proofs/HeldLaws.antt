-- The slots that bytes give, whether each is readable, and the bytes of one more slot.
use Prim.Native.Nat.{ℕ, zero, suc, ◌+◌, ◌*◌, ◌<◌, ◌≤◌}
use mathlib.Core.Bool.{Bool, true, false, ◌&&◌}
use mathlib.Core.List.{List, [], ◌∷◌, ◌++◌}
use mathlib.Core.Path.{◌≡◌, refl, sym, ap, ◌∙◌}
use native.Mathlib.Numerals.{add-one}
use native.Mathlib.Nat.{le_of_lt}
use native.Mathlib.Omega.{arith}
use lib.ListN.{length, get_or, set, take, length-set}
use lib.Dec.{eqb}
use borrow.Author.Tests.{eqb-true, eqb-false}
use Rattle.std.proofs.lemmas.List.{ext_get_or, get_or-set_same, get_or-set_other}
use lib.Seq.{take-suc, take_all, length-take-le}
use Rattle.words.specs.Choice.{choose, both}
use Rattle.words.specs.Sizes.{window_size}
use Rattle.words.specs.Place.{put_at, placed}
use Rattle.words.proofs.Place.{put-behind, placed_fits, length-put_at, placed-front}
use Rattle.incoming.specs.declared.Slot.{Slot}
use Rattle.incoming.specs.Slots.{missing}
use Rattle.record_bytes.specs.Held.{slot_bytes, slots_bytes, slot_in, slots_below, slots_in, slot_readable, readable_below}

pub length-slots : (xs : List Slot) → length (slots_bytes xs) ≡ 4 * length xs
length-slots [] = refl
length-slots (x ∷ xs) =
    let rest : length (slots_bytes xs) ≡ 4 * length xs = length-slots xs in
    omega arith

slots-append : (a b : List Slot) → slots_bytes (a ++ b) ≡ slots_bytes a ++ slots_bytes b
slots-append [] b = refl
slots-append (x ∷ xs) b = ap (λ (l : List ℕ). slot_bytes x.held x.length ++ l) (slots-append xs b)

-- The bytes of one more slot stand behind those of the slots before it.
slots_one : (xs : List Slot) (f : ℕ) (d : Slot) → f < length xs
    → slots_bytes (take (f + 1) xs) ≡ slots_bytes (take f xs) ++ slot_bytes (get_or xs f d).held (get_or xs f d).length
slots_one xs f d h =
    ap slots_bytes (ap (λ (n : ℕ). take n xs) (add-one f) ∙ take-suc xs f d h) ∙ slots-append (take f xs) (get_or xs f d ∷ [])

pub bytes_more : (xs : List Slot) (f : ℕ) (d : Slot) (bytes after four z : List ℕ) → f < length xs → 4 * f + 4 ≤ length z
    → bytes ≡ placed 0 (slots_bytes (take f xs)) z → four ≡ slot_bytes (get_or xs f d).held (get_or xs f d).length
    → after ≡ placed (4 * f) four bytes → after ≡ placed 0 (slots_bytes (take (f + 1) xs)) z
bytes_more xs f d bytes after four z h room p q e =
    let front : 0 + length (slots_bytes (take f xs)) ≡ 4 * f = omega (arith, length-slots (take f xs), length-take-le f xs (le_of_lt h)) in
    rw (e, p, q, put-behind 0 (4 * f) (slots_bytes (take f xs)) (slot_bytes (get_or xs f d).held (get_or xs f d).length) z front room)
    (ap (λ (l : List ℕ). placed 0 l z) (sym (slots_one xs f d h)))

-- Nothing is put.
pub placed-nothing : (z : List ℕ) → z ≡ placed 0 [] z
unfolding put_at
placed-nothing z = sym (placed_fits 0 [] z (omega arith))

-- All of a buffer of that length is put into.
pub placed_all : (s z : List ℕ) → length s ≡ length z → placed 0 s z ≡ s
placed_all s z e =
    let room : 0 + length s ≤ length z = omega arith in
    let fits : length s ≤ length z = omega arith in
    let size : length (placed 0 s z) ≡ length s = ap length (placed_fits 0 s z room) ∙ length-put_at 0 s z room ∙ sym e in
    sym (take_all (length s) (placed 0 s z) (omega arith)) ∙ placed-front s z (length s) refl fits

-- The slots that bytes give are those of each fragment.
length-below : (s : List ℕ) (n : ℕ) → length (slots_below s n) ≡ window_size
unfolding slots_below
length-below s zero = refl
length-below s (suc n) = length-set (slots_below s n) n (slot_in s n) ∙ length-below s n

slot_below : (s : List ℕ) (n f : ℕ) → f < n → n ≤ window_size → get_or (slots_below s n) f missing ≡ slot_in s f
unfolding slots_below
slot_below s zero f below most = absurd (omega arith)
slot_below s (suc n) f below most = by_place (eqb f n) refl (slot_below s n f)
  where
    by_place : (test : Bool) → eqb f n ≡ test
        → (f < n → n ≤ window_size → get_or (slots_below s n) f missing ≡ slot_in s f)
        → get_or (set (slots_below s n) n (slot_in s n)) f missing ≡ slot_in s f
    by_place true e before =
        let here : f ≡ n = eqb-true f n e in
        rw here (get_or-set_same (slots_below s n) n (slot_in s n) missing (omega (arith, length-below s n)))
    by_place false e before =
        let other : f ≡ n → ⊥ = eqb-false f n e in
        get_or-set_other (slots_below s n) n f (slot_in s n) missing other ∙ before (omega (arith, other)) (omega arith)

pub slots_each : (s : List ℕ) (xs : List Slot) → length xs ≡ window_size
    → ((f : ℕ) → f < window_size → get_or xs f missing ≡ slot_in s f) → xs ≡ slots_in s
unfolding slots_in
slots_each s xs size each =
    ext_get_or missing xs (slots_below s window_size) (size ∙ sym (length-below s window_size))
    (λ (f : ℕ) (h : f < length xs).
    let below : f < window_size = omega (arith, h, size) in
    each f below ∙ sym (slot_below s window_size f below (omega arith)))

-- One more that is readable.
pub readable_more : (s : List ℕ) (f : ℕ) (all one : Bool) → all ≡ readable_below s f → one ≡ slot_readable s f
    → (all && one) ≡ readable_below s (f + 1)
unfolding readable_below both choose
readable_more s f all one p q = and_both all one ∙ rw (add-one f, p, q)
  where
    and_both : (a b : Bool) → (a && b) ≡ both a b
    and_both true b = refl
    and_both false b = refl
