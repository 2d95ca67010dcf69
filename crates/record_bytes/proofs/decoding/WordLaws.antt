-- A slot by its four bytes.
use Prim.Native.Nat.{ℕ, ◌+◌, ◌*◌, ◌<◌}
use mathlib.Core.Bool.{Bool, true, false}
use mathlib.Core.List.{List}
use mathlib.Core.Path.{◌≡◌, refl}
use native.Mathlib.Omega.{arith}
use lib.Dec.{eqb, leb, ltb}
use lib.ListN.{get_or, drop}
use lib.Seq.{get_or-drop}
use borrow.Author.Tests.{leb-true, leb-false, eqb-true, eqb-false, lt-ltb, le-ltb}
use Rattle.words.specs.Choice.{choose, both}
use Rattle.words.specs.Number.{number}
use Rattle.record_bytes.specs.Held.{length_where, slot_of, slot_in, slot_readable}
use Rattle.record_bytes.proofs.NumberLaws.{number_four}

-- Bytes behind the first k are bytes.
pub octets_behind : (k : ℕ) (s : List ℕ) → ((i : ℕ) → get_or s i 0 < 256) → (i : ℕ) → get_or (drop k s) i 0 < 256
octets_behind k s octets i = rw (get_or-drop k s i 0) (octets (k + i))

-- A slot by the four bytes that stand there: its mark is the third, its length the first two.
pub slot_read : (s : List ℕ) (f n : ℕ) → n ≡ get_or s (4 * f) 0 + get_or s (4 * f + 1) 0 * 256
    → record { held = eqb (get_or s (4 * f + 1 + 1) 0) 1; length = length_where (eqb (get_or s (4 * f + 1 + 1) 0) 1) n } ≡ slot_in s f
unfolding slot_in slot_of number
slot_read s f n e =
    let third : 4 * f + 1 + 1 ≡ 4 * f + 2 = omega arith in
    let two : n ≡ get_or s (4 * f) 0 + 256 * (get_or s (4 * f + 1) 0 + 256 * 0) = omega arith in
    λ i. record { held = eqb (get_or s (third i) 0) 1; length = length_where (eqb (get_or s (third i) 0) 1) (two i) }

-- It is readable where the number of its four bytes has 17 bits.
word_small : (a b c d n : ℕ) → a < 256 → b < 256 → n ≡ a + 256 * b + 65536 * c + 16777216 * d
    → ltb n 131072 ≡ both (leb c 1) (eqb d 0)
unfolding both choose
word_small a b c d n p q e = by_tests (leb c 1) refl (eqb d 0) refl
  where
    by_tests : (mark : Bool) → leb c 1 ≡ mark → (spare : Bool) → eqb d 0 ≡ spare
        → ltb n 131072 ≡ choose mark spare false
    by_tests true h true k = lt-ltb n 131072 (omega (arith, leb-true c 1 h, eqb-true d 0 k))
    by_tests true h false k = le-ltb n 131072 (omega (arith, eqb-false d 0 k))
    by_tests false h spare k = le-ltb n 131072 (omega (arith, leb-false c 1 h))

pub word_readable : (s : List ℕ) → ((i : ℕ) → get_or s i 0 < 256) → (f : ℕ)
    → ltb (number 4 true s (4 * f)) 131072 ≡ slot_readable s f
unfolding slot_readable
word_readable s octets f =
    word_small _ _ _ _ (number 4 true s (4 * f)) (octets (4 * f)) (octets (4 * f + 1)) (number_four s (4 * f))
