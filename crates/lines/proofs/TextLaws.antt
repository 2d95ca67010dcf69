-- Laws of numbers as text.
use Prim.Native.Nat.{ℕ, zero, suc, ◌+◌, ◌-◌, ◌/◌, ◌%◌, ◌^◌, ◌≤◌, ◌<◌}
use mathlib.Core.List.{List, [], ◌∷◌, ◌++◌}
use mathlib.Core.Path.{◌≡◌, refl, ◌∙◌}
use mathlib.Core.Bool.{Bool, true, false}
use native.Mathlib.Omega.{arith}
use native.Mathlib.Nat.{pow-suc, one-le-pow, pow-le-pow_right}
use lib.ListN.{take}
use lib.Dec.{ltb}
use borrow.Author.Tests.{lt-ltb, le-ltb, ltb-true, ltb-false}
use Rattle.words.proofs.Tests.{choose_true, choose_false}
use Rattle.io.specs.Digits.{hex_digit_ascii, last_digits, IsDigitCount}
use Rattle.lines.specs.Text.{decimal_by, decimal}

glyph_digit : (d : ℕ) → d < 10 → hex_digit_ascii d ≡ 48 + d
glyph_digit d h = rw (lt-ltb d 10 h)

-- The fewest digits that hold a number are those of its decimal text.
pub decimal-digits : (n k v : ℕ) → k < n → v < 10 ^ suc k → (1 < suc k → 10 ^ k ≤ v) → last_digits 10 (suc k) v ≡ decimal_by n v
unfolding decimal_by
decimal-digits zero k v room above below = let z : ⊥ = omega arith in elim z [ ]
decimal-digits (suc n) zero v room above below =
    let small : v < 10 = omega arith in
    let last : v % 10 ≡ v = omega arith in
    rw (choose_true (ltb v 10) ((48 + v) ∷ []) (decimal_by n (v / 10) ++ ((48 + v % 10) ∷ [])) (lt-ltb v 10 small), glyph_digit (v % 10) (omega arith), last)
decimal-digits (suc n) (suc k) v room above below =
    let large : 10 ≤ v = omega (arith, below (omega arith), pow-suc 10 k, one-le-pow k 10 (omega arith)) in
    let front : last_digits 10 (suc k) (v / 10) ≡ decimal_by n (v / 10) =
    decimal-digits n k (v / 10) (omega arith) (omega (arith, pow-suc 10 (suc k))) (λ (h : 1 < suc k). omega (arith, below (omega arith), pow-suc 10 k)) in
    rw (choose_false (ltb v 10) ((48 + v) ∷ []) (decimal_by n (v / 10) ++ ((48 + v % 10) ∷ [])) (le-ltb v 10 large), glyph_digit (v % 10) (omega arith), ← front)

-- A u64 has at most 20 digits.
few_digits : (k v : ℕ) → v < 18446744073709551616 → 10 ^ k ≤ v → k < 20
few_digits k v small large = at_most (ltb k 20) refl
  where
    at_most : (t : Bool) → ltb k 20 ≡ t → k < 20
    at_most true e = ltb-true k 20 e
    at_most false e =
        let more : 10 ^ 20 ≤ 10 ^ k = pow-le-pow_right (omega arith) (ltb-false k 20 e) in
        omega arith

pub decimal_text : (v count : ℕ) (out : List ℕ) → v < 18446744073709551616 → IsDigitCount 10 1 v count → take count out ≡ last_digits 10 count v → take count out ≡ decimal v
unfolding decimal
decimal_text v zero out small few e = let z : ⊥ = omega (arith, few.0) in elim z [ ]
decimal_text v (suc zero) out small few e = e ∙ decimal-digits 20 zero v (omega arith) few.1 (λ (h : 1 < 1). omega arith)
decimal_text v (suc (suc k)) out small few e =
    let same : suc (suc k) - 1 ≡ suc k = omega arith in
    let large : 10 ^ suc k ≤ v = rw same at (few.2 (omega arith)) in
    e ∙ decimal-digits 20 (suc k) v (few_digits (suc k) v small large) few.1 (λ (h : 1 < suc (suc k)). large)
