-- The library's numbers of bytes and bytes of numbers are those of words: digits, the least significant first.
use Prim.Native.Nat.{ℕ, zero, suc, ◌+◌, ◌/◌, ◌%◌}
use mathlib.Core.Bool.{true}
use mathlib.Core.List.{List, [], ◌∷◌}
use mathlib.Core.Path.{◌≡◌, refl, sym, ap, ◌∙◌}
use native.Mathlib.Omega.{arith}
use lib.ListN.{drop}
use lib.Seq.{get_or-drop}
use Rattle.std.specs.Int.{w16, w32, w64, to_le_bytes, from_le_bytes}
use Rattle.words.specs.Number.{le, digits, part, number}
use Rattle.record_bytes.specs.Parts.{uuid_in}
use Rattle.record_bytes.proofs.Places.{uuid-bytes}

pub digits_four : (v : ℕ) → to_le_bytes w32 v ≡ digits 4 v
digits_four v =
    let third : v / 65536 ≡ v / 256 / 256 = omega arith in
    let fourth : v / 16777216 ≡ v / 256 / 256 / 256 = omega arith in
    λ i. v % 256 ∷ (v / 256 % 256 ∷ (third i % 256 ∷ (fourth i % 256 ∷ [])))

pub digits_eight : (v : ℕ) → to_le_bytes w64 v ≡ digits 8 v
digits_eight v =
    let third : v / 65536 ≡ v / 256 / 256 = omega arith in
    let fourth : v / 16777216 ≡ v / 256 / 256 / 256 = omega arith in
    let fifth : v / 4294967296 ≡ v / 256 / 256 / 256 / 256 = omega arith in
    let sixth : v / 1099511627776 ≡ v / 256 / 256 / 256 / 256 / 256 = omega arith in
    let seventh : v / 281474976710656 ≡ v / 256 / 256 / 256 / 256 / 256 / 256 = omega arith in
    let eighth : v / 72057594037927936 ≡ v / 256 / 256 / 256 / 256 / 256 / 256 / 256 = omega arith in
    λ i.
    v % 256
    ∷ (v / 256 % 256
    ∷ (third i % 256 ∷ (fourth i % 256 ∷ (fifth i % 256 ∷ (sixth i % 256 ∷ (seventh i % 256 ∷ (eighth i % 256 ∷ [])))))))

-- A number and a UUID by the bytes that stand at their place.
pub read_two : (s : List ℕ) (at : ℕ) → from_le_bytes w16 (part 2 s at) ≡ number 2 true s at
unfolding number
read_two s at = omega arith

pub read_four : (s : List ℕ) (at : ℕ) → from_le_bytes w32 (part 4 s at) ≡ number 4 true s at
unfolding number
read_four s at = omega arith

pub read_eight : (s : List ℕ) (at : ℕ) → from_le_bytes w64 (part 8 s at) ≡ number 8 true s at
unfolding number
read_eight s at = omega arith

pub read_uuid : (s : List ℕ) (at : ℕ) → part 16 s at ≡ uuid_in s at
read_uuid s at = sym (uuid-bytes s at)

-- A number behind the first k bytes.
pub part_behind : (n k : ℕ) (s : List ℕ) (at : ℕ) → part n s (k + at) ≡ part n (drop k s) at
part_behind zero k s at = refl
part_behind (suc n) k s at =
    let next : k + at + 1 ≡ k + (at + 1) = omega arith in
    λ i. sym (get_or-drop k s at 0) i ∷ (ap (part n s) next ∙ part_behind n k s (at + 1)) i

pub number_behind : (n k : ℕ) (s : List ℕ) (at : ℕ) → number n true s (k + at) ≡ number n true (drop k s) at
unfolding number
number_behind n k s at = ap le (part_behind n k s at)
