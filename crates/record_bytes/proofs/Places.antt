-- What has the same bytes at the same places is the same; and bytes with zeros behind them have the same bytes.
use Prim.Native.Nat.{ℕ, zero, suc, ◌+◌, ◌-◌, ◌≤◌, ◌<◌}
use mathlib.Core.Bool.{Bool, true, false}
use mathlib.Core.List.{List, ◌∷◌, ◌++◌}
use mathlib.Core.Path.{◌≡◌, refl, sym, ap, ◌∙◌}
use native.Mathlib.Omega.{arith}
use lib.Dec.{eqb, ltb}
use lib.ListN.{length, get_or, take, drop, replicate, length-replicate, length-take, get_or-append}
use lib.ListN.{get_or-eq_default}
use lib.Seq.{get_or-append-add, get_or-drop}
use borrow.Author.Tests.{ltb-true, ltb-false}
use Rattle.words.specs.Choice.{both}
use Rattle.words.specs.Number.{le, part, number}
use Rattle.words.specs.Place.{put_at, placed}
use Rattle.words.proofs.ListLaws.{get_or-replicate}
use Rattle.words.proofs.Number.{part-stretch, part_all}
use Rattle.words.proofs.Place.{placed_fits, length-put_at}
use Rattle.record_bytes.specs.Parts.{uuid_in, clear}

-- Numbers and places that are clear.
pub part_alike : (n : ℕ) (b c : List ℕ) (at : ℕ) → ((i : ℕ) → at ≤ i → i < at + n → get_or c i 0 ≡ get_or b i 0)
    → part n c at ≡ part n b at
part_alike zero b c at h = refl
part_alike (suc n) b c at h =
    let rest : part n c (at + 1) ≡ part n b (at + 1) =
    part_alike n b c (at + 1) (λ (k : ℕ) (low : at + 1 ≤ k) (high : k < at + 1 + n). h k (omega arith) (omega arith)) in
    λ i. h at (omega arith) (omega arith) i ∷ rest i

pub number_alike : (n : ℕ) (b c : List ℕ) (at : ℕ) → ((i : ℕ) → at ≤ i → i < at + n → get_or c i 0 ≡ get_or b i 0)
    → number n true c at ≡ number n true b at
unfolding number
number_alike n b c at h = ap le (part_alike n b c at h)

pub clear_alike : (n : ℕ) (b c : List ℕ) (at : ℕ) → ((i : ℕ) → at ≤ i → i < at + n → get_or c i 0 ≡ get_or b i 0)
    → clear n (drop at c) ≡ clear n (drop at b)
unfolding clear
clear_alike zero b c at h = refl
clear_alike (suc n) b c at h =
    let here : get_or (drop at c) n 0 ≡ get_or (drop at b) n 0 =
    get_or-drop at c n 0 ∙ h (at + n) (omega arith) (omega arith) ∙ sym (get_or-drop at b n 0) in
    λ i.
    both (clear_alike n b c at (λ (k : ℕ) (low : at ≤ k) (high : k < at + n). h k low (omega arith)) i) (eqb (here i) 0)

-- Zeros behind bytes, up to n: past the end of bytes each place counts as 0 anyhow.
module _ (n : ℕ) (s : List ℕ) (fits : length s ≤ n) where
  room : 0 + length s ≤ length (replicate {A = ℕ} n 0)
  room = omega (arith, length-replicate {A = ℕ} n 0)

  pub length-padded : length (placed 0 s (replicate n 0)) ≡ n
  length-padded =
      ap length (placed_fits 0 s (replicate n 0) room) ∙ length-put_at 0 s (replicate n 0) room
      ∙ length-replicate n 0

  pub padded_at : (i : ℕ) → get_or (placed 0 s (replicate n 0)) i 0 ≡ get_or s i 0
  unfolding put_at
  padded_at i =
      ap (λ (l : List ℕ). get_or l i 0) (placed_fits 0 s (replicate n 0) room) ∙ by_place (ltb i (length s)) refl
    where
      rest : List ℕ
      rest = drop (0 + length s) (replicate n 0)

      behind : length s ≤ i → get_or (s ++ rest) i 0 ≡ get_or s i 0
      behind past =
          let place : length s + (i - length s) ≡ i = omega arith in
          ap (λ (k : ℕ). get_or (s ++ rest) k 0) (sym place)
          ∙ get_or-append-add s rest (i - length s) 0
          ∙ get_or-drop (0 + length s) (replicate n 0) (i - length s) 0
          ∙ get_or-replicate n (0 + length s + (i - length s)) 0
          ∙ sym (get_or-eq_default s 0 past)

      by_place : (test : Bool) → ltb i (length s) ≡ test → get_or (s ++ rest) i 0 ≡ get_or s i 0
      by_place true e = get_or-append s rest 0 i (ltb-true i (length s) e)
      by_place false e = behind (ltb-false i (length s) e)

-- A UUID is its sixteen bytes.
pub uuid-bytes : (s : List ℕ) (at : ℕ) → uuid_in s at ≡ part 16 s at
unfolding uuid_in
uuid-bytes s at =
    let short : length (take 16 (drop at s)) ≤ 16 = simp length-take (omega arith) in
    let start : at + 0 ≡ at = omega arith in
    sym (part_all 16 (uuid_in s at) (length-padded 16 (take 16 (drop at s)) short))
    ∙ part_alike 16 (take 16 (drop at s)) (uuid_in s at) 0
    (λ (i : ℕ) (low : 0 ≤ i) (high : i < 0 + 16). padded_at 16 (take 16 (drop at s)) short i)
    ∙ part-stretch 16 16 at 0 s (omega arith)
    ∙ ap (part 16 s) start
