-- Bytes that are the same in 272 places are decoded alike.
use Prim.Native.Nat.{ℕ, ◌+◌, ◌≤◌, ◌<◌}
use mathlib.Core.Bool.{Bool, true, false}
use mathlib.Core.List.{List}
use mathlib.Core.Logic.{◌⊎◌}
use mathlib.Core.Path.{◌≡◌, refl, ◌∙◌}
use native.Mathlib.Omega.{arith}
use lib.Dec.{ltb}
use lib.ListN.{get_or}
use borrow.Author.Tests.{ltb-true, ltb-false}
use Rattle.words.specs.Number.{number}
use Rattle.record_bytes.specs.Canonical.{SharedUnjudged}
use Rattle.record_bytes.specs.Layout.{fields_in, decoded_in}
use Rattle.record_bytes.proofs.Alike.{with_own, timer_at_alike, shared_readable_lem, fields_alike}
use Rattle.record_bytes.proofs.Places.{number_alike}

pub decoded_alike : (b c : List ℕ) → ((i : ℕ) → i < 272 → get_or c i 0 ≡ get_or b i 0) → decoded_in c ≡ decoded_in b
unfolding decoded_in fields_in
decoded_alike b c same = λ i. record {
  readable = shared_readable_lem Past b c within none i;
  second = same 65 (omega arith) i;
  third = same 66 (omega arith) i;
  ticket = eight 56 (omega arith) i;
  fields = (fields_alike Past b c within none ∙ (λ j. with_own (eight 48 (omega arith) j) (cancel j) (fields_in b))) i;
}
  where
    Past : ℕ → Type 0
    Past i = 272 ≤ i

    within : (i : ℕ) → (Past i → ⊥) → get_or c i 0 ≡ get_or b i 0
    within i not-past = by_place (ltb i 272) refl
      where
        by_place : (test : Bool) → ltb i 272 ≡ test → get_or c i 0 ≡ get_or b i 0
        by_place true e = same i (ltb-true i 272 e)
        by_place false e = absurd (not-past (ltb-false i 272 e))

    none : (i : ℕ) → i < 272 → Past i → SharedUnjudged b i ⊎ ((48 ≤ i) × (i < 64))
    none i below past = absurd (omega (arith, below, past))

    eight : (at : ℕ) → at + 8 ≤ 272 → number 8 true c at ≡ number 8 true b at
    eight at room = number_alike 8 b c at (λ (i : ℕ) (low : at ≤ i) (high : i < at + 8). same i (omega arith))

    cancel : (fields_in c).cancel ≡ (fields_in b).cancel
    cancel = timer_at_alike b c 66 56 (same 66 (omega arith)) (λ (armed : get_or b 66 0 ≡ 0 → ⊥). eight 56 (omega arith))
