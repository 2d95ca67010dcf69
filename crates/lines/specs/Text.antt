-- Numbers as text, in ASCII.
use Rattle.std.specs.Prelude.{ℕ, zero, suc, ◌+◌, ◌/◌, ◌%◌, List, [], ◌∷◌, ◌++◌, ltb}
use Rattle.words.specs.Choice.{choose}

-- The decimal digits of a number that has at most n of them, with no zero in front.
unfoldable pub decimal_by : ℕ → ℕ → List ℕ
decimal_by zero v = []
decimal_by (suc n) v = choose (ltb v 10) ((48 + v) ∷ []) (decimal_by n (v / 10) ++ ((48 + v % 10) ∷ []))

-- Those of a u64, which has at most 20.
unfoldable pub decimal : ℕ → List ℕ
decimal v = decimal_by 20 v
