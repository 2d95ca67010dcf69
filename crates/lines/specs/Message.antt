-- The bytes of a message, told by a seed.
use Rattle.std.specs.Prelude.{ℕ, zero, suc, ◌+◌, ◌*◌, ◌/◌, ◌%◌, List, [], ◌∷◌, ◌++◌}
use Rattle.words.specs.Sizes.{body_size}

-- Byte i.
unfoldable pub byte_of : ℕ → ℕ → ℕ
byte_of seed i = (seed + 7 * i + i / body_size) % 256

-- The first n bytes.
unfoldable pub message : ℕ → ℕ → List ℕ
message zero seed = []
message (suc n) seed = message n seed ++ (byte_of seed n ∷ [])
