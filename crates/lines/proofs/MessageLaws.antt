-- Laws of the bytes of a message.
use Prim.Native.Nat.{ℕ, zero, suc, ◌+◌, ◌*◌, ◌/◌, ◌%◌, ◌<◌}
use mathlib.Core.List.{List, [], ◌∷◌, ◌++◌}
use mathlib.Core.Path.{◌≡◌, refl, sym}
use native.Mathlib.Omega.{arith}
use native.Mathlib.Numerals.{add-one}
use lib.ListN.{length, get_or, set, drop, length-append}
use lib.Seq.{drop-cons, set_at, append_snoc}
use Rattle.lines.specs.Message.{byte_of, message}

-- Only the last eight bits of what is added count.
pub byte_reduced : (seed i q : ℕ) → (seed + 7 * (i % 256) + q % 256) % 256 ≡ (seed + 7 * i + q) % 256
byte_reduced seed i q =
    let whole : seed + 7 * i + q ≡ seed + 7 * (i % 256) + q % 256 + 256 * (7 * (i / 256) + q / 256) = omega arith in
    rw whole (more (seed + 7 * (i % 256) + q % 256) (7 * (i / 256) + q / 256))
  where
    more : (a k : ℕ) → a % 256 ≡ (a + 256 * k) % 256
    more a k = omega arith

length-message : (n seed : ℕ) → length (message n seed) ≡ n
unfolding message
length-message zero seed = refl
length-message (suc n) seed = rw (length-append (message n seed) (byte_of seed n ∷ []), length-message n seed) (omega arith)

-- A turn of filling a message, told by what is left of the old bytes.
module _ (before now : List ℕ) (seed i : ℕ) where
  pub message-turn : (b : ℕ) → i < length before → now ≡ message i seed ++ drop i before → b ≡ byte_of seed i
      → set now i b ≡ message (i + 1) seed ++ drop (i + 1) before
  unfolding message
  message-turn b h e f =
      rw (e, f, add-one i, drop-cons before i 0 h, set_at (message i seed) (get_or before i 0) (drop (suc i) before) (byte_of seed i) i (length-message i seed))
      (sym (append_snoc (message i seed) (byte_of seed i) (drop (suc i) before)))
