-- Laws of text put behind what a buffer has in use.
use Prim.Native.Nat.{ℕ, suc, ◌+◌, ◌≤◌, ◌<◌}
use mathlib.Core.List.{List, [], ◌∷◌}
use mathlib.Core.Path.{◌≡◌, refl}
use native.Mathlib.Omega.{arith}
use native.Mathlib.Nat.{add-zero}
use native.Mathlib.Numerals.{add-one}
use lib.ListN.{length, get_or, set, drop, length-set, take-append-drop, drop_of_length-le}
use lib.Seq.{drop-cons, set_split}
use Rattle.words.specs.Place.{placed, put_at}
use Rattle.words.proofs.Place.{placed_fits, put-behind}
use Rattle.words.proofs.Tests.{tests}
use Rattle.lines.specs.Line.{Line, line, put_byte, written}

pub byte_put : (b used : ℕ) (out : List ℕ) → used < length out → put_byte b (line used out) ≡ line (used + 1) (set out used b)
unfolding put_byte
byte_put b used out h = search tests

one : (b used : ℕ) (out : List ℕ) → used < length out → set out used b ≡ placed used (b ∷ []) out
unfolding put_at
one b used out h = rw (placed_fits used (b ∷ []) out (omega arith), add-one used) (set_split out used b h)

nothing : (used : ℕ) (out : List ℕ) → used ≤ length out → placed used [] out ≡ out
unfolding put_at
nothing used out h = rw (placed_fits used [] out (omega arith), add-zero used) (take-append-drop used out)

-- A text that fits lies behind the bytes in use, and the other bytes are as they were.
pub written_fits : (text : List ℕ) (used : ℕ) (out : List ℕ) → used + length text ≤ length out
    → written text (line used out) ≡ line (used + length text) (placed used text out)
unfolding written
written_fits [] used out h = rw (add-zero used, nothing used out (omega arith))
written_fits (b ∷ bs) used out h =
    let room : used < length out = omega arith in
    let here : set out used b ≡ placed used (b ∷ []) out = one b used out room in
    let rest : written bs (line (used + 1) (set out used b)) ≡ line (used + 1 + length bs) (placed (used + 1) bs (set out used b)) =
    written_fits bs (used + 1) (set out used b) (simp length-set (omega arith)) in
    let both : placed (used + 1) bs (placed used (b ∷ []) out) ≡ placed used (b ∷ bs) out =
    put-behind used (used + 1) (b ∷ []) bs out refl (omega arith) in
    let count : used + 1 + length bs ≡ used + suc (length bs) = omega arith in
    rw (byte_put b used out room, rest, here, both, count)

-- A turn of a copy, told by what is left of the text, and its end.
module _ (text : List ℕ) (i : ℕ) (l goal : Line) (left : written (drop i text) l ≡ goal) where
  pub copy_turn : (after : Line) → i < length text → after ≡ put_byte (get_or text i 0) l → written (drop (i + 1) text) after ≡ goal
  unfolding written
  copy_turn after h e = rw (e, add-one i) (rw (drop-cons text i 0 h) at left)

  pub copy_end : length text ≤ i → l ≡ goal
  unfolding written
  copy_end h = rw (drop_of_length-le text h) at left
