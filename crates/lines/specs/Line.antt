-- Text put behind what a buffer has in use.
use Rattle.std.specs.Prelude.{ℕ, ◌+◌, List, [], ◌∷◌, length, set, ltb}
use Rattle.words.specs.Choice.{choose}

-- A whole buffer, and how many of its first bytes are in use.
pub record Line : Type 0 where
  pub used : ℕ
  pub out : List ℕ

abbrev pub line : ℕ → List ℕ → Line
line used out = record { used = used; out = out }

-- A byte behind those in use, where there is room; else the line stays as it was.
unfoldable pub put_byte : ℕ → Line → Line
put_byte b l = choose (ltb l.used (length l.out)) (line (l.used + 1) (set l.out l.used b)) l

-- The bytes of a text, one behind the other: what does not fit is left out.
unfoldable pub written : List ℕ → Line → Line
written [] l = l
written (b ∷ bs) l = written bs (put_byte b l)
