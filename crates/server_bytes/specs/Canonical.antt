-- The bytes that encoding gives of a server's record, and what is not judged of readable ones.
use Rattle.std.specs.Prelude.{ℕ, ◌≤◌, ◌<◌, true, false, List, ◌⊎◌, ◌≡◌, length, get_or, drop, eqb}
use Rattle.words.specs.Number.{number}
use Rattle.record_bytes.specs.Layout.{record_size}
use Rattle.record_bytes.specs.Fits.{Octets}
use Rattle.record_bytes.specs.Canonical.{TicketClear, LengthsClear, SharedUnjudged}
use Rattle.server_bytes.specs.Layout.{readable as is_readable}

-- 272 readable bytes. The ticket of RESEND stands at 40 and its mark at 64; it is 0 where the timer is not armed. The
-- status at 48 is 0 in every state but 7, HELD with fault. A slot that is not held has length 0.
pub record Canonical (b : List ℕ) : Type 0 where
  pub size : length b ≡ record_size
  pub octets : Octets b
  pub readable : is_readable b ≡ true
  pub resend : TicketClear 64 40 b
  pub status : eqb (get_or b 0 0) 7 ≡ false → number 4 true b 48 ≡ 0
  pub slots : LengthsClear (drop 144 b)

-- The places that are not judged: what is judged on neither side, and the 4 bytes of the status outside HELD with fault.
abbrev pub Unjudged : List ℕ → ℕ → Type 0
Unjudged b i = SharedUnjudged b i ⊎ ((eqb (get_or b 0 0) 7 ≡ false) × (48 ≤ i) × (i < 52))
