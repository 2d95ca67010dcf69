-- The bytes that encoding gives of a client's record, and what is not judged of readable ones.
use Rattle.std.specs.Prelude.{ℕ, true, List, ◌⊎◌, ◌≡◌, length, drop}
use Rattle.record_bytes.specs.Layout.{record_size}
use Rattle.record_bytes.specs.Fits.{Octets}
use Rattle.record_bytes.specs.Canonical.{TicketClear, LengthsClear, TicketUnjudged, SharedUnjudged}
use Rattle.client_bytes.specs.Layout.{readable as is_readable}

-- 272 readable bytes. The ticket of WAIT stands at 40 and its mark at 64, that of ACK at 48 and its mark at 65, that of
-- CANCEL at 56 and its mark at 66; each is 0 where the timer is not armed. A slot that is not held has length 0.
pub record Canonical (b : List ℕ) : Type 0 where
  pub size : length b ≡ record_size
  pub octets : Octets b
  pub readable : is_readable b ≡ true
  pub wait : TicketClear 64 40 b
  pub ack : TicketClear 65 48 b
  pub cancel : TicketClear 66 56 b
  pub slots : LengthsClear (drop 144 b)

-- The places that are not judged: what is judged on neither side, and the tickets of ACK and of CANCEL where they are not
-- armed.
abbrev pub Unjudged : List ℕ → ℕ → Type 0
Unjudged b i = SharedUnjudged b i ⊎ (TicketUnjudged 65 48 b i ⊎ TicketUnjudged 66 56 b i)
