-- What is not judged of readable bytes, and stands at 0 in canonical ones: on both sides the ticket of a timer that is
-- not armed, and the length of a slot that is not held.
use Rattle.std.specs.Prelude.{ℕ, ◌+◌, ◌*◌, ◌≤◌, ◌<◌, true, List, ◌⊎◌, ◌≡◌, length, get_or}
use Rattle.words.specs.Number.{number}
use Rattle.words.specs.Sizes.{window_size}
use Rattle.record_bytes.specs.Layout.{record_size}

-- Where the mark says that a timer is not armed, its ticket of 8 bytes at `at` is 0.
abbrev pub TicketClear : ℕ → ℕ → List ℕ → Type 0
TicketClear mark at b = get_or b mark 0 ≡ 0 → number 8 true b at ≡ 0

-- Where the mark says that fragment f is not held, its length is 0. Each slot has four bytes.
abbrev pub LengthsClear : List ℕ → Type 0
LengthsClear s = (f : ℕ) → f < window_size → get_or s (4 * f + 2) 0 ≡ 0 → number 2 true s (4 * f) ≡ 0

-- The places that are not judged: the 8 bytes of the ticket at `at`, where the mark says that the timer is not armed;
abbrev pub TicketUnjudged : ℕ → ℕ → List ℕ → ℕ → Type 0
TicketUnjudged mark at b i = (get_or b mark 0 ≡ 0) × (at ≤ i) × (i < at + 8)

-- the 2 bytes of a slot's length, where its mark says that the fragment is not held;
pub record LengthUnjudged (b : List ℕ) (i : ℕ) : Type 0 where
  pub fragment : ℕ
  pub missing : get_or b (4 * fragment + 146) 0 ≡ 0
  pub from : 4 * fragment + 144 ≤ i
  pub below : i < 4 * fragment + 146

-- and those that are so on both sides.
abbrev pub SharedUnjudged : List ℕ → ℕ → Type 0
SharedUnjudged b i = TicketUnjudged 64 40 b i ⊎ LengthUnjudged b i

-- Two runs of 272 bytes are the same but at places that are not judged.
pub record SameButAt (Unjudged : ℕ → Type 0) (b c : List ℕ) : Type 0 where
  pub size : length b ≡ record_size
  pub other_size : length c ≡ record_size
  pub same : (i : ℕ) → (Unjudged i → ⊥) → get_or c i 0 ≡ get_or b i 0
