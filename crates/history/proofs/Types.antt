-- Requests, acks, cancels and responses by the type number.
use Prim.Native.Nat.{ℕ}
use mathlib.Core.Path.{◌≡◌}

abbrev pub IsRequest : ℕ → Type 0
IsRequest kind = kind ≡ 0

abbrev pub IsAck : ℕ → Type 0
IsAck kind = kind ≡ 7

abbrev pub IsCancel : ℕ → Type 0
IsCancel kind = kind ≡ 8

abbrev pub IsResponse : ℕ → Type 0
IsResponse kind = kind ≡ 2
