-- What the numbers that starts bear tell of their ordinals: of a PDU of start i, at a record that stands at start
-- j, where n is the client's last start.
use Prim.Native.Nat.{ℕ, ◌≤◌, ◌<◌}
use mathlib.Core.Path.{◌≡◌}
use Rattle.history.specs.World.{call_number}

module _ (i j n : ℕ) (sent : i ≤ n) (stood : j ≤ n) where
  -- A number that is newer is of a later start,
  pub newer_start : call_number j < call_number i → j < i
  newer_start above = above

  -- and an equal one of the same.
  pub equal_start : call_number j ≡ call_number i → j ≡ i
  equal_start same = same
