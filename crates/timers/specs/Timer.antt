-- A timer: off, or armed with a ticket.
use Rattle.std.specs.Prelude.{ℕ, Option}
pub use Rattle.std.specs.Prelude.{None as Off, Some as Armed}

abbrev pub Timer : Type 0
Timer = Option ℕ
