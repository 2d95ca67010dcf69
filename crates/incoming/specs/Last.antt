-- The number known to be the last fragment's, if one is.
use Rattle.std.specs.Prelude.{ℕ, Option}
pub use Rattle.std.specs.Prelude.{None as Unknown, Some as At}

abbrev pub Last : Type 0
Last = Option ℕ
