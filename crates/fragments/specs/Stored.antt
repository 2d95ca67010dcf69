-- What of an arriving body is stored: nothing, or all of it as the fragment of that number.
use Rattle.std.specs.Prelude.{ℕ, Option}
pub use Rattle.std.specs.Prelude.{None as Nothing, Some as At}

abbrev pub Stored : Type 0
Stored = Option ℕ
