-- What judging an event gives: its row, or why it is refused.
use Rattle.std.specs.Prelude.{Result}
pub use Rattle.std.specs.Prelude.{Ok as Go, Err as Refuse}
use Rattle.answers.specs.declared.Refusal.{Refusal}
use Rattle.server.specs.declared.judge.Row.{Row}

abbrev pub Verdict : Type 0
Verdict = Result Row Refusal
