-- What judging an event gives: its row, or why it is refused.
use Rattle.std.specs.Prelude.{ℕ, Result}
pub use Rattle.std.specs.Prelude.{Ok as Go, Err as Refuse}
use Rattle.answers.specs.declared.Refusal.{Refusal}
use Rattle.client.specs.declared.judge.Row.{Row}

abbrev pub Verdict : Type 0
Verdict = Result Row Refusal

-- Of a start: its row has the call's number.
abbrev pub StartVerdict : Type 0
StartVerdict = Result ℕ Refusal
