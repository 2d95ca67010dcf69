-- What every event, the reader and the writer answer: done, or refused with why.
use Rattle.std.specs.Prelude.{Result}
pub use Rattle.std.specs.Prelude.{Ok, Err as Refused}
use Rattle.answers.specs.declared.Refusal.{Refusal}

abbrev pub Answer : Type 0
Answer = Result (Unit {0}) Refusal

abbrev pub Done : Answer
Done = Ok tt

-- A value that goes with an answer: the value where it is Done, else why it is refused.
unfoldable pub if_done : {A : Type 0} → Answer → A → Result A Refusal
if_done (Ok tt) value = Ok value
if_done (Refused r) value = Refused r
