-- What an event of either machine gives back.
use Rattle.answers.specs.declared.Refusal.{Refusal}
use Rattle.answers.specs.Answer.{Done, Refused}
use Rattle.calls.specs.declared.Plan.{Plan}
use Rattle.calls.specs.declared.Outcome.{Outcome}
use Rattle.calls.specs.declared.Notice.TheVariants.{Nothing as Untold}
use Rattle.calls.specs.Sent.{Sent, Nothing as Unsent}

-- A refusal: nothing changes, nothing is sent, the stub is told nothing.
unfoldable pub refused : {M : Type 0} → M → Refusal → Outcome M
refused m r = record { answer = Refused r; machine = m; sent = Unsent; notice = Untold }

-- A row: the plan's record and notice, and what was sent.
unfoldable pub done : {M S : Type 0} → Plan M S → Sent → Outcome M
done plan sent = record { answer = Done; machine = plan.machine; sent = sent; notice = plan.notice }
