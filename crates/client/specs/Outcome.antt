-- What an event of the client gives back.
use Rattle.calls.specs.declared.Outcome.{Outcome as OutcomeOf}
use Rattle.client.specs.declared.records.Client.{Client}

abbrev pub Outcome : Type 0
Outcome = OutcomeOf Client
