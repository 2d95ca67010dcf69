-- What an event of the server gives back.
use Rattle.calls.specs.declared.Outcome.{Outcome as OutcomeOf}
use Rattle.server.specs.declared.records.Server.{Server}

abbrev pub Outcome : Type 0
Outcome = OutcomeOf Server
