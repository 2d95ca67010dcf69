-- Whether a call can be run again once it is replied to, or its reply is held and RESEND armed.
use Rattle.std.specs.Prelude.{Bool, eqb}
use Rattle.words.specs.Choice.{both}
use Rattle.outgoing.specs.declared.Outgoing.{Outgoing}

-- An idempotent call whose reply is one fragment can be run again.
unfoldable pub runs_again : Bool → Outgoing → Bool
runs_again idempotent o = both idempotent (eqb o.count 1)
