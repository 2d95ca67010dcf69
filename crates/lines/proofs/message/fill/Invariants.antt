-- `lines::message::fill` meets its contract: after i turns the first i bytes are the message's, and the others as they were.
use mathlib.Core.List.{◌++◌}
use mathlib.Core.Path.{◌≡◌}
use lib.ListN.{length, drop}
use Rattle.lines.specs.Message.{message as message_of}
use Rattle.lines.proofs.message.fill.Given as goal

abbrev pub invariant-loop-i : goal.invariant-loop-i
invariant-loop-i l =
    (length l.message ≡ length l.initial.message) × (l.message ≡ message_of l.i l.seed ++ drop l.i l.initial.message)
