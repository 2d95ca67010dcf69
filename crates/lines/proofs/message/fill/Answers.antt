-- `lines::message::fill` meets its contract: after i turns the first i bytes are the message's, and the others as they were.
use mathlib.Core.Path.{refl}
use lib.ListN.{length-set}
use Rattle.lines.specs.Message.{message as message_of}
use Rattle.lines.proofs.MessageLaws.{message-turn}
use Rattle.lines.proofs.message.fill.Goals as goal

pub loop-i-init : goal.loop-i-init
unfolding message_of
loop-i-init c = (refl, refl)

pub loop-i-preserved : goal.loop-i-preserved
loop-i-preserved c =
    let l = c.loop-i in (
      simp length-set l.invariant.0,
      message-turn c.args.message.now l.message c.args.seed l.i _ c.loop-i-test.true l.invariant.1 c.byte.ensures,
    )
