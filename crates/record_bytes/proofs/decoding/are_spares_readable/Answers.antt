-- `record_bytes::decoding::are_spares_readable` meets its contract.
use native.Mathlib.Omega.{arith}
use Rattle.words.specs.Choice.{choose, both}
use Rattle.record_bytes.specs.Layout.{spares_readable}
use Rattle.record_bytes.proofs.NumberLaws.{spares_clear}
use Rattle.record_bytes.proofs.decoding.are_spares_readable.Goals as goal

pub returns-then-is_clear-2 : goal.returns-then-is_clear-2
unfolding spares_readable both choose
returns-then-is_clear-2 c = rw (spares_clear c.args.s.now) (grind arith)

pub returns-else-is_clear-2 : goal.returns-else-is_clear-2
unfolding spares_readable both choose
returns-else-is_clear-2 c = rw (spares_clear c.args.s.now) (grind arith)
