-- `lines::text::put_text` meets its contract: from the line so far on, the bytes that are left give the whole line.
use native.Mathlib.Omega.{arith}
use Rattle.lines.specs.Line.{line}
use Rattle.lines.proofs.LineLaws.{copy_turn, copy_end}
use Rattle.lines.proofs.text.put_text.Goals as goal

pub loop-byte-preserved : goal.loop-byte-preserved
loop-byte-preserved c =
    let l = c.loop-byte in
    copy_turn c.args.text.now l.byte-index (line l.end l.out) _ l.invariant _ (omega arith) c.put_byte-end.ensures

pub returns : goal.returns
returns c =
    let l = c.loop-byte in
    copy_end c.args.text.now l.byte-index (line l.end l.out) _ l.invariant (omega arith)
