-- `lines::text::put_text` meets its contract: from the line so far on, the bytes that are left give the whole line.
use mathlib.Core.Path.{◌≡◌}
use lib.ListN.{drop}
use Rattle.lines.specs.Line.{line, written}
use Rattle.lines.proofs.text.put_text.Given as goal

abbrev pub invariant-loop-byte : goal.invariant-loop-byte
invariant-loop-byte l =
    written (drop l.byte-index l.text) (line l.end l.out) ≡ written l.text (line l.used l.initial.out)
