-- `record_bytes::decoding::are_slots_readable` meets its contract. Before each turn it is known whether the slots below
-- f are readable.
use mathlib.Core.Path.{◌≡◌}
use lib.ListN.{drop}
use Rattle.record_bytes.specs.Held.{readable_below}
use Rattle.record_bytes.proofs.decoding.are_slots_readable.Given as goal

abbrev pub invariant-loop-f : goal.invariant-loop-f
invariant-loop-f l = l.all ≡ readable_below (drop 144 l.s) l.f
