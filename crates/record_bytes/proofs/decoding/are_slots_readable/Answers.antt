-- `record_bytes::decoding::are_slots_readable` meets its contract. Before each turn it is known whether the slots below
-- f are readable.
use mathlib.Core.Path.{◌≡◌, refl, ap, ◌∙◌}
use native.Mathlib.Omega.{arith}
use lib.ListN.{drop}
use Rattle.words.specs.Sizes.{window_size}
use Rattle.record_bytes.specs.Held.{readable_below, slots_readable}
use Rattle.record_bytes.proofs.HeldLaws.{readable_more}
use Rattle.record_bytes.proofs.decoding.are_slots_readable.Goals as goal

pub loop-f-init : goal.loop-f-init
unfolding readable_below
loop-f-init c = refl

pub loop-f-preserved : goal.loop-f-preserved
loop-f-preserved c =
    readable_more (drop 144 c.args.s.now) c.loop-f.f _ _ c.loop-f.invariant c.is_slot_readable-all.ensures

pub returns : goal.returns
unfolding slots_readable
returns c =
    let end : c.loop-f.f ≡ window_size = omega arith in
    c.loop-f.invariant ∙ ap (readable_below (drop 144 c.args.s.now)) end
