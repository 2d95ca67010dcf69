-- `record_bytes::slots_bytes` meets its contract. Before each turn the bytes of the slots below f stand at the front.
use mathlib.Core.List.{List}
use mathlib.Core.Path.{◌≡◌, refl, ap, ◌∙◌}
use native.Mathlib.Omega.{arith}
use borrow.Author.Rules.{rules}
use lib.ListN.{take, replicate}
use lib.Seq.{take_all}
use Rattle.words.specs.Place.{placed}
use Rattle.incoming.specs.declared.Slot.{Slot}
use Rattle.record_bytes.specs.Held.{slots_bytes}
use Rattle.record_bytes.proofs.HeldLaws.{length-slots, bytes_more, placed-nothing, placed_all}
use Rattle.record_bytes.proofs.slots_bytes.Goals as goal

pub loop-f-init : goal.loop-f-init
loop-f-init c = (refl, placed-nothing (replicate 128 0))

pub loop-f-preserved : goal.loop-f-preserved
loop-f-preserved c =
    let l = c.loop-f in
    (search rules, bytes_more c.args.slots l.f _ l.bytes _ _ (replicate 128 0) (omega arith) (omega arith) l.invariant.1 c.slot_bytes.ensures c.put.ensures)

pub returns : goal.returns
returns c =
    let l = c.loop-f in
    let slots = c.args.slots in
    let all : take l.f slots ≡ slots = take_all l.f slots (omega arith) in
    l.invariant.1 ∙ ap (λ (xs : List Slot). placed 0 (slots_bytes xs) (replicate 128 0)) all ∙ placed_all (slots_bytes slots) (replicate 128 0) (omega (arith, length-slots slots))
