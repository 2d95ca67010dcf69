-- `fragments::held_from` meets its contract.
use Rattle.std.proofs.Common.{rules, drop, ◌∙◌}
use Rattle.std.proofs.lemmas.Iterator.{YieldsList-from_slice}
use Rattle.std.proofs.lemmas.Iterator.Adapters.{YieldsList-from_skip}
use Rattle.std.proofs.lemmas.Iterator.Search.{any_from_yields_List}
use Rattle.incoming.specs.declared.Slot.{Slot}
use Rattle.fragments.proofs.FragmentLaws.{any_each}
use Rattle.fragments.proofs.held_from.Goals as goal

pub returns : goal.returns
returns c =
    let a = c.args in
    any_from_yields_List (λ (s : Slot). s.held) _ _ _ c.any.ensures.ran
    (YieldsList-from_skip a.from (YieldsList-from_slice a.slots.now (cc)) (cc)) (λ x b q k. search rules)
    ∙ any_each (drop a.from a.slots.now)
