-- `incoming::slots_are_sound` meets its contract.
use Rattle.std.proofs.Common.{rules, ℕ, ◌∙◌}
use Rattle.std.proofs.lemmas.Iterator.{YieldsList-from_slice}
use Rattle.std.proofs.lemmas.Iterator.Consumers.{YieldsList-from_copied, YieldsList-from_enumerate}
use Rattle.std.proofs.lemmas.Iterator.Search.{all_from_yields_List}
use Rattle.incoming.specs.declared.Slot.{Slot}
use Rattle.incoming.specs.Slots.{slot_sound}
use Rattle.incoming.proofs.SlotLaws.{sound_each}
use Rattle.incoming.proofs.slots_are_sound.Goals as goal

pub returns : goal.returns
returns c =
    let a = c.args in
    all_from_yields_List (λ (p : ℕ × Slot). slot_sound a.last p.0 p.1.held p.1.length) _ _ _ c.all.ensures.ran
    (YieldsList-from_enumerate (YieldsList-from_copied (YieldsList-from_slice a.slots.now (cc))) (cc)) (λ x b q k. search rules)
    ∙ sound_each a.last 0 a.slots.now
