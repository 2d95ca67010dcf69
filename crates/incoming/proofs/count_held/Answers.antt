-- `incoming::count_held` meets its contract.
use Rattle.std.proofs.Common.{rules, ◌∙◌}
use Rattle.std.proofs.lemmas.Iterator.{YieldsList-from_slice}
use Rattle.std.proofs.lemmas.Iterator.Consumers.{count_from_yields_List}
use Rattle.std.proofs.lemmas.Iterator.Search.{YieldsList-from_take_while}
use Rattle.std.proofs.lemmas.List.Folds.{length-prefix_len}
use Rattle.incoming.specs.declared.Slot.{Slot}
use Rattle.incoming.proofs.SlotLaws.{count_front}
use Rattle.incoming.proofs.count_held.Goals as goal

pub returns : goal.returns
returns c =
    let slots = c.args.slots.now in
    count_from_yields_List c.take_while.result c.count.result c.count.ensures.ran
    (YieldsList-from_take_while _ (λ (s : Slot). s.held) (YieldsList-from_slice slots (cc)) c.take_while.ensures.closure c.take_while.ensures.done (λ x b q k. search rules))
    ∙ (length-prefix_len (λ (s : Slot). s.held) slots ∙ count_front slots)
