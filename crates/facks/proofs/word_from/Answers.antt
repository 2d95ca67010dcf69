-- `facks::word_from` meets its contract.
use Rattle.std.proofs.Common.{rules, ◌≡◌, ◌∙◌, ap, arith, drop, length-drop}
use Rattle.std.proofs.lemmas.Iterator.Adapters.{YieldsList-from_rev_slice}
use Rattle.std.proofs.lemmas.Iterator.Consumers.{fold_from_yields_List}
use Rattle.facks.proofs.MaskLaws.{shifted_in, word_built, slots_behind}
use Rattle.facks.proofs.word_from.Goals as goal

pub returns : goal.returns
returns c =
    let a = c.args in
    let behind = drop a.from a.slots.now in
    let rest : c.iter.result.rest.now ≡ behind =
    c.iter.ensures.rest ∙ slots_behind a.slots.now a.from c.min.result c.told-slots (omega arith) in
    let source : c.rev.result.iter.rest.now ≡ behind = ap (λ s. s.rest.now) c.rev.ensures.source ∙ rest in
    fold_from_yields_List _ shifted_in 0 c.fold.result c.fold.ensures.ran (YieldsList-from_rev_slice behind source) (λ a x b q k. search rules)
    ∙ word_built behind (omega (arith, length-drop a.from a.slots.now))
