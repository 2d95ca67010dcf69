-- `record_bytes::decoding::slots` meets its contract.
use Prim.Native.Nat.{ℕ, ◌<◌}
use borrow.Author.Rules.{rules}
use lib.ListN.{drop}
use Rattle.words.specs.Sizes.{window_size}
use Rattle.incoming.specs.Slots.{missing}
use Rattle.record_bytes.proofs.HeldLaws.{slots_each}
use Rattle.record_bytes.proofs.decoding.slots.Goals as goal

pub returns : goal.returns
returns c =
    slots_each (drop 144 c.args.s.now) c.from_fn.result c.from_fn.ensures.items.long
    (λ (f : ℕ) (h : f < window_size). search (rules, (c.from_fn.ensures.items.at f missing h).2))
