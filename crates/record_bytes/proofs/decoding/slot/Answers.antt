-- `record_bytes::decoding::slot` meets its contract.
use Prim.Native.Nat.{ℕ, ◌+◌, ◌*◌}
use mathlib.Core.List.{List}
use mathlib.Core.Path.{◌≡◌, ap, ◌∙◌}
use lib.ListN.{get_or, drop}
use Rattle.words.specs.Number.{part}
use Rattle.record_bytes.proofs.NumberBytes.{part_behind}
use Rattle.record_bytes.proofs.decoding.WordLaws.{slot_read}
use Rattle.record_bytes.proofs.decoding.slot.Goals as goal

pub returns : goal.returns
returns c =
    let s = drop 144 c.args.s.now in
    let four : c.part-bytes.result ≡ part 4 s (4 * c.args.f) = c.part-bytes.ensures ∙ part_behind 4 144 c.args.s.now (4 * c.args.f) in
    rw (c.length_where-length.ensures, c.is_held-held.ensures, four)
    (slot_read s c.args.f _ (c.from_le_bytes.ensures ∙ ap (λ (l : List ℕ). get_or l 0 0 + get_or l 1 0 * 256) four))
