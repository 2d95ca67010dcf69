-- `record_bytes::decoding::is_slot_readable` meets its contract.
use Prim.Native.Nat.{ℕ, ◌*◌}
use mathlib.Core.List.{List}
use mathlib.Core.Path.{ap, ◌∙◌}
use lib.Dec.{ltb}
use lib.ListN.{drop}
use Rattle.std.specs.Int.{w32, from_le_bytes}
use Rattle.record_bytes.proofs.NumberBytes.{read_four, number_behind}
use Rattle.record_bytes.proofs.decoding.WordLaws.{word_readable, octets_behind}
use Rattle.record_bytes.proofs.decoding.is_slot_readable.Goals as goal

pub returns : goal.returns
returns c =
    let s = c.args.s.now in
    let f = c.args.f in
    ap (λ (n : ℕ). ltb n 131072)
    (c.from_le_bytes.ensures ∙ ap (λ (l : List ℕ). from_le_bytes w32 l) c.part.ensures ∙ read_four _ _ ∙ number_behind 4 144 s (4 * f))
    ∙ word_readable (drop 144 s) (octets_behind 144 s c.fits-s) f
