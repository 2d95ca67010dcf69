-- `record_bytes::decoding::part` meets its contract.
use Prim.Native.Nat.{◌+◌, ◌-◌}
use mathlib.Core.Path.{◌≡◌, sym}
use native.Mathlib.Omega.{arith}
use Rattle.words.proofs.Number.{part-take}
use Rattle.record_bytes.proofs.decoding.part.Goals as goal

pub returns : goal.returns
returns g c =
    let size : c.args.at + g.row.N - c.args.at ≡ g.row.N = omega arith in
    rw (c.copy_from_slice.ensures.after, size) (sym (part-take g.row.N c.args.s.now c.args.at (omega arith)))
