-- `words::put` meets its contract. Before turn i the first i bytes of src stand in their place.
use Prim.Native.Nat.{zero-le}
use mathlib.Core.Path.{◌≡◌, refl}
use native.Mathlib.Omega.{arith}
use native.Mathlib.Numerals.{add-one}
use lib.ListN.{length, length-set}
use lib.Seq.{paste-zero, paste-suc}
use Rattle.words.proofs.Place.{placed_none, pasted}
use Rattle.words.proofs.put.Goals as goal

pub loop-i-init : goal.loop-i-init
loop-i-init c =
    let a = c.args in
    (paste-zero a.dst.now a.at a.src.now, refl)

pub loop-i-preserved : goal.loop-i-preserved
loop-i-preserved c =
    let a = c.args in
    let l = c.loop-i in (
      rw (l.invariant.0, add-one l.i) (paste-suc a.dst.now a.at a.src.now l.i 0 (omega arith) (omega arith)),
      simp length-set l.invariant.1,
    )
