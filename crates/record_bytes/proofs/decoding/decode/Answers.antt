-- `record_bytes::decoding::decode` meets its contract.
use Prim.Native.Nat.{ℕ, ◌<◌}
use mathlib.Core.Path.{ap, ◌∙◌}
use native.Mathlib.Omega.{arith}
use lib.ListN.{take, replicate}
use lib.Seq.{get_or-take}
use Rattle.words.specs.Place.{placed}
use Rattle.record_bytes.specs.Layout.{decoded_in}
use Rattle.record_bytes.proofs.decoding.DecodedLaws.{decoded_alike}
use Rattle.record_bytes.proofs.Places.{padded_at}
use Rattle.record_bytes.proofs.decoding.decode.Goals as goal

pub returns-in-Some : goal.returns-in-Some
returns-in-Some c =
    let s = c.args.s.now in
    c.decoded.ensures
    ∙ ap decoded_in c.in-Some.ensures.cases.same
    ∙ decoded_alike s (take 272 s) (λ (i : ℕ) (below : i < 272). get_or-take 272 s i 0 below)

pub returns-in-None : goal.returns-in-None
returns-in-None c =
    let s = c.args.s.now in
    c.decoded-in-None.ensures
    ∙ ap decoded_in c.padded.ensures
    ∙ decoded_alike s (placed 0 s (replicate 272 0)) (λ (i : ℕ) (below : i < 272). padded_at 272 s (omega (arith, c.in-None.ensures.cases)) i)
