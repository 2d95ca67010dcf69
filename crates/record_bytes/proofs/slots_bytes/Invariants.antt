-- `record_bytes::slots_bytes` meets its contract. Before each turn the bytes of the slots below f stand at the front.
use mathlib.Core.Path.{◌≡◌}
use lib.ListN.{length, take, replicate}
use Rattle.words.specs.Place.{placed}
use Rattle.record_bytes.specs.Held.{slots_bytes}
use Rattle.record_bytes.proofs.slots_bytes.Given as goal

abbrev pub invariant-loop-f : goal.invariant-loop-f
invariant-loop-f l = (length l.bytes ≡ 128) × (l.bytes ≡ placed 0 (slots_bytes (take l.f l.slots)) (replicate 128 0))
