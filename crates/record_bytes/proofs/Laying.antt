-- Ten parts, one behind the other: put one by one they are one put.
use Prim.Native.Nat.{ℕ, ◌+◌, ◌≤◌, ◌<◌}
use mathlib.Core.List.{List, ◌++◌, append_assoc}
use mathlib.Core.Path.{◌≡◌, refl}
use native.Mathlib.Omega.{arith}
use lib.ListN.{length, length-append}
use Rattle.words.specs.Number.{digits}
use Rattle.words.specs.Place.{placed}
use Rattle.words.specs.Sizes.{window_size}
use Rattle.words.proofs.Place.{put-behind, placed_none}
use Rattle.record_bytes.specs.Fits.{Octets}
use Rattle.record_bytes.specs.declared.Fields.{Fields}
use Rattle.record_bytes.specs.Parts.{timer_ticket}
use Rattle.record_bytes.specs.Held.{slots_bytes}
use Rattle.record_bytes.specs.Layout.{record_front, record_numbers, record_back, laid_bytes, field_bytes}
use Rattle.record_bytes.proofs.ByteLaws.{octets_four}
use Rattle.record_bytes.proofs.HeldLaws.{length-slots}

next : (k : ℕ) (p b d : List ℕ) → length p ≡ k → k + length b ≤ length d → placed k b (placed 0 p d) ≡ placed 0 (p ++ b) d
next k p b d e h = put-behind 0 k p b d (omega arith) h

module _ (a b t u v n x y z h out : List ℕ)
    (la : length a ≡ 16) (lb : length b ≡ 16) (lt : length t ≡ 8) (lu : length u ≡ 8) (lv : length v ≡ 8) (ln : length n ≡ 40)
    (lx : length x ≡ 16) (ly : length y ≡ 16) (lz : length z ≡ 16) (lh : length h ≡ 128) where
  pub length_laid : length (laid_bytes a b t u v n x y z h) ≡ 272
  length_laid = simp length-append (omega arith)

  pub laid_none : length out < 272 → out ≡ placed 0 (laid_bytes a b t u v n x y z h) out
  laid_none s = placed_none 0 (laid_bytes a b t u v n x y z h) out (omega (arith, length_laid))

  pub laid : 272 ≤ length out
      → placed 144 h (placed 128 z (placed 112 y (placed 96 x (placed 56 n (placed 48 v (placed 40 u (placed 32 t (placed 16 b (placed 0 a out)))))))))
      ≡ placed 0 (laid_bytes a b t u v n x y z h) out
  laid room =
      rw (
        next 16 a b out la (omega arith),
        next 32 (a ++ b) t out (simp length-append (omega arith)) (omega arith),
        next 40 ((a ++ b) ++ t) u out (simp length-append (omega arith)) (omega arith),
        next 48 (((a ++ b) ++ t) ++ u) v out (simp length-append (omega arith)) (omega arith),
        next 56 ((((a ++ b) ++ t) ++ u) ++ v) n out (simp length-append (omega arith)) (omega arith),
        next 96 (((((a ++ b) ++ t) ++ u) ++ v) ++ n) x out (simp length-append (omega arith)) (omega arith),
        next 112 ((((((a ++ b) ++ t) ++ u) ++ v) ++ n) ++ x) y out (simp length-append (omega arith)) (omega arith),
        next 128 (((((((a ++ b) ++ t) ++ u) ++ v) ++ n) ++ x) ++ y) z out (simp length-append (omega arith)) (omega arith),
        next 144 ((((((((a ++ b) ++ t) ++ u) ++ v) ++ n) ++ x) ++ y) ++ z) h out (simp length-append (omega arith)) (omega arith),
      ) (simp append_assoc)

-- The parts of a record.
module _ (f : Fields) (out : List ℕ) (activity : length f.activity ≡ 16) (object : length f.call.object ≡ 16)
    (interface : length f.call.interface ≡ 16) (slots : length f.incoming.slots ≡ window_size) where
  held : length (slots_bytes f.incoming.slots) ≡ 128
  held = omega (arith, length-slots f.incoming.slots)

  pub encoded_none : length out < 272 → out ≡ placed 0 (field_bytes f) out
  unfolding field_bytes
  encoded_none short =
      laid_none
      (record_front f.state f.count f.extra f.call f.outgoing f.incoming.last)
      (record_numbers f.number f.call.version f.outgoing.length f.boot)
      (digits 8 f.tickets) (digits 8 (timer_ticket f.timer)) (digits 8 f.word)
      (record_back f.timer f.armed f.cancel f.cancels)
      f.activity f.call.object f.call.interface (slots_bytes f.incoming.slots) out
      refl refl refl refl refl refl activity object interface held short

  pub encoded : 272 ≤ length out
      → placed 144 (slots_bytes f.incoming.slots)
      (placed 128 f.call.interface
      (placed 112 f.call.object
      (placed 96 f.activity
      (placed 56 (record_back f.timer f.armed f.cancel f.cancels)
      (placed 48 (digits 8 f.word)
      (placed 40 (digits 8 (timer_ticket f.timer))
      (placed 32 (digits 8 f.tickets)
      (placed 16 (record_numbers f.number f.call.version f.outgoing.length f.boot)
      (placed 0 (record_front f.state f.count f.extra f.call f.outgoing f.incoming.last) out)))))))))
      ≡ placed 0 (field_bytes f) out
  unfolding field_bytes
  encoded room =
      laid
      (record_front f.state f.count f.extra f.call f.outgoing f.incoming.last)
      (record_numbers f.number f.call.version f.outgoing.length f.boot)
      (digits 8 f.tickets) (digits 8 (timer_ticket f.timer)) (digits 8 f.word)
      (record_back f.timer f.armed f.cancel f.cancels)
      f.activity f.call.object f.call.interface (slots_bytes f.incoming.slots) out
      refl refl refl refl refl refl activity object interface held room

-- Ten parts that are bytes are bytes.
pub octets_laid : (a b t u v n x y z h : List ℕ)
    → Octets a → Octets b → Octets t → Octets u → Octets v → Octets n → Octets x → Octets y → Octets z → Octets h
    → Octets (laid_bytes a b t u v n x y z h)
octets_laid a b t u v n x y z h pa pb pt pu pv pn px py pz ph =
    octets_four a b t (u ++ (v ++ (n ++ (x ++ (y ++ (z ++ h)))))) pa pb pt
    (octets_four u v n (x ++ (y ++ (z ++ h))) pu pv pn (octets_four x y z h px py pz ph))
