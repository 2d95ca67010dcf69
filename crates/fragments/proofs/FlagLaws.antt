-- Laws of a request or response as a fragment: its number, its length, the fack for it, and what is lent.
use Prim.Native.Nat.{ℕ, zero, suc, ◌≤◌, ◌<◌}
use mathlib.Core.Bool.{Bool, true, false, not}
use mathlib.Core.List.{List}
use mathlib.Core.Logic.{◌⊎◌, inl, inr}
use mathlib.Core.Path.{◌≡◌, refl, ap, ◌∙◌}
use native.Mathlib.Omega.{arith}
use lib.Dec.{eqb}
use lib.ListN.{length}
use borrow.Author.Tests.{eq-eqb, eqb-true, ltb-false, ne_eqb}
use Rattle.words.specs.Bit.{bit}
use Rattle.words.specs.Choice.{choose, both}
use Rattle.words.specs.Sizes.{body_size, pdu_size, slots_size, last_number}
use Rattle.words.proofs.Tests.{choose_false, both_hold, both_true, either_false}
use Rattle.flags.proofs.FlagLaws.{has-bit}
use Rattle.incoming.specs.declared.Incoming.{Incoming}
use Rattle.fragments.specs.Fragment.{lent_right, is_last, wants_fack, wrong_fragment, body_length}
use Rattle.fragments.specs.Judgement.{held, contradicts}
use Rattle.fragments.proofs.PutLaws.{CanPut}

-- Buffers that are right have their lengths.
pub lent_right_lem : (slots out : ℕ) → lent_right slots out ≡ true → (slots ≡ slots_size) × (out ≡ pdu_size)
unfolding lent_right
lent_right_lem slots out e =
    let told = both_true (eqb slots slots_size) (eqb out pdu_size) e in
    (eqb-true slots slots_size told.0, eqb-true out pdu_size told.1)

-- A fragment number that is not wrong is at most 31.
pub fragment_passes : (flags1 f : ℕ) → wrong_fragment flags1 f ≡ false → f ≤ last_number
unfolding wrong_fragment
fragment_passes flags1 f e = ltb-false last_number f (either_false _ _ e).0

-- A fragment that is not wrong, missing and without contradiction may be put.
pub put_can : (m : Incoming) (flags1 f : ℕ) → wrong_fragment flags1 f ≡ false → held m f ≡ false
    → contradicts m f (is_last flags1) ≡ false → CanPut m f (is_last flags1)
put_can m flags1 f numbered missing alone =
    record { number = fragment_passes flags1 f numbered; new = missing; fits = alone }

-- The record keeps the very length of a body that is at most 1,392 bytes.
pub body-length : (body : List ℕ) → length body ≤ body_size → body_length body ≡ length body
body-length body short = omega arith

-- A fack is wanted exactly where no fack, bit 3, is 0 and fragment, bit 2, is 1.
pub fack_wanted : (flags1 : ℕ) → wants_fack flags1 ≡ both (eqb (bit 3 flags1) 0) (eqb (bit 2 flags1) 1)
unfolding wants_fack
fack_wanted flags1 = λ i. both (cleared (bit 3 flags1) (omega arith) (has-bit 3 flags1) i) (has-bit 2 flags1 i)
  where
    cleared : {t : Bool} (b : ℕ) → b < 2 → t ≡ eqb b 1 → not t ≡ eqb b 0
    cleared zero h e = ap not e
    cleared (suc zero) h e = ap not e
    cleared (suc (suc b)) h e = absurd (omega arith)

-- So one is wanted where both are so,
pub fack_asked : (flags1 : ℕ) → bit 3 flags1 ≡ 0 → bit 2 flags1 ≡ 1 → wants_fack flags1 ≡ true
fack_asked flags1 clear set = fack_wanted flags1 ∙ both_hold _ _ (eq-eqb (bit 3 flags1) 0 clear) (eq-eqb (bit 2 flags1) 1 set)

-- and none where one is not.
pub fack_unasked : (flags1 : ℕ) → (bit 3 flags1 ≡ 1) ⊎ (bit 2 flags1 ≡ 0) → wants_fack flags1 ≡ false
unfolding both choose
fack_unasked flags1 (inl unwanted) =
    fack_wanted flags1 ∙ choose_false _ _ _ (ne_eqb (bit 3 flags1) 0 (λ clear. omega (arith, unwanted, clear)))
fack_unasked flags1 (inr whole) =
    fack_wanted flags1 ∙ ap (both (eqb (bit 3 flags1) 0)) (ne_eqb (bit 2 flags1) 1 (λ set. omega (arith, whole, set))) ∙ neither (eqb (bit 3 flags1) 0)
  where
    neither : (t : Bool) → both t false ≡ false
    neither true = refl
    neither false = refl
