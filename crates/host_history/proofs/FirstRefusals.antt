-- 1 and 2 stand first in every table of refusals: 1 is answered exactly where a length is wrong, and 2 where none is
-- and the record breaks its rules.
use Prim.Native.Nat.{ℕ, ◌<◌}
use mathlib.Core.Bool.{Bool, true, false, not, true≢false}
use mathlib.Core.List.{List, [], ◌∷◌}
use mathlib.Core.Path.{◌≡◌, refl, sym, ap, subst, ◌∙◌}
use native.Mathlib.Omega.{arith}
use lib.Dec.{eqb, leb, ltb}
use lib.ListN.{length}
use borrow.Author.Tests.{leb-true, leb-false, lt-ltb, le-ltb, ltb-true, ne_eqb}
use Rattle.words.specs.Choice.{choose, both}
use Rattle.words.specs.Sizes.{pdu_size, message_size}
use Rattle.words.proofs.Tests.{both_true}
use Rattle.answers.specs.declared.Refusal.{Refusal}
use Rattle.answers.specs.declared.Refusal.TheVariants.{WrongLength, BrokenRecord, NoRow}
use Rattle.answers.specs.Answer.{Answer, Refused, Ok}
use Rattle.answers.specs.Number.{refusal_number, number_of}
use Rattle.answers.specs.Table.{Line, ◌when◌, first_of, answer_of, behind_answer, rises_from}
use Rattle.answers.proofs.NumberLaws.{refusal_numbered}
use Rattle.answers.proofs.TableLaws.{AllPassed, by_answer, answer_done}
use Rattle.calls.specs.declared.Notice.{Notice}
use Rattle.calls.specs.Sent.{Sent}
use Rattle.morphelai.specs.Result.{result_of}
use Rattle.morphelai.specs.Export.{Export, refusing, other_timer, other_kind}
use Rattle.host_history.specs.Results.{answer_in}
use Rattle.host_history.proofs.Unpacking.{result_answer}
use Rattle.host_history.proofs.Leaving.{answer_alone}

-- An answer is 1.
abbrev pub is_one : Answer → Bool
is_one a = eqb (number_of a) 1

-- An answer where the lengths are right or not, and the record keeps its rules or not.
pub record First (right sound : Bool) (a : Answer) : Type 0 where
  pub one : is_one a ≡ not right
  pub two : sound ≡ false → a ≡ choose right (Refused BrokenRecord) (Refused WrongLength)

wrong_first : (sound : Bool) → First false sound (Refused WrongLength)
unfolding choose
wrong_first sound = record { one = refl; two = λ broken. refl }

broken_first : First true false (Refused BrokenRecord)
unfolding choose
broken_first = record { one = refl; two = λ broken. refl }

other_first : (a : Answer) → is_one a ≡ false → First true true a
other_first a other = record { one = other; two = λ broken. absurd (true≢false broken) }

-- What a table whose numbers rise refuses by is above the number that they rise from.
refuses_above : (n : ℕ) (table : List Line) → rises_from n table ≡ true → (r : Refusal) → answer_of table ≡ Refused r
    → n < refusal_number r
unfolding first_of choose
refuses_above n [] rises r e =
    let same : 0 ≡ refusal_number r = ap number_of e in
    absurd (omega (arith, refusal_numbered r))
refuses_above n (line ∷ more) rises r e =
    let above = ltb-true n (refusal_number line.refusal) (both_true _ _ rises).0 in
    by_test line.test above e
    (refuses_above (refusal_number line.refusal) more (both_true _ _ rises).1 r)
  where
    by_test : (t : Bool) → n < refusal_number line.refusal
        → choose t (Refused line.refusal) (answer_of more) ≡ Refused r
        → (answer_of more ≡ Refused r → refusal_number line.refusal < refusal_number r) → n < refusal_number r
    by_test true above is rest =
        let same : refusal_number line.refusal ≡ refusal_number r = ap number_of is in
        omega arith
    by_test false above is rest = let then = rest is in omega arith

-- What stands behind the first two lines.
abbrev pub behind_two : List Line → List Line
behind_two [] = []
behind_two (one ∷ []) = []
behind_two (one ∷ (two ∷ more)) = more

-- So a table with 1 and 2 in front answers so, where what stands behind it is not 1.
module _ {A : Type 0} (refuse : Refusal → A) (answer : A → Answer)
    (told : (r : Refusal) → answer (refuse r) ≡ Refused r) (more : List Line) (behind : A)
    (rises : rises_from 2 more ≡ true) (passes : AllPassed more → is_one (answer behind) ≡ false) where
  rest_other : is_one (answer (first_of refuse more behind)) ≡ false
  unfolding behind_answer
  rest_other =
      subst (λ (v : A). is_one (answer v) ≡ false) (sym (by_answer refuse more behind)) (by_case (answer_of more) refl)
    where
      by_case : (a : Answer) → answer_of more ≡ a → is_one (answer (behind_answer refuse behind a)) ≡ false
      by_case (Ok tt) e = passes (answer_done more e)
      by_case (Refused r) e =
          ap is_one (told r)
          ∙ ne_eqb (refusal_number r) 1 (λ (is : refusal_number r ≡ 1). omega (arith, is, refuses_above 2 more rises r e))

  pub table_first : (right sound wrong : Bool) → wrong ≡ not right
      → First right sound (answer (first_of refuse (WrongLength when wrong ∷ BrokenRecord when not sound ∷ more) behind))
  table_first right sound wrong e =
      subst
      (λ (w : Bool).
      First right sound (answer (first_of refuse (WrongLength when w ∷ BrokenRecord when not sound ∷ more) behind)))
      (sym e) (by_tests right sound)
    where
      by_tests : (right sound : Bool)
          → First right sound
          (answer (first_of refuse (WrongLength when not right ∷ BrokenRecord when not sound ∷ more) behind))
      by_tests false sound =
          unfold first_of choose in subst (First false sound) (sym (told WrongLength)) (wrong_first sound)
      by_tests true false = unfold first_of choose in subst (First true false) (sym (told BrokenRecord)) broken_first
      by_tests true true = unfold first_of choose in other_first _ rest_other

-- Lengths that are right by another test.
pub right_by : (right other sound : Bool) (a : Answer) → right ≡ other → First right sound a → First other sound a
right_by right other sound a e = subst (λ (r : Bool). First r sound a) e

-- A length above 44,544 is one that is not up to it.
pub above : (n : ℕ) → ltb message_size n ≡ not (leb n message_size)
above n = by_test (leb n message_size) refl
  where
    by_test : (test : Bool) → leb n message_size ≡ test → ltb message_size n ≡ not test
    by_test true e = le-ltb message_size n (leb-true n message_size e)
    by_test false e = lt-ltb message_size n (leb-false n message_size e)

-- What a host reads of an export is such an answer.
abbrev pub ReadsFirst : Bool → Bool → Export → Type 0
ReadsFirst right sound x = First right sound (answer_in x.result)

pub read_first : (right sound : Bool) (a : Answer) (n : Notice) (s : Sent) → First right sound a
    → First right sound (answer_in (result_of a n s))
read_first right sound a n s = subst (First right sound) (sym (result_answer a n s))

-- An export that refuses by 1 where a test fails,
pub or_first : (test right sound : Bool) (x : Export) (bytes slots out : List ℕ) → ReadsFirst right sound x
    → ReadsFirst (both test right) sound (choose test x (refusing bytes slots out))
unfolding refusing both choose
or_first true right sound x bytes slots out first = first
or_first false right sound x bytes slots out first =
    subst (First false sound) (sym (answer_alone (Refused WrongLength))) (wrong_first sound)

-- and a timer of another kind.
pub kind-first : (sound : Bool) (bytes slots out : List ℕ)
    → ReadsFirst (eqb (length out) pdu_size) sound (other_kind sound bytes slots out)
unfolding other_kind other_timer choose
kind-first sound bytes slots out = by_tests (eqb (length out) pdu_size) sound
  where
    by_tests : (right sound : Bool) → First right sound (answer_in (choose (not right) 1 (choose (not sound) 2 15)))
    by_tests false sound = subst (First false sound) (sym (answer_alone (Refused WrongLength))) (wrong_first sound)
    by_tests true false = subst (First true false) (sym (answer_alone (Refused BrokenRecord))) broken_first
    by_tests true true = subst (First true true) (sym (answer_alone (Refused NoRow))) (other_first (Refused NoRow) refl)
