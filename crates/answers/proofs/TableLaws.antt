-- Laws of tables of refusals: what a table gives, and what is known where it lets something pass.
use Prim.Native.Nat.{ℕ, ◌≤◌, ◌<◌}
use mathlib.Core.Bool.{Bool, true, false, true≢false}
use mathlib.Core.List.{List, [], ◌∷◌, ◌++◌}
use mathlib.Core.Path.{◌≡◌, refl, sym, ap, subst, ◌∙◌}
use native.Mathlib.Omega.{arith}
use borrow.Author.Tests.{ltb-true}
use Rattle.words.specs.Choice.{choose}
use Rattle.words.proofs.Tests.{both_true}
use Rattle.answers.specs.declared.Refusal.{Refusal}
use Rattle.answers.specs.Answer.{Answer, Done, Refused, Ok}
use Rattle.answers.specs.Number.{refusal_number}
use Rattle.answers.specs.Table.{Line, first_of, answer_of, behind_answer, rises_from}
use Rattle.answers.proofs.NumberLaws.{refused_not_done}

-- A line whose test holds decides, one whose test does not is passed over.
module _ {A : Type 0} (refuse : Refusal → A) (line : Line) (more : List Line) (behind : A) where
  pub decides : line.test ≡ true → first_of refuse (line ∷ more) behind ≡ refuse line.refusal
  unfolding first_of choose
  decides e = ap (λ (t : Bool). choose t (refuse line.refusal) (first_of refuse more behind)) e

  pub passed_over : line.test ≡ false → first_of refuse (line ∷ more) behind ≡ first_of refuse more behind
  unfolding first_of choose
  passed_over e = ap (λ (t : Bool). choose t (refuse line.refusal) (first_of refuse more behind)) e

-- A table behind another one.
pub joined : {A : Type 0} (refuse : Refusal → A) (first second : List Line) (behind : A)
    → first_of refuse (first ++ second) behind ≡ first_of refuse first (first_of refuse second behind)
unfolding first_of
joined refuse [] second behind = refl
joined refuse (line ∷ more) second behind =
    ap (choose line.test (refuse line.refusal)) (joined refuse more second behind)

-- What a table gives, by what it answers.
pub by_answer : {A : Type 0} (refuse : Refusal → A) (table : List Line) (behind : A)
    → first_of refuse table behind ≡ behind_answer refuse behind (answer_of table)
unfolding first_of behind_answer choose
by_answer refuse [] behind = refl
by_answer refuse (line ∷ more) behind = by_test line.test (by_answer refuse more behind)
  where
    by_test : (t : Bool) → first_of refuse more behind ≡ behind_answer refuse behind (answer_of more)
        → choose t (refuse line.refusal) (first_of refuse more behind)
        ≡ behind_answer refuse behind (choose t (Refused line.refusal) (answer_of more))
    by_test true rest = refl
    by_test false rest = rest

-- No test of a table holds.
abbrev pub AllPassed : List Line → Type 0
AllPassed [] = Unit {0}
AllPassed (line ∷ more) = (line.test ≡ false) × AllPassed more

-- Such a table gives what stands behind it,
pub all_behind : {A : Type 0} (refuse : Refusal → A) (table : List Line) (behind : A)
    → AllPassed table → first_of refuse table behind ≡ behind
unfolding first_of
all_behind refuse [] behind passed = refl
all_behind refuse (line ∷ more) behind passed =
    passed_over refuse line more behind passed.0 ∙ all_behind refuse more behind passed.1

-- and a table that gives what no refusal gives is such a one.
pub passed_where : {A : Type 0} (refuse : Refusal → A) (table : List Line) (behind v : A)
    → ((r : Refusal) → refuse r ≡ v → ⊥) → first_of refuse table behind ≡ v → AllPassed table × (behind ≡ v)
unfolding first_of choose
passed_where refuse [] behind v other e = (tt, e)
passed_where {A} refuse (line ∷ more) behind v other e =
    by_test line.test refl e (passed_where refuse more behind v other)
  where
    by_test : (t : Bool) → line.test ≡ t → choose t (refuse line.refusal) (first_of refuse more behind) ≡ v
        → (first_of refuse more behind ≡ v → AllPassed more × (behind ≡ v))
        → AllPassed (line ∷ more) × (behind ≡ v)
    by_test true is f rest = absurd (other line.refusal f)
    by_test false is f rest = ((is, (rest f).0), (rest f).1)

-- So is one that answers Done.
pub answer_done : (table : List Line) → answer_of table ≡ Done → AllPassed table
answer_done table e = (passed_where Refused table Done Done refused_not_done e).0

-- Of two tables joined none holds where none of either does.
pub passed_joined : (first second : List Line) → AllPassed first → AllPassed second → AllPassed (first ++ second)
passed_joined [] second p q = q
passed_joined (line ∷ more) second p q = (p.0, passed_joined more second p.1 q)

pub passed_parts : (first second : List Line) → AllPassed (first ++ second) → AllPassed first × AllPassed second
passed_parts [] second p = (tt, p)
passed_parts (line ∷ more) second p =
    let rest = passed_parts more second p.1 in
    ((p.0, rest.0), rest.1)

-- A line whose test holds decides, whatever lines that pass stand before it.
pub stopped : {A : Type 0} (refuse : Refusal → A) (first : List Line) (line : Line) (more : List Line) (behind : A)
    → AllPassed first → line.test ≡ true → first_of refuse (first ++ (line ∷ more)) behind ≡ refuse line.refusal
stopped refuse first line more behind passed holds =
    joined refuse first (line ∷ more) behind
    ∙ all_behind refuse first (first_of refuse (line ∷ more) behind) passed
    ∙ decides refuse line more behind holds

-- A line of a table.
pub data Stands (line : Line) : List Line → Type 0 where
  here : {more : List Line} → Stands line (line ∷ more)
  later : {other : Line} {more : List Line} → Stands line more → Stands line (other ∷ more)

-- Where no test holds, that of each line does not.
pub passed_line : (table : List Line) → AllPassed table → (line : Line) → Stands line table → line.test ≡ false
passed_line (other ∷ more) passed line here = passed.0
passed_line (other ∷ more) passed line (later s) = passed_line more passed.1 line s
passed_line [] passed line x'' = elim x'' [ ]

-- In a table whose numbers rise every line has a number above the one that it rises from,
above : (n : ℕ) (table : List Line) → rises_from n table ≡ true → (line : Line) → Stands line table
    → n < refusal_number line.refusal
above n (other ∷ more) rises line here = ltb-true n (refusal_number other.refusal) (both_true _ _ rises).0
above n (other ∷ more) rises line (later s) =
    let first = ltb-true n (refusal_number other.refusal) (both_true _ _ rises).0 in
    let then = above (refusal_number other.refusal) more (both_true _ _ rises).1 line s in
    omega arith
above n [] rises line x'' = elim x'' [ ]

-- so where the test of a line holds, the number answered is at most that line's: the lowest position decides.
pub lowest_decides : (n : ℕ) (table : List Line) → rises_from n table ≡ true → (line : Line) → Stands line table
    → line.test ≡ true → (behind : ℕ) → first_of refusal_number table behind ≤ refusal_number line.refusal
lowest_decides n (other ∷ more) rises line here holds behind =
    rw (decides refusal_number other more behind holds) (omega arith)
lowest_decides n (other ∷ more) rises line (later s) holds behind =
    by_test other.test refl
    (lowest_decides (refusal_number other.refusal) more (both_true _ _ rises).1 line s holds behind)
  where
    by_test : (t : Bool) → other.test ≡ t → first_of refusal_number more behind ≤ refusal_number line.refusal
        → first_of refusal_number (other ∷ more) behind ≤ refusal_number line.refusal
    by_test true e least =
        let low = above (refusal_number other.refusal) more (both_true _ _ rises).1 line s in
        rw (decides refusal_number other more behind e) (omega arith)
    by_test false e least = rw (passed_over refusal_number other more behind e) least
lowest_decides n [] rises line x3 holds behind = elim x3 [ ]

-- Refused with a number at most that of a line.
pub record RefusedAtMost (a : Answer) (most : Refusal) : Type 0 where
  pub refusal : Refusal
  pub is : a ≡ Refused refusal
  pub low : refusal_number refusal ≤ refusal_number most

-- So is an event whose answer tells what a table gives, where the test of a line holds.
pub lowest : {A : Type 0} (refuse : Refusal → A) (answer : A → Answer) → ((r : Refusal) → answer (refuse r) ≡ Refused r)
    → (table : List Line) (behind : A) → rises_from 0 table ≡ true → (line : Line) → Stands line table
    → line.test ≡ true
    → RefusedAtMost (answer (first_of refuse table behind)) line.refusal
unfolding behind_answer
lowest {A} refuse answer told table behind rises line stands holds = by_case (answer_of table) refl
  where
    least : first_of refusal_number table 0 ≤ refusal_number line.refusal
    least = lowest_decides 0 table rises line stands holds 0

    by_case : (a : Answer) → answer_of table ≡ a → RefusedAtMost (answer (first_of refuse table behind)) line.refusal
    by_case (Ok tt) e = absurd (true≢false (sym holds ∙ passed_line table (answer_done table e) line stands))
    by_case (Refused r) e = record {
      refusal = r;
      is = ap answer (by_answer refuse table behind ∙ ap (behind_answer refuse behind) e) ∙ told r;
      low =
          subst (λ (n : ℕ). n ≤ refusal_number line.refusal)
          (by_answer refusal_number table 0 ∙ ap (behind_answer refusal_number 0) e) least;
    }
