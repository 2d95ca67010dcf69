-- A table of refusals: each with its test, in document 01's order. The first whose test holds decides.
use Rattle.std.specs.Prelude.{ℕ, Bool, true, List, [], ◌∷◌, ltb}
use Rattle.words.specs.Choice.{choose, both}
use Rattle.answers.specs.declared.Refusal.{Refusal}
use Rattle.answers.specs.Answer.{Answer, Done, Refused, Ok}
use Rattle.answers.specs.Number.{refusal_number}

-- A line of a table.
pub record Line : Type 0 where
  pub refusal : Refusal
  pub test : Bool

infix 68 ◌when◌
abbrev pub ◌when◌ : Refusal → Bool → Line
r when t = record { refusal = r; test = t }

-- What a table gives: the refusal of its first line whose test holds, else what stands behind the table.
unfoldable pub first_of : {A : Type 0} → (Refusal → A) → List Line → A → A
first_of refuse [] behind = behind
first_of refuse (line ∷ more) behind = choose line.test (refuse line.refusal) (first_of refuse more behind)

-- What a table answers where nothing stands behind it.
abbrev pub answer_of : List Line → Answer
answer_of table = first_of Refused table Done

-- What an answer leaves of what stands behind it: a refusal refuses.
unfoldable pub behind_answer : {A : Type 0} → (Refusal → A) → A → Answer → A
behind_answer refuse behind (Ok tt) = behind
behind_answer refuse behind (Refused r) = refuse r

-- The numbers rise strictly from line to line, and all are above n.
abbrev pub rises_from : ℕ → List Line → Bool
rises_from n [] = true
rises_from n (line ∷ more) =
    both (ltb n (refusal_number line.refusal)) (rises_from (refusal_number line.refusal) more)
