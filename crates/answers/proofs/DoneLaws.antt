-- What a value that goes with an answer tells of the answer.
use Rattle.std.specs.Prelude.{Result}
use Rattle.std.proofs.Common.{◌≡◌, refl}
use Rattle.answers.specs.declared.Refusal.{Refusal}
use Rattle.answers.specs.Answer.{Answer, Done, Ok, Refused, if_done}

module _ {A : Type 0} (a : Answer) (value : A) where
  -- One that is refused goes with that very refusal,
  pub refused_if_done : (r : Refusal) → ◌≡◌ {A = Result A Refusal} (if_done a value) (Refused r) → a ≡ Refused r
  unfolding if_done
  refused_if_done r = by_answer a
    where
      by_answer : (b : Answer) → ◌≡◌ {A = Result A Refusal} (if_done b value) (Refused r) → b ≡ Refused r
      by_answer (Ok tt) e = cc
      by_answer (Refused q) e = cc

  -- and one that is given goes with Done.
  pub accepted_if_done : (given : A) → ◌≡◌ {A = Result A Refusal} (if_done a value) (Ok given) → (a ≡ Done) × (value ≡ given)
  unfolding if_done
  accepted_if_done given = by_answer a
    where
      by_answer : (b : Answer) → ◌≡◌ {A = Result A Refusal} (if_done b value) (Ok given) → (b ≡ Done) × (value ≡ given)
      by_answer (Ok tt) e = (refl, cc)
      by_answer (Refused q) e = cc
