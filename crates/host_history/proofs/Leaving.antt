-- What a refusal leaves through the door: the answer's number alone, and all lent memory as it was.
use Prim.Native.Nat.{ℕ}
use mathlib.Core.Bool.{Bool, false, not}
use mathlib.Core.List.{List}
use mathlib.Core.Path.{◌≡◌, refl, sym, ap, subst, ◌∙◌}
use lib.Dec.{eqb}
use lib.ListN.{length}
use borrow.Author.Tests.{ne_eqb}
use Rattle.words.specs.Place.{placed}
use Rattle.words.specs.Sizes.{pdu_size}
use Rattle.words.proofs.Tests.{choose_false}
use Rattle.answers.specs.declared.Refusal.{Refusal}
use Rattle.answers.specs.declared.Refusal.TheVariants.{WrongLength, BrokenRecord, NoRow}
use Rattle.answers.specs.Answer.{Answer, Done, Refused as RefusedBy}
use Rattle.answers.specs.Number.{refusal_number, number_of}
use Rattle.answers.proofs.NumberLaws.{refused_not_done, zero_done}
use Rattle.calls.specs.declared.Notice.{Notice}
use Rattle.calls.specs.declared.Notice.TheVariants.{Nothing as Untold}
use Rattle.calls.specs.Sent.{Sent, Nothing}
use Rattle.history.specs.Steps.{is_done}
use Rattle.record_bytes.proofs.Keeping.{choice_keeps}
use Rattle.morphelai.specs.Result.{result_of}
use Rattle.morphelai.specs.Export.{Export, refusing, kept_bytes, other_timer, other_kind}
use Rattle.host_history.specs.Results.{answer_in, notice_in, sent_in}
use Rattle.host_history.specs.Refusal.{Undone, Refused}
use Rattle.host_history.proofs.Unpacking.{result_answer, result_notice, result-sent, result_alone}

-- What is read of an answer's number alone.
module _ (a : Answer) where
  pub answer_alone : answer_in (number_of a) ≡ a
  answer_alone = ap answer_in (sym (result_alone a)) ∙ result_answer a Untold Nothing

  notice_alone : notice_in (number_of a) ≡ Untold
  notice_alone = ap notice_in (sym (result_alone a)) ∙ result_notice a Untold Nothing

  sent_alone : sent_in (number_of a) ≡ Nothing
  sent_alone = ap sent_in (sym (result_alone a)) ∙ result-sent a Untold Nothing tt

-- An export that gives that number and leaves all as it was.
module _ (bytes slots out : List ℕ) where
  abbrev left : ℕ → Export
  left result = record { result = result; bytes = bytes; slots = slots; out = out }

  left_refused : (a : Answer) → Refused (left (number_of a)) bytes slots out
  left_refused a = record {
    alone = ap number_of (sym (answer_alone a));
    unsent = sent_alone a;
    untold = notice_alone a;
    kept = refl;
    stored = refl;
    buffer = refl;
  }

  -- 1, of another length;
  pub refusing-refused : Refused (refusing bytes slots out) bytes slots out
  unfolding refusing
  refusing-refused = left_refused (RefusedBy WrongLength)

  -- and a timer of another kind: 1, 2 or 15.
  pub kind-refused : (sound : Bool) → Refused (other_kind sound bytes slots out) bytes slots out
  unfolding other_kind other_timer
  kind-refused sound =
      choice_keeps (λ (n : ℕ). Refused (left n) bytes slots out) (not (eqb (length out) pdu_size)) 1 _
      (left_refused (RefusedBy WrongLength))
      (choice_keeps (λ (n : ℕ). Refused (left n) bytes slots out) (not sound) 2 15
      (left_refused (RefusedBy BrokenRecord)) (left_refused (RefusedBy NoRow)))

-- An answer that is not Done is not 0, and the bytes stay.
pub not_zero : (a : Answer) → (a ≡ Done → ⊥) → is_done a ≡ false
not_zero a other = ne_eqb (number_of a) 0 (λ (e : number_of a ≡ 0). other (zero_done a e))

module _ (a : Answer) (n : Notice) (s : Sent) (next bytes slots out slots' out' : List ℕ) where
  abbrev pub given : Export
  given = record { result = result_of a n s; bytes = kept_bytes a next bytes; slots = slots'; out = out' }

  same_left : (a ≡ Done → ⊥) → n ≡ Untold → s ≡ Nothing → slots' ≡ slots → out' ≡ out
      → given ≡ left bytes slots out (number_of a)
  unfolding kept_bytes
  same_left other untold unsent stored buffer =
      let kept : kept_bytes a next bytes ≡ bytes =
      choose_false (is_done a) (placed 0 next bytes) bytes (not_zero a other) in
      let alone : result_of a n s ≡ number_of a = (λ i. result_of a (untold i) (unsent i)) ∙ result_alone a in
      λ i. record { result = alone i; bytes = kept i; slots = stored i; out = buffer i }

  -- What a machine gives and leaves of a refused event is such an export.
  pub given-refused : Undone given → ((a ≡ Done → ⊥) → (n ≡ Untold) × (s ≡ Nothing) × (slots' ≡ slots) × (out' ≡ out))
      → Refused given bytes slots out
  given-refused undone quiet =
      let other : a ≡ Done → ⊥ = λ (done : a ≡ Done). undone (result_answer a n s ∙ done) in
      let q = quiet other in
      subst (λ (x : Export). Refused x bytes slots out)
      (sym (same_left other q.0 q.1 q.2 q.3)) (left_refused bytes slots out a)

-- A refusal is not answered 0.
module _ (bytes slots out : List ℕ) where
  left_undone : (r : Refusal) → Undone (left bytes slots out (refusal_number r))
  left_undone r done = refused_not_done r (sym (answer_alone (RefusedBy r)) ∙ done)

  pub refusing_undone : Undone (refusing bytes slots out)
  unfolding refusing
  refusing_undone = left_undone WrongLength

  pub kind_undone : (sound : Bool) → Undone (other_kind sound bytes slots out)
  unfolding other_kind other_timer
  kind_undone sound =
      choice_keeps (λ (n : ℕ). Undone (left bytes slots out n)) (not (eqb (length out) pdu_size)) 1 _
      (left_undone WrongLength)
      (choice_keeps (λ (n : ℕ). Undone (left bytes slots out n)) (not sound) 2 15 (left_undone BrokenRecord)
      (left_undone NoRow))
