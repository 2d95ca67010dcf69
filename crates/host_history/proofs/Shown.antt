-- An export shows a host the turn of its event: what it reads of the result and of the memory left is that turn.
use Prim.Native.Nat.{ℕ}
use mathlib.Core.Bool.{Bool, true, false}
use mathlib.Core.List.{List}
use mathlib.Core.Path.{◌≡◌, refl, sym, ap, subst, ◌∙◌}
use lib.ListN.{length}
use borrow.Author.Tests.{eqb-false}
use Rattle.words.specs.Choice.{choose}
use Rattle.words.specs.Place.{placed}
use Rattle.answers.specs.Answer.{Answer, Done}
use Rattle.answers.specs.Number.{number_of}
use Rattle.record_bytes.proofs.HeldLaws.{placed_all}
use Rattle.record_bytes.proofs.Keeping.{choice_by}
use Rattle.history.specs.Steps.{is_done, Turn}
use Rattle.morphelai.specs.Result.{result_of}
use Rattle.morphelai.specs.Export.{Export, kept_bytes}
use Rattle.host_history.specs.Hosts.{turn_of}
use Rattle.host_history.proofs.Unpacking.{FitsSent, result_answer, result_notice, result-sent}

-- The bytes are canonical and stand for that record.
pub record Lies {Machine : Type 0} (record_in : List ℕ → Machine) (Canonical : List ℕ → Type 0) (bytes : List ℕ)
    (m : Machine) : Type 0 where
  pub canonical : Canonical bytes
  pub same : record_in bytes ≡ m

-- What a host sees of an export is that turn, and the bytes left are canonical.
pub record Shows {Machine : Type 0} (record_in : List ℕ → Machine) (Canonical : List ℕ → Type 0) (x : Export)
    (slots : List ℕ) (t : Turn Machine) : Type 0 where
  pub canonical : Canonical x.bytes
  pub same : turn_of record_in x slots ≡ t

-- For either machine's record, as its bytes lay it out.
module _ {Machine : Type 0} (record_in : List ℕ → Machine) (bytes_of : Machine → List ℕ) (Fits : Machine → Type 0)
    (Canonical : List ℕ → Type 0) (size : (bytes : List ℕ) → Canonical bytes → length bytes ≡ 272)
    (encodes : (m : Machine) → Fits m → Canonical (bytes_of m))
    (back : (m : Machine) → Fits m → record_in (bytes_of m) ≡ m) where
  -- The bytes of a record that fits, put in place of any 272 others.
  pub placed_lies : (bytes : List ℕ) (m : Machine) → length bytes ≡ 272 → Fits m
      → Lies record_in Canonical (placed 0 (bytes_of m) bytes) m
  placed_lies bytes m whole fits =
      let put : placed 0 (bytes_of m) bytes ≡ bytes_of m =
      placed_all (bytes_of m) bytes (size (bytes_of m) (encodes m fits) ∙ sym whole) in
      record { canonical = subst Canonical (sym put) (encodes m fits); same = ap record_in put ∙ back m fits }

  -- After an event the bytes stand for the next record: where it is refused, that is the one they stood for.
  kept_lies : (bytes : List ℕ) (a : Answer) (next : Machine) → Canonical bytes → Fits next
      → ((a ≡ Done → ⊥) → next ≡ record_in bytes) → Lies record_in Canonical (kept_bytes a (bytes_of next) bytes) next
  unfolding kept_bytes
  kept_lies bytes a next canonical fits stays =
      choice_by (λ (left : List ℕ). Lies record_in Canonical left next) (is_done a) _ bytes
      (λ (e : is_done a ≡ true). placed_lies bytes next (size bytes canonical) fits)
      (λ (e : is_done a ≡ false).
      record {
        canonical = canonical;
        same = sym (stays (λ (done : a ≡ Done). eqb-false (number_of a) 0 e (ap number_of done)));
      })

  -- An export that gives back what a turn gives, and leaves the bytes of its record where it is answered 0.
  pub shown : (bytes : List ℕ) (t : Turn Machine) (slots : List ℕ) → Canonical bytes → Fits t.machine
      → FitsSent t.sent → ((t.answer ≡ Done → ⊥) → t.machine ≡ record_in bytes)
      → Shows record_in Canonical (record {
        result = result_of t.answer t.notice t.sent;
        bytes = kept_bytes t.answer (bytes_of t.machine) bytes;
        slots = slots;
        out = t.out;
      }) t.slots t
  shown bytes t slots canonical fits short stays =
      let lies = kept_lies bytes t.answer t.machine canonical fits stays in
      record {
        canonical = lies.canonical;
        same = λ i. record {
          answer = result_answer t.answer t.notice t.sent i;
          notice = result_notice t.answer t.notice t.sent i;
          sent = result-sent t.answer t.notice t.sent short i;
          out = t.out;
          machine = lies.same i;
          slots = t.slots;
        };
      }

-- Two choices by one test.
pub choice_pair : {A B : Type 0} (P : A → B → Type 0) (test : Bool) (a a' : A) (b b' : B)
    → (test ≡ true → P a b) → (test ≡ false → P a' b') → P (choose test a a') (choose test b b')
unfolding choose
choice_pair P true a a' b b' first second = first refl
choice_pair P false a a' b b' first second = second refl
