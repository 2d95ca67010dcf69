-- What the laws of both sides' events share.
use Prim.Native.Nat.{ℕ, zero, suc, ◌≤◌, ◌<◌}
use mathlib.Core.Bool.{true, false}
use mathlib.Core.List.{List, [], ◌∷◌, ◌++◌}
use mathlib.Core.Logic.{inl, inr}
use mathlib.Core.Path.{◌≡◌, refl, sym, ap, subst, ◌∙◌}
use native.Mathlib.Omega.{arith}
use lib.Dec.{ltb, eqb}
use lib.ListN.{length, drop, get_or}
use borrow.Author.Tests.{ltb-true, eqb-false}
use Rattle.words.specs.Choice.{choose}
use Rattle.words.specs.Sizes.{body_size}
use Rattle.answers.specs.declared.Refusal.{Refusal}
use Rattle.answers.specs.Answer.{Done}
use Rattle.answers.specs.Number.{number_of}
use Rattle.answers.specs.Table.{Line, first_of}
use Rattle.answers.proofs.TableLaws.{passed_over, joined as tables-joined, AllPassed, all_behind}
use Rattle.pdu.specs.declared.Header.{Header}
use Rattle.pdu.specs.Header.{datagram, body_of}
use Rattle.reader.specs.Reading.{reading}
use Rattle.calls.specs.declared.Notice.{Notice}
use Rattle.writer.proofs.RoundTrip.{Fits, accepted, read-written, body-written}
use Rattle.calls.specs.declared.Call.{Call}
use Rattle.calls.specs.Sent.{sent_header}
use Rattle.history.specs.Lists.{In}
use Rattle.history.specs.World.{SentPdu, World}
use Rattle.history.specs.Events.{Own, Event}
use Rattle.history.specs.Steps.{step, answer_to, notice_of, run}
use Rattle.history.specs.Fairness.{Typed, FairArrival, Premise, Fair}
use Rattle.runs.specs.Runs.{Story, events_of, numbers_of, answers_to, notices_to}
use Rattle.history.proofs.Network.{pdu_of, call_fits}

-- The event is answered that number, its stub is told that, and it leaves that world.
pub record Makes (w : World) (e : Event) (number : ℕ) (notice : Notice) (after : World) : Type 0 where
  pub answered : number_of (answer_to w e) ≡ number
  pub tells : notice_of w e ≡ notice
  pub leaves : step w e ≡ after

-- The story keeps every premise, is answered as it says, the stubs are told these notices, and it ends so.
pub record Plays (w : World) (story : Story) (notices : List Notice) (after : World) : Type 0 where
  pub fair : Fair w (events_of story)
  pub answers : answers_to w (events_of story) ≡ numbers_of story
  pub tells : notices_to w (events_of story) ≡ notices
  pub ends : run w (events_of story) ≡ after

-- The same where the world left is told otherwise.
pub told : {A : Type 0} {w : World} {e : Event} {number : ℕ} {notice : Notice} (after : A → World) {x y : A} → x ≡ y
    → Makes w e number notice (after x) → Makes w e number notice (after y)
told after same m = record { answered = m.answered; tells = m.tells; leaves = m.leaves ∙ ap after same }

-- What arrives is the i-th PDU sent.
nth : (sent : List SentPdu) (i : ℕ) → i < length sent → In (get_or sent i (pdu_of 0 [])) sent
nth [] i h = absurd (omega arith)
nth (d ∷ ds) zero h = inl refl
nth (d ∷ ds) (suc i) h = inr (nth ds i (omega arith))

pub came : {sent : List SentPdu} (i : ℕ) → ltb i (length sent) ≡ true → FairArrival sent (get_or sent i (pdu_of 0 [])) Own
came {sent} i here = record { earlier = nth sent i (ltb-true i (length sent) here); own = refl }

-- Nothing happens;
pub over : {w : World} → Plays w [] [] w
unfolding run
over = record { fair = tt; answers = refl; tells = refl; ends = refl }

-- an event that keeps its premise, and then the rest;
onward : {w next after : World} {e : Event} {number : ℕ} {notice : Notice} {story : Story} {notices : List Notice}
    → Makes w e number notice next → (answer_to w e ≡ Done → Premise w e) → Plays next story notices after
    → Plays w ((e, number) ∷ story) (notice ∷ notices) after
unfolding run
onward {after = after} {story = story} {notices = notices} m premise rest =
    let back = sym m.leaves in
    record {
      fair = (premise, subst (λ (v : World). Fair v (events_of story)) back rest.fair);
      answers = λ i. m.answered i ∷ subst (λ (v : World). answers_to v (events_of story) ≡ numbers_of story) back rest.answers i;
      tells = λ i. m.tells i ∷ subst (λ (v : World). notices_to v (events_of story) ≡ notices) back rest.tells i;
      ends = subst (λ (v : World). run v (events_of story) ≡ after) back rest.ends;
    }

pub then : {w next after : World} {e : Event} {number : ℕ} {notice : Notice} {story : Story} {notices : List Notice}
    → Makes w e number notice next → Premise w e → Plays next story notices after
    → Plays w ((e, number) ∷ story) (notice ∷ notices) after
then m premise rest = onward m (λ done. premise) rest

-- a refused one, and then the rest;
pub refused : {w next after : World} {e : Event} {number : ℕ} {notice : Notice} {story : Story} {notices : List Notice}
    → Makes w e number notice next → eqb number 0 ≡ false → Plays next story notices after
    → Plays w ((e, number) ∷ story) (notice ∷ notices) after
refused {number = number} m undone rest =
    onward m (λ done. absurd (eqb-false number 0 undone (sym m.answered ∙ ap number_of done))) rest

-- a story behind another.
notices_joined : (w : World) (one two : Story)
    → notices_to w (events_of (one ++ two)) ≡ notices_to w (events_of one) ++ notices_to (run w (events_of one)) (events_of two)
unfolding run
notices_joined w [] two = refl
notices_joined w (t ∷ ts) two = λ i. notice_of w t.0 ∷ notices_joined (step w t.0) ts two i

pub joined : {w next after : World} (one two : Story) {first second : List Notice} → Plays w one first next
    → Plays next two second after → Plays w (one ++ two) (first ++ second) after
unfolding run
joined {after = after} [] two {second = second} p q =
    let back = sym p.ends in
    record {
      fair = subst (λ (v : World). Fair v (events_of two)) back q.fair;
      answers = subst (λ (v : World). answers_to v (events_of two) ≡ numbers_of two) back q.answers;
      tells = λ i. p.tells i ++ subst (λ (v : World). notices_to v (events_of two) ≡ second) back q.tells i;
      ends = subst (λ (v : World). run v (events_of two) ≡ after) back q.ends;
    }
joined {w = w} {next = next} {after = after} (t ∷ ts) two {second = second} p q =
    let later : Plays (step w t.0) ts (notices_to (step w t.0) (events_of ts)) next = record {
      fair = p.fair.1;
      answers = ap (drop 1) p.answers;
      tells = refl;
      ends = p.ends;
    } in
    let rest = joined {w = step w t.0} ts two later q in
    record {
      fair = (p.fair.0, rest.fair);
      answers = λ i. get_or (p.answers i) 0 0 ∷ rest.answers i;
      tells =
          notices_joined w (t ∷ ts) two
          ∙ (λ i. p.tells i ++ subst (λ (v : World). notices_to v (events_of two) ≡ second) (sym p.ends) q.tells i);
      ends = rest.ends;
    }

-- A PDU that the reader accepts, as it was written.
pub record Carried (h : Header) (body : List ℕ) : Type 0 where
  pub fits : Fits h
  pub known : h.kind ≤ 10
  pub plain : h.authentication ≡ 0
  pub short : length body ≤ body_size

pub carried_read : (h : Header) (body : List ℕ) → Carried h body → reading (datagram h body) ≡ accepted h
carried_read h body k = read-written h body k.fits k.known k.plain k.short

pub carried_body : (h : Header) (body : List ℕ) → Carried h body → body_of (datagram h body) ≡ body
carried_body h body k = body-written h body k.fits.sized

-- A table goes on behind what is lent rightly and a datagram that is read: the record's rules decide, and then the rest.
pub read_on : {A : Type 0} (refuse : Refusal → A) (lent kept : Line) (reads rest : List Line) (behind : A) → lent.test ≡ false
    → AllPassed reads → first_of refuse (lent ∷ kept ∷ reads ++ rest) behind ≡ first_of refuse (kept ∷ rest) behind
unfolding first_of
read_on refuse lent kept reads rest behind right passed =
    passed_over refuse lent (kept ∷ reads ++ rest) behind right
    ∙ ap (choose kept.test (refuse kept.refusal))
    (tables-joined refuse reads rest behind ∙ all_behind refuse reads (first_of refuse rest behind) passed)

-- A PDU of the runs is such a one.
pub carried : (kind flags1 serial : ℕ) (activity : List ℕ) (boot number : ℕ) (call : Call) (fragment : ℕ) (body : List ℕ) → Typed call
    → length activity ≡ 16 → (kind ≤ 10) × (serial < 65536) × (boot < 4294967296) × (number < 4294967296) × (fragment < 65536) → length body ≤ body_size
    → Carried (sent_header kind flags1 serial activity boot number call fragment) body
unfolding sent_header
carried kind flags1 serial activity boot number call fragment body typed whole small short = record {
  fits = call_fits kind flags1 serial activity boot number call fragment whole typed small.1 small.2 small.3 small.4;
  known = small.0;
  plain = refl;
  short = short;
}
