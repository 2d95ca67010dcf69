-- `client::judge::arrival` meets its contract.
use Rattle.std.proofs.Common.{◌≡◌, ℕ, true, not, List, Result, rules, sym, ap, ◌∙◌}
use Rattle.words.specs.Choice.{choose}
use Rattle.words.proofs.Tests.{tests, choose_false}
use Rattle.answers.specs.declared.Refusal.{Refusal}
use Rattle.answers.specs.Answer.{Refused, Ok}
use Rattle.reader.specs.declared.Received.{Received}
use Rattle.answers.specs.declared.Refusal.TheVariants.{WrongLength, BrokenRecord}
use Rattle.answers.specs.Table.{first_of, behind_answer}
use Rattle.answers.proofs.DoneLaws.{refused_if_done, accepted_if_done}
use Rattle.answers.proofs.TableLaws.{joined, by_answer}
use Rattle.pdu.specs.Header.{body_of}
use Rattle.reader.specs.Reading.{read_refusals, reading, received, read_result}
use Rattle.reader.proofs.Readable.{read_answers}
use Rattle.fragments.specs.Fragment.{lent_right}
use Rattle.client.specs.declared.records.Client.{Client}
use Rattle.client.specs.judge.Verdict.{Verdict, Refuse}
use Rattle.client.specs.records.Rules.{sound}
use Rattle.client.specs.judge.Refusals.{activity_verdict, arrival_refusals, arrival_verdict}
use Rattle.client.proofs.judge.arrival.Goals as goal

-- The table as the code goes through it: what the reader answers stands before 9.
lines : (c : Client) (slots out : ℕ) (d : List ℕ) → arrival_verdict c slots out d ≡
    choose (not (lent_right slots out)) (Refuse WrongLength)
    (choose (not (sound c)) (Refuse BrokenRecord)
    (behind_answer Refuse (activity_verdict c (reading d).header (reading d).little (body_of d)) (reading d).answer))
unfolding arrival_verdict arrival_refusals first_of activity_verdict
lines c slots out d =
    ap
    (λ (v : Verdict). choose (not (lent_right slots out)) (Refuse WrongLength) (choose (not (sound c)) (Refuse BrokenRecord) v))
    (joined Refuse (read_refusals d) _ _ ∙ by_answer Refuse (read_refusals d) _ ∙ ap (behind_answer Refuse _) (sym (read_answers d)))

pub returns-then-not-is_lent_right : goal.returns-then-not-is_lent_right
returns-then-not-is_lent_right c = rw (lines, ← c.is_lent_right.ensures) (search tests)

pub returns-then-not-is_sound : goal.returns-then-not-is_sound
returns-then-not-is_sound c = rw (
  lines,
  ← c.is_lent_right.ensures,
  ← c.is_sound.ensures,
) (search tests)

-- A datagram whose entry passed: one that the reader refuses,
module _ (c : Client) (slots out : ℕ) (d : List ℕ) (lent : lent_right slots out ≡ true) (kept : sound c ≡ true) where
  behind : (v : Verdict)
      → behind_answer Refuse (activity_verdict c (reading d).header (reading d).little (body_of d)) (reading d).answer ≡ v
      → v ≡ arrival_verdict c slots out d
  behind v e =
      sym
      (lines c slots out d ∙ choose_false _ (Refuse WrongLength) _ (ap not lent) ∙ choose_false _ (Refuse BrokenRecord) _ (ap not kept) ∙ e)

  read_refused : (r : Refusal) → ◌≡◌ {A = Result Received Refusal} (Refused r) (read_result d)
      → ◌≡◌ {A = Verdict} (Refuse r) (arrival_verdict c slots out d)
  unfolding read_result behind_answer
  read_refused r e =
      behind (Refuse r)
      (ap (behind_answer Refuse (activity_verdict c (reading d).header (reading d).little (body_of d)))
      (refused_if_done (reading d).answer (received (reading d)) r (sym e)))

  -- and one that it reads.
  read_accepted : (read : Received) (body : List ℕ) (v : Verdict) → ◌≡◌ {A = Result Received Refusal} (Ok read) (read_result d)
      → body ≡ body_of d → v ≡ activity_verdict c read.header read.little body → v ≡ arrival_verdict c slots out d
  unfolding read_result behind_answer received
  read_accepted read body v e b judged =
      let told = accepted_if_done (reading d).answer (received (reading d)) read (sym e) in
      let same : v ≡ activity_verdict c (reading d).header (reading d).little (body_of d) =
      judged ∙ (λ i. activity_verdict c (sym told.1 i).header (sym told.1 i).little (b i)) in
      behind v (ap (behind_answer Refuse (activity_verdict c (reading d).header (reading d).little (body_of d))) told.0 ∙ sym same)

pub returns-in_err-read : goal.returns-in_err-read
returns-in_err-read c =
    let a = c.args in
    let lent = sym c.is_lent_right.ensures ∙ c.if-not-is_lent_right.false in
    let kept = sym c.is_sound.ensures ∙ c.if-not-is_sound.false in
    let refused = read_refused a.c a.slots a.out a.d.now lent kept _ c.in_err-read.ensures in
    search rules

pub returns : goal.returns
returns c =
    let a = c.args in
    let lent = sym c.is_lent_right.ensures ∙ c.if-not-is_lent_right.false in
    let kept = sym c.is_sound.ensures ∙ c.if-not-is_sound.false in
    read_accepted a.c a.slots a.out a.d.now lent kept _ _ _ c.in_ok-read.ensures c.body.ensures c.own_activity.ensures
