-- A datagram that was read: one of another activity is 9.
use Rattle.std.proofs.Common.{◌≡◌, not, Bool, List, ℕ, refl}
use Rattle.words.specs.Choice.{choose}
use Rattle.words.specs.Same.{same}
use Rattle.answers.specs.declared.Refusal.TheVariants.{OtherActivity}
use Rattle.answers.specs.Table.{first_of}
use Rattle.pdu.specs.declared.Header.{Header}
use Rattle.client.specs.declared.records.Client.{Client}
use Rattle.client.specs.judge.Verdict.{Refuse}
use Rattle.client.specs.judge.Refusals.{pdu_verdict, activity_verdict}

pub activity_lines : (c : Client) (h : Header) (little : Bool) (body : List ℕ) → activity_verdict c h little body ≡
    choose (not (same c.activity h.activity)) (Refuse OtherActivity) (pdu_verdict c h little body)
unfolding activity_verdict pdu_verdict first_of
activity_lines c h little body = refl
