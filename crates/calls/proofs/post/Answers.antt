-- `calls::post` meets its contract.
use mathlib.Core.Path.{ap, ◌∙◌}
use Rattle.std.specs.Prelude.{ℕ, Result}
use Rattle.std.specs.Result.{result_ok}
use Rattle.answers.specs.declared.Refusal.{Refusal}
use Rattle.calls.specs.Sent.{posting}
use Rattle.calls.proofs.PostLaws.{told_length}
use Rattle.calls.proofs.post.Goals as goal

pub returns : goal.returns
unfolding posting
returns c =
    let a = c.args in
    let wrote = c.write.ensures in
    record {
      sent = c.ok.ensures.value ∙ (ap (λ (r : Result ℕ Refusal). result_ok r) wrote.result ∙ told_length a.h a.body.now a.out.now);
      buffer = wrote.buffer;
    }
