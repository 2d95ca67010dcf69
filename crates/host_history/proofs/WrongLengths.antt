-- 1 is answered exactly when a length is wrong, or a start's idempotent is above 1, whatever bytes and arguments an
-- exported event is given.
use mathlib.Core.Bool.{Bool, true, false, not, false≢true}
use mathlib.Core.Path.{◌≡◌, refl, sym, ap, ◌∙◌}
use borrow.Author.Tests.{eqb-true}
use Rattle.answers.specs.declared.Refusal.TheVariants.{WrongLength}
use Rattle.answers.specs.Answer.{Refused}
use Rattle.answers.specs.Number.{number_of}
use Rattle.host_history.specs.Results.{answer_at, answer_in}
use Rattle.host_history.specs.Hosts.{HostWorld, HostCall, ToClient, ToServer, exported}
use Rattle.host_history.specs.Refusal.{sized_at}
use Rattle.host_history.proofs.Unpacking.{answer_back}
use Rattle.host_history.proofs.FirstRefusals.{is_one}
use Rattle.host_history.proofs.ClientFirst.{client_so}
use Rattle.host_history.proofs.ServerFirst.{server_so}

one_exactly : (h : HostWorld) (call : HostCall) → is_one (answer_in (exported h call).result) ≡ not (sized_at h call)
one_exactly h (ToClient call) = (client_so h.client call).one
one_exactly h (ToServer call) = (server_so h.server call).one

-- 1 where a length is wrong, in readable records too;
pub wrong_one : (h : HostWorld) (call : HostCall) → sized_at h call ≡ false
    → answer_in (exported h call).result ≡ Refused WrongLength
wrong_one h call wrong =
    let a = answer_in (exported h call).result in
    sym (answer_back a)
    ∙ ap answer_at (eqb-true (number_of a) 1 (one_exactly h call ∙ ap not wrong))
    ∙ answer_back (Refused WrongLength)

-- and nowhere else.
pub one_wrong : (h : HostWorld) (call : HostCall) → answer_in (exported h call).result ≡ Refused WrongLength
    → sized_at h call ≡ false
one_wrong h call told = turned (sized_at h call) (sym (one_exactly h call) ∙ ap is_one told)
  where
    turned : (right : Bool) → not right ≡ true → right ≡ false
    turned true never = absurd (false≢true never)
    turned false e = refl
