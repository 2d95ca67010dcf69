-- The theorem over histories, of a host that calls exports only.
use mathlib.Core.List.{List, [], ◌∷◌, ◌++◌}
use mathlib.Core.Path.{◌≡◌, sym, subst, ◌∙◌}
use Rattle.answers.specs.Answer.{Done}
use Rattle.history.specs.World.{World}
use Rattle.history.specs.Events.{Event}
use Rattle.history.specs.Steps.{answer_to, step, run}
use Rattle.history.specs.Fairness.{Fair}
use Rattle.history.proofs.Histories.{fair_append}
use Rattle.history.proofs.Theorem.{theorem}
use Rattle.morphelai.specs.Export.{Export}
use Rattle.host_history.specs.Results.{answer_in}
use Rattle.host_history.specs.Hosts.{HostWorld, world_of, HostCall, exported, host_step, host_run}
use Rattle.host_history.specs.Meaning.{meant, events_of, AllFit, PremiseOf, FairHost, Keeps, Tells, FreshHost}
use Rattle.host_history.specs.HostClaim.{HostClaim}
use Rattle.host_history.proofs.SameRun.{same_step, keeps_step, told, same-run, keeps_run}
use Rattle.host_history.proofs.FreshHosts.{fresh_keeps, fresh_world}

-- The premises of events one behind the other.
fair_joined : (w : World) (before after : List Event) → Fair w before → Fair (run w before) after
    → Fair w (before ++ after)
unfolding run
fair_joined w [] after first second = second
fair_joined w (e ∷ es) after first second = (first.0, fair_joined (step w e) es after first.1 second)

-- A premise that is kept where the host is answered 0 is kept where the theorem's world answers 0.
fair_call : (w : World) (x : Export) (es : List Event) → Tells w x es → (answer_in x.result ≡ Done → PremiseOf w es)
    → Fair w es
fair_call w x [] tells premise = tt
fair_call w x (e ∷ []) tells premise = (λ (done : answer_to w e ≡ Done). premise (tells.answer ∙ done), tt)
fair_call w x (e ∷ (f ∷ es)) never premise = absurd never

-- So what a host owes is what the theorem asks.
pub fair_host : (h : HostWorld) (calls : List HostCall) → Keeps h → AllFit calls → FairHost h calls
    → Fair (world_of h) (events_of calls)
unfolding events_of
fair_host h [] keeps small fair = tt
fair_host h (call ∷ calls) keeps small fair =
    fair_joined (world_of h) (meant call) (events_of calls)
    (fair_call (world_of h) (exported h call) (meant call) (told h call keeps small.0) fair.0)
    (subst (λ (w : World). Fair w (events_of calls)) (same_step h call keeps small.0)
    (fair_host (host_step h call) calls (keeps_step h call keeps small.0) small.1 fair.1))

-- And the other way: premises that the events keep are kept at the door.
premise_kept : (w : World) (x : Export) (es : List Event) → Tells w x es → Fair w es → answer_in x.result ≡ Done
    → PremiseOf w es
premise_kept w x [] tells fair done = tt
premise_kept w x (e ∷ []) tells fair done = fair.0 (sym tells.answer ∙ done)
premise_kept w x (e ∷ (f ∷ es)) never fair done = absurd never

pub host_fair : (h : HostWorld) (calls : List HostCall) → Keeps h → AllFit calls
    → Fair (world_of h) (events_of calls) → FairHost h calls
unfolding events_of
host_fair h [] keeps small fair = tt
host_fair h (call ∷ calls) keeps small fair =
    let split = fair_append (world_of h) (meant call) (events_of calls) fair in (
      premise_kept (world_of h) (exported h call) (meant call) (told h call keeps small.0) split.0,
      host_fair (host_step h call) calls (keeps_step h call keeps small.0) small.1
          (subst (λ (w : World). Fair w (events_of calls)) (sym (same_step h call keeps small.0)) split.1),
    )

-- Every history of a host that calls exports only is one of the theorem's world, and the claim holds of it: where its
-- events keep the theorem's premises,
pub host_claim : (h : HostWorld) → FreshHost h → (calls : List HostCall) → AllFit calls
    → Fair (world_of h) (events_of calls) → HostClaim h calls
host_claim h fresh calls small fair =
    let keeps = fresh_keeps h fresh in
    record {
      same = same-run h calls keeps small;
      claim = theorem (world_of h) (fresh_world h fresh) (events_of calls) fair;
      kept = keeps_run h calls keeps small;
    }

-- and so where the host keeps them at every call that it is answered 0 for.
pub host_theorem : (h : HostWorld) → FreshHost h → (calls : List HostCall) → AllFit calls → FairHost h calls
    → HostClaim h calls
host_theorem h fresh calls small fair =
    host_claim h fresh calls small (fair_host h calls (fresh_keeps h fresh) small fair)

-- What the claim says of the world that the events leave, it says of what the host then keeps.
pub at_host : (h : HostWorld) (calls : List HostCall) → HostClaim h calls → (P : World → Type 0)
    → P (run (world_of h) (events_of calls)) → P (world_of (host_run h calls))
at_host h calls holds P known = subst P (sym holds.same) known
