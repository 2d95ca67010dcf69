-- What holds after every list of calls that a host makes: it is a history of the theorem's world, and the claim holds
-- of it.
use Rattle.std.specs.Prelude.{List, ◌≡◌}
use Rattle.history.specs.Steps.{run}
use Rattle.history.specs.Claim.{Claim}
use Rattle.host_history.specs.Hosts.{HostWorld, HostCall, world_of, host_run}
use Rattle.host_history.specs.Meaning.{events_of, Keeps}

pub record HostClaim (h : HostWorld) (calls : List HostCall) : Type 0 where
  -- What the host keeps is what the events of its calls make of the theorem's world,
  pub same : world_of (host_run h calls) ≡ run (world_of h) (events_of calls)
  -- of which demand 3 holds, and document 01's "What each step owes".
  pub claim : Claim (world_of h) (events_of calls)
  -- Both records are canonical bytes.
  pub kept : Keeps (host_run h calls)
