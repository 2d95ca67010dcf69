-- Dispatches: at most once, whole, and left alone while they run.
use Rattle.std.specs.Prelude.{ℕ, ◌≤◌, ◌<◌, Bool, true, false, List, ◌⊎◌, ◌≡◌, eqb}
use Rattle.calls.specs.declared.Notice.{Notice}
use Rattle.calls.specs.declared.Notice.TheVariants.{Cancel as CancelTold}
use Rattle.server.specs.declared.records.State.{State as ServerState}
use Rattle.server.specs.declared.records.State.TheVariants.{Idle, Collect, Running, Replying, Held}
use Rattle.server.specs.declared.records.Server.{Server}
use Rattle.server.specs.records.Record.{with_seen}
use Rattle.history.specs.Lists.{In, OfLast, how_many}
use Rattle.history.specs.World.{Started, Dispatched, World}
use Rattle.history.specs.Events.{Event, ServerArrive, ServerTransmit, ServerTimer, Reply, Fault, OfClient, OfServer}
use Rattle.history.specs.Steps.{dispatch_entry, of_record, notice_of, step}

-- How often a start was dispatched.
abbrev pub times : ℕ → List Dispatched → ℕ
times n = how_many (λ d. eqb n d.ordinal)

-- A start not marked idempotent is dispatched at most once.
unfoldable pub AtMostOnce : World → Type 0
AtMostOnce w =
    (s : Started) → In s w.books.starts → s.call.idempotent ≡ false → times s.ordinal w.books.dispatches ≤ 1

-- A start was dispatched.
pub record DispatchOf (dispatches : List Dispatched) (ordinal : ℕ) : Type 0 where
  pub dispatch : Dispatched
  pub dispatched : In dispatch dispatches
  pub same : dispatch.ordinal ≡ ordinal

-- Whole messages: a dispatch gets all that its start has, its call data too, and no other start has that ordinal.
pub record WholeMessage (starts : List Started) (d : Dispatched) : Type 0 where
  pub start : Started
  pub started : In start starts
  pub ordinal : start.ordinal ≡ d.ordinal
  pub call : d.call ≡ start.call
  pub whole : d.bytes ≡ start.message
  pub only : (other : Started) → In other starts → other.ordinal ≡ d.ordinal → other ≡ start

unfoldable pub WholeMessages : World → Type 0
WholeMessages w = (d : Dispatched) → In d w.books.dispatches → WholeMessage w.books.starts d

-- It has all of it still in RUNNING, where the call is executed: the last dispatch is what the server's record and slot
-- buffer give.
abbrev pub runs : ServerState → Bool
runs (Idle idle) = false
runs Collect = false
runs Running = true
runs Replying = false
runs (Held reply) = false

pub record RunsWhole (w : World) : Type 0 where
  pub ran : DispatchOf w.books.dispatches w.books.standing
  pub last : OfLast (λ d. d ≡ dispatch_entry (of_record w) w.server.machine w.server.slots) w.books.dispatches

unfoldable pub WholeWhereRunning : World → Type 0
WholeWhereRunning w = runs w.server.machine.state ≡ true → RunsWhole w

-- A call that runs is left alone: until its reply or fault is given, no event changes the server's record, its slot buffer
-- or the dispatches. Only a cancel that the stub is told raises the cancel number last seen, and nothing else.
abbrev pub ends_run : Event → Bool
ends_run (OfClient e) = false
ends_run (OfServer (ServerArrive p lent out)) = false
ends_run (OfServer (ServerTransmit message out)) = false
ends_run (OfServer (ServerTimer ticket out)) = false
ends_run (OfServer (Reply n message)) = true
ends_run (OfServer (Fault status out)) = true

abbrev pub RaisesSeen : Server → Server → Type 0
RaisesSeen before after = (before.seen < after.seen) × (after ≡ with_seen before after.seen)

pub record LeftAlone (before after : World) (notice : Notice) : Type 0 where
  pub machine :
      (after.server.machine ≡ before.server.machine) ⊎ ((notice ≡ CancelTold) × RaisesSeen before.server.machine after.server.machine)
  pub slots : after.server.slots ≡ before.server.slots
  pub dispatches : after.books.dispatches ≡ before.books.dispatches

unfoldable pub RunsUndisturbed : World → Type 0
RunsUndisturbed w =
    (e : Event) → runs w.server.machine.state ≡ true → ends_run e ≡ false → LeftAlone w (step w e) (notice_of w e)
