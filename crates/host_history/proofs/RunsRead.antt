-- While a call runs a host reads all of it, and nothing but its reply or fault changes the server's side, but for the
-- cancel number that a cancel told raises.
use Prim.Native.Nat.{ℕ}
use mathlib.Core.Bool.{true, false, true≢false}
use mathlib.Core.List.{List, [], ◌∷◌}
use mathlib.Core.Logic.{◌⊎◌, inl, inr}
use mathlib.Core.Path.{◌≡◌, refl, sym, ap, subst, ◌∙◌}
use lib.ListN.{take, drop}
use Rattle.words.specs.Choice.{choose}
use Rattle.words.specs.Number.{number}
use Rattle.calls.specs.declared.Notice.{Notice}
use Rattle.calls.specs.declared.Notice.TheVariants.{Cancel}
use Rattle.record_bytes.specs.Layout.{fields_in, field_bytes}
use Rattle.record_bytes.proofs.Keeping.{choice_keeps}
use Rattle.server.specs.declared.records.Server.{Server}
use Rattle.server.specs.records.Record.{with_seen}
use Rattle.server_bytes.specs.Canonical.{Canonical}
use Rattle.server_bytes.specs.Layout.{state_of, server_of, server_in, fields_of, bytes_of_server}
use Rattle.server_bytes.proofs.RoundTrip.{server_again}
use Rattle.history.specs.Lists.{In, and_then, OfLast}
use Rattle.history.specs.World.{World}
use Rattle.history.specs.Events.{Event}
use Rattle.history.specs.Steps.{of_record, step, run}
use Rattle.history.specs.Dispatches.{runs, WholeWhereRunning, ends_run as event_ends, RaisesSeen, LeftAlone, RunsUndisturbed}
use Rattle.history.proofs.ListLaws.{in_added}
use Rattle.morphelai.specs.Export.{Export}
use Rattle.host_history.specs.Results.{notice_in}
use Rattle.host_history.specs.Hosts.{HostWorld, world_of, ServerCall, ServerArrive, ServerTransmit, ServerTimer, ServerReply, ServerFault, ToClient, ToServer, exported, host_step}
use Rattle.host_history.specs.Meaning.{meant, HostFits, Keeps, Tells}
use Rattle.host_history.specs.HostReads.{InRunning, ReadsDispatch, ends_run}
use Rattle.host_history.specs.HostDemand.{DispatchesWhole, RunningWhole, OnlyRaised, ServerSame, RunningAlone}
use Rattle.host_history.proofs.SameRun.{same_step, keeps_step, told}
use Rattle.host_history.proofs.BooksRead.{entry_read}

-- The last of a list that has some.
record Ending {A : Type 0} (P : A → Type 0) (xs : List A) : Type 0 where
  before : List A
  last : A
  is : xs ≡ and_then before last
  holds : P last

ending : {A : Type 0} (P : A → Type 0) (xs : List A) (x : A) → In x xs → OfLast P xs → Ending P xs
ending P [] x never known = absurd never
ending P (y ∷ []) x here known = record { before = []; last = y; is = refl; holds = known }
ending P (y ∷ (z ∷ zs)) x here known =
    let rest = ending P (z ∷ zs) z (inl refl) known in
    record {
      before = y ∷ rest.before;
      last = rest.last;
      is = ap (λ (others : List _). y ∷ others) rest.is;
      holds = rest.holds;
    }

-- The state byte is that of RUNNING.
pub state_runs : (h : HostWorld) → InRunning h.server → runs (world_of h).server.machine.state ≡ true
unfolding server_in server_of fields_in state_of choose
state_runs h state = ap (λ (n : ℕ). runs (state_of n (number 4 true h.server.machine 48))) state

-- Another cancel number last seen is another one at 68, and all other bytes are the same.
seen_front : (s : Server) (seen : ℕ) → take 68 (bytes_of_server (with_seen s seen)) ≡ take 68 (bytes_of_server s)
unfolding bytes_of_server fields_of field_bytes with_seen
seen_front s seen = refl

seen_back : (s : Server) (seen : ℕ) → drop 72 (bytes_of_server (with_seen s seen)) ≡ drop 72 (bytes_of_server s)
unfolding bytes_of_server fields_of field_bytes with_seen
seen_back s seen = refl

module _ (before after : List ℕ) (was : Canonical before) (is : Canonical after) where
  only_raised : RaisesSeen (server_in before) (server_in after) → OnlyRaised before after
  unfolding server_in server_of fields_in
  only_raised raises =
      let now : after ≡ bytes_of_server (with_seen (server_in before) (server_in after).seen) =
      sym (server_again after is) ∙ ap bytes_of_server raises.1 in
      record {
        front = ap (take 68) now ∙ seen_front (server_in before) _ ∙ ap (take 68) (server_again before was);
        raised = raises.0;
        back = ap (drop 72) now ∙ seen_back (server_in before) _ ∙ ap (drop 72) (server_again before was);
      }

  bytes_told : (notice : Notice)
      → (server_in after ≡ server_in before) ⊎ ((notice ≡ Cancel) × RaisesSeen (server_in before) (server_in after))
      → (after ≡ before) ⊎ ((notice ≡ Cancel) × OnlyRaised before after)
  bytes_told notice (inl same) =
      inl (sym (server_again after is) ∙ ap bytes_of_server same ∙ server_again before was)
  bytes_told notice (inr raised) = inr (raised.0, only_raised raised.1)

-- Events that do not end the run, and the calls that are such.
abbrev Spares : List Event → Type 0
Spares [] = Unit {0}
Spares (e ∷ es) = (event_ends e ≡ false) × Spares es

call_alone : (call : ServerCall) → ends_run (ToServer call) ≡ false → Spares (meant (ToServer call))
unfolding meant
call_alone (ServerArrive p lent out) other = (refl, tt)
call_alone (ServerTransmit message out) other = (refl, tt)
call_alone (ServerTimer kind ticket out) other = choice_keeps Spares _ _ _ (refl, tt) tt
call_alone (ServerReply n message) other = absurd (true≢false other)
call_alone (ServerFault status out) other = absurd (true≢false other)

module _ (h : HostWorld) (keeps : Keeps h) where
  pub running-read : WholeWhereRunning (world_of h) → DispatchesWhole h → RunningWhole h
  unfolding WholeWhereRunning DispatchesWhole RunningWhole
  running-read running whole state =
      let known = running (state_runs h state) in
      let end = ending _ h.books.dispatches known.ran.dispatch known.ran.dispatched known.last in
      record {
        before = end.before;
        dispatch = end.last;
        last = end.is;
        read =
            subst (ReadsDispatch h.server) (sym end.holds) (entry_read h keeps (of_record (world_of h)) refl);
        whole =
            whole end.last (subst (In end.last) (sym end.is) (in_added end.before end.last));
      }

  module _ (alone : RunsUndisturbed (world_of h)) (state : runs (world_of h).server.machine.state ≡ true) where
    -- What events that do not end the run leave, and what is told of them.
    events_alone : (es : List Event) (after : World) (x : Export) → Spares es → after ≡ run (world_of h) es
        → Tells (world_of h) x es → LeftAlone (world_of h) after (notice_in x.result)
    unfolding RunsUndisturbed run
    events_alone [] after x spares same tells = record {
      machine = inl (ap (λ (w : World). w.server.machine) same);
      slots = ap (λ (w : World). w.server.slots) same;
      dispatches = ap (λ (w : World). w.books.dispatches) same;
    }
    events_alone (e ∷ []) after x spares same tells =
        subst (λ (w : World). LeftAlone (world_of h) w (notice_in x.result)) (sym same)
        (subst (LeftAlone (world_of h) (step (world_of h) e)) (sym tells.notice) (alone e state spares.0))
    events_alone (e ∷ (f ∷ es)) after x spares same never = absurd never

    server-same : (call : ServerCall) → HostFits (ToServer call) → ends_run (ToServer call) ≡ false
        → ServerSame h (host_step h (ToServer call)) (notice_in (exported h (ToServer call)).result)
    server-same call small other =
        let after = host_step h (ToServer call) in
        let left =
        events_alone (meant (ToServer call)) (world_of after) (exported h (ToServer call)) (call_alone call other)
        (same_step h (ToServer call) keeps small) (told h (ToServer call) keeps small) in
        record {
          bytes =
              bytes_told h.server.machine after.server.machine keeps.server
              (keeps_step h (ToServer call) keeps small).server _ left.machine;
          slots = left.slots;
          dispatches = left.dispatches;
        }

  pub running_alone : RunsUndisturbed (world_of h) → RunningAlone h
  unfolding RunningAlone host_step
  running_alone alone (ToClient call) small state other = record { bytes = inl refl; slots = refl; dispatches = refl }
  running_alone alone (ToServer call) small state other = server-same alone (state_runs h state) call small other
