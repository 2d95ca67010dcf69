-- What a host's calls make of what it keeps is what their events make of the theorem's world.
use mathlib.Core.List.{List, [], ◌∷◌}
use mathlib.Core.Path.{◌≡◌, refl, sym, ap, subst, ◌∙◌}
use Rattle.client.specs.declared.records.Client.{Client}
use Rattle.server.specs.declared.records.Server.{Server}
use Rattle.history.specs.World.{World}
use Rattle.history.specs.Events.{Event, OfClient, OfServer}
use Rattle.history.specs.Steps.{last_start, Turn, client_turn, server_turn, client_world, server_world, happens, answer_to, notice_of, left_in, step, run}
use Rattle.history.proofs.Histories.{run-append}
use Rattle.host_history.specs.Hosts.{HostWorld, world_of, ClientCall, ServerCall, HostCall, ToClient, ToServer, client_export, server_export, exported, after_client, after_server, host_step, host_run}
use Rattle.host_history.specs.Meaning.{meant_to_client, meant_to_server, meant, events_of, HostFits, AllFit, Keeps, Tells}
use Rattle.host_history.proofs.ClientCalls.{ClientMeets, client_meets}
use Rattle.host_history.proofs.ServerCalls.{ServerMeets, server_meets}
use Rattle.host_history.proofs.Unchanged.{refused-same}

-- All that is shown of a call that is those events.
pub record Same (h : HostWorld) (call : HostCall) (es : List Event) : Type 0 where
  pub world : world_of (host_step h call) ≡ run (world_of h) es
  pub kept : Keeps (host_step h call)
  pub tells : Tells (world_of h) (exported h call) es

module _ (h : HostWorld) (keeps : Keeps h) (call : ClientCall) where
  client-same : (es : List Event) → ClientMeets h.client call (client_export h.client call) es
      → Same h (ToClient call) es
  unfolding host_step run step answer_to notice_of left_in happens
  client-same [] undone = record {
    world = ap world_of (refused-same h (ToClient call) undone);
    kept = subst Keeps (sym (refused-same h (ToClient call) undone)) keeps;
    tells = undone;
  }
  client-same (OfClient e ∷ []) f =
      let turn = client_turn (world_of h).client e in
      record {
        world =
            ap (after_client (world_of h) call) f.shows.same
            ∙ (λ i.
            client_world (world_of h) turn (f.starts h.books.starts turn i)
            (f.cancels h.books.cancels turn (last_start h.books.starts) i));
        kept = record { client = f.shows.canonical; server = keeps.server };
        tells =
            record {
              answer = ap (λ (t : Turn Client). t.answer) f.shows.same;
              notice = ap (λ (t : Turn Client). t.notice) f.shows.same;
              buffer = ap (λ (t : Turn Client). t.out) f.shows.same;
            };
      }
  client-same (OfClient e ∷ (other ∷ es)) never = absurd never
  client-same (OfServer e ∷ es) never = absurd never

module _ (h : HostWorld) (keeps : Keeps h) (call : ServerCall) where
  server-same : (es : List Event) → ServerMeets h.server call (server_export h.server call) es
      → Same h (ToServer call) es
  unfolding host_step run step answer_to notice_of left_in happens
  server-same [] undone = record {
    world = ap world_of (refused-same h (ToServer call) undone);
    kept = subst Keeps (sym (refused-same h (ToServer call) undone)) keeps;
    tells = undone;
  }
  server-same (OfServer e ∷ []) f =
      let turn = server_turn (world_of h).server e in
      record {
        world =
            ap (after_server (world_of h) call) f.shows.same
            ∙ (λ i.
            server_world (world_of h) turn (f.subject (world_of h) turn.answer i) (f.replies h.books turn i));
        kept = record { client = keeps.client; server = f.shows.canonical };
        tells =
            record {
              answer = ap (λ (t : Turn Server). t.answer) f.shows.same;
              notice = ap (λ (t : Turn Server). t.notice) f.shows.same;
              buffer = ap (λ (t : Turn Server). t.out) f.shows.same;
            };
      }
  server-same (OfServer e ∷ (other ∷ es)) never = absurd never
  server-same (OfClient e ∷ es) never = absurd never

-- Every call is the events that it is meant for.
same : (h : HostWorld) (call : HostCall) → Keeps h → HostFits call → Same h call (meant call)
unfolding meant
same h (ToClient call) keeps small =
    client-same h keeps call (meant_to_client call) (client_meets h.client keeps.client call small)
same h (ToServer call) keeps small =
    server-same h keeps call (meant_to_server call) (server_meets h.server keeps.server call small)

-- What a call makes of what a host keeps is what its event makes of the theorem's world;
pub same_step : (h : HostWorld) (call : HostCall) → Keeps h → HostFits call
    → world_of (host_step h call) ≡ run (world_of h) (meant call)
same_step h call keeps small = (same h call keeps small).world

-- the records stay canonical bytes;
pub keeps_step : (h : HostWorld) (call : HostCall) → Keeps h → HostFits call → Keeps (host_step h call)
keeps_step h call keeps small = (same h call keeps small).kept

-- and the host is told what the theorem's world tells.
pub told : (h : HostWorld) (call : HostCall) → Keeps h → HostFits call
    → Tells (world_of h) (exported h call) (meant call)
told h call keeps small = (same h call keeps small).tells

-- So for every list of calls.
pub same-run : (h : HostWorld) (calls : List HostCall) → Keeps h → AllFit calls
    → world_of (host_run h calls) ≡ run (world_of h) (events_of calls)
unfolding host_run events_of run
same-run h [] keeps small = refl
same-run h (call ∷ calls) keeps small =
    same-run (host_step h call) calls (keeps_step h call keeps small.0) small.1
    ∙ ap (λ (w : World). run w (events_of calls)) (same_step h call keeps small.0)
    ∙ sym (run-append (world_of h) (meant call) (events_of calls))

pub keeps_run : (h : HostWorld) (calls : List HostCall) → Keeps h → AllFit calls → Keeps (host_run h calls)
unfolding host_run
keeps_run h [] keeps small = keeps
keeps_run h (call ∷ calls) keeps small =
    keeps_run (host_step h call) calls (keeps_step h call keeps small.0) small.1
