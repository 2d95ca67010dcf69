-- Every event whose arguments fit is the call of an exported function, and so every run of events is one of calls.
use Prim.Native.Nat.{ℕ}
use mathlib.Core.Bool.{Bool}
use mathlib.Core.List.{List, [], ◌∷◌, ◌++◌}
use mathlib.Core.Path.{◌≡◌, refl, sym, ap, subst, ◌∙◌}
use native.Mathlib.Omega.{arith}
use lib.ListN.{length}
use borrow.Author.Tests.{eq-eqb}
use Rattle.words.specs.Choice.{choose, mark_of}
use Rattle.words.proofs.Tests.{choose_true, both_hold}
use Rattle.answers.specs.Number.{number_of}
use Rattle.calls.specs.declared.Call.{Call}
use Rattle.calls.specs.declared.Notice.{Notice}
use Rattle.record_bytes.specs.Fits.{Uuid, FitsCall}
use Rattle.record_bytes.proofs.PartLaws.{mark-back, mark-readable, mark_small}
use Rattle.client.specs.declared.records.State.{State as ClientState}
use Rattle.client.specs.declared.records.TimerKind.TheVariants.{Wait, Ack, Cancel}
use Rattle.timers.specs.Timer.{Timer}
use Rattle.server.specs.declared.records.State.{State as ServerState}
use Rattle.history.specs.World.{Dispatched, Completed, Cancelled, Heard, SentPdu, World}
use Rattle.history.specs.Events.{Event, Start, ClientTransmit, ClientArrive, ClientTimer, ClientCancel, ServerArrive, ServerTransmit, ServerTimer, Reply, Fault, OfClient, OfServer}
use Rattle.history.specs.Steps.{step, run}
use Rattle.history.specs.Fairness.{Fair}
use Rattle.history.specs.Replies.{reply_handed_up}
use Rattle.history.proofs.ListLaws.{All}
use Rattle.host_history.specs.Arguments.{EventFits}
use Rattle.host_history.specs.Hosts.{HostWorld, world_of, HostCall, call_given, exported, host_step, host_run}
use Rattle.host_history.specs.Meaning.{startable, meant, events_of, HostFits, AllFit, Keeps, TellsOf, Tells, FreshHost}
use Rattle.host_history.proofs.SameRun.{same_step, keeps_step, told, same-run, keeps_run}
use Rattle.host_history.proofs.FreshHosts.{client_begins, server_begins, client-begun, server-begun, fresh_keeps}
use Rattle.host_history.proofs.HostTheorem.{host_fair}
use Rattle.host_history.proofs.Handing.{client-parts}
use Rattle.runs.specs.Runs.{Story, events_of as story_events, numbers_of, answers_to, notices_to, Ran, Told, activity, before}
use Rattle.host_runs.specs.HostRuns.{beginning, call_for, calls_for, answers_read, notices_read, HostRan, HostTold}

-- The call of an event that fits is within C's types,
call_fits : (e : Event) → EventFits e → HostFits (call_for e)
call_fits (OfClient (Start call n message)) fits = (
  mark_small call.idempotent,
  fits.0.object.octets,
  fits.0.interface.octets,
  fits.0.version,
  fits.0.operation,
  fits.1,
)
call_fits (OfClient (ClientTransmit message out)) fits = fits
call_fits (OfClient (ClientArrive p lent out)) fits = fits
call_fits (OfClient (ClientTimer Wait ticket out)) fits = (omega arith, fits.0, fits.1)
call_fits (OfClient (ClientTimer Ack ticket out)) fits = (omega arith, fits.0, fits.1)
call_fits (OfClient (ClientTimer Cancel ticket out)) fits = (omega arith, fits.0, fits.1)
call_fits (OfClient (ClientCancel out)) fits = fits
call_fits (OfServer (ServerArrive p lent out)) fits = fits
call_fits (OfServer (ServerTransmit message out)) fits = fits
call_fits (OfServer (ServerTimer ticket out)) fits = (omega arith, fits.0, fits.1)
call_fits (OfServer (Reply n message)) fits = fits
call_fits (OfServer (Fault status out)) fits = fits

-- and is that event.
start_there : (call : Call) (n : ℕ) (message : List ℕ) → FitsCall call
    → meant (call_for (OfClient (Start call n message))) ≡ OfClient (Start call n message) ∷ []
unfolding meant startable
start_there call n message fits =
    let mark = mark_of call.idempotent in
    let given = call_given mark call.object call.interface call.version call.operation in
    choose_true (startable mark call.object call.interface) (OfClient (Start given n message) ∷ []) []
    (both_hold _ _ (mark-readable call.idempotent)
    (both_hold _ _ (eq-eqb _ _ fits.object.size) (eq-eqb _ _ fits.interface.size)))
    ∙ ap
    (λ (idempotent : Bool).
    OfClient (Start (record {
      idempotent = idempotent;
      object = call.object;
      interface = call.interface;
      version = call.version;
      operation = call.operation;
    }) n message)
    ∷ [])
    (mark-back call.idempotent)

call-meant : (e : Event) → EventFits e → meant (call_for e) ≡ e ∷ []
unfolding meant choose
call-meant (OfClient (Start call n message)) fits = start_there call n message fits.0
call-meant (OfClient (ClientTransmit message out)) fits = refl
call-meant (OfClient (ClientArrive p lent out)) fits = refl
call-meant (OfClient (ClientTimer Wait ticket out)) fits = refl
call-meant (OfClient (ClientTimer Ack ticket out)) fits = refl
call-meant (OfClient (ClientTimer Cancel ticket out)) fits = refl
call-meant (OfClient (ClientCancel out)) fits = refl
call-meant (OfServer (ServerArrive p lent out)) fits = refl
call-meant (OfServer (ServerTransmit message out)) fits = refl
call-meant (OfServer (ServerTimer ticket out)) fits = refl
call-meant (OfServer (Reply n message)) fits = refl
call-meant (OfServer (Fault status out)) fits = refl

-- So every list of such events is a list of calls.
calls_fit : (es : List Event) → All EventFits es → AllFit (calls_for es)
calls_fit [] fits = tt
calls_fit (e ∷ es) fits = (call_fits e fits.0, calls_fit es fits.1)

pub calls_meant : (es : List Event) → All EventFits es → events_of (calls_for es) ≡ es
unfolding events_of
calls_meant [] fits = refl
calls_meant (e ∷ es) fits = λ i. call-meant e fits.0 i ++ calls_meant es fits.1 i

-- What a host reads of a call, and keeps after it, is what its event tells and makes.
module _ (h : HostWorld) (e : Event) (keeps : Keeps h) (fits : EventFits e) where
  tells_read : TellsOf (world_of h) (exported h (call_for e)) e
  tells_read =
      subst (Tells (world_of h) (exported h (call_for e))) (call-meant e fits)
      (told h (call_for e) keeps (call_fits e fits))

  steps_there : world_of (host_step h (call_for e)) ≡ step (world_of h) e
  unfolding run
  steps_there = same_step h (call_for e) keeps (call_fits e fits) ∙ ap (run (world_of h)) (call-meant e fits)

  keeps_there : Keeps (host_step h (call_for e))
  keeps_there = keeps_step h (call_for e) keeps (call_fits e fits)

-- So the answers and the notices that it reads are those of the events.
answers_read_lem : (h : HostWorld) (es : List Event) → Keeps h → All EventFits es
    → answers_read h (calls_for es) ≡ answers_to (world_of h) es
answers_read_lem h [] keeps fits = refl
answers_read_lem h (e ∷ es) keeps fits =
    let rest =
    answers_read_lem (host_step h (call_for e)) es (keeps_there h e keeps fits.0) fits.1
    ∙ ap (λ (w : World). answers_to w es) (steps_there h e keeps fits.0) in
    λ i. number_of ((tells_read h e keeps fits.0).answer i) ∷ rest i

notices_read_lem : (h : HostWorld) (es : List Event) → Keeps h → All EventFits es
    → notices_read h (calls_for es) ≡ notices_to (world_of h) es
notices_read_lem h [] keeps fits = refl
notices_read_lem h (e ∷ es) keeps fits =
    let rest =
    notices_read_lem (host_step h (call_for e)) es (keeps_there h e keeps fits.0) fits.1
    ∙ ap (λ (w : World). notices_to w es) (steps_there h e keeps fits.0) in
    λ i. (tells_read h e keeps fits.0).notice i ∷ rest i

-- A run of events that fit is a run of calls.
module _ (h : HostWorld) (w : World) (story : Story) (fresh : FreshHost h) (is : world_of h ≡ w)
    (fits : All EventFits (story_events story)) where
  abbrev events : List Event
  events = story_events story

  abbrev calls : List HostCall
  calls = calls_for events

  kept : Keeps h
  kept = fresh_keeps h fresh

  small : AllFit calls
  small = calls_fit events fits

  ends : world_of (host_run h calls) ≡ run w events
  ends = same-run h calls kept small ∙ (λ i. run (is i) (calls_meant events fits i))

  pub host_ran : (client_pdus server_pdus : List SentPdu) (client : ClientState) (server : ServerState)
      (dispatches : List Dispatched) (completions : List Completed) (handed : List ℕ)
      → Ran w story client_pdus server_pdus client server dispatches completions handed
      → HostRan h calls (numbers_of story) client_pdus server_pdus dispatches completions handed
  host_ran client_pdus server_pdus client server dispatches completions handed ran = record {
    fresh = fresh;
    small = small;
    fair = host_fair h calls kept small (subst (Fair (world_of h)) (sym (calls_meant events fits))
        (subst (λ (v : World). Fair v events) (sym is) ran.fair));
    answers = answers_read_lem h events kept fits ∙ ap (λ (v : World). answers_to v events) is ∙ ran.answers;
    client_sends = ap (λ (v : World). v.client.sent) ends ∙ ran.client_sends;
    server_sends = ap (λ (v : World). v.server.sent) ends ∙ ran.server_sends;
    dispatched = ap (λ (v : World). v.books.dispatches) ends ∙ ran.dispatched;
    completed = ap (λ (v : World). v.books.completions) ends ∙ ran.completed;
    reads =
        client-parts (host_run h calls) (keeps_run h calls kept small) ∙ ap reply_handed_up ends ∙ ran.hands_up_lem;
  }

  -- and what it tells is told at the door.
  pub host_told : (notices : List Notice) (timers : List Timer) (cancels : List Cancelled) (heard : List Heard)
      → Told w story notices timers cancels heard → HostTold h calls notices cancels heard
  host_told notices timers cancels heard shown = record {
    tells = notices_read_lem h events kept fits ∙ ap (λ (v : World). notices_to v events) is ∙ shown.tells;
    cancelled = ap (λ (v : World). v.books.cancels) ends ∙ shown.cancelled;
    hears = ap (λ (v : World). v.books.heard) ends ∙ shown.hears;
  }

-- The beginning of the runs is what both fresh exports make of any memory of 272 bytes.
activity_fits : Uuid activity
activity_fits = record { size = refl; octets = omega arith }

module _ (client_memory server_memory slots_of_client slots_of_server : List ℕ) (client_whole : length client_memory ≡ 272)
    (server_whole : length server_memory ≡ 272) where
  abbrev host : HostWorld
  host = beginning client_memory server_memory slots_of_client slots_of_server

  pub begins : FreshHost host
  begins = record {
    client = client_begins client_memory activity 5 client_whole activity_fits (omega arith);
    server = server_begins server_memory activity 7 100 server_whole activity_fits (omega arith) (omega arith);
    client_unsent = refl;
    server_unsent = refl;
    books =
        record {
          starts = refl;
          dispatches = refl;
          replies = refl;
          completions = refl;
          cancels = refl;
          heard = refl;
        };
  }

  pub begins_there : world_of host ≡ before slots_of_client slots_of_server
  begins_there = λ i. record {
    client =
        record {
          machine = client-begun client_memory activity 5 client_whole activity_fits (omega arith) i;
          slots = slots_of_client;
          sent = [];
        };
    server =
        record {
          machine = server-begun server_memory activity 7 100 server_whole activity_fits (omega arith) (omega arith) i;
          slots = slots_of_server;
          sent = [];
        };
    books =
        record {
          starts = [];
          dispatches = [];
          replies = [];
          completions = [];
          cancels = [];
          heard = [];
          standing = 0;
        };
  }
