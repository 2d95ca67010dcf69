-- What goes on the books as a dispatch or as told complete is what a host is told and then reads.
use Prim.Native.Nat.{ℕ, ◌+◌, ◌≤◌}
use mathlib.Core.Bool.{true, false, false≢true}
use mathlib.Core.List.{List, [], ◌∷◌}
use mathlib.Core.Logic.{◌⊎◌, inl, inr}
use mathlib.Core.Path.{◌≡◌, refl, sym, ap, subst}
use native.Mathlib.Omega.{arith}
use lib.Dec.{eqb}
use lib.ListN.{length}
use borrow.Author.Tests.{eqb-true}
use Rattle.calls.specs.declared.Notice.{Notice}
use Rattle.calls.specs.declared.Notice.TheVariants.{Nothing as Untold, Last, Count, Fault, Reject, Cause, Dispatch, Cancel}
use Rattle.record_bytes.specs.Layout.{call_in, fields_in}
use Rattle.record_bytes.proofs.PartLaws.{uuid-part}
use Rattle.record_bytes.proofs.Keeping.{choice_by, choice_keeps}
use Rattle.client.specs.declared.records.Client.{Client}
use Rattle.client.specs.declared.records.State.{State as ClientState}
use Rattle.client_bytes.specs.Layout.{state_of as client_state, client_of, client_in}
use Rattle.server.specs.declared.records.Server.{Server}
use Rattle.server.specs.declared.records.State.{State as ServerState}
use Rattle.server_bytes.specs.Layout.{state_of as server_state, server_of, server_in}
use Rattle.history.specs.Lists.{and_then}
use Rattle.history.specs.World.{Dispatched, Completed, Side}
use Rattle.history.specs.Events.{Event, OfClient, OfServer}
use Rattle.history.specs.Steps.{dispatches_after, completions_after, Turn, Subject, completion_entry, dispatch_entry, server_turn}
use Rattle.history.specs.Dispatches.{runs}
use Rattle.history.specs.Replies.{has_reply}
use Rattle.host_history.specs.Results.{notice_in}
use Rattle.host_history.specs.Hosts.{HostWorld, world_of, ClientCall, ServerCall, HostCall, ToClient, ToServer, client_export, server_export, exported, client_seen, server_seen, starts_seen, subject_seen, host_step}
use Rattle.host_history.specs.Meaning.{meant_to_client, meant_to_server, ClientCallFits, ServerCallFits, HostFits, Keeps}
use Rattle.host_history.specs.HostReads.{InRunning, HasReply, ReadsDispatch}
use Rattle.host_history.specs.HostBooks.{DispatchRead, DispatchesRead, CompletionRead, CompletionsRead}
use Rattle.host_history.proofs.Refusals.{refused_leaves}
use Rattle.host_history.proofs.ClientCalls.{ClientMeets, client_meets}
use Rattle.host_history.proofs.ServerCalls.{ServerMeets, server_meets}
use Rattle.host_history.proofs.SameRun.{keeps_step}
use Rattle.host_history.proofs.Handing.{client-parts, server-parts}
use Rattle.history.proofs.ClientNotices.{ClientTells, client_tells}
use Rattle.host_history.proofs.ServerNotices.{Dispatches, ServerTells, server_tells}

-- Where the notice is "dispatch" there is one more, else none; the same of "last".
module _ (before : List Dispatched) (d : Dispatched) where
  dispatch_adds : (n : Notice) → n ≡ Dispatch → dispatches_after before n d ≡ and_then before d
  unfolding dispatches_after
  dispatch_adds n e = ap (λ (m : Notice). dispatches_after before m d) e

  no_dispatch : (n : Notice) → (n ≡ Dispatch → ⊥) → dispatches_after before n d ≡ before
  unfolding dispatches_after
  no_dispatch Untold other = refl
  no_dispatch Last other = refl
  no_dispatch (Count count) other = refl
  no_dispatch (Fault status) other = refl
  no_dispatch (Reject status) other = refl
  no_dispatch (Cause cause) other = refl
  no_dispatch Dispatch other = absurd (other refl)
  no_dispatch Cancel other = refl

module _ (before : List Completed) (c : Completed) where
  last_adds : (n : Notice) → n ≡ Last → completions_after before n c ≡ and_then before c
  unfolding completions_after
  last_adds n e = ap (λ (m : Notice). completions_after before m c) e

  no_last : (n : Notice) → (n ≡ Last → ⊥) → completions_after before n c ≡ before
  unfolding completions_after
  no_last Untold other = refl
  no_last Last other = absurd (other refl)
  no_last (Count count) other = refl
  no_last (Fault status) other = refl
  no_last (Reject status) other = refl
  no_last (Cause cause) other = refl
  no_last Dispatch other = refl
  no_last Cancel other = refl

-- What stands in the server's bytes is the record's call and number.
pub entry_read : (h : HostWorld) → Keeps h → (of : Subject) → (server_in h.server.machine).number ≡ of.number
    → ReadsDispatch h.server (dispatch_entry of (server_in h.server.machine) h.server.slots)
unfolding server_in server_of fields_in call_in
entry_read h keeps of same =
    let b = h.server.machine in
    let whole = keeps.server.size in
    let first : 112 + 16 ≤ length b = omega (arith, whole) in
    let second : 128 + 16 ≤ length b = omega (arith, whole) in
    record {
      parts = server-parts h keeps;
      number = same;
      operation = refl;
      version = refl;
      object = sym (uuid-part b 112 first);
      interface = sym (uuid-part b 128 second);
      idempotent = refl;
    }

-- The state byte of a record in RUNNING; of one that has its reply.
running-byte : (n status : ℕ) → runs (server_state n status) ≡ true → n ≡ 4
unfolding server_state
running-byte n status =
    choice_keeps Byte (eqb n 1) _ _ none
    (choice_keeps Byte (eqb n 2) _ _ none
    (choice_keeps Byte (eqb n 3) _ _ none
    (choice_by Byte (eqb n 4) _ _ (λ (four : eqb n 4 ≡ true). λ known. eqb-true n 4 four)
    (λ other.
    choice_keeps Byte (eqb n 5) _ _ none
    (choice_keeps Byte (eqb n 6) _ _ none
    (choice_keeps Byte (eqb n 7) _ _ none none))))))
  where
    Byte : ServerState → Type 0
    Byte state = runs state ≡ true → n ≡ 4

    none : false ≡ true → n ≡ 4
    none never = absurd (false≢true never)

reply-byte : (n : ℕ) → has_reply (client_state n) ≡ true → (n ≡ 4) ⊎ (n ≡ 5)
unfolding client_state
reply-byte n =
    choice_keeps Byte (eqb n 0) _ _ none
    (choice_keeps Byte (eqb n 1) _ _ none
    (choice_keeps Byte (eqb n 2) _ _ none
    (choice_keeps Byte (eqb n 3) _ _ none
    (choice_by Byte (eqb n 4) _ _ (λ (four : eqb n 4 ≡ true). λ known. inl (eqb-true n 4 four))
    (λ other.
    choice_by Byte (eqb n 5) _ _ (λ (five : eqb n 5 ≡ true). λ known. inr (eqb-true n 5 five)) (λ beyond. none))))))
  where
    Byte : ClientState → Type 0
    Byte state = has_reply state ≡ true → (n ≡ 4) ⊎ (n ≡ 5)

    none : false ≡ true → (n ≡ 4) ⊎ (n ≡ 5)
    none never = absurd (false≢true never)

pub runs_there : (server : Side (List ℕ)) → runs (server_in server.machine).state ≡ true → InRunning server
unfolding server_in server_of fields_in
runs_there server = running-byte _ _

answered_there : (client : Side (List ℕ)) → has_reply (client_in client.machine).state ≡ true → HasReply client
unfolding client_in client_of fields_in
answered_there client = reply-byte _

-- A call of the server that tells "dispatch" is of a request with the number that the record then has, in RUNNING;
-- none tells "last".
server_call_tells : (h : HostWorld) (call : ServerCall) (es : List Event)
    → ServerMeets h.server call (server_export h.server call) es
    → ServerTells (subject_seen (world_of h) call (server_seen h.server call).answer).number
    (server_seen h.server call).machine.number (server_seen h.server call).machine.state
    (server_seen h.server call).notice
server_call_tells h call [] undone =
    subst (ServerTells _ _ _) (sym (refused_leaves h (ToServer call) undone).untold) tt
server_call_tells h call (OfServer e ∷ []) f =
    subst
    (λ (t : Turn Server).
    ServerTells (subject_seen (world_of h) call t.answer).number t.machine.number t.machine.state
    t.notice)
    (sym f.shows.same)
    (subst
    (λ (of : Subject).
    ServerTells of.number (server_turn (world_of h).server e).machine.number
    (server_turn (world_of h).server e).machine.state (server_turn (world_of h).server e).notice)
    (sym (f.subject (world_of h) (server_turn (world_of h).server e).answer))
    (server_tells (world_of h) e (server_turn (world_of h).server e).answer))
server_call_tells h call (OfServer e ∷ (other ∷ es)) never = absurd never
server_call_tells h call (OfClient e ∷ es) never = absurd never

-- None of the client tells "dispatch", and one that tells "last" has its reply then.
client_call_tells : (h : HostWorld) (call : ClientCall) (es : List Event)
    → ClientMeets h.client call (client_export h.client call) es
    → ClientTells (client_seen h.client call).machine.state (client_seen h.client call).notice
client_call_tells h call [] undone = subst (ClientTells _) (sym (refused_leaves h (ToClient call) undone).untold) tt
client_call_tells h call (OfClient e ∷ []) f =
    subst (λ (t : Turn Client). ClientTells t.machine.state t.notice) (sym f.shows.same)
    (client_tells (world_of h).client e)
client_call_tells h call (OfClient e ∷ (other ∷ es)) never = absurd never
client_call_tells h call (OfServer e ∷ es) never = absurd never

module _ (h : HostWorld) (keeps : Keeps h) where
  server_told : (call : ServerCall) (small : ServerCallFits call)
      → ServerTells (subject_seen (world_of h) call (server_seen h.server call).answer).number
      (server_seen h.server call).machine.number (server_seen h.server call).machine.state
      (server_seen h.server call).notice
  server_told call small =
      server_call_tells h call (meant_to_server call) (server_meets h.server keeps.server call small)

  dispatch_told : (call : ServerCall) → ServerCallFits call → (server_seen h.server call).notice ≡ Dispatch
      → Dispatches (subject_seen (world_of h) call (server_seen h.server call).answer).number
      (server_seen h.server call).machine.number (server_seen h.server call).machine.state
  dispatch_told call small told = subst (ServerTells _ _ _) told (server_told call small)

  pub client_told : (call : ClientCall) → ClientCallFits call
      → ClientTells (client_seen h.client call).machine.state (client_seen h.client call).notice
  client_told call small =
      client_call_tells h call (meant_to_client call) (client_meets h.client keeps.client call small)

  -- A dispatch is what the host is told and then reads;
  pub dispatches_read : DispatchesRead h
  dispatches_read = record { told = by_side; untold = stays }
    where
      by_side : (call : HostCall) → HostFits call → notice_in (exported h call).result ≡ Dispatch
          → DispatchRead h (host_step h call)
      by_side (ToClient call) small told = absurd (subst (ClientTells _) told (client_told call small))
      by_side (ToServer call) small told =
          let t = server_seen h.server call in
          let of = subject_seen (world_of h) call t.answer in
          unfold host_step in
          record {
            dispatch = dispatch_entry of t.machine t.slots;
            added = dispatch_adds h.books.dispatches _ t.notice told;
            read =
                entry_read (host_step h (ToServer call)) (keeps_step h (ToServer call) keeps small) of
                (dispatch_told call small told).number;
            running = runs_there (host_step h (ToServer call)).server (dispatch_told call small told).running;
          }

      stays : (call : HostCall) → (notice_in (exported h call).result ≡ Dispatch → ⊥)
          → (host_step h call).books.dispatches ≡ h.books.dispatches
      stays (ToClient call) other = unfold host_step in refl
      stays (ToServer call) other =
          let t = server_seen h.server call in
          unfold host_step in no_dispatch h.books.dispatches _ t.notice other

  -- and so is a call told complete.
  pub completions_read : CompletionsRead h
  completions_read = record { told = by_side; untold = stays }
    where
      by_side : (call : HostCall) → HostFits call → notice_in (exported h call).result ≡ Last
          → CompletionRead h (host_step h call)
      by_side (ToServer call) small told = absurd (subst (ServerTells _ _ _) told (server_told call small))
      by_side (ToClient call) small told =
          let t = client_seen h.client call in
          unfold host_step in
          record {
            completion = completion_entry (starts_seen h.books.starts call t) t.machine t.slots;
            added = last_adds h.books.completions _ t.notice told;
            parts = client-parts (host_step h (ToClient call)) (keeps_step h (ToClient call) keeps small);
            last = refl;
            answered =
                answered_there (host_step h (ToClient call)).client
                (subst (ClientTells t.machine.state) told (client_told call small));
          }

      stays : (call : HostCall) → (notice_in (exported h call).result ≡ Last → ⊥)
          → (host_step h call).books.completions ≡ h.books.completions
      stays (ToServer call) other = unfold host_step in refl
      stays (ToClient call) other =
          let t = client_seen h.client call in
          unfold host_step in no_last h.books.completions _ t.notice other
