-- An event answered 0 leaves canonical bytes, whatever bytes it was lent as a record.
use Prim.Native.Nat.{ℕ}
use mathlib.Core.Bool.{Bool, true, false}
use mathlib.Core.List.{List, []}
use mathlib.Core.Logic.{inl, inr}
use mathlib.Core.Path.{◌≡◌, refl, sym, ap, subst, ◌∙◌}
use lib.Dec.{eqb}
use lib.ListN.{length}
use borrow.Author.Tests.{eq-eqb, eqb-true}
use Rattle.words.specs.Choice.{choose}
use Rattle.words.specs.Place.{placed}
use Rattle.words.proofs.Tests.{choose_true, both_true}
use Rattle.answers.specs.declared.Refusal.TheVariants.{WrongLength, BrokenRecord}
use Rattle.answers.specs.Answer.{Answer, Done}
use Rattle.answers.specs.Number.{number_of}
use Rattle.answers.proofs.NumberLaws.{refused_not_done}
use Rattle.calls.specs.declared.Notice.{Notice}
use Rattle.calls.specs.Sent.{Sent}
use Rattle.record_bytes.specs.Fits.{Octets, Uuid, FitsCall}
use Rattle.record_bytes.proofs.Keeping.{choice_by}
use Rattle.client.specs.declared.records.TimerKind.TheVariants.{Wait, Ack, Cancel}
use Rattle.client.specs.records.Rules.{sound as client_sound}
use Rattle.client_bytes.specs.Layout.{readable as client_readable, client_in, bytes_of_client}
use Rattle.client_bytes.specs.Canonical.{Canonical as ClientCanonical}
use Rattle.client_bytes.proofs.RoundTrip.{client_fits}
use Rattle.server.specs.records.Rules.{sound as server_sound}
use Rattle.server_bytes.specs.Layout.{readable as server_readable, server_in, bytes_of_server}
use Rattle.server_bytes.specs.Canonical.{Canonical as ServerCanonical}
use Rattle.server_bytes.proofs.RoundTrip.{server_fits}
use Rattle.history.specs.World.{Side}
use Rattle.history.specs.Events.{ClientEvent, ServerEvent, Start, ClientTransmit as TransmitOfClient, ClientArrive as ArriveOfClient, ClientTimer as TimerOfClient, ClientCancel as CancelOfClient, ServerArrive as ArriveOfServer, ServerTransmit as TransmitOfServer, ServerTimer as TimerOfServer, Reply, Fault}
use Rattle.history.specs.Steps.{is_done, client_turn, server_turn}
use Rattle.morphelai.specs.Result.{result_of}
use Rattle.morphelai.specs.Export.{Export, sized, refusing, kept_bytes}
use Rattle.morphelai.specs.ClientDoor.{client_result, client_kept, client_start, start_sized, call_of, client_transmit, client_arrive, client_timing, client_timer, client_cancel}
use Rattle.morphelai.specs.ServerDoor.{server_result, server_kept, server_arrive, server_transmit, server_timing, server_timer, server_reply, server_fault}
use Rattle.host_history.specs.Arguments.{ClientFits, ServerFits}
use Rattle.host_history.specs.Results.{answer_in}
use Rattle.host_history.specs.Hosts.{HostWorld, HostCall, exported, side_of, ClientCall, ServerCall, ClientStart, ClientTransmit, ClientArrive, ClientTimer, ClientCancel, ServerArrive, ServerTransmit, ServerTimer, ServerReply, ServerFault, client_export, server_export}
use Rattle.host_history.specs.Meaning.{ClientCallFits, ServerCallFits}
use Rattle.host_history.specs.Refusal.{readable_at}
use Rattle.host_history.proofs.ClientKeeps.{client_turn_fits}
use Rattle.host_history.proofs.ServerKeeps.{server_turn_fits}
use Rattle.host_history.proofs.Unpacking.{result_answer}
use Rattle.host_history.proofs.Leaving.{refusing_undone, kind_undone}
use Rattle.host_history.proofs.ClientCalls.{uuid-given, client-placed}
use Rattle.host_history.proofs.ServerCalls.{server-placed}
use Rattle.host_history.proofs.Unreadable.{OneOrTwo, unreadable_refused}

-- Where the answer read is 0, the bytes left are such.
abbrev Leaves : (List ℕ → Type 0) → Export → Type 0
Leaves Canonical x = answer_in x.result ≡ Done → Canonical x.bytes

-- What an event gives that leaves the bytes of the next record.
given_leaves : (Canonical : List ℕ → Type 0) (a : Answer) (n : Notice) (s : Sent) (next bytes : List ℕ)
    → Canonical (placed 0 next bytes) → answer_in (result_of a n s) ≡ Done → Canonical (kept_bytes a next bytes)
unfolding kept_bytes
given_leaves Canonical a n s next bytes good done =
    let zero : number_of a ≡ 0 = ap number_of (sym (result_answer a n s) ∙ done) in
    subst Canonical (sym (choose_true (is_done a) (placed 0 next bytes) bytes (eq-eqb (number_of a) 0 zero))) good

or_refuses : (Canonical : List ℕ → Type 0) (bytes slots out : List ℕ) (test : Bool) (x : Export)
    → (test ≡ true → Leaves Canonical x) → Leaves Canonical (choose test x (refusing bytes slots out))
or_refuses Canonical bytes slots out test x leaves =
    choice_by (Leaves Canonical) test x (refusing bytes slots out) leaves
    (λ (e : test ≡ false) (done : answer_in (refusing bytes slots out).result ≡ Done).
    absurd (refusing_undone bytes slots out done))

module _ (side : Side (List ℕ)) (size : length side.machine ≡ 272) (octets : Octets side.machine)
    (allowed : client_readable side.machine ≡ true) where
  client_next : (e : ClientEvent) → ClientFits e
      → ClientCanonical (placed 0 (bytes_of_client (client_turn (side_of client_in side) e).machine) side.machine)
  client_next e small =
      (client-placed side.machine (client_turn (side_of client_in side) e).machine size
      (client_turn_fits (side_of client_in side) e (client_fits side.machine size octets allowed) small)).canonical

  -- The call of a start whose arguments passed fits.
  call_fits : (idempotent : ℕ) (object interface : List ℕ) (version operation n : ℕ) (message : List ℕ)
      → ClientCallFits (ClientStart idempotent object interface version operation n message)
      → start_sized side.machine idempotent object interface ≡ true
      → FitsCall (call_of (eqb idempotent 1) object interface version operation)
  unfolding start_sized call_of
  call_fits idempotent object interface version operation n message small e =
      let sizes = both_true _ _ (both_true _ _ (both_true _ _ e).1).1 in
      record {
        object =
            subst Uuid (sym (uuid-given object sizes.0))
            (record { size = eqb-true (length object) 16 sizes.0; octets = small.1 });
        interface =
            subst Uuid (sym (uuid-given interface sizes.1))
            (record { size = eqb-true (length interface) 16 sizes.1; octets = small.2 });
        version = small.3;
        operation = small.4;
      }

  pub client-answered : (call : ClientCall) → ClientCallFits call
      → answer_in (client_export side call).result ≡ Done → ClientCanonical (client_export side call).bytes
  unfolding client_start client_transmit client_arrive client_timer client_timing client_cancel client_result client_kept
  client-answered (ClientStart idempotent object interface version operation n message) small =
      or_refuses ClientCanonical side.machine [] [] (start_sized side.machine idempotent object interface) _
      (λ (e : start_sized side.machine idempotent object interface ≡ true).
      given_leaves ClientCanonical _ _ _ _ side.machine
      (client_next (Start (call_of (eqb idempotent 1) object interface version operation) n message)
      (call_fits idempotent object interface version operation n message small e, small.5)))
  client-answered (ClientTransmit message out) small =
      or_refuses ClientCanonical side.machine [] out (sized side.machine) _
      (λ (e : sized side.machine ≡ true).
      given_leaves ClientCanonical _ _ _ _ side.machine (client_next (TransmitOfClient message out) small))
  client-answered (ClientArrive p lent out) small =
      or_refuses ClientCanonical side.machine _ out (sized side.machine) _
      (λ (e : sized side.machine ≡ true).
      given_leaves ClientCanonical _ _ _ _ side.machine (client_next (ArriveOfClient p lent out) small))
  client-answered (ClientTimer kind ticket out) small =
      or_refuses ClientCanonical side.machine [] out (sized side.machine) _
      (λ (e : sized side.machine ≡ true).
      choice_by (Leaves ClientCanonical) (eqb kind 1) _ _
      (λ (wait : eqb kind 1 ≡ true).
      given_leaves ClientCanonical _ _ _ _ side.machine
      (client_next (TimerOfClient Wait ticket out) (small.1, small.2)))
      (λ (other : eqb kind 1 ≡ false).
      choice_by (Leaves ClientCanonical) (eqb kind 2) _ _
      (λ (ack : eqb kind 2 ≡ true).
      given_leaves ClientCanonical _ _ _ _ side.machine
      (client_next (TimerOfClient Ack ticket out) (small.1, small.2)))
      (λ (another : eqb kind 2 ≡ false).
      choice_by (Leaves ClientCanonical) (eqb kind 4) _ _
      (λ (cancel : eqb kind 4 ≡ true).
      given_leaves ClientCanonical _ _ _ _ side.machine
      (client_next (TimerOfClient Cancel ticket out) (small.1, small.2)))
      (λ (none : eqb kind 4 ≡ false) (done : _).
      absurd (kind_undone side.machine [] out (client_sound (client_in side.machine)) done)))))
  client-answered (ClientCancel out) small =
      or_refuses ClientCanonical side.machine [] out (sized side.machine) _
      (λ (e : sized side.machine ≡ true).
      given_leaves ClientCanonical _ _ _ _ side.machine (client_next (CancelOfClient out) small))

module _ (side : Side (List ℕ)) (size : length side.machine ≡ 272) (octets : Octets side.machine)
    (allowed : server_readable side.machine ≡ true) where
  server_next : (e : ServerEvent) → ServerFits e
      → ServerCanonical (placed 0 (bytes_of_server (server_turn (side_of server_in side) e).machine) side.machine)
  server_next e small =
      (server-placed side.machine (server_turn (side_of server_in side) e).machine size
      (server_turn_fits (side_of server_in side) e (server_fits side.machine size octets allowed) small)).canonical

  pub server-answered : (call : ServerCall) → ServerCallFits call
      → answer_in (server_export side call).result ≡ Done → ServerCanonical (server_export side call).bytes
  unfolding server_arrive server_transmit server_timer server_timing server_reply server_fault server_result server_kept
  server-answered (ServerArrive p lent out) small =
      or_refuses ServerCanonical side.machine _ out (sized side.machine) _
      (λ (e : sized side.machine ≡ true).
      given_leaves ServerCanonical _ _ _ _ side.machine (server_next (ArriveOfServer p lent out) small))
  server-answered (ServerTransmit message out) small =
      or_refuses ServerCanonical side.machine [] out (sized side.machine) _
      (λ (e : sized side.machine ≡ true).
      given_leaves ServerCanonical _ _ _ _ side.machine (server_next (TransmitOfServer message out) small))
  server-answered (ServerTimer kind ticket out) small =
      or_refuses ServerCanonical side.machine [] out (sized side.machine) _
      (λ (e : sized side.machine ≡ true).
      choice_by (Leaves ServerCanonical) (eqb kind 3) _ _
      (λ (resend : eqb kind 3 ≡ true).
      given_leaves ServerCanonical _ _ _ _ side.machine
      (server_next (TimerOfServer ticket out) (small.1, small.2)))
      (λ (none : eqb kind 3 ≡ false) (done : _).
      absurd (kind_undone side.machine [] out (server_sound (server_in side.machine)) done)))
  server-answered (ServerReply n message) small =
      or_refuses ServerCanonical side.machine [] [] (sized side.machine) _
      (λ (e : sized side.machine ≡ true).
      given_leaves ServerCanonical _ _ _ _ side.machine (server_next (Reply n message) small))
  server-answered (ServerFault status out) small =
      or_refuses ServerCanonical side.machine [] out (sized side.machine) _
      (λ (e : sized side.machine ≡ true).
      given_leaves ServerCanonical _ _ _ _ side.machine (server_next (Fault status out) small))

-- Neither 1 nor 2 is 0, so what is answered 0 was readable.
not_both : (a : Answer) → a ≡ Done → OneOrTwo a → ⊥
not_both a done (inl one) = refused_not_done WrongLength (sym one ∙ done)
not_both a done (inr two) = refused_not_done BrokenRecord (sym two ∙ done)

pub answered-readable : (h : HostWorld) (call : HostCall) → answer_in (exported h call).result ≡ Done
    → readable_at h call ≡ true
answered-readable h call done = by_test (readable_at h call) refl
  where
    by_test : (test : Bool) → readable_at h call ≡ test → readable_at h call ≡ true
    by_test true e = e
    by_test false e = absurd (not_both (answer_in (exported h call).result) done (unreadable_refused h call e))
