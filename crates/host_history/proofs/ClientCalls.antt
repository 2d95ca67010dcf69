-- A call of the client shows a host the turn of the event that it is; one that is no event's is refused.
use Prim.Native.Nat.{ℕ, ◌<◌}
use mathlib.Core.Bool.{Bool, true, false}
use mathlib.Core.List.{List, [], ◌∷◌}
use mathlib.Core.Path.{◌≡◌, refl, sym, ap, subst, ◌∙◌}
use native.Mathlib.Omega.{arith}
use lib.Dec.{eqb}
use lib.ListN.{length}
use borrow.Author.Tests.{eq-eqb, eqb-true}
use Rattle.words.specs.Choice.{choose, both}
use Rattle.words.specs.Place.{placed}
use Rattle.answers.specs.Answer.{Done}
use Rattle.words.proofs.Tests.{choose_true, both_true}
use Rattle.words.proofs.Number.{part_all}
use Rattle.calls.specs.declared.Call.{Call}
use Rattle.record_bytes.specs.Fits.{Octets, FitsCall}
use Rattle.record_bytes.specs.Parts.{uuid_in}
use Rattle.record_bytes.proofs.PartLaws.{uuid-part}
use Rattle.client.specs.declared.records.Client.{Client}
use Rattle.client.specs.declared.records.TimerKind.{TimerKind}
use Rattle.client.specs.declared.records.TimerKind.TheVariants.{Wait, Ack, Cancel}
use Rattle.client.specs.records.Rules.{sound}
use Rattle.client.specs.Machine.{starting, timing}
use Rattle.client_bytes.specs.Layout.{client_in, bytes_of_client}
use Rattle.client_bytes.specs.Fits.{FitsClient}
use Rattle.client_bytes.specs.Canonical.{Canonical}
use Rattle.client_bytes.proofs.RoundTrip.{client-back, client_canonical, client_fits}
use Rattle.history.specs.World.{Started, Cancelled, Side}
use Rattle.history.specs.Events.{ClientEvent, Event, Start, ClientTransmit as TransmitOf, ClientArrive as ArriveOf, ClientTimer as TimerOf, ClientCancel as CancelOf, OfClient, OfServer}
use Rattle.history.specs.Steps.{Turn, client_turn, starts_after, cancels_after}
use Rattle.history.proofs.Refused.{client-refused}
use Rattle.morphelai.specs.Result.{result_of}
use Rattle.morphelai.specs.Export.{Export, sized, refusing, kept_bytes}
use Rattle.morphelai.specs.ClientDoor.{client_result, client_kept, client_given, client_stepped, client_start, start_sized, call_of, client_transmit, client_arrive, client_timing, client_timer, client_cancel}
use Rattle.host_history.specs.Arguments.{ClientFits}
use Rattle.host_history.specs.Hosts.{side_of, ClientCall, ClientStart, ClientTransmit, ClientArrive, ClientTimer, ClientCancel, call_given, client_export, slots_of_client, starts_seen, cancels_seen}
use Rattle.host_history.specs.Meaning.{startable, meant_to_client, ClientCallFits}
use Rattle.host_history.specs.Refusal.{Undone}
use Rattle.host_history.proofs.ClientKeeps.{client_turn_fits}
use Rattle.host_history.proofs.Sizes.{client-turn-sent}
use Rattle.host_history.proofs.Shown.{Lies, Shows, placed_lies, shown, choice_pair}
use Rattle.host_history.proofs.Leaving.{refusing_undone, kind_undone}

-- The bytes of a record that fits, put in place of any 272 others, stand for it.
pub client-placed : (bytes : List ℕ) (c : Client) → length bytes ≡ 272 → FitsClient c
    → Lies client_in Canonical (placed 0 (bytes_of_client c) bytes) c
client-placed =
    placed_lies client_in bytes_of_client FitsClient Canonical (λ bytes canonical. canonical.size) client_canonical
    client-back

module _ (side : Side (List ℕ)) (canonical : Canonical side.machine) where
  -- The side as the theorem's world has it, and what its record fits.
  abbrev known : Side Client
  known = side_of client_in side

  fits : FitsClient (client_in side.machine)
  fits = client_fits side.machine canonical.size canonical.octets canonical.readable

  -- What an event of the client gives through the door shows its turn.
  given_shown : (e : ClientEvent) (slots : List ℕ) → ClientFits e
      → Shows client_in Canonical (record {
        result = result_of (client_turn known e).answer (client_turn known e).notice (client_turn known e).sent;
        bytes = kept_bytes (client_turn known e).answer (bytes_of_client (client_turn known e).machine) side.machine;
        slots = slots;
        out = (client_turn known e).out;
      }) (client_turn known e).slots (client_turn known e)
  given_shown e slots small =
      shown client_in bytes_of_client FitsClient Canonical (λ bytes good. good.size) client_canonical client-back
      side.machine (client_turn known e) slots canonical (client_turn_fits known e fits small)
      (client-turn-sent known e)
      (λ (other : (client_turn known e).answer ≡ Done → ⊥). (client-refused known e other).machine)

-- The call is that event: it shows its turn, and goes on the books as it does.
pub record ClientFollows (side : Side (List ℕ)) (call : ClientCall) (x : Export) (e : ClientEvent) : Type 0 where
  pub shows : Shows client_in Canonical x (slots_of_client side call x) (client_turn (side_of client_in side) e)
  pub starts : (before : List Started) (t : Turn Client) → starts_seen before call t ≡ starts_after before e t
  pub cancels :
      (before : List Cancelled) (t : Turn Client) (ordinal : ℕ)
      → cancels_seen before call t ordinal ≡ cancels_after before e t ordinal

-- The export of a call is that of the events that it is: refused where it is none, else the event's own.
abbrev pub ClientMeets : Side (List ℕ) → ClientCall → Export → List Event → Type 0
ClientMeets side call x [] = Undone x
ClientMeets side call x (OfClient e ∷ []) = ClientFollows side call x e
ClientMeets side call x (OfClient e ∷ (f ∷ es)) = ⊥
ClientMeets side call x (OfServer e ∷ es) = ⊥

-- A UUID of 16 bytes is read as it was handed in, and so is the call.
pub uuid-given : (u : List ℕ) → eqb (length u) 16 ≡ true → uuid_in u 0 ≡ u
uuid-given u e = uuid-part u 0 (omega (arith, eqb-true (length u) 16 e)) ∙ part_all 16 u (eqb-true (length u) 16 e)

-- What is known of a start's arguments where they are an event's.
record Startable (object interface : List ℕ) : Type 0 where
  first : eqb (length object) 16 ≡ true
  second : eqb (length interface) 16 ≡ true

startable_told : (idempotent : ℕ) (object interface : List ℕ) → startable idempotent object interface ≡ true
    → Startable object interface
unfolding startable
startable_told idempotent object interface e =
    let sizes = both_true _ _ (both_true _ _ e).1 in
    record { first = sizes.0; second = sizes.1 }

module _ (side : Side (List ℕ)) (canonical : Canonical side.machine) where
  size_here : sized side.machine ≡ true
  unfolding sized
  size_here = eq-eqb _ _ canonical.size

  -- What a record of 272 bytes is judged by.
  judged : (call : ClientCall) (x y : Export) (es : List Event) → ClientMeets side call x es
      → ClientMeets side call (choose (sized side.machine) x y) es
  judged call x y es meets =
      subst (λ (z : Export). ClientMeets side call z es) (sym (choose_true (sized side.machine) x y size_here))
      meets

  module _ (idempotent : ℕ) (object interface : List ℕ) (version operation n : ℕ) (message : List ℕ)
      (small : ClientCallFits (ClientStart idempotent object interface version operation n message)) where
    call_fits : Startable object interface → FitsCall (call_given idempotent object interface version operation)
    call_fits s = record {
      object = record { size = eqb-true (length object) 16 s.first; octets = small.1 };
      interface = record { size = eqb-true (length interface) 16 s.second; octets = small.2 };
      version = small.3;
      operation = small.4;
    }

    same-call : Startable object interface
        → call_of (eqb idempotent 1) object interface version operation
        ≡ call_given idempotent object interface version operation
    unfolding call_of
    same-call s = λ i. record {
      idempotent = eqb idempotent 1;
      object = uuid-given object s.first i;
      interface = uuid-given interface s.second i;
      version = version;
      operation = operation;
    }

    abbrev start_call : ClientCall
    start_call = ClientStart idempotent object interface version operation n message

    abbrev start_event : ClientEvent
    start_event = Start (call_given idempotent object interface version operation) n message

    abbrev start_export : Call → Export
    start_export call = client_given (starting (client_in side.machine) call n) side.machine [] []

    start_follows : Startable object interface
        → ClientFollows side start_call (start_export (call_of (eqb idempotent 1) object interface version operation))
        start_event
    unfolding client_result client_kept
    start_follows s =
        subst (λ (call : Call). ClientFollows side start_call (start_export call) start_event) (sym (same-call s))
        (record {
          shows = given_shown side canonical start_event [] (call_fits s, small.5);
          starts = λ before t. refl;
          cancels = λ before t ordinal. refl;
        })

    same_test : start_sized side.machine idempotent object interface ≡ startable idempotent object interface
    unfolding start_sized startable both choose
    same_test = ap (λ (test : Bool). both test (startable idempotent object interface)) size_here

    start_meets : ClientMeets side start_call (client_export side start_call) (meant_to_client start_call)
    unfolding client_start
    start_meets =
        let x = start_export (call_of (eqb idempotent 1) object interface version operation) in
        let y = refusing side.machine [] [] in
        let test = startable idempotent object interface in
        subst (λ (t : Bool). ClientMeets side start_call (choose t x y) (meant_to_client start_call)) (sym same_test)
        (choice_pair (ClientMeets side start_call) test x y (OfClient start_event ∷ []) []
        (λ (e : test ≡ true). start_follows (startable_told idempotent object interface e))
        (λ (e : test ≡ false). refusing_undone side.machine [] []))

  timer_follows : (kind : ℕ) (named : TimerKind) (ticket : ℕ) (out : List ℕ)
      → ticket < 18446744073709551616 → Octets out
      → ClientFollows side (ClientTimer kind ticket out)
      (client_stepped (timing (client_in side.machine) named ticket out) side.machine) (TimerOf named ticket out)
  unfolding client_result client_kept
  timer_follows kind named ticket out small octets =
      record {
        shows = given_shown side canonical (TimerOf named ticket out) [] (small, octets);
        starts = λ before t. refl;
        cancels = λ before t ordinal. refl;
      }

  -- Every call of the client meets what it is meant for.
  pub client_meets : (call : ClientCall) → ClientCallFits call
      → ClientMeets side call (client_export side call) (meant_to_client call)
  unfolding client_transmit client_arrive client_timer client_timing client_cancel client_result client_kept
  client_meets (ClientStart idempotent object interface version operation n message) small =
      start_meets idempotent object interface version operation n message small
  client_meets (ClientTransmit message out) small =
      judged (ClientTransmit message out) _ _ (OfClient (TransmitOf message out) ∷ [])
      (record {
        shows = given_shown side canonical (TransmitOf message out) [] small;
        starts = λ before t. refl;
        cancels = λ before t ordinal. refl;
      })
  client_meets (ClientArrive p lent out) small =
      judged (ClientArrive p lent out) _ _ (OfClient (ArriveOf p lent out) ∷ [])
      (record {
        shows = given_shown side canonical (ArriveOf p lent out) _ small;
        starts = λ before t. refl;
        cancels = λ before t ordinal. refl;
      })
  client_meets (ClientTimer kind ticket out) small =
      judged (ClientTimer kind ticket out) _ _ (meant_to_client (ClientTimer kind ticket out))
      (choice_pair (ClientMeets side (ClientTimer kind ticket out)) (eqb kind 1) _ _ _ _
      (λ (e : eqb kind 1 ≡ true). timer_follows kind Wait ticket out small.1 small.2)
      (λ (e : eqb kind 1 ≡ false).
      choice_pair (ClientMeets side (ClientTimer kind ticket out)) (eqb kind 2) _ _ _ _
      (λ (e : eqb kind 2 ≡ true). timer_follows kind Ack ticket out small.1 small.2)
      (λ (e : eqb kind 2 ≡ false).
      choice_pair (ClientMeets side (ClientTimer kind ticket out)) (eqb kind 4) _ _ _ _
      (λ (e : eqb kind 4 ≡ true). timer_follows kind Cancel ticket out small.1 small.2)
      (λ (e : eqb kind 4 ≡ false). kind_undone side.machine [] out (sound (client_in side.machine))))))
  client_meets (ClientCancel out) small =
      judged (ClientCancel out) _ _ (OfClient (CancelOf out) ∷ [])
      (record {
        shows = given_shown side canonical (CancelOf out) [] small;
        starts = λ before t. refl;
        cancels = λ before t ordinal. refl;
      })
