-- A call of the server shows a host the turn of the event that it is; one that is no event's is refused.
use Prim.Native.Nat.{ℕ, ◌<◌}
use mathlib.Core.Bool.{true, false}
use mathlib.Core.List.{List, [], ◌∷◌}
use mathlib.Core.Path.{◌≡◌, refl, sym, subst}
use lib.Dec.{eqb}
use lib.ListN.{length}
use borrow.Author.Tests.{eq-eqb}
use Rattle.words.specs.Choice.{choose}
use Rattle.words.specs.Place.{placed}
use Rattle.words.proofs.Tests.{choose_true}
use Rattle.answers.specs.Answer.{Answer, Done}
use Rattle.record_bytes.specs.Fits.{Octets}
use Rattle.server.specs.declared.records.Server.{Server}
use Rattle.server.specs.records.Rules.{sound}
use Rattle.server.specs.Machine.{timing}
use Rattle.server_bytes.specs.Layout.{server_in, bytes_of_server}
use Rattle.server_bytes.specs.Fits.{FitsServer}
use Rattle.server_bytes.specs.Canonical.{Canonical}
use Rattle.server_bytes.proofs.RoundTrip.{server-back, server_canonical, server_fits}
use Rattle.history.specs.World.{Side, Books, World}
use Rattle.history.specs.Events.{ServerEvent, Event, ServerArrive as ArriveOf, ServerTransmit as TransmitOf, ServerTimer as TimerOf, Reply, Fault, OfClient, OfServer}
use Rattle.history.specs.Steps.{Turn, server_turn, replies_after, subject_of}
use Rattle.history.proofs.Refused.{server-refused}
use Rattle.morphelai.specs.Result.{result_of}
use Rattle.morphelai.specs.Export.{Export, sized, kept_bytes}
use Rattle.morphelai.specs.ServerDoor.{server_result, server_kept, server_stepped, server_arrive, server_transmit, server_timing, server_timer, server_reply, server_fault}
use Rattle.host_history.specs.Arguments.{ServerFits}
use Rattle.host_history.specs.Hosts.{side_of, ServerCall, ServerArrive, ServerTransmit, ServerTimer, ServerReply, ServerFault, server_export, slots_of_server, replies_seen, subject_seen}
use Rattle.host_history.specs.Meaning.{meant_to_server, ServerCallFits}
use Rattle.host_history.specs.Refusal.{Undone}
use Rattle.host_history.proofs.ServerKeeps.{server_turn_fits}
use Rattle.host_history.proofs.Sizes.{server-turn-sent}
use Rattle.host_history.proofs.Shown.{Lies, Shows, placed_lies, shown, choice_pair}
use Rattle.host_history.proofs.Leaving.{kind_undone}

-- The bytes of a record that fits, put in place of any 272 others, stand for it.
pub server-placed : (bytes : List ℕ) (s : Server) → length bytes ≡ 272 → FitsServer s
    → Lies server_in Canonical (placed 0 (bytes_of_server s) bytes) s
server-placed =
    placed_lies server_in bytes_of_server FitsServer Canonical (λ bytes canonical. canonical.size) server_canonical
    server-back

-- The call is that event: it shows its turn, is of the same start, and goes on the books as it does.
pub record ServerFollows (side : Side (List ℕ)) (call : ServerCall) (x : Export) (e : ServerEvent) : Type 0 where
  pub shows : Shows server_in Canonical x (slots_of_server side call x) (server_turn (side_of server_in side) e)
  pub subject : (w : World) (answer : Answer) → subject_seen w call answer ≡ subject_of w e answer
  pub replies : (b : Books) (t : Turn Server) → replies_seen b call t ≡ replies_after b e t

-- The export of a call is that of the events that it is: refused where it is none, else the event's own.
abbrev pub ServerMeets : Side (List ℕ) → ServerCall → Export → List Event → Type 0
ServerMeets side call x [] = Undone x
ServerMeets side call x (OfServer e ∷ []) = ServerFollows side call x e
ServerMeets side call x (OfServer e ∷ (f ∷ es)) = ⊥
ServerMeets side call x (OfClient e ∷ es) = ⊥

module _ (side : Side (List ℕ)) (canonical : Canonical side.machine) where
  -- The side as the theorem's world has it, and what its record fits.
  abbrev known : Side Server
  known = side_of server_in side

  fits : FitsServer (server_in side.machine)
  fits = server_fits side.machine canonical.size canonical.octets canonical.readable

  -- What an event of the server gives through the door shows its turn.
  given_shown : (e : ServerEvent) (slots : List ℕ) → ServerFits e
      → Shows server_in Canonical (record {
        result = result_of (server_turn known e).answer (server_turn known e).notice (server_turn known e).sent;
        bytes = kept_bytes (server_turn known e).answer (bytes_of_server (server_turn known e).machine) side.machine;
        slots = slots;
        out = (server_turn known e).out;
      }) (server_turn known e).slots (server_turn known e)
  given_shown e slots small =
      shown server_in bytes_of_server FitsServer Canonical (λ bytes good. good.size) server_canonical server-back
      side.machine (server_turn known e) slots canonical (server_turn_fits known e fits small)
      (server-turn-sent known e)
      (λ (other : (server_turn known e).answer ≡ Done → ⊥). (server-refused known e other).machine)

  size_here : sized side.machine ≡ true
  unfolding sized
  size_here = eq-eqb _ _ canonical.size

  -- What a record of 272 bytes is judged by.
  judged : (call : ServerCall) (x y : Export) (es : List Event) → ServerMeets side call x es
      → ServerMeets side call (choose (sized side.machine) x y) es
  judged call x y es meets =
      subst (λ (z : Export). ServerMeets side call z es) (sym (choose_true (sized side.machine) x y size_here))
      meets

  timer_follows : (kind ticket : ℕ) (out : List ℕ) → ticket < 18446744073709551616 → Octets out
      → ServerFollows side (ServerTimer kind ticket out)
      (server_stepped (timing (server_in side.machine) ticket out) side.machine) (TimerOf ticket out)
  unfolding server_result server_kept
  timer_follows kind ticket out small octets = record {
    shows = given_shown (TimerOf ticket out) [] (small, octets);
    subject = λ w answer. refl;
    replies = λ b t. refl;
  }

  -- Every call of the server meets what it is meant for.
  pub server_meets : (call : ServerCall) → ServerCallFits call
      → ServerMeets side call (server_export side call) (meant_to_server call)
  unfolding server_arrive server_transmit server_timer server_timing server_reply server_fault server_result server_kept
  server_meets (ServerArrive p lent out) small =
      judged (ServerArrive p lent out) _ _ (OfServer (ArriveOf p lent out) ∷ [])
      (record { shows = given_shown (ArriveOf p lent out) _ small; subject = λ w answer. refl; replies = λ b t. refl })
  server_meets (ServerTransmit message out) small =
      judged (ServerTransmit message out) _ _ (OfServer (TransmitOf message out) ∷ [])
      (record {
        shows = given_shown (TransmitOf message out) [] small;
        subject = λ w answer. refl;
        replies = λ b t. refl;
      })
  server_meets (ServerTimer kind ticket out) small =
      judged (ServerTimer kind ticket out) _ _ (meant_to_server (ServerTimer kind ticket out))
      (choice_pair (ServerMeets side (ServerTimer kind ticket out)) (eqb kind 3) _ _ _ _
      (λ (e : eqb kind 3 ≡ true). timer_follows kind ticket out small.1 small.2)
      (λ (e : eqb kind 3 ≡ false). kind_undone side.machine [] out (sound (server_in side.machine))))
  server_meets (ServerReply n message) small =
      judged (ServerReply n message) _ _ (OfServer (Reply n message) ∷ [])
      (record { shows = given_shown (Reply n message) [] small; subject = λ w answer. refl; replies = λ b t. refl })
  server_meets (ServerFault status out) small =
      judged (ServerFault status out) _ _ (OfServer (Fault status out) ∷ [])
      (record { shows = given_shown (Fault status out) [] small; subject = λ w answer. refl; replies = λ b t. refl })
