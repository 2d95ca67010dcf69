-- What a host's calls are in the theorem's world, what their types say of them, and what a host begins with.
use Rattle.std.specs.Prelude.{ℕ, ◌<◌, Bool, List, [], ◌∷◌, ◌++◌, ◌≡◌, eqb, leb, length}
use Rattle.words.specs.Choice.{choose, both}
use Rattle.answers.specs.Answer.{Done}
use Rattle.client.specs.declared.records.TimerKind.TheVariants.{Wait, Ack, Cancel}
use Rattle.record_bytes.specs.Fits.{Octets}
use Rattle.client_bytes.specs.Canonical.{Canonical as ClientCanonical}
use Rattle.server_bytes.specs.Canonical.{Canonical as ServerCanonical}
use Rattle.history.specs.World.{World}
use Rattle.history.specs.Events.{Event, Start, ClientTransmit as TransmitOfClient, ClientArrive as ArriveOfClient, ClientTimer as TimerOfClient, ClientCancel as CancelOfClient, ServerArrive as ArriveOfServer, ServerTransmit as TransmitOfServer, ServerTimer as TimerOfServer, Reply, Fault, OfClient, OfServer}
use Rattle.history.specs.Steps.{answer_to, notice_of, left_in}
use Rattle.history.specs.Fairness.{Premise}
use Rattle.history.specs.Freshness.{Unwritten}
use Rattle.morphelai.specs.Export.{Export}
use Rattle.morphelai.specs.ClientDoor.{client_fresh}
use Rattle.morphelai.specs.ServerDoor.{server_fresh}
use Rattle.host_history.specs.Arguments.{LentFits}
use Rattle.host_history.specs.Results.{answer_in, notice_in}
use Rattle.host_history.specs.Hosts.{HostWorld, world_of, ClientCall, ServerCall, HostCall, ClientStart, ClientTransmit, ClientArrive, ClientTimer, ClientCancel, ServerArrive, ServerTransmit, ServerTimer, ServerReply, ServerFault, ToClient, ToServer, call_given, exported, host_step}

-- A start's arguments are those of an event where idempotent is 0 or 1 and its UUIDs have 16 bytes each.
unfoldable pub startable : ℕ → List ℕ → List ℕ → Bool
startable idempotent object interface =
    both (leb idempotent 1) (both (eqb (length object) 16) (eqb (length interface) 16))

-- The event that a call is; none where its arguments are no event's, as a timer's of a kind that the side does not
-- have. Such a call is refused and changes nothing.
abbrev pub meant_to_client : ClientCall → List Event
meant_to_client (ClientStart idempotent object interface version operation n message) =
    choose (startable idempotent object interface)
    (OfClient (Start (call_given idempotent object interface version operation) n message) ∷ []) []
meant_to_client (ClientTransmit message out) = OfClient (TransmitOfClient message out) ∷ []
meant_to_client (ClientArrive p lent out) = OfClient (ArriveOfClient p lent out) ∷ []
meant_to_client (ClientTimer kind ticket out) =
    choose (eqb kind 1) (OfClient (TimerOfClient Wait ticket out) ∷ [])
    (choose (eqb kind 2) (OfClient (TimerOfClient Ack ticket out) ∷ [])
    (choose (eqb kind 4) (OfClient (TimerOfClient Cancel ticket out) ∷ [])
    []))
meant_to_client (ClientCancel out) = OfClient (CancelOfClient out) ∷ []

abbrev pub meant_to_server : ServerCall → List Event
meant_to_server (ServerArrive p lent out) = OfServer (ArriveOfServer p lent out) ∷ []
meant_to_server (ServerTransmit message out) = OfServer (TransmitOfServer message out) ∷ []
meant_to_server (ServerTimer kind ticket out) = choose (eqb kind 3) (OfServer (TimerOfServer ticket out) ∷ []) []
meant_to_server (ServerReply n message) = OfServer (Reply n message) ∷ []
meant_to_server (ServerFault status out) = OfServer (Fault status out) ∷ []

unfoldable pub meant : HostCall → List Event
meant (ToClient call) = meant_to_client call
meant (ToServer call) = meant_to_server call

-- The events that a list of calls is.
unfoldable pub events_of : List HostCall → List Event
events_of [] = []
events_of (call ∷ calls) = meant call ++ events_of calls

-- What C's types say of the arguments: bytes, and numbers of so many bits. The message that a start or a reply is for
-- is no argument.
abbrev pub ClientCallFits : ClientCall → Type 0
ClientCallFits (ClientStart idempotent object interface version operation n message) =
    (idempotent < 256) × Octets object × Octets interface × (version < 4294967296) × (operation < 65536)
    × (n < 4294967296)
ClientCallFits (ClientTransmit message out) = Octets message × Octets out
ClientCallFits (ClientArrive p lent out) = Octets p.bytes × LentFits lent × Octets out
ClientCallFits (ClientTimer kind ticket out) = (kind < 256) × (ticket < 18446744073709551616) × Octets out
ClientCallFits (ClientCancel out) = Octets out

abbrev pub ServerCallFits : ServerCall → Type 0
ServerCallFits (ServerArrive p lent out) = Octets p.bytes × LentFits lent × Octets out
ServerCallFits (ServerTransmit message out) = Octets message × Octets out
ServerCallFits (ServerTimer kind ticket out) = (kind < 256) × (ticket < 18446744073709551616) × Octets out
ServerCallFits (ServerReply n message) = n < 4294967296
ServerCallFits (ServerFault status out) = (status < 4294967296) × Octets out

abbrev pub HostFits : HostCall → Type 0
HostFits (ToClient call) = ClientCallFits call
HostFits (ToServer call) = ServerCallFits call

abbrev pub AllFit : List HostCall → Type 0
AllFit [] = Unit {0}
AllFit (call ∷ calls) = HostFits call × AllFit calls

-- The premises of document 01, of the calls that a host is answered 0 for. They look at the arguments, the books and
-- what was sent, and at no record.
abbrev pub PremiseOf : World → List Event → Type 0
PremiseOf w [] = Unit {0}
PremiseOf w (e ∷ es) = Premise w e

abbrev pub FairHost : HostWorld → List HostCall → Type 0
FairHost h [] = Unit {0}
FairHost h (call ∷ calls) =
    (answer_in (exported h call).result ≡ Done → PremiseOf (world_of h) (meant call)) × FairHost (host_step h call) calls

-- Both records are the canonical bytes of a record, which its encoding gives.
pub record Keeps (h : HostWorld) : Type 0 where
  pub client : ClientCanonical h.client.machine
  pub server : ServerCanonical h.server.machine

-- What a host is told of a call is what the theorem's world tells of the event that it is: the answer, the notice and
-- what is left in the PDU buffer. A call that is no event is refused, and none is more than one.
pub record TellsOf (w : World) (x : Export) (e : Event) : Type 0 where
  pub answer : answer_in x.result ≡ answer_to w e
  pub notice : notice_in x.result ≡ notice_of w e
  pub buffer : x.out ≡ left_in w e

abbrev pub Tells : World → Export → List Event → Type 0
Tells w x [] = answer_in x.result ≡ Done → ⊥
Tells w x (e ∷ []) = TellsOf w x e
Tells w x (e ∷ (f ∷ es)) = ⊥

-- A record that morphelai_client_fresh left and answered 0 for, of any memory.
pub record FreshClientBytes (bytes : List ℕ) : Type 0 where
  pub lent : List ℕ
  pub activity : List ℕ
  pub tickets : ℕ
  pub octets : Octets activity
  pub small : tickets < 18446744073709551616
  pub answered : (client_fresh lent activity tickets).result ≡ 0
  pub left : bytes ≡ (client_fresh lent activity tickets).bytes

-- A record that morphelai_server_fresh left and answered 0 for.
pub record FreshServerBytes (bytes : List ℕ) : Type 0 where
  pub lent : List ℕ
  pub activity : List ℕ
  pub boot : ℕ
  pub tickets : ℕ
  pub octets : Octets activity
  pub booted : boot < 4294967296
  pub small : tickets < 18446744073709551616
  pub answered : (server_fresh lent activity boot tickets).result ≡ 0
  pub left : bytes ≡ (server_fresh lent activity boot tickets).bytes

-- A host that begins: both records are fresh, and nothing has happened yet. The slot buffers may be any bytes.
pub record FreshHost (h : HostWorld) : Type 0 where
  pub client : FreshClientBytes h.client.machine
  pub server : FreshServerBytes h.server.machine
  pub client_unsent : h.client.sent ≡ []
  pub server_unsent : h.server.sent ≡ []
  pub books : Unwritten h.books
