-- The first run, event by event.
use Prim.Native.Nat.{ℕ, ◌<◌, ◌≤◌}
use mathlib.Core.List.{List, [], ◌∷◌, ◌++◌}
use mathlib.Core.Path.{◌≡◌, refl, ◌∙◌}
use native.Mathlib.Omega.{arith}
use lib.ListN.{length, take}
use Rattle.words.specs.Number.{number}
use Rattle.words.specs.Sizes.{body_size, pdu_size, slots_size}
use Rattle.bodies.specs.Fack.{fack_bytes, fack_fields}
use Rattle.calls.specs.declared.Notice.TheVariants.{Count, Last, Dispatch as DispatchTold}
use Rattle.calls.specs.Sent.{sent_header}
use Rattle.incoming.specs.Last.{Unknown, At}
use Rattle.incoming.specs.declared.Incoming.{Incoming}
use Rattle.incoming.specs.Slots.{missing, cleared}
use Rattle.fragments.specs.Slots.{filled}
use Rattle.fragments.proofs.PartLaws.{parts_joined}
use Rattle.fragments.proofs.BufferLaws.{joined as joined_parts}
use Rattle.fragments.proofs.PutLaws.{filled-length}
use Rattle.outgoing.specs.declared.Outgoing.{Outgoing}
use Rattle.outgoing.specs.Message.{fragment_of, flags_of}
use Rattle.outgoing.proofs.OutgoingLaws.{fragment_most}
use Rattle.timers.specs.Timer.{Timer, Off, Armed}
use Rattle.client.specs.declared.records.State.{State as ClientState}
use Rattle.client.specs.declared.records.State.TheVariants.{SendFrags, Dispatched, ReceiveFrags, AckPending, Complete}
use Rattle.client.specs.declared.records.TimerKind.TheVariants.{Wait, Ack}
use Rattle.client.specs.HandUp.{hands_up as client_hands_up}
use Rattle.client.proofs.Growing.{hands_joined}
use Rattle.server.specs.declared.records.Idle.TheVariants.{Spent}
use Rattle.server.specs.declared.records.Reply.TheVariants.{Data}
use Rattle.server.specs.declared.records.State.{State as ServerState}
use Rattle.server.specs.declared.records.State.TheVariants.{Idle, Collect, Running, Replying, Held}
use Rattle.server.specs.records.Rules.{sound as server_sound}
use Rattle.server.specs.HandUp.{hands_up as server_hands_up}
use Rattle.history.specs.Fairness.{Typed}
use Rattle.runs.specs.Runs.{before, activity, called, asked, asked_again, answered, answered_again, closed, lossy, lossy_notices, lossy_client_pdus, lossy_server_pdus, untold}
use Rattle.history.proofs.Holding.{cleared-empty, empty-holding, holding_whole}
use Rattle.history.proofs.Network.{Uuids}
use Rattle.runs.proofs.Opened.{opened}
use Rattle.runs.proofs.Stories.{Plays, told, came, over, then, refused, joined, Carried, carried}
use Rattle.runs.proofs.Fragments.{kept, put}
use Rattle.runs.proofs.ClientTurns.{client_transmits, client-times, client_arrives}
use Rattle.runs.proofs.ServerTurns.{server_transmits, server-times, server_arrives}
use Rattle.client.specs.declared.records.Client.{Client}
use Rattle.server.specs.declared.records.Server.{Server}
use Rattle.history.specs.World.{SentPdu, Side, Books}
use Rattle.runs.proofs.Sides.{on_books, world, held, holds, nothing, sends, client_in, server_in}

uuids : Uuids activity called
uuids = record { activity_16 = refl; object_16 = refl; interface_16 = refl }

typed : Typed called
typed = record { object = refl; interface = refl; version = omega arith; operation = omega arith }

-- The run's PDUs arrive as they were written: a fragment of the request or of the reply,
fragment_came : (boot kind : ℕ) (message : List ℕ) (f serial : ℕ) → (boot < 65536) × (kind ≤ 10) × (f < 65536) × (serial < 65536)
    → Carried (sent_header kind (flags_of 3 f) serial activity boot 0 called f) (fragment_of message f)
fragment_came boot kind message f serial small =
    carried kind (flags_of 3 f) serial activity boot 0 called f (fragment_of message f) typed refl (omega arith) (fragment_most message f)

-- a fack,
fack_came : (boot serial g mask answered : ℕ) → (boot < 65536) × (g < 65536) × (serial < 65536)
    → Carried (sent_header 9 0 serial activity boot 0 called g) (fack_bytes (fack_fields answered mask))
unfolding fack_bytes
fack_came boot serial g mask answered small =
    carried 9 0 serial activity boot 0 called g (fack_bytes (fack_fields answered mask)) typed refl (omega arith) (omega arith)

-- and one without a body.
empty_came : (boot kind serial : ℕ) → (boot < 65536) × (kind ≤ 10) × (serial < 65536) → Carried (sent_header kind 0 serial activity boot 0 called 0) []
empty_came boot kind serial small = carried kind 0 serial activity boot 0 called 0 [] typed refl (omega arith) (omega arith)

module _ (message reply slots_of_client slots_of_server out : List ℕ) (asks : length message ≡ 2785) (replies : length reply ≡ 2786)
    (client_room : length slots_of_client ≡ slots_size) (server_room : length slots_of_server ≡ slots_size) (room : length out ≡ pdu_size) where
  -- The server's slot buffer after each put,
  abbrev v1 : List ℕ
  v1 = filled 2 (fragment_of message 2) slots_of_server

  v1_long : length v1 ≡ slots_size
  v1_long = filled-length 2 (fragment_of message 2) slots_of_server ∙ server_room

  abbrev v2 : List ℕ
  v2 = filled 0 (fragment_of message 0) v1

  v2_long : length v2 ≡ slots_size
  v2_long = filled-length 0 (fragment_of message 0) v1 ∙ v1_long

  abbrev v3 : List ℕ
  v3 = filled 1 (fragment_of message 1) v2

  v3_long : length v3 ≡ slots_size
  v3_long = filled-length 1 (fragment_of message 1) v2 ∙ v2_long

  -- and the client's.
  abbrev u1 : List ℕ
  u1 = filled 1 (fragment_of reply 1) slots_of_client

  u1_long : length u1 ≡ slots_size
  u1_long = filled-length 1 (fragment_of reply 1) slots_of_client ∙ client_room

  abbrev u2 : List ℕ
  u2 = filled 0 (fragment_of reply 0) u1

  u2_long : length u2 ≡ slots_size
  u2_long = filled-length 0 (fragment_of reply 0) u1 ∙ u1_long

  abbrev u3 : List ℕ
  u3 = filled 2 (fragment_of reply 2) u2

  u3_long : length u3 ≡ slots_size
  u3_long = filled-length 2 (fragment_of reply 2) u2 ∙ u2_long

  -- The first n PDUs of all that the client has sent, and the server.
  abbrev client_sent : ℕ → List SentPdu
  client_sent n = take n (lossy_client_pdus message reply out)

  abbrev server_sent : ℕ → List SentPdu
  server_sent n = take n (lossy_server_pdus message reply out)

  -- The client's side: state, fragments sent and acknowledged, serial, what is held, the counts of WAIT and of resends,
  -- tickets, WAIT, ACK; its slot buffer and how many PDUs it has sent.
  abbrev client_at : ClientState → ℕ → ℕ → ℕ → Incoming → ℕ → ℕ → ℕ → Timer → Timer → List ℕ → ℕ → Side Client
  client_at state sent acknowledged serial incoming waits resends tickets wait ack slots pdus = record {
    machine = client_in called state (sends 2785 3 sent acknowledged serial) incoming waits resends tickets wait ack;
    slots = slots;
    sent = client_sent pdus;
  }

  -- The server's side: state, message sent, what is held, tickets, RESEND; its slot buffer and how many PDUs it has
  -- sent.
  abbrev server_at : ServerState → Outgoing → Incoming → ℕ → Timer → List ℕ → ℕ → Side Server
  server_at state outgoing incoming tickets resend slots pdus = record {
    machine = server_in called state outgoing incoming tickets resend;
    slots = slots;
    sent = server_sent pdus;
  }

  -- The client before its first event and after each that changes it; n is the length of the fragment that is put.
  abbrev k0 : Side Client
  k0 = record { machine = (before slots_of_client slots_of_server).client.machine; slots = slots_of_client; sent = [] }

  abbrev k1 : Side Client
  k1 = client_at SendFrags 0 0 0 nothing 0 0 5 Off Off slots_of_client 0

  abbrev k2 : Side Client
  k2 = client_at SendFrags 1 0 1 nothing 0 0 5 Off Off slots_of_client 1

  abbrev k3 : Side Client
  k3 = client_at SendFrags 2 0 2 nothing 0 0 5 Off Off slots_of_client 2

  abbrev k4 : Side Client
  k4 = client_at Dispatched 3 0 3 nothing 0 0 6 (Armed 6) Off slots_of_client 3

  -- One fragment is acknowledged.
  abbrev k5 : Side Client
  k5 = client_at Dispatched 3 1 3 nothing 0 0 6 (Armed 6) Off slots_of_client 3

  abbrev k6 : Side Client
  k6 = client_at Dispatched 3 1 4 nothing 1 0 7 (Armed 7) Off slots_of_client 4

  -- Fragment 1 is the next to go out again.
  abbrev k7 : Side Client
  k7 = client_at SendFrags 1 1 4 nothing 1 1 7 Off Off slots_of_client 4

  abbrev k8 : Side Client
  k8 = client_at SendFrags 2 1 5 nothing 1 1 7 Off Off slots_of_client 5

  abbrev k9 : Side Client
  k9 = client_at Dispatched 3 1 6 nothing 1 1 8 (Armed 8) Off slots_of_client 6

  abbrev k10 : Side Client
  k10 = client_at Dispatched 3 1 6 nothing 0 1 9 (Armed 9) Off slots_of_client 6

  abbrev k11 : ℕ → Side Client
  k11 n = client_at ReceiveFrags 3 1 6 (holds missing (held n) missing Unknown) 0 1 10 (Armed 10) Off u1 7

  abbrev k12 : ℕ → Side Client
  k12 n = client_at ReceiveFrags 3 1 6 (holds (held n) (held body_size) missing Unknown) 0 1 11 (Armed 11) Off u2 8

  abbrev k13 : Side Client
  k13 = client_at ReceiveFrags 3 1 7 (holds (held body_size) (held body_size) missing Unknown) 1 1 12 (Armed 12) Off u2 9

  abbrev k14 : ℕ → Side Client
  k14 n = client_at AckPending 3 1 7 (holds (held body_size) (held body_size) (held n) (At 2)) 0 1 13 Off (Armed 13) u3 10

  abbrev k15 : Side Client
  k15 = client_at Complete 3 1 7 (holds (held body_size) (held body_size) (held 2) (At 2)) 0 1 13 Off Off u3 11

  -- The server, likewise.
  abbrev s0 : Side Server
  s0 = record { machine = (before slots_of_client slots_of_server).server.machine; slots = slots_of_server; sent = [] }

  abbrev s1 : ℕ → Side Server
  s1 n = server_at Collect (sends 0 0 0 0 0) (holds missing missing (held n) (At 2)) 100 Off v1 1

  abbrev s2 : ℕ → Side Server
  s2 n = server_at Collect (sends 0 0 0 0 0) (holds (held n) missing (held 1) (At 2)) 100 Off v2 2

  abbrev s3 : Side Server
  s3 = server_at Collect (sends 0 0 0 0 0) (holds (held body_size) missing (held 1) (At 2)) 100 Off v2 3

  abbrev s4 : ℕ → Side Server
  s4 n = server_at Running (sends 0 0 0 0 0) (holds (held body_size) (held n) (held 1) (At 2)) 100 Off v3 4

  abbrev all : Incoming
  all = holds (held body_size) (held body_size) (held 1) (At 2)

  abbrev s5 : Side Server
  s5 = server_at Running (sends 0 0 0 0 0) all 100 Off v3 5

  abbrev s6 : Side Server
  s6 = server_at Replying (sends 2786 3 0 0 0) all 100 Off v3 5

  abbrev s7 : Side Server
  s7 = server_at Replying (sends 2786 3 1 0 1) all 100 Off v3 6

  abbrev s8 : Side Server
  s8 = server_at Replying (sends 2786 3 2 0 2) all 100 Off v3 7

  abbrev s9 : Side Server
  s9 = server_at (Held Data) (sends 2786 3 3 0 3) all 101 (Armed 101) v3 8

  -- Two fragments are acknowledged.
  abbrev s10 : Side Server
  s10 = server_at (Held Data) (sends 2786 3 3 2 3) all 101 (Armed 101) v3 8

  -- Fragment 2 is the next to go out again.
  abbrev s11 : Side Server
  s11 = server_at Replying (sends 2786 3 2 2 3) all 101 Off v3 8

  abbrev s12 : Side Server
  s12 = server_at (Held Data) (sends 2786 3 3 2 4) all 102 (Armed 102) v3 9

  abbrev s13 : Side Server
  s13 = server_at (Idle Spent) (sends 2786 3 3 2 4) all 102 Off v3 9

  -- What is on the books: nothing, the start, the dispatch of these bytes, the reply, the completion with these bytes.
  abbrev b0 : Books
  b0 = on_books [] [] [] []

  abbrev b1 : Books
  b1 = on_books (record { ordinal = 0; number = 0; call = called; message = message } ∷ []) [] [] []

  abbrev b2 : List ℕ → Books
  b2 bytes = on_books b1.starts (record { ordinal = 0; number = 0; call = called; bytes = bytes } ∷ []) [] []

  abbrev b3 : Books
  b3 = on_books b1.starts (b2 message).dispatches (record { ordinal = 0; message = reply } ∷ []) []

  abbrev b4 : List ℕ → Books
  b4 bytes = on_books b1.starts (b2 message).dispatches b3.replies (record { ordinal = 0; bytes = bytes } ∷ [])

  -- What the server hands up when all is held is the request,
  request_whole : server_hands_up s5.machine v3 ≡ message
  unfolding opened server_hands_up
  request_whole =
      parts_joined (server_sound s5.machine) all v3 refl
      ∙ holding_whole all v3 message
      (put message 2785 1 asks (s2 body_size).machine.incoming v2 4
      (put message 2785 0 asks (s1 1).machine.incoming v1 4
      (put message 2785 2 asks cleared slots_of_server 6 (empty-holding cleared slots_of_server message server_room cleared-empty)
      refl (record { number = omega arith; new = refl; fits = refl }) (omega arith) refl)
      refl (record { number = omega arith; new = refl; fits = refl }) (omega arith) refl)
      refl (record { number = omega arith; new = refl; fits = refl }) (omega arith) refl)
      refl refl

  -- and what the client does, the reply: where "last" is told,
  reply_joined : joined_parts k15.machine.incoming u3 ≡ reply
  unfolding opened
  reply_joined =
      holding_whole k15.machine.incoming u3 reply
      (put reply 2786 2 replies (k12 body_size).machine.incoming u2 6
      (put reply 2786 0 replies (k11 body_size).machine.incoming u1 4
      (put reply 2786 1 replies cleared slots_of_client 4 (empty-holding cleared slots_of_client reply client_room cleared-empty)
      refl (record { number = omega arith; new = refl; fits = refl }) (omega arith) refl)
      refl (record { number = omega arith; new = refl; fits = refl }) (omega arith) refl)
      refl (record { number = omega arith; new = refl; fits = refl }) (omega arith) refl)
      refl refl

  reply_told : client_hands_up (k14 2).machine u3 ≡ reply
  unfolding opened
  reply_told = hands_joined (k14 2).machine u3 refl ∙ reply_joined

  -- and at the end.
  pub reply_whole : client_hands_up k15.machine u3 ≡ reply
  unfolding opened
  reply_whole = hands_joined k15.machine u3 refl ∙ reply_joined

  -- The story, stage by stage.
  plays_asked : Plays (world k0 s0 b0) (asked message reply out) (untold 9) (world k5 (s2 body_size) b1)
  unfolding opened fack_bytes number
  plays_asked =
      then {next = world k1 s0 b1} (record { answered = refl; tells = refl; leaves = refl }) (record { typed = typed; whole = asks })
      (then {next = world k2 s0 b1} (client_transmits _ out room message 2785 asks uuids) refl
      (then {next = world k3 s0 b1} (client_transmits _ out room message 2785 asks uuids) refl
      (then {next = world k4 s0 b1} (client_transmits _ out room message 2785 asks uuids) refl
      (then {next = world k4 (s1 1) b1}
      (told (λ (n : ℕ). world k4 (s1 n) b1) (kept message 2785 2 asks)
      (server_arrives _ out room (fragment_came 0 0 message 2 3 (omega arith)) server_room uuids)) (came 2 refl)
      (then {next = world k4 (s2 body_size) b1}
      (told (λ (n : ℕ). world k4 (s2 n) b1) (kept message 2785 0 asks)
      (server_arrives _ out room (fragment_came 0 0 message 0 1 (omega arith)) v1_long uuids)) (came 0 refl)
      (refused {next = world k4 (s2 body_size) b1} (server_arrives _ out room (fragment_came 0 0 message 0 1 (omega arith)) v2_long uuids) refl
      (then {next = world k5 (s2 body_size) b1} (client_arrives _ out room (fack_came 7 0 0 2 1 (omega arith)) client_room uuids) (came 1 refl)
      (then {next = world k5 (s2 body_size) b1} (client_arrives _ out room (fack_came 7 0 65535 4 3 (omega arith)) client_room uuids) (came 0 refl)
      over))))))))

  plays_asked_again : Plays (world k5 (s2 body_size) b1) (asked_again message reply out) (untold 6 ++ (DispatchTold ∷ untold 2))
      (world k10 s5 (b2 message))
  unfolding opened
  plays_asked_again =
      then {next = world k6 (s2 body_size) b1} (client-times _ out room Wait 6 uuids) tt
      (refused {next = world k6 (s2 body_size) b1} (client-times _ out room Wait 6 uuids) refl
      (then {next = world k6 s3 b1} (server_arrives _ out room (empty_came 0 1 4 (omega arith)) v2_long uuids) (came 3 refl)
      (then {next = world k7 s3 b1} (client_arrives _ out room (empty_came 7 5 0 (omega arith)) client_room uuids) (came 2 refl)
      (then {next = world k8 s3 b1} (client_transmits _ out room message 2785 asks uuids) refl
      (then {next = world k9 s3 b1} (client_transmits _ out room message 2785 asks uuids) refl
      (then {next = world k9 (s4 body_size) (b2 message)}
      (told (λ (bytes : List ℕ). world k9 (s4 body_size) (b2 bytes)) request_whole
      (told (λ (n : ℕ). world k9 (s4 n) (b2 (server_hands_up (s4 n).machine v3))) (kept message 2785 1 asks)
      (server_arrives _ out room (fragment_came 0 0 message 1 5 (omega arith)) v2_long uuids))) (came 4 refl)
      (then {next = world k9 s5 (b2 message)} (server_arrives _ out room (fragment_came 0 0 message 2 6 (omega arith)) v3_long uuids) (came 5 refl)
      (then {next = world k10 s5 (b2 message)} (client_arrives _ out room (empty_came 7 4 0 (omega arith)) client_room uuids) (came 4 refl)
      over))))))))

  plays_answered : Plays (world k10 s5 (b2 message)) (answered message reply out) (untold 4 ++ (Count 0 ∷ Count 2 ∷ untold 2))
      (world k13 s10 b3)
  unfolding opened fack_bytes number
  plays_answered =
      then {next = world k10 s6 b3} (record { answered = refl; tells = refl; leaves = refl }) replies
      (then {next = world k10 s7 b3} (server_transmits _ out room reply 2786 replies uuids) refl
      (then {next = world k10 s8 b3} (server_transmits _ out room reply 2786 replies uuids) refl
      (then {next = world k10 s9 b3} (server_transmits _ out room reply 2786 replies uuids) refl
      (then {next = world (k11 body_size) s9 b3}
      (told (λ (n : ℕ). world (k11 n) s9 b3) (kept reply 2786 1 replies)
      (client_arrives _ out room (fragment_came 7 2 reply 1 2 (omega arith)) client_room uuids)) (came 6 refl)
      (then {next = world (k12 body_size) s9 b3}
      (told (λ (n : ℕ). world (k12 n) s9 b3) (kept reply 2786 0 replies)
      (client_arrives _ out room (fragment_came 7 2 reply 0 1 (omega arith)) u1_long uuids)) (came 5 refl)
      (then {next = world (k12 body_size) s10 b3} (server_arrives _ out room (fack_came 0 6 1 0 1 (omega arith)) v3_long uuids) (came 7 refl)
      (then {next = world k13 s10 b3} (client-times _ out room Wait 11 uuids) tt
      over)))))))

  plays_answered_again : Plays (world k13 s10 b3) (answered_again message reply out) (untold 6 ++ (Last ∷ []))
      (world (k14 2) s12 (b4 reply))
  unfolding opened fack_bytes number
  plays_answered_again =
      then {next = world k13 s11 b3} (server_arrives _ out room (empty_came 0 1 7 (omega arith)) v3_long uuids) (came 8 refl)
      (then {next = world k13 s12 b3} (server_transmits _ out room reply 2786 replies uuids) refl
      (refused {next = world k13 s12 b3} (server-times _ out room 101 uuids) refl
      (then {next = world k13 s12 b3} (server_arrives _ out room (fack_came 0 6 65535 2 2 (omega arith)) v3_long uuids) (came 6 refl)
      (refused {next = world k13 s12 b3} (client_arrives _ out room (fragment_came 7 2 reply 0 1 (omega arith)) u2_long uuids) refl
      (refused {next = world k13 s12 b3} (record { answered = refl; tells = refl; leaves = refl }) refl
      (then {next = world (k14 2) s12 (b4 reply)}
      (told (λ (bytes : List ℕ). world (k14 2) s12 (b4 bytes)) reply_told
      (told (λ (n : ℕ). world (k14 n) s12 (b4 (client_hands_up (k14 n).machine u3))) (kept reply 2786 2 replies)
      (client_arrives _ out room (fragment_came 7 2 reply 2 4 (omega arith)) u2_long uuids))) (came 8 refl)
      over))))))

  plays_closed : Plays (world (k14 2) s12 (b4 reply)) (closed message reply out) (untold 5) (world k15 s13 (b4 reply))
  unfolding opened fack_bytes number
  plays_closed =
      then {next = world k15 s12 (b4 reply)} (client-times _ out room Ack 13 uuids) tt
      (then {next = world k15 s13 (b4 reply)} (server_arrives _ out room (empty_came 0 7 7 (omega arith)) v3_long uuids) (came 10 refl)
      (refused {next = world k15 s13 (b4 reply)} (server_arrives _ out room (fack_came 0 7 2 0 4 (omega arith)) v3_long uuids) refl
      (refused {next = world k15 s13 (b4 reply)} (server_arrives _ out room (fragment_came 0 0 message 0 1 (omega arith)) v3_long uuids) refl
      (refused {next = world k15 s13 (b4 reply)} (client_arrives _ out room (fragment_came 7 2 reply 1 2 (omega arith)) u3_long uuids) refl
      over))))

  pub plays_lossy : Plays (before slots_of_client slots_of_server) (lossy message reply out) lossy_notices (world k15 s13 (b4 reply))
  plays_lossy =
      joined (asked message reply out) _ plays_asked
      (joined (asked_again message reply out) _ plays_asked_again
      (joined (answered message reply out) _ plays_answered
      (joined (answered_again message reply out) (closed message reply out) plays_answered_again plays_closed)))
