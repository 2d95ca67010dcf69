-- The second run, event by event.
use Prim.Native.Nat.{ℕ, ◌<◌, ◌≤◌}
use mathlib.Core.List.{List, [], ◌∷◌, ◌++◌}
use mathlib.Core.Path.{◌≡◌, refl, ◌∙◌}
use native.Mathlib.Omega.{arith}
use lib.ListN.{length, take}
use Rattle.words.specs.Sizes.{body_size, pdu_size, slots_size}
use Rattle.calls.specs.declared.Notice.TheVariants.{Last, Dispatch as DispatchTold}
use Rattle.calls.specs.Sent.{sent_header}
use Rattle.incoming.specs.declared.Incoming.{Incoming}
use Rattle.incoming.specs.Last.{At}
use Rattle.incoming.specs.Slots.{missing, cleared}
use Rattle.fragments.specs.Slots.{filled}
use Rattle.fragments.proofs.PartLaws.{parts_joined}
use Rattle.fragments.proofs.PutLaws.{filled-length}
use Rattle.outgoing.specs.Message.{fragment_of}
use Rattle.timers.specs.Timer.{Off, Armed}
use Rattle.client.specs.declared.records.State.TheVariants.{SendFrags, Dispatched, AckPending, Complete}
use Rattle.client.specs.declared.records.TimerKind.TheVariants.{Wait}
use Rattle.client.specs.HandUp.{hands_up as client_hands_up}
use Rattle.client.proofs.Growing.{hands_joined}
use Rattle.server.specs.declared.records.Idle.TheVariants.{Repeatable}
use Rattle.server.specs.declared.records.Reply.TheVariants.{Data}
use Rattle.server.specs.declared.records.State.TheVariants.{Idle, Running, Replying, Held}
use Rattle.server.specs.records.Rules.{sound as server_sound}
use Rattle.server.specs.HandUp.{hands_up as server_hands_up}
use Rattle.history.specs.Fairness.{Typed}
use Rattle.runs.specs.Runs.{before, activity, called, asking, question, first_reply, second_reply, run_once, run_again, twice, twice_notices, next_reply, next, twice_and_next, twice_and_next_notices, twice_and_next_client_pdus, twice_and_next_server_pdus, untold}
use Rattle.history.proofs.Holding.{cleared-empty, empty-holding, holding_whole}
use Rattle.history.specs.Lists.{and_then}
use Rattle.history.proofs.Network.{Uuids}
use Rattle.runs.proofs.Opened.{opened}
use Rattle.runs.proofs.Stories.{Plays, told, came, over, then, refused, joined, Carried, carried}
use Rattle.runs.proofs.Fragments.{put}
use Rattle.runs.proofs.ClientTurns.{client_transmits, client-times, client_arrives}
use Rattle.runs.proofs.ServerTurns.{server_transmits, server_arrives}
use Rattle.client.specs.declared.records.Client.{Client}
use Rattle.server.specs.declared.records.Server.{Server}
use Rattle.history.specs.World.{SentPdu, Side, Books}
use Rattle.runs.proofs.Sides.{on_books, on_books_at, world, held, holds, nothing, sends, client_in, client_of, server_in, server_of}

uuids : Uuids activity asking
uuids = record { activity_16 = refl; object_16 = refl; interface_16 = refl }

typed : Typed asking
typed = record { object = refl; interface = refl; version = omega arith; operation = omega arith }

-- The run's PDUs arrive as they were written.
came_with : (boot kind flags1 serial : ℕ) (body : List ℕ) → (boot < 65536) × (kind ≤ 10) × (serial < 65536) → length body ≤ body_size
    → Carried (sent_header kind flags1 serial activity boot 0 asking 0) body
came_with boot kind flags1 serial body small short = carried kind flags1 serial activity boot 0 asking 0 body typed refl (omega arith) short

-- The same of the next call.
called_uuids : Uuids activity called
called_uuids = record { activity_16 = refl; object_16 = refl; interface_16 = refl }

called_typed : Typed called
called_typed = record { object = refl; interface = refl; version = omega arith; operation = omega arith }

next_came : (boot kind flags1 serial : ℕ) (body : List ℕ) → (boot < 65536) × (kind ≤ 10) × (serial < 65536) → length body ≤ body_size
    → Carried (sent_header kind flags1 serial activity boot 1 called 0) body
next_came boot kind flags1 serial body small short = carried kind flags1 serial activity boot 1 called 0 body called_typed refl (omega arith) short

module _ (slots_of_client slots_of_server out : List ℕ) (client_room : length slots_of_client ≡ slots_size) (server_room : length slots_of_server ≡ slots_size)
    (room : length out ≡ pdu_size) where
  -- The server's slot buffer after each put, and the client's.
  abbrev v1 : List ℕ
  v1 = filled 0 question slots_of_server

  v1_long : length v1 ≡ slots_size
  v1_long = filled-length 0 question slots_of_server ∙ server_room

  abbrev v2 : List ℕ
  v2 = filled 0 question v1

  v2_long : length v2 ≡ slots_size
  v2_long = filled-length 0 question v1 ∙ v1_long

  abbrev u1 : List ℕ
  u1 = filled 0 second_reply slots_of_client

  u1_long : length u1 ≡ slots_size
  u1_long = filled-length 0 second_reply slots_of_client ∙ client_room

  -- The first n PDUs of all that the client has sent, and the server.
  abbrev client_sent : ℕ → List SentPdu
  client_sent n = take n twice_and_next_client_pdus

  abbrev server_sent : ℕ → List SentPdu
  server_sent n = take n twice_and_next_server_pdus

  -- The client after each of its events.
  abbrev k0 : Side Client
  k0 = record { machine = (before slots_of_client slots_of_server).client.machine; slots = slots_of_client; sent = client_sent 0 }

  abbrev k1 : Side Client
  k1 = record { machine = client_in asking SendFrags (sends 3 1 0 0 0) nothing 0 0 5 Off Off; slots = slots_of_client; sent = client_sent 0 }

  abbrev k2 : Side Client
  k2 = record { machine = client_in asking Dispatched (sends 3 1 1 0 1) nothing 0 0 6 (Armed 6) Off; slots = slots_of_client; sent = client_sent 1 }

  abbrev k3 : Side Client
  k3 = record { machine = client_in asking Dispatched (sends 3 1 1 0 2) nothing 1 0 7 (Armed 7) Off; slots = slots_of_client; sent = client_sent 2 }

  abbrev k4 : Side Client
  k4 = record { machine = client_in asking SendFrags (sends 3 1 0 0 2) nothing 1 1 7 Off Off; slots = slots_of_client; sent = client_sent 2 }

  abbrev k5 : Side Client
  k5 = record { machine = client_in asking Dispatched (sends 3 1 1 0 3) nothing 1 1 8 (Armed 8) Off; slots = slots_of_client; sent = client_sent 3 }

  abbrev k6 : Side Client
  k6 = record { machine = client_in asking Complete (sends 3 1 1 0 3) (holds (held 2) missing missing (At 0)) 0 1 8 Off Off; slots = u1; sent = client_sent 3 }

  -- The server after each of its events.
  abbrev s0 : Side Server
  s0 = record { machine = (before slots_of_client slots_of_server).server.machine; slots = slots_of_server; sent = server_sent 0 }

  abbrev s1 : Side Server
  s1 = record { machine = server_in asking Running (sends 0 0 0 0 0) (holds (held 3) missing missing (At 0)) 100 Off; slots = v1; sent = server_sent 0 }

  abbrev s2 : Side Server
  s2 = record { machine = server_in asking Replying (sends 1 1 0 0 0) (holds (held 3) missing missing (At 0)) 100 Off; slots = v1; sent = server_sent 0 }

  abbrev s3 : Side Server
  s3 = record { machine = server_in asking (Idle Repeatable) (sends 1 1 1 0 1) (holds (held 3) missing missing (At 0)) 100 Off; slots = v1; sent = server_sent 1 }

  abbrev s4 : Side Server
  s4 = record { machine = server_in asking (Idle Repeatable) (sends 1 1 1 0 1) (holds (held 3) missing missing (At 0)) 100 Off; slots = v1; sent = server_sent 2 }

  abbrev s5 : Side Server
  s5 = record { machine = server_in asking Running (sends 0 0 0 0 0) (holds (held 3) missing missing (At 0)) 100 Off; slots = v2; sent = server_sent 2 }

  abbrev s6 : Side Server
  s6 = record { machine = server_in asking Replying (sends 2 1 0 0 0) (holds (held 3) missing missing (At 0)) 100 Off; slots = v2; sent = server_sent 2 }

  abbrev s7 : Side Server
  s7 = record { machine = server_in asking (Idle Repeatable) (sends 2 1 1 0 1) (holds (held 3) missing missing (At 0)) 100 Off; slots = v2; sent = server_sent 3 }

  -- What is on the books: nothing, the start, the first dispatch of these bytes, its reply, the second dispatch, its
  -- reply, the completion with these bytes.
  abbrev b0 : Books
  b0 = on_books [] [] [] []

  abbrev b1 : Books
  b1 = on_books (record { ordinal = 0; number = 0; call = asking; message = question } ∷ []) [] [] []

  abbrev b2 : List ℕ → Books
  b2 bytes = on_books b1.starts (record { ordinal = 0; number = 0; call = asking; bytes = bytes } ∷ []) [] []

  abbrev b3 : Books
  b3 = on_books b1.starts (b2 question).dispatches (record { ordinal = 0; message = first_reply } ∷ []) []

  abbrev b4 : List ℕ → Books
  b4 bytes = on_books b1.starts (record { ordinal = 0; number = 0; call = asking; bytes = question } ∷ record { ordinal = 0; number = 0; call = asking; bytes = bytes } ∷ []) b3.replies []

  abbrev b5 : Books
  b5 = on_books b1.starts (b4 question).dispatches (record { ordinal = 0; message = first_reply } ∷ record { ordinal = 0; message = second_reply } ∷ []) []

  abbrev b6 : List ℕ → Books
  b6 bytes = on_books b1.starts b5.dispatches b5.replies (record { ordinal = 0; bytes = bytes } ∷ [])

  -- What the server hands up at each dispatch is the request,
  question_whole : (slots : List ℕ) → length slots ≡ slots_size → server_hands_up s1.machine (filled 0 question slots) ≡ question
  unfolding opened server_hands_up fragment_of
  question_whole slots long =
      parts_joined (server_sound s1.machine) s1.machine.incoming (filled 0 question slots) refl
      ∙ holding_whole s1.machine.incoming (filled 0 question slots) question
      (put question 3 0 refl cleared slots 0 (empty-holding cleared slots question long cleared-empty) refl
      (record { number = omega arith; new = refl; fits = refl }) (omega arith) refl)
      refl refl

  -- and what the client does, the second reply.
  pub reply_whole : client_hands_up k6.machine u1 ≡ second_reply
  unfolding opened fragment_of
  reply_whole =
      hands_joined k6.machine u1 refl
      ∙ holding_whole k6.machine.incoming u1 second_reply
      (put second_reply 2 0 refl cleared slots_of_client 0
      (empty-holding cleared slots_of_client second_reply client_room cleared-empty)
      refl (record { number = omega arith; new = refl; fits = refl }) (omega arith) refl)
      refl refl

  -- The story, stage by stage.
  plays_once : Plays (world k0 s0 b0) (run_once out) (untold 2 ++ (DispatchTold ∷ untold 2)) (world k2 s3 b3)
  unfolding opened fragment_of
  plays_once =
      then {next = world k1 s0 b1} (record { answered = refl; tells = refl; leaves = refl }) (record { typed = typed; whole = refl })
      (then {next = world k2 s0 b1} (client_transmits _ out room question 3 refl uuids) refl
      (then {next = world k2 s1 (b2 question)}
      (told (λ (bytes : List ℕ). world k2 s1 (b2 bytes)) (question_whole slots_of_server server_room)
      (server_arrives _ out room (came_with 0 0 32 1 question (omega arith) (omega arith)) server_room uuids)) (came 0 refl)
      (then {next = world k2 s2 b3} (record { answered = refl; tells = refl; leaves = refl }) refl
      (then {next = world k2 s3 b3} (server_transmits _ out room first_reply 1 refl uuids) refl
      over))))

  plays_again : Plays (world k2 s3 b3) (run_again out) (untold 4 ++ (DispatchTold ∷ untold 2 ++ (Last ∷ untold 1)))
      (world k6 s7 (b6 second_reply))
  unfolding opened fragment_of
  plays_again =
      then {next = world k3 s3 b3} (client-times _ out room Wait 6 uuids) tt
      (then {next = world k3 s4 b3} (server_arrives _ out room (came_with 0 1 32 2 [] (omega arith) (omega arith)) v1_long uuids) (came 1 refl)
      (then {next = world k4 s4 b3} (client_arrives _ out room (came_with 7 5 0 1 [] (omega arith) (omega arith)) client_room uuids) (came 1 refl)
      (then {next = world k5 s4 b3} (client_transmits _ out room question 3 refl uuids) refl
      (then {next = world k5 s5 (b4 question)}
      (told (λ (bytes : List ℕ). world k5 s5 (b4 bytes)) (question_whole v1 v1_long)
      (server_arrives _ out room (came_with 0 0 32 3 question (omega arith) (omega arith)) v1_long uuids)) (came 2 refl)
      (then {next = world k5 s6 b5} (record { answered = refl; tells = refl; leaves = refl }) refl
      (then {next = world k5 s7 b5} (server_transmits _ out room second_reply 2 refl uuids) refl
      (then {next = world k6 s7 (b6 second_reply)}
      (told (λ (bytes : List ℕ). world k6 s7 (b6 bytes)) reply_whole
      (client_arrives _ out room (came_with 7 2 0 1 second_reply (omega arith) (omega arith)) client_room uuids)) (came 2 refl)
      (refused {next = world k6 s7 (b6 second_reply)} (client-times _ out room Wait 8 uuids) refl
      over))))))))

  pub plays_twice : Plays (before slots_of_client slots_of_server) (twice out) twice_notices (world k6 s7 (b6 second_reply))
  plays_twice = joined (run_once out) (run_again out) plays_once plays_again

  -- The next call. The slot buffers after its puts,
  abbrev v3 : List ℕ
  v3 = filled 0 question v2

  v3_long : length v3 ≡ slots_size
  v3_long = filled-length 0 question v2 ∙ v2_long

  abbrev u2 : List ℕ
  u2 = filled 0 next_reply u1

  -- the client after each of its events,
  abbrev k7 : Side Client
  k7 = record { machine = client_of 1 called SendFrags (sends 3 1 0 0 0) nothing 0 0 8 Off Off; slots = u1; sent = client_sent 3 }

  abbrev k8 : Side Client
  k8 = record { machine = client_of 1 called Dispatched (sends 3 1 1 0 1) nothing 0 0 9 (Armed 9) Off; slots = u1; sent = client_sent 4 }

  abbrev one : ℕ → Incoming
  one n = holds (held n) missing missing (At 0)

  abbrev k9 : Side Client
  k9 = record { machine = client_of 1 called AckPending (sends 3 1 1 0 1) (one 3) 0 0 10 Off (Armed 10); slots = u2; sent = client_sent 4 }

  -- the server,
  abbrev s8 : Side Server
  s8 = record { machine = server_of 1 called Running (sends 0 0 0 0 0) (one 3) 100 Off; slots = v3; sent = server_sent 3 }

  abbrev s9 : Side Server
  s9 = record { machine = server_of 1 called Replying (sends 3 1 0 0 0) (one 3) 100 Off; slots = v3; sent = server_sent 3 }

  abbrev s10 : Side Server
  s10 = record { machine = server_of 1 called (Held Data) (sends 3 1 1 0 1) (one 3) 101 (Armed 101); slots = v3; sent = server_sent 4 }

  -- and the books: the second start, the dispatch of these bytes, its reply, the completion with these bytes.
  abbrev b7 : Books
  b7 =
      on_books (and_then b1.starts (record { ordinal = 1; number = 1; call = called; message = question })) b5.dispatches b5.replies
      (b6 second_reply).completions

  abbrev b8 : List ℕ → Books
  b8 bytes =
      on_books_at 1 b7.starts (and_then b5.dispatches (record { ordinal = 1; number = 1; call = called; bytes = bytes })) b5.replies
      b7.completions

  abbrev b9 : Books
  b9 = on_books_at 1 b7.starts (b8 question).dispatches (and_then b5.replies (record { ordinal = 1; message = next_reply })) b7.completions

  abbrev b10 : List ℕ → Books
  b10 bytes = on_books_at 1 b9.starts b9.dispatches b9.replies (and_then b7.completions (record { ordinal = 1; bytes = bytes }))

  -- What the server hands up at its dispatch,
  next_whole : server_hands_up s8.machine v3 ≡ question
  unfolding opened server_hands_up fragment_of
  next_whole =
      parts_joined (server_sound s8.machine) (one 3) v3 refl
      ∙ holding_whole (one 3) v3 question
      (put question 3 0 refl cleared v2 0 (empty-holding cleared v2 question v2_long cleared-empty) refl
      (record { number = omega arith; new = refl; fits = refl }) (omega arith) refl)
      refl refl

  -- and the client at "last".
  pub next_reply_lem : client_hands_up k9.machine u2 ≡ next_reply
  unfolding opened fragment_of
  next_reply_lem =
      hands_joined k9.machine u2 refl
      ∙ holding_whole (one 3) u2 next_reply
      (put next_reply 3 0 refl cleared u1 0 (empty-holding cleared u1 next_reply u1_long cleared-empty) refl
      (record { number = omega arith; new = refl; fits = refl }) (omega arith) refl)
      refl refl

  plays_next : Plays (world k6 s7 (b6 second_reply)) (next out) (untold 2 ++ (DispatchTold ∷ untold 4 ++ (Last ∷ [])))
      (world k9 s10 (b10 next_reply))
  unfolding opened fragment_of
  plays_next =
      then {next = world k7 s7 b7} (record { answered = refl; tells = refl; leaves = refl }) (record { typed = called_typed; whole = refl })
      (then {next = world k8 s7 b7} (client_transmits _ out room question 3 refl called_uuids) refl
      (then {next = world k8 s8 (b8 question)}
      (told (λ (bytes : List ℕ). world k8 s8 (b8 bytes)) next_whole
      (server_arrives _ out room (next_came 0 0 0 1 question (omega arith) (omega arith)) v2_long called_uuids)) (came 3 refl)
      (refused {next = world k8 s8 (b8 question)}
      (server_arrives _ out room (came_with 0 0 32 3 question (omega arith) (omega arith)) v3_long called_uuids) refl
      (refused {next = world k8 s8 (b8 question)}
      (client_arrives _ out room (came_with 7 2 0 1 first_reply (omega arith) (omega arith)) u1_long called_uuids) refl
      (then {next = world k8 s9 b9} (record { answered = refl; tells = refl; leaves = refl }) refl
      (then {next = world k8 s10 b9} (server_transmits _ out room next_reply 3 refl called_uuids) refl
      (then {next = world k9 s10 (b10 next_reply)}
      (told (λ (bytes : List ℕ). world k9 s10 (b10 bytes)) next_reply_lem
      (client_arrives _ out room (next_came 7 2 0 1 next_reply (omega arith) (omega arith)) u1_long called_uuids)) (came 3 refl)
      over)))))))

  pub plays_twice_and_next : Plays (before slots_of_client slots_of_server) (twice_and_next out) twice_and_next_notices
      (world k9 s10 (b10 next_reply))
  plays_twice_and_next = joined (twice out) (next out) plays_twice plays_next
