-- The two runs with cancels, event by event.
use Prim.Native.Nat.{ℕ}
use mathlib.Core.Bool.{Bool, true}
use mathlib.Core.List.{List, [], ◌∷◌, ◌++◌}
use mathlib.Core.Path.{◌≡◌, refl, ◌∙◌}
use native.Mathlib.Omega.{arith}
use lib.ListN.{length, take}
use Rattle.words.specs.Number.{number}
use Rattle.words.specs.Sizes.{pdu_size, slots_size}
use Rattle.bodies.specs.Cancel.{cancel_bytes, cancel_ack_bytes}
use Rattle.bodies.specs.Status.{status_bytes}
use Rattle.calls.specs.declared.Notice.TheVariants.{Nothing as Untold, Dispatch as DispatchTold, Cancel as CancelTold, Fault as FaultTold, Cause}
use Rattle.calls.specs.Sent.{sent_header}
use Rattle.incoming.specs.Last.{At}
use Rattle.incoming.specs.declared.Incoming.{Incoming}
use Rattle.incoming.specs.Slots.{missing, cleared}
use Rattle.fragments.specs.Slots.{filled}
use Rattle.fragments.proofs.PartLaws.{parts_joined}
use Rattle.fragments.proofs.BufferLaws.{joined as joined_parts, handed_below}
use Rattle.fragments.proofs.PutLaws.{filled-length}
use Rattle.outgoing.specs.Message.{fragment_of}
use Rattle.timers.specs.Timer.{Timer, Off, Armed}
use Rattle.client.specs.declared.records.Client.{Client}
use Rattle.client.specs.declared.records.State.{State as ClientState}
use Rattle.client.specs.declared.records.State.TheVariants.{SendFrags, Dispatched, Fault as FaultState}
use Rattle.client.specs.declared.records.TimerKind.TheVariants.{Wait, Cancel}
use Rattle.client.specs.HandUp.{hands_up as client_hands_up}
use Rattle.client.proofs.Growing.{hands_joined}
use Rattle.server.specs.declared.records.Reply.TheVariants.{Fault as FaultReply}
use Rattle.server.specs.declared.records.Server.{Server}
use Rattle.server.specs.declared.records.State.{State as ServerState}
use Rattle.server.specs.declared.records.State.TheVariants.{Running, Held}
use Rattle.server.specs.records.Rules.{sound as server_sound}
use Rattle.server.specs.HandUp.{hands_up as server_hands_up}
use Rattle.history.specs.World.{Heard, SentPdu, Side, Books}
use Rattle.history.specs.Fairness.{Typed}
use Rattle.history.proofs.Holding.{cleared-empty, empty-holding, holding_whole}
use Rattle.history.proofs.Network.{Uuids}
use Rattle.runs.specs.Runs.{untold, before, activity, called, question}
use Rattle.runs.specs.Stops.{cancel_ticket, pressed, heard as heard_of, faulted, stopped, unheard, unanswered, stopped_notices, unanswered_notices, stop_client_pdus, stopped_server_pdus, unanswered_server_pdus, stop_cancels, told_of}
use Rattle.runs.proofs.Opened.{opened}
use Rattle.runs.proofs.Stories.{Plays, told, came, over, then, refused, joined, Carried, carried}
use Rattle.runs.proofs.Fragments.{put}
use Rattle.runs.proofs.ClientTurns.{client_transmits, client-times, client_cancels, client_arrives}
use Rattle.runs.proofs.ServerTurns.{server_faults, server_arrives}
use Rattle.runs.proofs.Sides.{on_books, on_books_with, world, held, holds, nothing, sends, client_with, server_with}

uuids : Uuids activity called
uuids = record { activity_16 = refl; object_16 = refl; interface_16 = refl }

typed : Typed called
typed = record { object = refl; interface = refl; version = omega arith; operation = omega arith }

-- The runs' PDUs arrive as they were written: the request,
request_came : Carried (sent_header 0 0 1 activity 0 0 called 0) question
request_came = carried 0 0 1 activity 0 0 called 0 question typed refl (omega arith) (omega arith)

-- a cancel,
cancel_came : (n : ℕ) → Carried (sent_header 8 0 1 activity 0 0 called 0) (cancel_bytes n)
unfolding cancel_bytes
cancel_came n = carried 8 0 1 activity 0 0 called 0 (cancel_bytes n) typed refl (omega arith) (omega arith)

-- a cancel_ack,
ack_came : (n : ℕ) (accepts : Bool) → Carried (sent_header 10 0 0 activity 7 0 called 0) (cancel_ack_bytes n accepts)
unfolding cancel_ack_bytes
ack_came n accepts =
    carried 10 0 0 activity 7 0 called 0 (cancel_ack_bytes n accepts) typed refl (omega arith) (omega arith)

-- and the fault.
fault_came : (status : ℕ) → Carried (sent_header 3 0 0 activity 7 0 called 0) (status_bytes status)
fault_came status = carried 3 0 0 activity 7 0 called 0 (status_bytes status) typed refl (omega arith) (omega arith)

module _ (slots_of_client slots_of_server out : List ℕ) (client_room : length slots_of_client ≡ slots_size)
    (server_room : length slots_of_server ≡ slots_size) (room : length out ≡ pdu_size) where
  -- The server's slot buffer after the put.
  abbrev v1 : List ℕ
  v1 = filled 0 question slots_of_server

  v1_long : length v1 ≡ slots_size
  v1_long = filled-length 0 question slots_of_server ∙ server_room

  -- The client's side: state, fragments sent, serial, cancel number, tickets, WAIT, CANCEL, and how many PDUs it has
  -- sent.
  abbrev client_at : ClientState → ℕ → ℕ → ℕ → ℕ → Timer → Timer → ℕ → Side Client
  client_at state sent serial cancels tickets wait cancel pdus = record {
    machine = client_with 0 called state (sends 3 1 sent 0 serial) nothing 0 0 cancels tickets wait Off cancel;
    slots = slots_of_client;
    sent = take pdus stop_client_pdus;
  }

  -- The client after each of its events: in both runs,
  abbrev k0 : Side Client
  k0 = record { machine = (before slots_of_client slots_of_server).client.machine; slots = slots_of_client; sent = [] }

  abbrev k1 : Side Client
  k1 = client_at SendFrags 0 0 0 5 Off Off 0

  abbrev k2 : Side Client
  k2 = client_at Dispatched 1 1 0 6 (Armed 6) Off 1

  -- CANCEL is armed,
  abbrev k3 : Side Client
  k3 = client_at Dispatched 1 1 1 7 (Armed 6) (Armed 7) 2

  -- and keeps its ticket.
  abbrev k4 : Side Client
  k4 = client_at Dispatched 1 1 2 7 (Armed 6) (Armed 7) 3

  -- In the first run it is disarmed.
  abbrev k5 : Side Client
  k5 = client_at Dispatched 1 1 2 7 (Armed 6) Off 3

  -- In both the call ends, with nothing armed.
  abbrev k6 : Side Client
  k6 = client_at FaultState 1 1 2 7 Off Off 3

  -- What the server holds.
  abbrev one : Incoming
  one = holds (held 3) missing missing (At 0)

  -- The server's side: state, cancel number last seen, tickets, RESEND, and what it has sent.
  abbrev server_at : ServerState → ℕ → ℕ → Timer → List SentPdu → Side Server
  server_at state seen tickets resend sent = record {
    machine = server_with 0 called state (sends 0 0 0 0 0) one seen tickets resend;
    slots = v1;
    sent = sent;
  }

  -- The server after each of its events: in both runs,
  abbrev s0 : Side Server
  s0 = record { machine = (before slots_of_client slots_of_server).server.machine; slots = slots_of_server; sent = [] }

  abbrev s1 : Side Server
  s1 = server_at Running 0 100 Off []

  -- in the first run,
  abbrev s2 : Side Server
  s2 = server_at Running 1 100 Off (take 1 stopped_server_pdus)

  -- where the cancel that comes again changes nothing,
  abbrev s3 : Side Server
  s3 = server_at Running 1 100 Off (take 2 stopped_server_pdus)

  abbrev s4 : Side Server
  s4 = server_at Running 2 100 Off (take 3 stopped_server_pdus)

  abbrev s5 : Side Server
  s5 = server_at (Held (FaultReply 23)) 2 101 (Armed 101) (take 4 stopped_server_pdus)

  abbrev s6 : Side Server
  s6 = server_at (Held (FaultReply 23)) 2 101 (Armed 101) stopped_server_pdus

  -- and in the second.
  abbrev s7 : Side Server
  s7 = server_at Running 2 100 Off unanswered_server_pdus

  -- What is on the books: nothing, the start, the dispatch of these bytes,
  abbrev b0 : Books
  b0 = on_books [] [] [] []

  abbrev b1 : Books
  b1 = on_books (record { ordinal = 0; number = 0; call = called; message = question } ∷ []) [] [] []

  abbrev b2 : List ℕ → Books
  b2 bytes = on_books b1.starts (record { ordinal = 0; number = 0; call = called; bytes = bytes } ∷ []) [] []

  -- and then so many local cancels and these cancels told: the first cancel,
  abbrev cancelled_books : ℕ → List Heard → Books
  cancelled_books cancels heard =
      on_books_with 0 b1.starts (b2 question).dispatches [] [] (take cancels stop_cancels) heard

  abbrev b3 : Books
  b3 = cancelled_books 1 []

  -- in the first run that it is told, the second cancel, and that this is told too,
  abbrev b4 : Books
  b4 = cancelled_books 1 (told_of 1 ∷ [])

  abbrev b5 : Books
  b5 = cancelled_books 2 (told_of 1 ∷ [])

  abbrev b6 : Books
  b6 = cancelled_books 2 (told_of 1 ∷ told_of 2 ∷ [])

  -- in the second run the second cancel, and that this is told.
  abbrev b7 : Books
  b7 = cancelled_books 2 []

  abbrev b8 : Books
  b8 = cancelled_books 2 (told_of 2 ∷ [])

  -- What the server hands up at the dispatch is the request.
  question_whole : server_hands_up s1.machine v1 ≡ question
  unfolding opened server_hands_up fragment_of
  question_whole =
      parts_joined (server_sound s1.machine) one v1 refl
      ∙ holding_whole one v1 question
      (put question 3 0 refl cleared slots_of_server 0
      (empty-holding cleared slots_of_server question server_room cleared-empty) refl
      (record { number = omega arith; new = refl; fits = refl }) (omega arith) refl)
      refl refl

  -- The client hands nothing up.
  pub nothing_whole : client_hands_up k6.machine slots_of_client ≡ []
  unfolding opened joined_parts handed_below
  nothing_whole = hands_joined k6.machine slots_of_client refl

  -- The stories, stage by stage.
  plays_pressed : Plays (world k0 s0 b0) (pressed out) (untold 2 ++ (DispatchTold ∷ Untold ∷ [])) (world k3 s1 b3)
  unfolding opened fragment_of
  plays_pressed =
      then {next = world k1 s0 b1} (record { answered = refl; tells = refl; leaves = refl })
      (record { typed = typed; whole = refl })
      (then {next = world k2 s0 b1} (client_transmits _ out room question 3 refl uuids) refl
      (then {next = world k2 s1 (b2 question)}
      (told (λ (bytes : List ℕ). world k2 s1 (b2 bytes)) question_whole
      (server_arrives _ out room request_came server_room uuids)) (came 0 refl)
      (then {next = world k3 s1 b3} (client_cancels _ out room uuids) tt
      over)))

  plays_heard : Plays (world k3 s1 b3) (heard_of out) (CancelTold ∷ untold 3 ++ (CancelTold ∷ untold 3)) (world k5 s4 b6)
  unfolding opened cancel_bytes cancel_ack_bytes number
  plays_heard =
      then {next = world k3 s2 b4} (server_arrives _ out room (cancel_came 1) v1_long uuids) (came 1 refl)
      (then {next = world k3 s3 b4} (server_arrives _ out room (cancel_came 1) v1_long uuids) (came 1 refl)
      (then {next = world k4 s3 b5} (client_cancels _ out room uuids) tt
      (refused {next = world k4 s3 b5} (client_arrives _ out room (ack_came 1 true) client_room uuids) refl
      (then {next = world k4 s4 b6} (server_arrives _ out room (cancel_came 2) v1_long uuids) (came 2 refl)
      (then {next = world k5 s4 b6} (client_arrives _ out room (ack_came 2 true) client_room uuids) (came 2 refl)
      (refused {next = world k5 s4 b6} (client-times _ out room Cancel cancel_ticket uuids) refl
      (refused {next = world k5 s4 b6} (client_arrives _ out room (ack_came 2 true) client_room uuids) refl
      over)))))))

  plays_faulted : Plays (world k5 s4 b6) (faulted out) (Untold ∷ FaultTold 23 ∷ untold 4) (world k6 s6 b6)
  unfolding opened cancel_bytes cancel_ack_bytes number
  plays_faulted =
      then {next = world k5 s5 b6} (server_faults _ out room 23 uuids) tt
      (then {next = world k6 s5 b6} (client_arrives _ out room (fault_came 23) client_room uuids) (came 3 refl)
      (refused {next = world k6 s5 b6} (client-times _ out room Wait 6 uuids) refl
      (refused {next = world k6 s5 b6} (client-times _ out room Cancel cancel_ticket uuids) refl
      (refused {next = world k6 s5 b6} (client_cancels _ out room uuids) refl
      (then {next = world k6 s6 b6} (server_arrives _ out room (cancel_came 2) v1_long uuids) (came 2 refl)
      over)))))

  pub plays_stopped : Plays (before slots_of_client slots_of_server) (stopped out) stopped_notices (world k6 s6 b6)
  plays_stopped = joined (pressed out) _ plays_pressed (joined (heard_of out) (faulted out) plays_heard plays_faulted)

  plays_unheard : Plays (world k3 s1 b3) (unheard out) (Untold ∷ CancelTold ∷ Cause 3 ∷ untold 2) (world k6 s7 b8)
  unfolding opened cancel_bytes cancel_ack_bytes number
  plays_unheard =
      then {next = world k4 s1 b7} (client_cancels _ out room uuids) tt
      (then {next = world k4 s7 b8} (server_arrives _ out room (cancel_came 2) v1_long uuids) (came 2 refl)
      (then {next = world k6 s7 b8} (client-times _ out room Cancel cancel_ticket uuids) tt
      (refused {next = world k6 s7 b8} (client-times _ out room Cancel cancel_ticket uuids) refl
      (refused {next = world k6 s7 b8} (client-times _ out room Wait 6 uuids) refl
      over))))

  pub plays_unanswered : Plays (before slots_of_client slots_of_server) (unanswered out) unanswered_notices (world k6 s7 b8)
  plays_unanswered = joined (pressed out) (unheard out) plays_pressed plays_unheard
