-- The runs, proved: each starts fresh, keeps every premise, and ends as documents 01 and 02 say.
use Prim.Native.Nat.{ℕ}
use mathlib.Core.List.{List, [], ◌∷◌}
use mathlib.Core.Path.{◌≡◌, refl, ap, ◌∙◌}
use native.Mathlib.Omega.{arith}
use lib.ListN.{length, length-replicate}
use Rattle.words.specs.Sizes.{pdu_size, slots_size}
use Rattle.calls.specs.declared.Notice.{Notice}
use Rattle.timers.specs.Timer.{Off, Armed}
use Rattle.client.specs.declared.records.State.TheVariants.{AckPending, Complete, Fault}
use Rattle.server.specs.declared.records.Idle.TheVariants.{Spent, Repeatable}
use Rattle.server.specs.declared.records.Reply.TheVariants.{Data, Fault as FaultReply}
use Rattle.server.specs.declared.records.State.TheVariants.{Idle, Running, Held}
use Rattle.history.specs.World.{World}
use Rattle.history.specs.Freshness.{Fresh}
use Rattle.history.specs.Replies.{reply_handed_up}
use Rattle.history.proofs.Beginning.{client_record_fresh, server_record_fresh}
use Rattle.runs.specs.Runs.{Story, Ran, Told, timers_in, activity, called, asking, before, lossy, lossy_notices, lossy_client_pdus, lossy_server_pdus, twice, twice_client_pdus, twice_server_pdus, twice_and_next, twice_and_next_notices, twice_and_next_client_pdus, twice_and_next_server_pdus, question, second_reply, next_reply, example_message, example_reply, zeros}
use Rattle.runs.specs.Stops.{stopped, unanswered, stopped_notices, unanswered_notices, stop_client_pdus, stopped_server_pdus, unanswered_server_pdus, stop_cancels, told_of}
use Rattle.runs.proofs.Stories.{Plays}
use Rattle.runs.proofs.Lossy.{reply_whole as lossy-reply, plays_lossy}
use Rattle.runs.proofs.Twice.{reply_whole as twice-reply, plays_twice, next_reply_lem, plays_twice_and_next}
use Rattle.runs.proofs.Stopped.{nothing_whole, plays_stopped, plays_unanswered}

-- The world before a run is fresh.
before-fresh : (slots_of_client slots_of_server : List ℕ) → Fresh (before slots_of_client slots_of_server)
before-fresh slots_of_client slots_of_server = record {
  client = client_record_fresh activity 5 refl;
  server = server_record_fresh activity 7 100 refl (omega arith);
  client_unsent = refl;
  server_unsent = refl;
  books = record { starts = refl; dispatches = refl; replies = refl; completions = refl; cancels = refl; heard = refl };
}

-- What a story that was played shows,
ran : {w after : World} {story : Story} {notices : List Notice} {handed : List ℕ} → Fresh w → Plays w story notices after → reply_handed_up after ≡ handed
    → Ran w story after.client.sent after.server.sent after.client.machine.state after.server.machine.state
    after.books.dispatches after.books.completions handed
ran fresh plays handed = record {
  fresh = fresh;
  fair = plays.fair;
  answers = plays.answers;
  client_sends = ap (λ (v : World). v.client.sent) plays.ends;
  server_sends = ap (λ (v : World). v.server.sent) plays.ends;
  client_ends = ap (λ (v : World). v.client.machine.state) plays.ends;
  server_ends = ap (λ (v : World). v.server.machine.state) plays.ends;
  dispatched = ap (λ (v : World). v.books.dispatches) plays.ends;
  completed = ap (λ (v : World). v.books.completions) plays.ends;
  hands_up_lem = ap reply_handed_up plays.ends ∙ handed;
}

-- and what is told in it.
shown : {w after : World} {story : Story} {notices : List Notice} → Plays w story notices after
    → Told w story notices (timers_in after) after.books.cancels after.books.heard
shown plays = record {
  tells = plays.tells;
  leaves_armed = ap timers_in plays.ends;
  cancelled = ap (λ (v : World). v.books.cancels) plays.ends;
  hears = ap (λ (v : World). v.books.heard) plays.ends;
}

-- The first, for every request of 2,785 bytes and every reply of 2,786: the call is COMPLETE and the server spent,
-- there is one dispatch, of the whole request, and the client hands up the whole reply.
pub lossy_ran : (message reply slots_of_client slots_of_server out : List ℕ) → length message ≡ 2785 → length reply ≡ 2786 → length slots_of_client ≡ slots_size
    → length slots_of_server ≡ slots_size → length out ≡ pdu_size
    → Ran (before slots_of_client slots_of_server) (lossy message reply out) (lossy_client_pdus message reply out) (lossy_server_pdus message reply out)
    Complete (Idle Spent) (record { ordinal = 0; number = 0; call = called; bytes = message } ∷ []) (record { ordinal = 0; bytes = reply } ∷ []) reply
lossy_ran message reply slots_of_client slots_of_server out asks replies client_room server_room room =
    ran (before-fresh slots_of_client slots_of_server) (plays_lossy message reply slots_of_client slots_of_server out asks replies client_room server_room room)
    (lossy-reply message reply slots_of_client slots_of_server out asks replies client_room server_room room)

-- The stubs are told this, no cancel among it, and nothing is left armed.
pub lossy_told : (message reply slots_of_client slots_of_server out : List ℕ) → length message ≡ 2785 → length reply ≡ 2786 → length slots_of_client ≡ slots_size
    → length slots_of_server ≡ slots_size → length out ≡ pdu_size
    → Told (before slots_of_client slots_of_server) (lossy message reply out) lossy_notices (Off ∷ Off ∷ Off ∷ Off ∷ []) [] []
lossy_told message reply slots_of_client slots_of_server out asks replies client_room server_room room =
    shown (plays_lossy message reply slots_of_client slots_of_server out asks replies client_room server_room room)

-- So it is of the bytes written out.
zeros_long : (n : ℕ) → length (zeros n) ≡ n
unfolding zeros
zeros_long n = length-replicate n 0

pub example_ran :
    Ran (before (zeros slots_size) (zeros slots_size)) (lossy example_message example_reply (zeros pdu_size))
    (lossy_client_pdus example_message example_reply (zeros pdu_size)) (lossy_server_pdus example_message example_reply (zeros pdu_size)) Complete (Idle Spent)
    (record { ordinal = 0; number = 0; call = called; bytes = example_message } ∷ []) (record { ordinal = 0; bytes = example_reply } ∷ []) example_reply
unfolding example_message example_reply
example_ran =
    lossy_ran example_message example_reply (zeros slots_size) (zeros slots_size) (zeros pdu_size) refl refl (zeros_long slots_size) (zeros_long slots_size) (zeros_long pdu_size)

-- The second: the call is COMPLETE and the server repeatable, there are two dispatches, each of the whole request,
-- and the client hands up the reply to the second.
pub twice_ran : (slots_of_client slots_of_server out : List ℕ) → length slots_of_client ≡ slots_size → length slots_of_server ≡ slots_size → length out ≡ pdu_size
    → Ran (before slots_of_client slots_of_server) (twice out) twice_client_pdus twice_server_pdus Complete (Idle Repeatable)
    (record { ordinal = 0; number = 0; call = asking; bytes = question } ∷ record { ordinal = 0; number = 0; call = asking; bytes = question } ∷ [])
    (record { ordinal = 0; bytes = second_reply } ∷ []) second_reply
twice_ran slots_of_client slots_of_server out client_room server_room room =
    ran (before-fresh slots_of_client slots_of_server) (plays_twice slots_of_client slots_of_server out client_room server_room room)
    (twice-reply slots_of_client slots_of_server out client_room server_room room)

-- The third goes on with the next call: it is dispatched once, after both of call 0, and complete with its own reply, though
-- PDUs of call 0 came late.
pub twice_and_next_ran : (slots_of_client slots_of_server out : List ℕ) → length slots_of_client ≡ slots_size → length slots_of_server ≡ slots_size → length out ≡ pdu_size
    → Ran (before slots_of_client slots_of_server) (twice_and_next out) twice_and_next_client_pdus twice_and_next_server_pdus AckPending (Held Data)
    (record { ordinal = 0; number = 0; call = asking; bytes = question }
    ∷ record { ordinal = 0; number = 0; call = asking; bytes = question }
    ∷ record { ordinal = 1; number = 1; call = called; bytes = question } ∷ [])
    (record { ordinal = 0; bytes = second_reply } ∷ record { ordinal = 1; bytes = next_reply } ∷ []) next_reply
twice_and_next_ran slots_of_client slots_of_server out client_room server_room room =
    ran (before-fresh slots_of_client slots_of_server) (plays_twice_and_next slots_of_client slots_of_server out client_room server_room room)
    (next_reply_lem slots_of_client slots_of_server out client_room server_room room)

-- The stubs are told this, and ACK and RESEND of the next call are left armed.
pub twice_and_next_told : (slots_of_client slots_of_server out : List ℕ) → length slots_of_client ≡ slots_size → length slots_of_server ≡ slots_size → length out ≡ pdu_size
    → Told (before slots_of_client slots_of_server) (twice_and_next out) twice_and_next_notices (Off ∷ Armed 10 ∷ Off ∷ Armed 101 ∷ []) [] []
twice_and_next_told slots_of_client slots_of_server out client_room server_room room =
    shown (plays_twice_and_next slots_of_client slots_of_server out client_room server_room room)

-- The fourth: the call is dispatched once and never complete, the client is in FAULT and hands nothing up, and the server
-- holds the fault.
pub stopped_ran : (slots_of_client slots_of_server out : List ℕ) → length slots_of_client ≡ slots_size → length slots_of_server ≡ slots_size → length out ≡ pdu_size
    → Ran (before slots_of_client slots_of_server) (stopped out) stop_client_pdus stopped_server_pdus Fault (Held (FaultReply 23))
    (record { ordinal = 0; number = 0; call = called; bytes = question } ∷ []) [] []
stopped_ran slots_of_client slots_of_server out client_room server_room room =
    ran (before-fresh slots_of_client slots_of_server) (plays_stopped slots_of_client slots_of_server out client_room server_room room)
    (nothing_whole slots_of_client slots_of_server out client_room server_room room)

-- Of both local cancels the stub is told, of each once, though each came twice; only RESEND is left armed.
pub stopped_told : (slots_of_client slots_of_server out : List ℕ) → length slots_of_client ≡ slots_size → length slots_of_server ≡ slots_size → length out ≡ pdu_size
    → Told (before slots_of_client slots_of_server) (stopped out) stopped_notices (Off ∷ Off ∷ Off ∷ Armed 101 ∷ []) stop_cancels
    (told_of 1 ∷ told_of 2 ∷ [])
stopped_told slots_of_client slots_of_server out client_room server_room room = shown (plays_stopped slots_of_client slots_of_server out client_room server_room room)

-- The fifth: the client is in FAULT, while the server runs the call.
pub unanswered_ran : (slots_of_client slots_of_server out : List ℕ) → length slots_of_client ≡ slots_size → length slots_of_server ≡ slots_size → length out ≡ pdu_size
    → Ran (before slots_of_client slots_of_server) (unanswered out) stop_client_pdus unanswered_server_pdus Fault Running
    (record { ordinal = 0; number = 0; call = called; bytes = question } ∷ []) [] []
unanswered_ran slots_of_client slots_of_server out client_room server_room room =
    ran (before-fresh slots_of_client slots_of_server) (plays_unanswered slots_of_client slots_of_server out client_room server_room room)
    (nothing_whole slots_of_client slots_of_server out client_room server_room room)

-- The stub is told of the second cancel alone, and nothing is left armed.
pub unanswered_told : (slots_of_client slots_of_server out : List ℕ) → length slots_of_client ≡ slots_size → length slots_of_server ≡ slots_size → length out ≡ pdu_size
    → Told (before slots_of_client slots_of_server) (unanswered out) unanswered_notices (Off ∷ Off ∷ Off ∷ Off ∷ []) stop_cancels (told_of 2 ∷ [])
unanswered_told slots_of_client slots_of_server out client_room server_room room =
    shown (plays_unanswered slots_of_client slots_of_server out client_room server_room room)
