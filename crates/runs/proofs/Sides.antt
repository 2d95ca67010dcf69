-- A world by its sides, and the records of the runs, in short.
use Prim.Native.Nat.{ℕ}
use mathlib.Core.Bool.{true}
use mathlib.Core.List.{List, [], ◌∷◌}
use lib.ListN.{replicate}
use Rattle.calls.specs.declared.Call.{Call}
use Rattle.incoming.specs.declared.Slot.{Slot}
use Rattle.incoming.specs.Last.{Last, Unknown}
use Rattle.incoming.specs.declared.Incoming.{Incoming}
use Rattle.incoming.specs.Slots.{missing}
use Rattle.outgoing.specs.declared.Outgoing.{Outgoing}
use Rattle.timers.specs.Timer.{Timer, Off}
use Rattle.client.specs.declared.records.Client.{Client}
use Rattle.client.specs.declared.records.State.{State as ClientState}
use Rattle.server.specs.declared.records.Server.{Server}
use Rattle.server.specs.declared.records.State.{State as ServerState}
use Rattle.history.specs.World.{World, Started, Dispatched, Replied, Completed, Cancelled, Heard, Side, Books}
use Rattle.runs.specs.Runs.{activity}

-- The books, where the server's record stands at that start, with the local cancels and the cancels told,
abbrev pub on_books_with : ℕ → List Started → List Dispatched → List Replied → List Completed → List Cancelled → List Heard → Books
on_books_with standing starts dispatches replies completions cancels heard = record {
  starts = starts;
  dispatches = dispatches;
  replies = replies;
  completions = completions;
  cancels = cancels;
  heard = heard;
  standing = standing;
}

-- where nothing was cancelled,
abbrev pub on_books_at : ℕ → List Started → List Dispatched → List Replied → List Completed → Books
on_books_at standing starts dispatches replies completions = on_books_with standing starts dispatches replies completions [] []

-- and while it stands at start 0 then, or is fresh.
abbrev pub on_books : List Started → List Dispatched → List Replied → List Completed → Books
on_books starts dispatches replies completions = on_books_at 0 starts dispatches replies completions

abbrev pub world : Side Client → Side Server → Books → World
world c s b = record { client = c; server = s; books = b }

-- The fragments 0 to 2 held or missing, and the known last.
abbrev pub held : ℕ → Slot
held n = record { held = true; length = n }

abbrev pub holds : Slot → Slot → Slot → Last → Incoming
holds a b c last = record { slots = a ∷ b ∷ c ∷ replicate 29 missing; last = last }

abbrev pub nothing : Incoming
nothing = holds missing missing missing Unknown

-- A message being sent: its length and fragment count, the fragments sent and acknowledged, and the serial.
abbrev pub sends : ℕ → ℕ → ℕ → ℕ → ℕ → Outgoing
sends length count sent acknowledged serial = record { length = length; count = count; sent = sent; acknowledged = acknowledged; serial = serial }

-- The client in a call with that number: its state, the message sent, what is held, the counts of WAIT and of resends, the
-- cancel number, the tickets and the timers WAIT, ACK and CANCEL.
abbrev pub client_with : ℕ → Call → ClientState → Outgoing → Incoming → ℕ → ℕ → ℕ → ℕ → Timer → Timer → Timer → Client
client_with number call state outgoing incoming waits resends cancels tickets wait ack cancel = record {
  state = state;
  activity = activity;
  number = number;
  call = call;
  outgoing = outgoing;
  incoming = incoming;
  waits = waits;
  resends = resends;
  cancels = cancels;
  tickets = tickets;
  wait = wait;
  ack = ack;
  cancel = cancel;
}

-- Where the call was not cancelled,
abbrev pub client_of : ℕ → Call → ClientState → Outgoing → Incoming → ℕ → ℕ → ℕ → Timer → Timer → Client
client_of number call state outgoing incoming waits resends tickets wait ack =
    client_with number call state outgoing incoming waits resends 0 tickets wait ack Off

-- and in call 0.
abbrev pub client_in : Call → ClientState → Outgoing → Incoming → ℕ → ℕ → ℕ → Timer → Timer → Client
client_in = client_of 0

-- The server in a call with that number: its state, the message sent, what is held, the cancel number last seen, the tickets
-- and the timer.
abbrev pub server_with : ℕ → Call → ServerState → Outgoing → Incoming → ℕ → ℕ → Timer → Server
server_with number call state outgoing incoming seen tickets resend = record {
  state = state;
  activity = activity;
  boot = 7;
  number = number;
  call = call;
  outgoing = outgoing;
  incoming = incoming;
  resends = 0;
  seen = seen;
  tickets = tickets;
  resend = resend;
}

-- Where no cancel was heard,
abbrev pub server_of : ℕ → Call → ServerState → Outgoing → Incoming → ℕ → Timer → Server
server_of number call state outgoing incoming tickets resend = server_with number call state outgoing incoming 0 tickets resend

-- and in call 0.
abbrev pub server_in : Call → ServerState → Outgoing → Incoming → ℕ → Timer → Server
server_in = server_of 0
