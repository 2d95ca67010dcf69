-- Records and numbers: rules are kept, and a call number names its start.
use Rattle.std.specs.Prelude.{Bool, true, false, List, ◌≡◌}
use Rattle.client.specs.declared.records.State.{State as ClientState}
use Rattle.client.specs.declared.records.State.TheVariants.{Queued, SendFrags, Dispatched as DispatchedState, ReceiveFrags, AckPending, Complete, Fault as FaultState}
use Rattle.client.specs.records.Rules.{sound as client_sound}
use Rattle.server.specs.declared.records.Idle.TheVariants.{Fresh, Spent, Repeatable}
use Rattle.server.specs.declared.records.State.{State as ServerState}
use Rattle.server.specs.declared.records.State.TheVariants.{Idle, Collect, Running, Replying, Held}
use Rattle.server.specs.records.Rules.{sound as server_sound}
use Rattle.history.specs.Lists.{In}
use Rattle.history.specs.World.{call_number, Started, Dispatched, World}
use Rattle.history.specs.Steps.{last_start}

-- Where a record has a call, and so a number: everywhere but in QUEUED and in IDLE fresh.
abbrev pub client_calls : ClientState → Bool
client_calls Queued = false
client_calls SendFrags = true
client_calls DispatchedState = true
client_calls ReceiveFrags = true
client_calls AckPending = true
client_calls Complete = true
client_calls FaultState = true

abbrev pub server_called : ServerState → Bool
server_called (Idle Fresh) = false
server_called (Idle Spent) = true
server_called (Idle Repeatable) = true
server_called Collect = true
server_called Running = true
server_called Replying = true
server_called (Held reply) = true

-- Reachable records keep their rules, so 2 never arises for them.
pub record RulesKept (w : World) : Type 0 where
  pub client : client_sound w.client.machine ≡ true
  pub server : server_sound w.server.machine ≡ true

-- A client that has a call has its last start on the books.
pub record LastStarted (starts : List Started) : Type 0 where
  pub start : Started
  pub started : In start starts
  pub ordinal : start.ordinal ≡ last_start starts

-- Numbers and starts: a start has the call number of its ordinal, the request of a dispatch has the number of its start,
-- the client's number is that of its last start, and the server's that of the start it stands at.
pub record Numbered (w : World) : Type 0 where
  pub last : client_calls w.client.machine.state ≡ true → LastStarted w.books.starts
  pub starts : (s : Started) → In s w.books.starts → s.number ≡ call_number s.ordinal
  pub dispatches : (d : Dispatched) → In d w.books.dispatches → d.number ≡ call_number d.ordinal
  pub client :
      client_calls w.client.machine.state ≡ true → w.client.machine.number ≡ call_number (last_start w.books.starts)
  pub server : server_called w.server.machine.state ≡ true → w.server.machine.number ≡ call_number w.books.standing
