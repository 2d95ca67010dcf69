-- Records that keep their rules, each in the state that a case asks for.
use Rattle.std.specs.Prelude.{ℕ, false, List, [], ◌∷◌}
use Rattle.words.specs.Sizes.{body_size}
use Rattle.incoming.specs.declared.Incoming.{Incoming}
use Rattle.incoming.specs.Slots.{cleared, stored}
use Rattle.outgoing.specs.declared.Outgoing.{Outgoing}
use Rattle.outgoing.specs.Sending.{started_message, after_send}
use Rattle.timers.specs.Timer.{Off, Armed}
use Rattle.client.specs.declared.records.Client.{Client}
use Rattle.client.specs.declared.records.State.TheVariants.{SendFrags, Dispatched, AckPending}
use Rattle.client.specs.records.Record.{fresh as fresh_client, timed as timed_client, with_outgoing as client_with}
use Rattle.server.specs.declared.records.Server.{Server}
use Rattle.server.specs.declared.records.Reply.TheVariants.{Data}
use Rattle.server.specs.declared.records.State.TheVariants.{Running, Held}
use Rattle.server.specs.records.Record.{fresh as fresh_server, timed as timed_server, unarmed, with_outgoing as server_with}
use Rattle.rows.specs.Datagrams.{zeros}

-- A message received of which these fragments are held, 1,392 bytes each, and no last is known.
abbrev pub holding : List ℕ → Incoming
holding [] = cleared
holding (f ∷ fs) = stored (holding fs) f body_size false

-- An empty message, sent: its one fragment is out.
abbrev pub sent : Outgoing
sent = after_send (started_message 0)

-- A fresh client and a fresh server.
abbrev pub client : Client
client = fresh_client (zeros 16) 0

abbrev pub server : Server
server = fresh_server (zeros 16) 0 0

-- The client has sent its request: DISPATCHED, WAIT armed with the ticket.
abbrev pub dispatched : ℕ → Client
dispatched ticket = timed_client (client_with client sent) Dispatched ticket (Armed ticket) Off Off

-- The client has the reply: ACK_PENDING, ACK armed with the ticket.
abbrev pub ack_pending : ℕ → Client
ack_pending ticket = timed_client (client_with client sent) AckPending ticket Off (Armed ticket) Off

-- The client has cancelled a call whose request it still sends: SEND_FRAGS, CANCEL armed with the ticket.
abbrev pub cancelled : ℕ → Client
cancelled ticket = timed_client (client_with client (started_message 0)) SendFrags ticket Off Off (Armed ticket)

-- The server runs a call: RUNNING.
abbrev pub running : Server
running = unarmed server Running

-- The server has sent its reply: HELD, RESEND armed with the ticket.
abbrev pub held : ℕ → Server
held ticket = timed_server (server_with server sent) (Held Data) ticket (Armed ticket)
