-- Runs of a host that calls exports only: the bytes that it begins with, the calls that a list of events is, and what
-- is proved of such a run.
use Rattle.std.specs.Prelude.{ℕ, List, [], ◌∷◌, ◌≡◌}
use Rattle.words.specs.Choice.{mark_of}
use Rattle.answers.specs.Number.{number_of}
use Rattle.calls.specs.declared.Notice.{Notice}
use Rattle.client.specs.declared.records.TimerKind.TheVariants.{Wait, Ack, Cancel}
use Rattle.history.specs.World.{Dispatched, Completed, Cancelled, Heard, SentPdu}
use Rattle.history.specs.Events.{ClientEvent, ServerEvent, Event, Start, ClientTransmit as TransmitOfClient, ClientArrive as ArriveOfClient, ClientTimer as TimerOfClient, ClientCancel as CancelOfClient, ServerArrive as ArriveOfServer, ServerTransmit as TransmitOfServer, ServerTimer as TimerOfServer, Reply, Fault, OfClient, OfServer}
use Rattle.morphelai.specs.ClientDoor.{client_fresh}
use Rattle.morphelai.specs.ServerDoor.{server_fresh}
use Rattle.host_history.specs.Results.{answer_in, notice_in}
use Rattle.host_history.specs.Hosts.{HostWorld, ClientCall, ServerCall, HostCall, ClientStart, ClientTransmit, ClientArrive, ClientTimer, ClientCancel, ServerArrive, ServerTransmit, ServerTimer, ServerReply, ServerFault, ToClient, ToServer, exported, host_step, host_run}
use Rattle.host_history.specs.Meaning.{AllFit, FairHost, FreshHost}
use Rattle.host_history.specs.HandedUp.{client_parts}
use Rattle.runs.specs.Runs.{activity}

-- What a host begins with: records that morphelai_client_fresh and morphelai_server_fresh made of any memory, and any
-- slot buffers. The client's tickets so far are 5, the server's boot value is 7, its tickets so far are 100.
abbrev pub beginning : List ℕ → List ℕ → List ℕ → List ℕ → HostWorld
beginning client_memory server_memory slots_of_client slots_of_server = record {
  client = record { machine = (client_fresh client_memory activity 5).bytes; slots = slots_of_client; sent = [] };
  server = record { machine = (server_fresh server_memory activity 7 100).bytes; slots = slots_of_server; sent = [] };
  books =
      record {
        starts = [];
        dispatches = [];
        replies = [];
        completions = [];
        cancels = [];
        heard = [];
        standing = 0;
      };
}

-- The call of an exported function that an event is.
abbrev pub client_call_for : ClientEvent → ClientCall
client_call_for (Start call n message) =
    ClientStart (mark_of call.idempotent) call.object call.interface call.version call.operation n message
client_call_for (TransmitOfClient message out) = ClientTransmit message out
client_call_for (ArriveOfClient p lent out) = ClientArrive p lent out
client_call_for (TimerOfClient Wait ticket out) = ClientTimer 1 ticket out
client_call_for (TimerOfClient Ack ticket out) = ClientTimer 2 ticket out
client_call_for (TimerOfClient Cancel ticket out) = ClientTimer 4 ticket out
client_call_for (CancelOfClient out) = ClientCancel out

abbrev pub server_call_for : ServerEvent → ServerCall
server_call_for (ArriveOfServer p lent out) = ServerArrive p lent out
server_call_for (TransmitOfServer message out) = ServerTransmit message out
server_call_for (TimerOfServer ticket out) = ServerTimer 3 ticket out
server_call_for (Reply n message) = ServerReply n message
server_call_for (Fault status out) = ServerFault status out

abbrev pub call_for : Event → HostCall
call_for (OfClient e) = ToClient (client_call_for e)
call_for (OfServer e) = ToServer (server_call_for e)

abbrev pub calls_for : List Event → List HostCall
calls_for [] = []
calls_for (e ∷ es) = call_for e ∷ calls_for es

-- The numbers of the answers that a host reads.
abbrev pub answers_read : HostWorld → List HostCall → List ℕ
answers_read h [] = []
answers_read h (call ∷ calls) = number_of (answer_in (exported h call).result) ∷ answers_read (host_step h call) calls

-- The notices that it reads.
abbrev pub notices_read : HostWorld → List HostCall → List Notice
notices_read h [] = []
notices_read h (call ∷ calls) = notice_in (exported h call).result ∷ notices_read (host_step h call) calls

-- What is proved of a run: it begins fresh, its arguments are what C's types allow, it keeps every premise, reads these
-- answers, and ends with these PDUs sent by either side, these dispatches and calls told complete, where the host reads
-- these bytes of the client.
pub record HostRan (h : HostWorld) (calls : List HostCall) (numbers : List ℕ) (client_pdus server_pdus : List SentPdu)
    (dispatches : List Dispatched) (completions : List Completed) (handed : List ℕ) : Type 0 where
  pub fresh : FreshHost h
  pub small : AllFit calls
  pub fair : FairHost h calls
  pub answers : answers_read h calls ≡ numbers
  pub client_sends : (host_run h calls).client.sent ≡ client_pdus
  pub server_sends : (host_run h calls).server.sent ≡ server_pdus
  pub dispatched : (host_run h calls).books.dispatches ≡ dispatches
  pub completed : (host_run h calls).books.completions ≡ completions
  pub reads : client_parts (host_run h calls).client ≡ handed

-- And besides: the host reads these notices, one at each call, and ends with these cancels and cancels told on the
-- books.
pub record HostTold (h : HostWorld) (calls : List HostCall) (notices : List Notice) (cancels : List Cancelled)
    (heard : List Heard) : Type 0 where
  pub tells : notices_read h calls ≡ notices
  pub cancelled : (host_run h calls).books.cancels ≡ cancels
  pub hears : (host_run h calls).books.heard ≡ heard
