-- The runs with cancels of crate runs are runs of a host that calls exports only: so there are hosts of which the
-- theorem's parts on cancels speak.
use Prim.Native.Nat.{ℕ}
use mathlib.Core.List.{List, [], ◌∷◌}
use mathlib.Core.Path.{◌≡◌}
use lib.ListN.{length}
use Rattle.words.specs.Sizes.{pdu_size, slots_size}
use Rattle.record_bytes.specs.Fits.{Octets}
use Rattle.host_history.specs.Hosts.{HostWorld, world_of}
use Rattle.host_history.specs.Meaning.{FreshHost}
use Rattle.host_history.specs.HostDemand.{HostDemand}
use Rattle.host_history.proofs.HostDemanded.{host_demand}
use Rattle.runs.specs.Runs.{events_of, numbers_of, before, called, question, zeros}
use Rattle.runs.specs.Stops.{stopped, unanswered, stopped_notices, unanswered_notices, stop_client_pdus, stopped_server_pdus, unanswered_server_pdus, stop_cancels, told_of}
use Rattle.runs.proofs.RunsHold.{stopped_ran, stopped_told, unanswered_ran, unanswered_told}
use Rattle.host_runs.specs.HostRuns.{beginning, calls_for, HostRan, HostTold}
use Rattle.host_runs.proofs.StopFits.{stopped_fits, unanswered_fits}
use Rattle.host_runs.proofs.AtTheDoor.{host_ran, host_told, begins, begins_there}
use Rattle.host_runs.proofs.HostRunsHold.{zeros_long, zeros_octets}

module _ (client_memory server_memory slots_of_client slots_of_server out : List ℕ) (client_whole : length client_memory ≡ 272)
    (server_whole : length server_memory ≡ 272) (client_room : length slots_of_client ≡ slots_size)
    (server_room : length slots_of_server ≡ slots_size) (room : length out ≡ pdu_size) (octets : Octets out) where
  abbrev host : HostWorld
  host = beginning client_memory server_memory slots_of_client slots_of_server

  fresh : FreshHost host
  fresh = begins client_memory server_memory slots_of_client slots_of_server client_whole server_whole

  there : world_of host ≡ before slots_of_client slots_of_server
  there = begins_there client_memory server_memory slots_of_client slots_of_server client_whole server_whole

  -- A host that makes the calls of the fourth run keeps every premise. It calls for two cancels and sends them, sees
  -- one dispatch, and is told of both cancels, of each once; the call is faulted, and the client reads nothing.
  pub host_stopped :
      HostRan host (calls_for (events_of (stopped out))) (numbers_of (stopped out)) stop_client_pdus stopped_server_pdus
      (record { ordinal = 0; number = 0; call = called; bytes = question } ∷ []) [] []
  host_stopped =
      host_ran host _ (stopped out) fresh there (stopped_fits out octets) _ _ _ _ _ _ []
      (stopped_ran slots_of_client slots_of_server out client_room server_room room)

  pub host_stopped_told :
      HostTold host (calls_for (events_of (stopped out))) stopped_notices stop_cancels (told_of 1 ∷ told_of 2 ∷ [])
  host_stopped_told =
      host_told host _ (stopped out) fresh there (stopped_fits out octets) _ _ _ _
      (stopped_told slots_of_client slots_of_server out client_room server_room room)

  -- In the fifth no cancel_ack comes: the client gives the call up, told of it by local cause 3.
  pub host_unanswered :
      HostRan host (calls_for (events_of (unanswered out))) (numbers_of (unanswered out)) stop_client_pdus
      unanswered_server_pdus (record { ordinal = 0; number = 0; call = called; bytes = question } ∷ []) [] []
  host_unanswered =
      host_ran host _ (unanswered out) fresh there (unanswered_fits out octets) _ _ _ _ _ _ []
      (unanswered_ran slots_of_client slots_of_server out client_room server_room room)

  pub host_unanswered_told :
      HostTold host (calls_for (events_of (unanswered out))) unanswered_notices stop_cancels (told_of 2 ∷ [])
  host_unanswered_told =
      host_told host _ (unanswered out) fresh there (unanswered_fits out octets) _ _ _ _
      (unanswered_told slots_of_client slots_of_server out client_room server_room room)

-- Of the host of the fourth run, in memory that holds zeros, demand 3 holds.
pub stopped_demanded :
    HostDemand (beginning (zeros 272) (zeros 272) (zeros slots_size) (zeros slots_size))
    (calls_for (events_of (stopped (zeros pdu_size))))
stopped_demanded =
    let ran =
    host_stopped (zeros 272) (zeros 272) (zeros slots_size) (zeros slots_size) (zeros pdu_size) (zeros_long 272)
    (zeros_long 272) (zeros_long slots_size) (zeros_long slots_size) (zeros_long pdu_size) (zeros_octets pdu_size) in
    host_demand _ ran.fresh _ ran.small ran.fair
