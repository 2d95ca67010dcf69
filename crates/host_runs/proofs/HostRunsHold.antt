-- The first run of crate runs is a run of a host that calls exports only: so there are hosts of which the theorem
-- speaks, and to which it gives a dispatch and a whole reply.
use Prim.Native.Nat.{ℕ}
use mathlib.Core.List.{List, [], ◌∷◌}
use mathlib.Core.Path.{◌≡◌, refl}
use native.Mathlib.Omega.{arith}
use lib.ListN.{length, replicate, length-replicate}
use Rattle.words.specs.Sizes.{body_size, pdu_size, slots_size}
use Rattle.record_bytes.specs.Fits.{Octets}
use Rattle.record_bytes.proofs.ByteLaws.{octets_three}
use Rattle.host_history.specs.HostDemand.{HostDemand}
use Rattle.host_history.proofs.HostDemanded.{host_demand}
use Rattle.runs.specs.Runs.{events_of, numbers_of, called, lossy, lossy_client_pdus, lossy_server_pdus, lossy_notices, example_message, example_reply, zeros}
use Rattle.runs.proofs.RunsHold.{lossy_ran, lossy_told}
use Rattle.host_runs.specs.HostRuns.{beginning, calls_for, HostRan, HostTold}
use Rattle.host_runs.proofs.PduOctets.{octets_same}
use Rattle.host_runs.proofs.LossyFits.{lossy_fits}
use Rattle.host_runs.proofs.AtTheDoor.{host_ran, host_told, begins, begins_there}

-- A host that begins with fresh records and makes the calls of the first run keeps every premise. It sends the PDUs of
-- that run, facks among them, sees one dispatch, of the whole request, is told complete once, and reads the whole reply.
pub host_lossy : (message reply client_memory server_memory slots_of_client slots_of_server out : List ℕ)
    → length message ≡ 2785 → length reply ≡ 2786 → length client_memory ≡ 272 → length server_memory ≡ 272
    → length slots_of_client ≡ slots_size → length slots_of_server ≡ slots_size → length out ≡ pdu_size
    → Octets message → Octets reply → Octets out
    → HostRan (beginning client_memory server_memory slots_of_client slots_of_server)
    (calls_for (events_of (lossy message reply out))) (numbers_of (lossy message reply out))
    (lossy_client_pdus message reply out) (lossy_server_pdus message reply out)
    (record { ordinal = 0; number = 0; call = called; bytes = message } ∷ [])
    (record { ordinal = 0; bytes = reply } ∷ []) reply
host_lossy message reply client_memory server_memory slots_of_client slots_of_server out asks replies client_whole server_whole
    client_room server_room room asked_bytes replied_bytes out_bytes =
    host_ran (beginning client_memory server_memory slots_of_client slots_of_server) _ (lossy message reply out)
    (begins client_memory server_memory slots_of_client slots_of_server client_whole server_whole)
    (begins_there client_memory server_memory slots_of_client slots_of_server client_whole server_whole)
    (lossy_fits message reply out asked_bytes replied_bytes out_bytes) _ _ _ _ _ _ reply
    (lossy_ran message reply slots_of_client slots_of_server out asks replies client_room server_room room)

-- It reads the notices of that run, and no cancel is called for or told.
pub host_lossy_told : (message reply client_memory server_memory slots_of_client slots_of_server out : List ℕ)
    → length message ≡ 2785 → length reply ≡ 2786 → length client_memory ≡ 272 → length server_memory ≡ 272
    → length slots_of_client ≡ slots_size → length slots_of_server ≡ slots_size → length out ≡ pdu_size
    → Octets message → Octets reply → Octets out
    → HostTold (beginning client_memory server_memory slots_of_client slots_of_server)
    (calls_for (events_of (lossy message reply out))) lossy_notices [] []
host_lossy_told message reply client_memory server_memory slots_of_client slots_of_server out asks replies client_whole server_whole
    client_room server_room room asked_bytes replied_bytes out_bytes =
    host_told (beginning client_memory server_memory slots_of_client slots_of_server) _ (lossy message reply out)
    (begins client_memory server_memory slots_of_client slots_of_server client_whole server_whole)
    (begins_there client_memory server_memory slots_of_client slots_of_server client_whole server_whole)
    (lossy_fits message reply out asked_bytes replied_bytes out_bytes) _ _ _ _
    (lossy_told message reply slots_of_client slots_of_server out asks replies client_room server_room room)

-- So it is of the bytes written out in crate runs, and of memory that holds zeros.
pub zeros_long : (n : ℕ) → length (zeros n) ≡ n
unfolding zeros
zeros_long n = length-replicate n 0

pub zeros_octets : (n : ℕ) → Octets (zeros n)
unfolding zeros
zeros_octets n = octets_same n 0 (omega arith)

message_octets : Octets example_message
unfolding example_message
message_octets =
    octets_three (replicate body_size 10) (replicate body_size 20) (30 ∷ []) (octets_same body_size 10 (omega arith))
    (octets_same body_size 20 (omega arith)) (omega arith)

reply_octets : Octets example_reply
unfolding example_reply
reply_octets =
    octets_three (replicate body_size 40) (replicate body_size 50) (60 ∷ 70 ∷ []) (octets_same body_size 40 (omega arith))
    (octets_same body_size 50 (omega arith)) (omega arith)

pub host_example :
    HostRan (beginning (zeros 272) (zeros 272) (zeros slots_size) (zeros slots_size))
    (calls_for (events_of (lossy example_message example_reply (zeros pdu_size))))
    (numbers_of (lossy example_message example_reply (zeros pdu_size)))
    (lossy_client_pdus example_message example_reply (zeros pdu_size)) (lossy_server_pdus example_message example_reply (zeros pdu_size))
    (record { ordinal = 0; number = 0; call = called; bytes = example_message } ∷ [])
    (record { ordinal = 0; bytes = example_reply } ∷ []) example_reply
host_example =
    host_lossy example_message example_reply (zeros 272) (zeros 272) (zeros slots_size) (zeros slots_size) (zeros pdu_size)
    (unfold example_message in refl) (unfold example_reply in refl) (zeros_long 272) (zeros_long 272) (zeros_long slots_size)
    (zeros_long slots_size) (zeros_long pdu_size) message_octets reply_octets (zeros_octets pdu_size)

-- Of that host demand 3 holds.
pub example_demanded :
    HostDemand (beginning (zeros 272) (zeros 272) (zeros slots_size) (zeros slots_size))
    (calls_for (events_of (lossy example_message example_reply (zeros pdu_size))))
example_demanded = host_demand _ host_example.fresh _ host_example.small host_example.fair
