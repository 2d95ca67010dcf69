-- What each exported function of the client gives and leaves, over bytes: the event's own definition of the record
-- that the bytes stand for.
use Rattle.std.specs.Prelude.{ℕ, Bool, Option, Some, None, List, [], length, eqb, leb}
use Rattle.words.specs.Choice.{choose, both}
use Rattle.words.specs.Place.{placed}
use Rattle.calls.specs.declared.Call.{Call}
use Rattle.calls.specs.Events.{Step, Arrival}
use Rattle.record_bytes.specs.Parts.{uuid_in}
use Rattle.client.specs.declared.records.TimerKind.{TimerKind}
use Rattle.client.specs.declared.records.TimerKind.TheVariants.{Wait, Ack, Cancel}
use Rattle.client.specs.declared.records.Client.{Client}
use Rattle.client.specs.records.Record.{fresh}
use Rattle.client.specs.records.Rules.{sound}
use Rattle.client.specs.Outcome.{Outcome}
use Rattle.client.specs.Machine.{starting, transmitting, timing, cancelling, arriving, handed_up_of}
use Rattle.client_bytes.specs.Layout.{client_in, bytes_of_client}
use Rattle.morphelai.specs.Result.{result_of}
use Rattle.morphelai.specs.Export.{Export, sized, refusing, kept_bytes, other_kind}

-- What an event gives back, and the record's bytes after it.
unfoldable pub client_result : Outcome → ℕ
client_result o = result_of o.answer o.notice o.sent

unfoldable pub client_kept : Outcome → List ℕ → List ℕ
client_kept o bytes = kept_bytes o.answer (bytes_of_client o.machine) bytes

abbrev pub client_given : Outcome → List ℕ → List ℕ → List ℕ → Export
client_given o bytes slots out = record { result = client_result o; bytes = client_kept o bytes; slots = slots; out = out }

abbrev pub client_stepped : Step Outcome → List ℕ → Export
client_stepped s bytes = client_given s.outcome bytes [] s.out

abbrev pub client_arrived : Arrival Outcome → List ℕ → Export
client_arrived a bytes = client_given a.outcome bytes a.slots a.out

-- morphelai_client_fresh: the bytes of a fresh record.
unfoldable pub client_fresh : List ℕ → List ℕ → ℕ → Export
client_fresh bytes activity tickets =
    choose (both (sized bytes) (eqb (length activity) 16))
    (record {
      result = 0;
      bytes = placed 0 (bytes_of_client (fresh (uuid_in activity 0) tickets)) bytes;
      slots = [];
      out = [];
    })
    (refusing bytes [] [])

-- The call of a start.
unfoldable pub call_of : Bool → List ℕ → List ℕ → ℕ → ℕ → Call
call_of idempotent object interface version operation = record {
  idempotent = idempotent;
  object = uuid_in object 0;
  interface = uuid_in interface 0;
  version = version;
  operation = operation;
}

-- A start's record has 272 bytes, idempotent is 0 or 1, and its UUIDs have 16 bytes each.
unfoldable pub start_sized : List ℕ → ℕ → List ℕ → List ℕ → Bool
start_sized bytes idempotent object interface =
    both (sized bytes) (both (leb idempotent 1) (both (eqb (length object) 16) (eqb (length interface) 16)))

-- morphelai_client_start, with the length of the message.
unfoldable pub client_start : List ℕ → ℕ → List ℕ → List ℕ → ℕ → ℕ → ℕ → Export
client_start bytes idempotent object interface version operation length =
    choose (start_sized bytes idempotent object interface)
    (client_given
    (starting (client_in bytes) (call_of (eqb idempotent 1) object interface version operation) length)
    bytes [] [])
    (refusing bytes [] [])

-- morphelai_client_transmit.
unfoldable pub client_transmit : List ℕ → List ℕ → List ℕ → Export
client_transmit bytes message out =
    choose (sized bytes) (client_stepped (transmitting (client_in bytes) message out) bytes) (refusing bytes [] out)

-- morphelai_client_arrive.
unfoldable pub client_arrive : List ℕ → List ℕ → List ℕ → List ℕ → Export
client_arrive bytes datagram slots out =
    choose (sized bytes) (client_arrived (arriving (client_in bytes) datagram slots out) bytes) (refusing bytes slots out)

-- A timer by its kind: 1 is WAIT, 2 is ACK, 4 is CANCEL.
unfoldable pub client_timing : Client → ℕ → ℕ → List ℕ → List ℕ → Export
client_timing c kind ticket bytes out =
    choose (eqb kind 1) (client_stepped (timing c Wait ticket out) bytes)
    (choose (eqb kind 2) (client_stepped (timing c Ack ticket out) bytes)
    (choose (eqb kind 4) (client_stepped (timing c Cancel ticket out) bytes)
    (other_kind (sound c) bytes [] out)))

-- The same kinds, as the code reads them.
unfoldable pub timer_kind : ℕ → Option TimerKind
timer_kind kind =
    choose (eqb kind 1) (Some Wait)
    (choose (eqb kind 2) (Some Ack)
    (choose (eqb kind 4) (Some Cancel) None))

-- morphelai_client_timer.
unfoldable pub client_timer : List ℕ → ℕ → ℕ → List ℕ → Export
client_timer bytes kind ticket out =
    choose (sized bytes) (client_timing (client_in bytes) kind ticket bytes out) (refusing bytes [] out)

-- morphelai_client_cancel.
unfoldable pub client_cancel : List ℕ → List ℕ → Export
client_cancel bytes out =
    choose (sized bytes) (client_stepped (cancelling (client_in bytes) out) bytes) (refusing bytes [] out)

-- morphelai_client_part: how many bytes are handed up of that fragment.
unfoldable pub client_part : List ℕ → ℕ → List ℕ → ℕ
client_part bytes f slots = choose (sized bytes) (length (handed_up_of (client_in bytes) f slots)) 0
