-- What each exported function of the server gives and leaves, over bytes: the event's own definition of the record
-- that the bytes stand for.
use Rattle.std.specs.Prelude.{ℕ, List, [], length, eqb}
use Rattle.words.specs.Choice.{choose, both}
use Rattle.words.specs.Place.{placed}
use Rattle.calls.specs.Events.{Step, Arrival}
use Rattle.record_bytes.specs.Parts.{uuid_in}
use Rattle.server.specs.declared.records.Server.{Server}
use Rattle.server.specs.records.Record.{fresh}
use Rattle.server.specs.records.Rules.{sound}
use Rattle.server.specs.Outcome.{Outcome}
use Rattle.server.specs.Machine.{replying, transmitting, timing, faulting, arriving, handed_up_of}
use Rattle.server_bytes.specs.Layout.{server_in, bytes_of_server}
use Rattle.morphelai.specs.Result.{result_of}
use Rattle.morphelai.specs.Export.{Export, sized, refusing, kept_bytes, other_kind}

-- What an event gives back, and the record's bytes after it.
unfoldable pub server_result : Outcome → ℕ
server_result o = result_of o.answer o.notice o.sent

unfoldable pub server_kept : Outcome → List ℕ → List ℕ
server_kept o bytes = kept_bytes o.answer (bytes_of_server o.machine) bytes

abbrev pub server_given : Outcome → List ℕ → List ℕ → List ℕ → Export
server_given o bytes slots out = record { result = server_result o; bytes = server_kept o bytes; slots = slots; out = out }

abbrev pub server_stepped : Step Outcome → List ℕ → Export
server_stepped s bytes = server_given s.outcome bytes [] s.out

abbrev pub server_arrived : Arrival Outcome → List ℕ → Export
server_arrived a bytes = server_given a.outcome bytes a.slots a.out

-- morphelai_server_fresh: the bytes of a fresh record.
unfoldable pub server_fresh : List ℕ → List ℕ → ℕ → ℕ → Export
server_fresh bytes activity boot tickets =
    choose (both (sized bytes) (eqb (length activity) 16))
    (record {
      result = 0;
      bytes = placed 0 (bytes_of_server (fresh (uuid_in activity 0) boot tickets)) bytes;
      slots = [];
      out = [];
    })
    (refusing bytes [] [])

-- morphelai_server_arrive.
unfoldable pub server_arrive : List ℕ → List ℕ → List ℕ → List ℕ → Export
server_arrive bytes datagram slots out =
    choose (sized bytes) (server_arrived (arriving (server_in bytes) datagram slots out) bytes) (refusing bytes slots out)

-- morphelai_server_transmit.
unfoldable pub server_transmit : List ℕ → List ℕ → List ℕ → Export
server_transmit bytes message out =
    choose (sized bytes) (server_stepped (transmitting (server_in bytes) message out) bytes) (refusing bytes [] out)

-- A timer by its kind: 3 is RESEND.
unfoldable pub server_timing : Server → ℕ → ℕ → List ℕ → List ℕ → Export
server_timing s kind ticket bytes out =
    choose (eqb kind 3) (server_stepped (timing s ticket out) bytes) (other_kind (sound s) bytes [] out)

-- morphelai_server_timer.
unfoldable pub server_timer : List ℕ → ℕ → ℕ → List ℕ → Export
server_timer bytes kind ticket out =
    choose (sized bytes) (server_timing (server_in bytes) kind ticket bytes out) (refusing bytes [] out)

-- morphelai_server_reply, with the length of the message.
unfoldable pub server_reply : List ℕ → ℕ → Export
server_reply bytes length =
    choose (sized bytes) (server_given (replying (server_in bytes) length) bytes [] []) (refusing bytes [] [])

-- morphelai_server_fault.
unfoldable pub server_fault : List ℕ → ℕ → List ℕ → Export
server_fault bytes status out =
    choose (sized bytes) (server_stepped (faulting (server_in bytes) status out) bytes) (refusing bytes [] out)

-- morphelai_server_part: how many bytes are handed up of that fragment.
unfoldable pub server_part : List ℕ → ℕ → List ℕ → ℕ
server_part bytes f slots = choose (sized bytes) (length (handed_up_of (server_in bytes) f slots)) 0
