-- A record of either side in 272 bytes: numbers little-endian, each field at its fixed place.
use Rattle.std.specs.Prelude.{ℕ, Bool, true, List, [], ◌∷◌, ◌++◌, get_or, drop, replicate, eqb, ltb, leb}
use Rattle.words.specs.Choice.{both, either, mark_of}
use Rattle.words.specs.Number.{digits, number}
use Rattle.calls.specs.declared.Call.{Call}
use Rattle.incoming.specs.declared.Incoming.{Incoming}
use Rattle.incoming.specs.Last.{Last}
use Rattle.outgoing.specs.declared.Outgoing.{Outgoing}
use Rattle.timers.specs.Timer.{Timer}
use Rattle.record_bytes.specs.declared.Decoded.{Decoded}
use Rattle.record_bytes.specs.declared.Fields.{Fields}
use Rattle.record_bytes.specs.Parts.{timer_in, is_armed, timer_ticket, last_field, last_of, uuid_in, clear}
use Rattle.record_bytes.specs.Held.{slots_bytes, slots_in, slots_readable}

-- The length of a record.
abbrev pub record_size : ℕ
record_size = 272

-- The known last fits a byte, or is 65535: unknown.
unfoldable pub last_readable : ℕ → Bool
last_readable number = either (ltb number 256) (eqb number 65535)

-- The marks are 0 or 1: idempotent, and armed of the three timers.
unfoldable pub marks_readable : ℕ → ℕ → ℕ → ℕ → Bool
marks_readable idempotent first second third =
    both (leb idempotent 1) (both (leb first 1) (both (leb second 1) (leb third 1)))

-- The bytes that are spare on both sides are 0: 67, and 72 to 95.
unfoldable pub spares_readable : List ℕ → Bool
spares_readable s = both (eqb (get_or s 67 0) 0) (clear 24 (drop 72 s))

-- What makes bytes readable on both sides.
unfoldable pub readable : List ℕ → Bool
readable s =
    both (marks_readable (get_or s 1 0) (get_or s 64 0) (get_or s 65 0) (get_or s 66 0))
    (both (last_readable (number 2 true s 10))
    (both (spares_readable s)
    (slots_readable (drop 144 s))))

-- The call: idempotent at 1, object at 112, interface at 128, its version at 20, operation at 14.
unfoldable pub call_in : List ℕ → Call
call_in s = record {
  idempotent = eqb (get_or s 1 0) 1;
  object = uuid_in s 112;
  interface = uuid_in s 128;
  version = number 4 true s 20;
  operation = number 2 true s 14;
}

-- The message sent: its length at 24, fragment count, sent and acknowledged at 4, 6 and 8, serial at 12.
unfoldable pub outgoing_in : List ℕ → Outgoing
outgoing_in s = record {
  length = number 4 true s 24;
  count = number 2 true s 4;
  sent = number 2 true s 6;
  acknowledged = number 2 true s 8;
  serial = number 2 true s 12;
}

-- The message received: its slots from 144 on, the known last at 10.
unfoldable pub incoming_in : List ℕ → Incoming
incoming_in s = record { slots = slots_in (drop 144 s); last = last_of (number 2 true s 10) }

-- What stands in the bytes of a record.
unfoldable pub fields_in : List ℕ → Fields
fields_in s = record {
  state = get_or s 0 0;
  count = get_or s 2 0;
  extra = get_or s 3 0;
  activity = uuid_in s 96;
  number = number 4 true s 16;
  boot = number 4 true s 28;
  call = call_in s;
  outgoing = outgoing_in s;
  incoming = incoming_in s;
  tickets = number 8 true s 32;
  timer = timer_in s 64 40;
  armed = eqb (get_or s 65 0) 1;
  word = number 8 true s 48;
  cancel = timer_in s 66 56;
  cancels = number 4 true s 68;
}

-- The same with what a side needs to tell whether bytes are readable: what is asked on both sides, and, as they stand,
-- the marks of the second and the third timer and the third's ticket.
unfoldable pub decoded_in : List ℕ → Decoded
decoded_in s = record {
  readable = readable s;
  second = get_or s 65 0;
  third = get_or s 66 0;
  ticket = number 8 true s 56;
  fields = fields_in s;
}

-- Bytes 0 to 15: state, idempotent, two counts; fragment count, sent, acknowledged; known last, serial, operation.
abbrev pub record_front : ℕ → ℕ → ℕ → Call → Outgoing → Last → List ℕ
record_front state count extra call outgoing last =
    state
    ∷ (mark_of call.idempotent
    ∷ (count
    ∷ (extra
    ∷ (digits 2 outgoing.count
    ++ (digits 2 outgoing.sent
    ++ (digits 2 outgoing.acknowledged
    ++ (digits 2 (last_field last)
    ++ (digits 2 outgoing.serial
    ++ digits 2 call.operation))))))))

-- Bytes 16 to 31: number, interface version, message length, boot.
abbrev pub record_numbers : ℕ → ℕ → ℕ → ℕ → List ℕ
record_numbers number version length boot = digits 4 number ++ (digits 4 version ++ (digits 4 length ++ digits 4 boot))

-- Bytes 64 to 67: whether each timer is armed, and a spare byte.
abbrev pub mark_bytes : Timer → Bool → Timer → List ℕ
mark_bytes timer armed cancel = mark_of (is_armed timer) ∷ (mark_of armed ∷ (mark_of (is_armed cancel) ∷ (0 ∷ [])))

-- Bytes 56 to 95: the third timer's ticket, the marks, the cancel number, 24 spare bytes.
abbrev pub record_back : Timer → Bool → Timer → ℕ → List ℕ
record_back timer armed cancel cancels =
    digits 8 (timer_ticket cancel) ++ (mark_bytes timer armed cancel ++ (digits 4 cancels ++ replicate 24 0))

-- Ten parts, one behind the other: the ticket counter is bytes 32 to 39, the first timer's ticket 40 to 47, the
-- second's, at a server the status, 48 to 55, the UUIDs are 96 to 143, the slots the rest.
abbrev pub laid_bytes
    : List ℕ → List ℕ → List ℕ → List ℕ → List ℕ → List ℕ → List ℕ → List ℕ → List ℕ → List ℕ → List ℕ
laid_bytes front numbers tickets first second back activity object interface held =
    front ++ (numbers ++ (tickets ++ (first ++ (second ++ (back ++ (activity ++ (object ++ (interface ++ held))))))))

-- The 272 bytes of a record.
unfoldable pub field_bytes : Fields → List ℕ
field_bytes f =
    laid_bytes
    (record_front f.state f.count f.extra f.call f.outgoing f.incoming.last)
    (record_numbers f.number f.call.version f.outgoing.length f.boot)
    (digits 8 f.tickets)
    (digits 8 (timer_ticket f.timer))
    (digits 8 f.word)
    (record_back f.timer f.armed f.cancel f.cancels)
    f.activity
    f.call.object
    f.call.interface
    (slots_bytes f.incoming.slots)
