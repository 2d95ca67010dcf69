-- The client's record in 272 bytes, and back.
use Rattle.std.specs.Prelude.{ℕ, Bool, List, get_or, drop, eqb, leb}
use Rattle.words.specs.Choice.{choose, both}
use Rattle.record_bytes.specs.declared.Decoded.{Decoded}
use Rattle.record_bytes.specs.declared.Fields.{Fields}
use Rattle.record_bytes.specs.Parts.{timer_where, is_armed, timer_ticket, clear, count_where}
use Rattle.record_bytes.specs.Layout.{readable as shared_readable, fields_in, field_bytes}
use Rattle.client.specs.declared.records.State.{State}
use Rattle.client.specs.declared.records.State.TheVariants.{Queued, SendFrags, Dispatched, ReceiveFrags, AckPending, Complete, Fault}
use Rattle.client.specs.declared.records.Client.{Client}

-- The state that a number stands for, and the number of a state. A number above 6 is no state's: what is judged
-- before 2 takes it for one without a row.
unfoldable pub state_of : ℕ → State
state_of number =
    choose (eqb number 0) Queued
    (choose (eqb number 1) SendFrags
    (choose (eqb number 2) Dispatched
    (choose (eqb number 3) ReceiveFrags
    (choose (eqb number 4) AckPending
    (choose (eqb number 5) Complete
    Fault)))))

abbrev pub state_number : State → ℕ
state_number Queued = 0
state_number SendFrags = 1
state_number Dispatched = 2
state_number ReceiveFrags = 3
state_number AckPending = 4
state_number Complete = 5
state_number Fault = 6

-- Readable: a state that is listed, no boot, and what both sides ask.
unfoldable pub readable : List ℕ → Bool
readable s = both (leb (get_or s 0 0) 6) (both (clear 4 (drop 28 s)) (shared_readable s))

-- The same by what is decoded of bytes: there is no boot where its number is 0.
unfoldable pub readable_by : Decoded → Bool
readable_by d = both (leb d.fields.state 6) (both (eqb d.fields.boot 0) d.readable)

-- The record of what stands in bytes.
unfoldable pub client_of : Bool → Fields → Client
client_of readable f = record {
  state = state_of f.state;
  activity = f.activity;
  number = f.number;
  call = f.call;
  outgoing = f.outgoing;
  incoming = f.incoming;
  waits = count_where readable f.count;
  resends = f.extra;
  cancels = f.cancels;
  tickets = f.tickets;
  wait = f.timer;
  ack = timer_where f.armed f.word;
  cancel = f.cancel;
}

-- The record that bytes stand for.
unfoldable pub client_in : List ℕ → Client
client_in s = client_of (readable s) (fields_in s)

-- What the bytes of a record hold.
unfoldable pub fields_of : Client → Fields
fields_of c = record {
  state = state_number c.state;
  count = c.waits;
  extra = c.resends;
  activity = c.activity;
  number = c.number;
  boot = 0;
  call = c.call;
  outgoing = c.outgoing;
  incoming = c.incoming;
  tickets = c.tickets;
  timer = c.wait;
  armed = is_armed c.ack;
  word = timer_ticket c.ack;
  cancel = c.cancel;
  cancels = c.cancels;
}

-- The bytes of a record.
unfoldable pub bytes_of_client : Client → List ℕ
bytes_of_client c = field_bytes (fields_of c)
