-- What the machines make of a record's parts keeps their widths.
use Prim.Native.Nat.{ℕ, zero, suc, ◌+◌, ◌≤◌, ◌<◌}
use mathlib.Core.Bool.{Bool, true, false}
use mathlib.Core.List.{List, [], ◌∷◌}
use mathlib.Core.Path.{◌≡◌, refl, ◌∙◌}
use native.Mathlib.Omega.{arith}
use lib.Dec.{ltb, eqb}
use lib.ListN.{replicate, set, length-set}
use borrow.Author.Tests.{ltb-true, eqb-false}
use Rattle.words.specs.Choice.{choose}
use Rattle.words.specs.Sizes.{window_size}
use Rattle.calls.specs.Sent.{blank_call}
use Rattle.incoming.specs.declared.Slot.{Slot}
use Rattle.incoming.specs.declared.Incoming.{Incoming}
use Rattle.incoming.specs.Slots.{cleared, slots_with, last_with, stored}
use Rattle.outgoing.specs.declared.Outgoing.{Outgoing}
use Rattle.outgoing.specs.Message.{fragments}
use Rattle.outgoing.specs.Sending.{next_serial, sent_more, after_send, after_ping, in_field, acknowledged_to, first_to_send, rewound, message_of, started_message, replied, no_message}
use Rattle.timers.specs.Timer.{Timer, Off, Armed}
use Rattle.timers.specs.Tickets.{used_up, next_ticket, armed_afresh, armed_if_off, tickets_if_off}
use Rattle.record_bytes.specs.Fits.{Uuid, FitsCall, FitsOutgoing, FitsLast, FitsSlots, FitsIncoming, FitsTimer}
use Rattle.record_bytes.proofs.ByteLaws.{octets_zeros}

-- What holds of both ways holds of a choice between them, each known to be taken only by its test.
pub choice_by : {A : Type 0} (P : A → Type 0) (test : Bool) (a b : A)
    → (test ≡ true → P a) → (test ≡ false → P b) → P (choose test a b)
unfolding choose
choice_by P true a b h k = h refl
choice_by P false a b h k = k refl

pub choice_keeps : {A : Type 0} (P : A → Type 0) (test : Bool) (a b : A) → P a → P b → P (choose test a b)
choice_keeps P test a b h k = choice_by P test a b (λ (e : test ≡ true). h) (λ (e : test ≡ false). k)

-- The serial, and counts.
serial_fits : (serial : ℕ) → next_serial serial < 65536
unfolding next_serial
serial_fits serial = omega arith

more_fits : (sent : ℕ) → sent < 65536 → sent_more sent < 65536
unfolding sent_more
more_fits sent h =
    choice_by (λ (n : ℕ). n < 65536) (ltb sent 65535) (sent + 1) sent
    (λ (e : ltb sent 65535 ≡ true). omega (arith, ltb-true sent 65535 e)) (λ (e : ltb sent 65535 ≡ false). h)

field_fits : (count : ℕ) → in_field count < 65536
unfolding in_field
field_fits count =
    choice_by (λ (n : ℕ). n < 65536) (ltb count 65535) count 65535
    (λ (e : ltb count 65535 ≡ true). omega (arith, ltb-true count 65535 e)) (λ (e : ltb count 65535 ≡ false). omega arith)

-- The message sent: after the next fragment,
module _ (o : Outgoing) (fits : FitsOutgoing o) where
  pub after_send_fits : FitsOutgoing (after_send o)
  unfolding after_send
  after_send_fits = record {
    length = fits.length;
    count = fits.count;
    sent = more_fits o.sent fits.sent;
    acknowledged = fits.acknowledged;
    serial = serial_fits o.serial;
  }

  -- a ping,
  pub after_ping_fits : FitsOutgoing (after_ping o)
  unfolding after_ping
  after_ping_fits = record {
    length = fits.length;
    count = fits.count;
    sent = fits.sent;
    acknowledged = fits.acknowledged;
    serial = serial_fits o.serial;
  }

  -- an acknowledgement
  pub acknowledged_fits : (number : ℕ) → number ≤ o.count → FitsOutgoing (acknowledged_to o number)
  unfolding acknowledged_to
  acknowledged_fits number most = record {
    length = fits.length;
    count = fits.count;
    sent = fits.sent;
    acknowledged = omega (arith, fits.acknowledged, fits.count);
    serial = fits.serial;
  }

  -- and where it goes out again.
  pub rewound_fits : FitsOutgoing (rewound o)
  unfolding rewound first_to_send
  rewound_fits = record {
    length = fits.length;
    count = fits.count;
    sent =
        choice_keeps (λ (n : ℕ). n < 65536) (ltb o.acknowledged o.count) o.acknowledged 0 fits.acknowledged
        (omega arith);
    acknowledged = fits.acknowledged;
    serial = fits.serial;
  }

-- A new message: of a start,
message_fits : (n serial : ℕ) → n < 4294967296 → serial < 65536 → FitsOutgoing (message_of n serial)
unfolding message_of
message_fits n serial short small = record {
  length = short;
  count = field_fits (fragments n);
  sent = omega arith;
  acknowledged = omega arith;
  serial = small;
}

pub started_fits : (n : ℕ) → n < 4294967296 → FitsOutgoing (started_message n)
unfolding started_message
started_fits n short = message_fits n 0 short (omega arith)

-- of a reply; and none.
pub replied_fits : (o : Outgoing) (n : ℕ) → FitsOutgoing o → n < 4294967296 → FitsOutgoing (replied o n)
unfolding replied
replied_fits o n fits short = message_fits n o.serial short fits.serial

pub no_message_fits : FitsOutgoing (no_message 0)
unfolding no_message
no_message_fits = record {
  length = omega arith;
  count = omega arith;
  sent = omega arith;
  acknowledged = omega arith;
  serial = omega arith;
}

-- The message received: nothing held,
pub cleared_fits : FitsIncoming cleared
unfolding cleared
cleared_fits = record { size = refl; slots = none window_size; last = tt }
  where
    none : (n : ℕ) → FitsSlots (replicate n (record { held = false; length = 0 }))
    none zero = tt
    none (suc n) = (refl, none n)

-- and a fragment put.
set_fits : (slots : List Slot) (f n : ℕ) → FitsSlots slots → n < 65536
    → FitsSlots (set slots f (record { held = true; length = n }))
set_fits [] f n fits short = tt
set_fits (s ∷ ss) zero n fits short = (short, fits.1)
set_fits (s ∷ ss) (suc f) n fits short = (fits.0, set_fits ss f n fits.1 short)

pub stored_fits : (m : Incoming) (f n : ℕ) (is_last : Bool) → FitsIncoming m → f < 256 → n < 65536
    → FitsIncoming (stored m f n is_last)
unfolding stored slots_with last_with
stored_fits m f n is_last fits low short = record {
  size = length-set m.slots f (record { held = true; length = n }) ∙ fits.size;
  slots = set_fits m.slots f n fits.slots short;
  last = choice_keeps FitsLast is_last _ m.last low fits.last;
}

-- Tickets.
pub next_ticket_fits : (tickets : ℕ) → tickets < 18446744073709551616 → next_ticket tickets < 18446744073709551616
unfolding next_ticket used_up
next_ticket_fits tickets h =
    choice_by (λ (n : ℕ). n < 18446744073709551616) (eqb tickets 18446744073709551615) tickets (tickets + 1)
    (λ (e : eqb tickets 18446744073709551615 ≡ true). h)
    (λ (e : eqb tickets 18446744073709551615 ≡ false). omega (arith, eqb-false tickets 18446744073709551615 e))

pub armed_fits : (tickets : ℕ) → tickets < 18446744073709551616 → FitsTimer (armed_afresh tickets)
unfolding armed_afresh
armed_fits tickets h = next_ticket_fits tickets h

-- A timer that is armed if it is off, and the counter then.
pub armed_if_off_fits : (timer : Timer) (tickets : ℕ) → FitsTimer timer → tickets < 18446744073709551616
    → FitsTimer (armed_if_off timer tickets)
unfolding armed_if_off
armed_if_off_fits Off tickets fits h = armed_fits tickets h
armed_if_off_fits (Armed ticket) tickets fits h = fits

pub tickets_if_off_fits : (timer : Timer) (tickets : ℕ) → tickets < 18446744073709551616
    → tickets_if_off timer tickets < 18446744073709551616
unfolding tickets_if_off
tickets_if_off_fits Off tickets h = next_ticket_fits tickets h
tickets_if_off_fits (Armed ticket) tickets h = h

-- The UUID and the call of a record that has none.
pub blank-uuid : Uuid (replicate 16 0)
blank-uuid = record { size = refl; octets = octets_zeros 16 }

pub blank_call_fits : FitsCall blank_call
unfolding blank_call
blank_call_fits = record { object = blank-uuid; interface = blank-uuid; version = omega arith; operation = omega arith }
