-- What the bytes of a record hold, as bytes and back, is what it was; and those bytes are 272, and readable.
use Prim.Native.Nat.{ℕ}
use mathlib.Core.Bool.{true}
use mathlib.Core.List.{List, ◌++◌}
use mathlib.Core.Path.{◌≡◌, subst}
use native.Mathlib.Omega.{arith}
use lib.ListN.{length, drop, replicate}
use Rattle.words.specs.Choice.{choose, both}
use Rattle.words.specs.Number.{digits, part, number}
use Rattle.words.proofs.Number.{value-bytes, part_all}
use Rattle.words.proofs.Tests.{both_hold}
use Rattle.record_bytes.specs.declared.Fields.{Fields}
use Rattle.record_bytes.specs.Fits.{Octets, FitsFields}
use Rattle.record_bytes.specs.Canonical.{TicketClear, LengthsClear}
use Rattle.record_bytes.specs.Parts.{is_armed, timer_ticket, last_field, clear}
use Rattle.record_bytes.specs.Held.{slots_bytes}
use Rattle.record_bytes.specs.Layout.{marks_readable, spares_readable, readable}
use Rattle.record_bytes.specs.Layout.{call_in, outgoing_in, incoming_in, fields_in}
use Rattle.record_bytes.specs.Layout.{record_front, record_numbers, mark_bytes, record_back, field_bytes}
use Rattle.record_bytes.proofs.ByteLaws.{octets_three, octets_four, octets_digits, octets_zeros}
use Rattle.record_bytes.proofs.HeldLaws.{length-slots}
use Rattle.record_bytes.proofs.Laying.{octets_laid}
use Rattle.record_bytes.proofs.PartLaws.{mark-back, mark-readable, mark_small, timer-back, ticket-clear}
use Rattle.record_bytes.proofs.PartLaws.{last-back, last-readable, uuid-part}
use Rattle.record_bytes.proofs.SlotLaws.{slots-back, slots-readable, lengths_clear, octets_slots}

-- The same fields, their UUIDs written out byte by byte, so that their bytes compute.
spelled : Fields → Fields
spelled f = record {
  state = f.state;
  count = f.count;
  extra = f.extra;
  activity = part 16 f.activity 0;
  number = f.number;
  boot = f.boot;
  call = record {
    idempotent = f.call.idempotent;
    object = part 16 f.call.object 0;
    interface = part 16 f.call.interface 0;
    version = f.call.version;
    operation = f.call.operation;
  };
  outgoing = f.outgoing;
  incoming = f.incoming;
  tickets = f.tickets;
  timer = f.timer;
  armed = f.armed;
  word = f.word;
  cancel = f.cancel;
  cancels = f.cancels;
}

-- Three of the ten parts that its bytes are, the first without its first four bytes too.
abbrev front_of : Fields → List ℕ
front_of f = record_front f.state f.count f.extra f.call f.outgoing f.incoming.last

abbrev counts_of : Fields → List ℕ
counts_of f = drop 4 (front_of f)

abbrev numbers_of : Fields → List ℕ
numbers_of f = record_numbers f.number f.call.version f.outgoing.length f.boot

abbrev back_of : Fields → List ℕ
back_of f = record_back f.timer f.armed f.cancel f.cancels

module _ (f : Fields) (fits : FitsFields f) where
  spelled_same : spelled f ≡ f
  unfolding spelled
  spelled_same = λ i. record {
    state = f.state;
    count = f.count;
    extra = f.extra;
    activity = part_all 16 f.activity fits.activity.size i;
    number = f.number;
    boot = f.boot;
    call = record {
      idempotent = f.call.idempotent;
      object = part_all 16 f.call.object fits.call.object.size i;
      interface = part_all 16 f.call.interface fits.call.interface.size i;
      version = f.call.version;
      operation = f.call.operation;
    };
    outgoing = f.outgoing;
    incoming = f.incoming;
    tickets = f.tickets;
    timer = f.timer;
    armed = f.armed;
    word = f.word;
    cancel = f.cancel;
    cancels = f.cancels;
  }

  size_spelled : length (field_bytes (spelled f)) ≡ 272
  unfolding field_bytes spelled
  size_spelled =
      let held : length (slots_bytes f.incoming.slots) ≡ 128 =
      omega (arith, length-slots f.incoming.slots, fits.incoming.size) in
      omega arith

  back_spelled : fields_in (field_bytes (spelled f)) ≡ spelled f
  unfolding fields_in call_in outgoing_in incoming_in field_bytes spelled number
  back_spelled = λ i. record {
    state = f.state;
    count = f.count;
    extra = f.extra;
    activity = uuid-part (field_bytes (spelled f)) 96 (omega (arith, size_spelled)) i;
    number = value-bytes 4 true f.number fits.number i;
    boot = value-bytes 4 true f.boot fits.boot i;
    call = record {
      idempotent = mark-back f.call.idempotent i;
      object = uuid-part (field_bytes (spelled f)) 112 (omega (arith, size_spelled)) i;
      interface = uuid-part (field_bytes (spelled f)) 128 (omega (arith, size_spelled)) i;
      version = value-bytes 4 true f.call.version fits.call.version i;
      operation = value-bytes 2 true f.call.operation fits.call.operation i;
    };
    outgoing = record {
      length = value-bytes 4 true f.outgoing.length fits.outgoing.length i;
      count = value-bytes 2 true f.outgoing.count fits.outgoing.count i;
      sent = value-bytes 2 true f.outgoing.sent fits.outgoing.sent i;
      acknowledged = value-bytes 2 true f.outgoing.acknowledged fits.outgoing.acknowledged i;
      serial = value-bytes 2 true f.outgoing.serial fits.outgoing.serial i;
    };
    incoming = record {
      slots = slots-back f.incoming.slots fits.incoming.size fits.incoming.slots i;
      last = last-back f.incoming.last fits.incoming.last i;
    };
    tickets = value-bytes 8 true f.tickets fits.tickets i;
    timer = timer-back f.timer fits.timer i;
    armed = mark-back f.armed i;
    word = value-bytes 8 true f.word fits.word i;
    cancel = timer-back f.cancel fits.cancel i;
    cancels = value-bytes 4 true f.cancels fits.cancels i;
  }

  readable_spelled : readable (field_bytes (spelled f)) ≡ true
  unfolding readable marks_readable spares_readable clear both choose field_bytes spelled number
  readable_spelled =
      both_hold _ _
      (both_hold _ _ (mark-readable f.call.idempotent)
      (both_hold _ _ (mark-readable (is_armed f.timer))
      (both_hold _ _ (mark-readable f.armed) (mark-readable (is_armed f.cancel)))))
      (both_hold _ _ (last-readable f.incoming.last fits.incoming.last)
      (slots-readable f.incoming.slots fits.incoming.size))

  pub bytes-readable : readable (field_bytes f) ≡ true
  bytes-readable = subst (λ (g : Fields). readable (field_bytes g) ≡ true) spelled_same readable_spelled

  pub length_fields : length (field_bytes f) ≡ 272
  length_fields = subst (λ (g : Fields). length (field_bytes g) ≡ 272) spelled_same size_spelled

  octets_counts : Octets (counts_of f)
  octets_counts =
      octets_four (digits 2 f.outgoing.count) (digits 2 f.outgoing.sent) (digits 2 f.outgoing.acknowledged)
      (digits 2 (last_field f.incoming.last) ++ (digits 2 f.outgoing.serial ++ digits 2 f.call.operation))
      (octets_digits 2 _) (octets_digits 2 _) (octets_digits 2 _)
      (octets_three (digits 2 (last_field f.incoming.last)) (digits 2 f.outgoing.serial)
      (digits 2 f.call.operation) (octets_digits 2 _) (octets_digits 2 _) (octets_digits 2 _))

  octets_front : Octets (front_of f)
  octets_front = (fits.state, (mark_small f.call.idempotent, (fits.count, (fits.extra, octets_counts))))

  octets_numbers : Octets (numbers_of f)
  octets_numbers =
      octets_four (digits 4 f.number) (digits 4 f.call.version) (digits 4 f.outgoing.length)
      (digits 4 f.boot) (octets_digits 4 _) (octets_digits 4 _) (octets_digits 4 _) (octets_digits 4 _)

  octets_marks : Octets (mark_bytes f.timer f.armed f.cancel)
  octets_marks =
      (mark_small (is_armed f.timer), (mark_small f.armed, (mark_small (is_armed f.cancel), (omega arith, tt))))

  octets_back : Octets (back_of f)
  octets_back =
      octets_four (digits 8 (timer_ticket f.cancel)) (mark_bytes f.timer f.armed f.cancel)
      (digits 4 f.cancels) (replicate 24 0) (octets_digits 8 _) octets_marks (octets_digits 4 _) (octets_zeros 24)

  pub octets_fields : Octets (field_bytes f)
  unfolding field_bytes
  octets_fields =
      octets_laid (front_of f) (numbers_of f) (digits 8 f.tickets) (digits 8 (timer_ticket f.timer))
      (digits 8 f.word) (back_of f) f.activity f.call.object f.call.interface
      (slots_bytes f.incoming.slots)
      octets_front octets_numbers (octets_digits 8 _) (octets_digits 8 _) (octets_digits 8 _)
      octets_back fits.activity.octets fits.call.object.octets fits.call.interface.octets
      (octets_slots f.incoming.slots)

  -- What is not judged is written 0: the length of a slot that is not held, and the first and the third timer's ticket.
  pub slots-clear : LengthsClear (drop 144 (field_bytes f))
  unfolding field_bytes spelled
  slots-clear =
      subst (λ (g : Fields). LengthsClear (drop 144 (field_bytes g))) spelled_same (lengths_clear f.incoming.slots)

  pub timer-clear : TicketClear 64 40 (field_bytes f)
  unfolding field_bytes number
  timer-clear e = ticket-clear f.timer e

  pub cancel-clear : TicketClear 66 56 (field_bytes f)
  unfolding field_bytes number
  cancel-clear e = ticket-clear f.cancel e

  pub fields_back : fields_in (field_bytes f) ≡ f
  fields_back = subst (λ (g : Fields). fields_in (field_bytes g) ≡ g) spelled_same back_spelled
