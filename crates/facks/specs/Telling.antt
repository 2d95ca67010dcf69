-- What a fack tells its reader, and that a PDU is none.
use Rattle.std.specs.Prelude.{ℕ, ◌+◌, ◌<◌, true, List, ◌⊎◌, ◌≡◌, get_or}
use Rattle.words.specs.Bit.{bit}
use Rattle.answers.specs.Answer.{Done}
use Rattle.pdu.specs.Header.{body_of}
use Rattle.reader.specs.Reading.{reading}
use Rattle.bodies.specs.Fack.{FackReading, fack_reading}
use Rattle.calls.specs.Sent.{Sent, Nothing as Unsent, sent_bytes}
use Rattle.incoming.specs.declared.Incoming.{Incoming}
use Rattle.incoming.specs.Slots.{missing, contiguous}
use Rattle.facks.specs.Mask.{acknowledged_by, held_bit}

-- How many fragments a reader takes as acknowledged by a PDU, and what it reads in the body.
abbrev pub acknowledged_in : List ℕ → ℕ
acknowledged_in pdu = acknowledged_by (reading pdu).header.fragment

abbrev pub body_in : List ℕ → FackReading
body_in pdu = fack_reading (reading pdu).little (body_of pdu)

-- As a fack a PDU tells its reader what is held of a message. It is of that call, has that serial of its sender, and
-- answers that serial.
pub record TellsHeld (m : Incoming) (call serial answered : ℕ) (pdu : List ℕ) : Type 0 where
  -- It is accepted, its type is 9, and its body is well formed.
  pub accepted : (reading pdu).answer ≡ Done
  pub kind : (reading pdu).header.kind ≡ 9
  pub formed : (body_in pdu).answer ≡ Done
  pub number : (reading pdu).header.number ≡ call
  pub own : (reading pdu).header.serial ≡ serial
  -- It acknowledges as many fragments as are held without a gap from number 0 on,
  pub counted : acknowledged_in pdu ≡ contiguous m
  -- so each of those is held.
  pub below : (f : ℕ) → f < acknowledged_in pdu → (get_or m.slots f missing).held ≡ true
  -- Bit j of its mask is 1 exactly where the j-th fragment behind those is held.
  pub behind : (j : ℕ) → j < 32
      → bit j (body_in pdu).fack.mask ≡ held_bit (get_or m.slots (acknowledged_in pdu + j) missing).held
  pub answers : (body_in pdu).fack.serial ≡ answered

-- A PDU that is accepted, and is no fack.
pub record OtherType (pdu : List ℕ) : Type 0 where
  pub accepted : (reading pdu).answer ≡ Done
  pub kind : (reading pdu).header.kind ≡ 9 → ⊥

-- No fack goes out: nothing does, or such a PDU.
abbrev pub Unfacked : Sent → List ℕ → Type 0
Unfacked sent out = (sent ≡ Unsent) ⊎ OtherType (sent_bytes sent out)
