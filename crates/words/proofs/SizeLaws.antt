-- The sizes are document 01's, and belong together as it says.
use Prim.Native.Nat.{◌+◌, ◌*◌}
use mathlib.Core.Path.{◌≡◌, refl}
use Rattle.words.specs.Sizes.{header_size, body_size, pdu_size, window_size, slots_size, last_number, message_size}

-- "PDU at most 1,472 bytes: header 80, body 0 to 1,392."
pub body_size_lem : body_size ≡ 1392
body_size_lem = refl

pub pdu_size_lem : pdu_size ≡ header_size + body_size
pdu_size_lem = refl

-- A slot buffer of exactly 44,544 bytes: a body for each slot.
pub slots_size_lem : slots_size ≡ window_size * body_size
slots_size_lem = refl

pub slots_exactly : slots_size ≡ 44544
slots_exactly = refl

-- A message of at most 44,544 bytes: a body for each number.
pub message_size_lem : message_size ≡ (last_number + 1) * body_size
message_size_lem = refl

pub message_most : message_size ≡ 44544
message_most = refl
