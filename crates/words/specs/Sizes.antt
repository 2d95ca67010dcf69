-- Sizes and limits of the protocol, each by its one name; src/sizes.rt has the same for code.
use Rattle.std.specs.Prelude.{ℕ}

-- The bytes of a header.
abbrev pub header_size : ℕ
header_size = 80

-- The bytes of a body at most. Every fragment of a message that is sent but the last has as many.
abbrev pub body_size : ℕ
body_size = 1392

-- The bytes of a PDU at most, and of the buffer that is lent for one.
abbrev pub pdu_size : ℕ
pdu_size = 1472

-- The slots of a record: so many fragments can be held at a time.
abbrev pub window_size : ℕ
window_size = 32

-- The bytes of a slot buffer, exactly: room for a body in each slot.
abbrev pub slots_size : ℕ
slots_size = 44544

-- The highest number of a fragment; a message has at most one fragment more.
abbrev pub last_number : ℕ
last_number = 31

-- The bytes of a message at most.
abbrev pub message_size : ℕ
message_size = 44544

-- So often a timer tries again, and a call is sent again, before it is given up.
abbrev pub retry_limit : ℕ
retry_limit = 5
