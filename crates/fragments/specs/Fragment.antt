-- A request or response as a fragment of its message, and what is lent for one.
use Rattle.std.specs.Prelude.{ℕ, ◌%◌, Bool, not, List, ltb, eqb, length}
use Rattle.words.specs.Choice.{both, either}
use Rattle.words.specs.Sizes.{pdu_size, slots_size, last_number}
use Rattle.flags.specs.Flags.{last_fragment, fragment, no_fack, has_flag}

-- What is lent is right: a slot buffer has exactly 44,544 bytes, a PDU buffer 1,472.
unfoldable pub lent_right : ℕ → ℕ → Bool
lent_right slots out = both (eqb slots slots_size) (eqb out pdu_size)

-- On reading, last set or fragment clear means the last.
unfoldable pub is_last : ℕ → Bool
is_last flags1 = either (has_flag last_fragment flags1) (not (has_flag fragment flags1))

-- A fack is sent for what is put exactly when no fack is clear and fragment is set.
unfoldable pub wants_fack : ℕ → Bool
wants_fack flags1 = both (not (has_flag no_fack flags1)) (has_flag fragment flags1)

-- A number above 31, or fragment clear and a number not 0.
unfoldable pub wrong_fragment : ℕ → ℕ → Bool
wrong_fragment flags1 f = either (ltb last_number f) (both (not (has_flag fragment flags1)) (not (eqb f 0)))

-- The length of a body as a record keeps it, in a u16; that of an accepted datagram is at most 1,392.
abbrev pub body_length : List ℕ → ℕ
body_length body = length body % 65536
