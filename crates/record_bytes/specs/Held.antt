-- The fragments held, four bytes a slot: a length of two, held, and a spare byte.
use Rattle.std.specs.Prelude.{ℕ, zero, suc, ◌+◌, ◌*◌, Bool, true, List, [], ◌∷◌, ◌++◌, get_or, set, replicate, eqb, leb}
use Rattle.words.specs.Choice.{choose, both, mark_of}
use Rattle.words.specs.Number.{digits, number}
use Rattle.words.specs.Sizes.{window_size}
use Rattle.incoming.specs.declared.Slot.{Slot}
use Rattle.incoming.specs.Slots.{missing}

-- The length of a missing fragment is not judged, and written 0.
unfoldable pub length_where : Bool → ℕ → ℕ
length_where held length = choose held length 0

-- The bytes of a slot, and of slots one behind the other.
abbrev pub slot_bytes : Bool → ℕ → List ℕ
slot_bytes held length = digits 2 (length_where held length) ++ (mark_of held ∷ (0 ∷ []))

abbrev pub slots_bytes : List Slot → List ℕ
slots_bytes [] = []
slots_bytes (s ∷ ss) = slot_bytes s.held s.length ++ slots_bytes ss

-- A slot by its mark, held where that is 1, and its length; and fragment f's slot.
unfoldable pub slot_of : ℕ → ℕ → Slot
slot_of mark length = record { held = eqb mark 1; length = length_where (eqb mark 1) length }

unfoldable pub slot_in : List ℕ → ℕ → Slot
slot_in s f = slot_of (get_or s (4 * f + 2) 0) (number 2 true s (4 * f))

-- The slots of which the first n are as they stand in s, and the others missing.
unfoldable pub slots_below : List ℕ → ℕ → List Slot
slots_below s zero = replicate window_size missing
slots_below s (suc n) = set (slots_below s n) n (slot_in s n)

unfoldable pub slots_in : List ℕ → List Slot
slots_in s = slots_below s window_size

-- Fragment f's mark is 0 or 1, and its spare byte 0.
unfoldable pub slot_readable : List ℕ → ℕ → Bool
slot_readable s f = both (leb (get_or s (4 * f + 2) 0) 1) (eqb (get_or s (4 * f + 3) 0) 0)

unfoldable pub readable_below : List ℕ → ℕ → Bool
readable_below s zero = true
readable_below s (suc n) = both (readable_below s n) (slot_readable s n)

unfoldable pub slots_readable : List ℕ → Bool
slots_readable s = readable_below s window_size
