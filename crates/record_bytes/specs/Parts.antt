-- The parts of a record as numbers and bytes, and back; bytes past the end count as 0.
use Rattle.std.specs.Prelude.{ℕ, zero, suc, Bool, true, false, List, get_or, take, drop, replicate, eqb}
use Rattle.words.specs.Choice.{choose, both}
use Rattle.words.specs.Number.{number}
use Rattle.words.specs.Place.{placed}
use Rattle.incoming.specs.Last.{Last, Unknown, At}
use Rattle.timers.specs.Timer.{Timer, Off, Armed}

-- The timer with that ticket where it is armed.
unfoldable pub timer_where : Bool → ℕ → Timer
timer_where armed ticket = choose armed (Armed ticket) Off

-- The timer whose mark and ticket of 8 bytes stand in s at these places.
abbrev pub timer_in : List ℕ → ℕ → ℕ → Timer
timer_in s mark at = timer_where (eqb (get_or s mark 0) 1) (number 8 true s at)

-- Whether a timer is armed, and its ticket, 0 where none is.
abbrev pub is_armed : Timer → Bool
is_armed Off = false
is_armed (Armed ticket) = true

abbrev pub timer_ticket : Timer → ℕ
timer_ticket Off = 0
timer_ticket (Armed ticket) = ticket

-- The known last as a number, 65535 where none is known; and the known last of a number.
abbrev pub last_field : Last → ℕ
last_field Unknown = 65535
last_field (At number) = number

unfoldable pub last_of : ℕ → Last
last_of number = choose (eqb number 65535) Unknown (At number)

-- The UUID that stands in s at `at`.
unfoldable pub uuid_in : List ℕ → ℕ → List ℕ
uuid_in s at = placed 0 (take 16 (drop at s)) (replicate 16 0)

-- The first n bytes are 0.
unfoldable pub clear : ℕ → List ℕ → Bool
clear zero s = true
clear (suc n) s = both (clear n s) (eqb (get_or s n 0) 0)

-- A count of bytes that are readable. Others get 255, which breaks the rules of every record: so each event refuses
-- them with 2, in 2's place.
unfoldable pub count_where : Bool → ℕ → ℕ
count_where readable count = choose readable count 255
