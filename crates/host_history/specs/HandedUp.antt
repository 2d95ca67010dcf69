-- What a host is handed up: of each number as many bytes as morphelai_client_part or morphelai_server_part tells, from
-- 1,392 times the number on in the slot buffer.
use Rattle.std.specs.Prelude.{ℕ, zero, suc, ◌*◌, List, [], ◌++◌}
use Rattle.words.specs.Sizes.{body_size, window_size}
use Rattle.fragments.specs.Slots.{stretch}
use Rattle.history.specs.World.{Side}
use Rattle.morphelai.specs.ClientDoor.{client_part}
use Rattle.morphelai.specs.ServerDoor.{server_part}

-- The parts of the numbers below n, of the lengths told, joined in order.
unfoldable pub read_below : (ℕ → ℕ) → List ℕ → ℕ → List ℕ
read_below told slots zero = []
read_below told slots (suc n) = read_below told slots n ++ stretch (told n) (body_size * n) slots

-- All 32 of either side.
unfoldable pub client_parts : Side (List ℕ) → List ℕ
client_parts c = read_below (λ (f : ℕ). client_part c.machine f c.slots) c.slots window_size

unfoldable pub server_parts : Side (List ℕ) → List ℕ
server_parts s = read_below (λ (f : ℕ). server_part s.machine f s.slots) s.slots window_size
