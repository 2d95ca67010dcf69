-- What an exported function gives, and what it leaves in the memory that it was lent; a buffer that it is not lent is
-- empty here.
use Rattle.std.specs.Prelude.{ℕ, Bool, not, List, ◌≡◌, length, eqb}
use Rattle.words.specs.Choice.{choose}
use Rattle.words.specs.Place.{placed}
use Rattle.words.specs.Sizes.{pdu_size}
use Rattle.answers.specs.Answer.{Answer}
use Rattle.answers.specs.Number.{number_of}
use Rattle.record_bytes.specs.Layout.{record_size}

pub record Export : Type 0 where
  pub result : ℕ
  pub bytes : List ℕ
  pub slots : List ℕ
  pub out : List ℕ

-- The result and all lent memory after it are those meant.
pub record Exported (e : Export) (r : ℕ) (bytes slots out : List ℕ) : Type 0 where
  pub result : r ≡ e.result
  pub kept : bytes ≡ e.bytes
  pub stored : slots ≡ e.slots
  pub buffer : out ≡ e.out

-- A record has 272 bytes.
unfoldable pub sized : List ℕ → Bool
sized bytes = eqb (length bytes) record_size

-- 1, of a record or an argument of another length, or an idempotent above 1: all is as it was.
unfoldable pub refusing : List ℕ → List ℕ → List ℕ → Export
refusing bytes slots out = record { result = 1; bytes = bytes; slots = slots; out = out }

-- The record's bytes after an event: those of the next record where the answer is 0, else as they were.
unfoldable pub kept_bytes : Answer → List ℕ → List ℕ → List ℕ
kept_bytes answer next bytes = choose (eqb (number_of answer) 0) (placed 0 next bytes) bytes

-- What a timer answers whose kind the side does not have, by the size of the PDU buffer: 1 and 2 first, then 15.
unfoldable pub other_timer : Bool → ℕ → ℕ
other_timer sound size = choose (not (eqb size pdu_size)) 1 (choose (not sound) 2 15)

unfoldable pub other_kind : Bool → List ℕ → List ℕ → List ℕ → Export
other_kind sound bytes slots out =
    record { result = other_timer sound (length out); bytes = bytes; slots = slots; out = out }
