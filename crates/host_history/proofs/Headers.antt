-- What the header that is read of any bytes carries fits its widths, and so does a cancel's number.
use Prim.Native.Nat.{ℕ, ◌+◌, ◌<◌}
use mathlib.Core.Bool.{Bool, true, false}
use mathlib.Core.List.{List, ◌++◌}
use mathlib.Core.Path.{◌≡◌, refl}
use native.Mathlib.Omega.{arith}
use lib.ListN.{length}
use Rattle.words.specs.Number.{turned, part}
use Rattle.words.specs.Sizes.{header_size}
use Rattle.answers.specs.Answer.{Answer, Refused, Ok}
use Rattle.answers.specs.Table.{answer_of}
use Rattle.pdu.specs.declared.Header.{Header}
use Rattle.bodies.specs.Cancel.{cancel_number_in}
use Rattle.pdu.specs.Header.{uuid_at, header_of, body_of, blank}
use Rattle.reader.specs.Reading.{order_is, read_refusals, read_by, reading}
use Rattle.record_bytes.specs.Fits.{Octets, Uuid}
use Rattle.record_bytes.proofs.ByteLaws.{octets_turned, octets_joined, octets_drop, octets_part, number_below}
use Rattle.record_bytes.proofs.Keeping.{blank-uuid}

-- What a header tells of its call fits a record.
pub record FitsHeader (h : Header) : Type 0 where
  pub object : Uuid h.object
  pub interface : Uuid h.interface
  pub version : h.version < 4294967296
  pub number : h.number < 4294967296
  pub operation : h.operation < 65536

-- A UUID in either order is 16 bytes.
module _ (s : List ℕ) (octets : Octets s) where
  uuid-length : (little : Bool) (at : ℕ) → length (uuid_at little s at) ≡ 16
  uuid-length true at = refl
  uuid-length false at = refl

  word_octets : (little : Bool) (n at : ℕ) → Octets (turned little (part n s at))
  word_octets little n at = octets_turned little (part n s at) (octets_part n s at octets)

  uuid_octets : (little : Bool) (at : ℕ) → Octets (uuid_at little s at)
  uuid_octets little at =
      octets_joined (turned little (part 4 s at)) _ (word_octets little 4 at)
      (octets_joined (turned little (part 2 s (at + 4))) (turned little (part 2 s (at + 6)) ++ part 8 s (at + 8))
      (word_octets little 2 (at + 4))
      (octets_joined (turned little (part 2 s (at + 6))) (part 8 s (at + 8)) (word_octets little 2 (at + 6))
      (octets_part 8 s (at + 8) octets)))

  uuid_fits : (little : Bool) (at : ℕ) → Uuid (uuid_at little s at)
  uuid_fits little at = record { size = uuid-length little at; octets = uuid_octets little at }

  -- The fields as they stand,
  header_fits : (little : Bool) → FitsHeader (header_of little s)
  unfolding header_of
  header_fits little = record {
    object = uuid_fits little 8;
    interface = uuid_fits little 24;
    version = number_below 4 little s 60 octets;
    number = number_below 4 little s 64 octets;
    operation = number_below 2 little s 68 octets;
  }

-- a blank,
blank_fits : FitsHeader blank
unfolding blank
blank_fits = record {
  object = blank-uuid;
  interface = blank-uuid;
  version = omega arith;
  number = omega arith;
  operation = omega arith;
}

-- and so what reading gives of any bytes.
read_fits : (a : Answer) (little : Bool) (h : Header) → FitsHeader h → FitsHeader (read_by a little h).header
unfolding read_by
read_fits (Ok tt) little h fits = fits
read_fits (Refused r) little h fits = blank_fits

pub reading_fits : (s : List ℕ) → Octets s → FitsHeader (reading s).header
unfolding reading
reading_fits s octets =
    read_fits (answer_of (read_refusals s)) (order_is 16 s) (header_of (order_is 16 s) s)
    (header_fits s octets (order_is 16 s))

-- The number of a cancel, whether it is well formed or not.
pub cancel_number_fits : (s : List ℕ) (little : Bool) → Octets s → cancel_number_in little (body_of s) < 4294967296
unfolding body_of
cancel_number_fits s little octets = number_below 4 little (body_of s) 4 (octets_drop header_size s octets)
