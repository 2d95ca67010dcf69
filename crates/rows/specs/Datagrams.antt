-- Datagrams by the fields that are named; every other byte is 0.
use Rattle.std.specs.Prelude.{ℕ, List, [], ◌∷◌, replicate}
use Rattle.words.specs.Number.{digits}
use Rattle.words.specs.Place.{put_at}

-- A field: where it stands, and its bytes. The places are those of "The header, 80 bytes".
pub record Field : Type 0 where
  pub place : ℕ
  pub bytes : List ℕ

abbrev pub version : ℕ → Field
version number = record { place = 0; bytes = number ∷ [] }

abbrev pub kind : ℕ → Field
kind number = record { place = 1; bytes = number ∷ [] }

abbrev pub representation : ℕ → ℕ → ℕ → Field
representation a b c = record { place = 4; bytes = a ∷ b ∷ c ∷ [] }

abbrev pub serial_high : ℕ → Field
serial_high byte = record { place = 7; bytes = byte ∷ [] }

abbrev pub serial_low : ℕ → Field
serial_low byte = record { place = 79; bytes = byte ∷ [] }

-- Little-endian, as representation 16,0,0 says.
abbrev pub body_length : ℕ → Field
body_length number = record { place = 74; bytes = digits 2 number }

-- So many bytes, all 0.
abbrev pub zeros : ℕ → List ℕ
zeros size = replicate size 0

-- So many bytes with these fields.
abbrev pub datagram : ℕ → List Field → List ℕ
datagram size [] = zeros size
datagram size (f ∷ fs) = put_at f.place f.bytes (datagram size fs)
