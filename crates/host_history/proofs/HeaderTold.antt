-- What morphelai_read leaves is the header that was read, with the sender's order at byte 4, version 4 and the body's
-- length; and morphelai_write takes it so.
use Prim.Native.Nat.{ℕ, ◌+◌}
use mathlib.Core.Bool.{Bool, true, false}
use mathlib.Core.List.{List, [], ◌∷◌, ◌++◌}
use mathlib.Core.Path.{◌≡◌, refl, sym, ap, subst, ◌∙◌}
use native.Mathlib.Omega.{arith}
use lib.Dec.{eqb}
use lib.ListN.{length, get_or, length-append}
use borrow.Author.Tests.{eq-eqb}
use Rattle.words.specs.Choice.{choose}
use Rattle.words.specs.Number.{number}
use Rattle.words.specs.Place.{put_at, placed}
use Rattle.words.specs.Sizes.{header_size}
use Rattle.words.proofs.Number.{part_all}
use Rattle.words.proofs.Tests.{choose_true}
use Rattle.answers.specs.Answer.{Done}
use Rattle.answers.specs.Number.{number_of}
use Rattle.pdu.specs.declared.Header.{Header}
use Rattle.pdu.specs.Header.{header_of, header_bytes, datagram, body_of}
use Rattle.reader.specs.Reading.{Reading, order_is, reading}
use Rattle.writer.specs.Writing.{writing}
use Rattle.writer.proofs.Returns.{Sized, length-header}
use Rattle.reader.proofs.Readable.{accepted_readable, accepted_reading}
use Rattle.writer.proofs.RoundTrip.{Fits, read-written, body_short}
use Rattle.record_bytes.specs.Fits.{Octets}
use Rattle.record_bytes.proofs.ByteLaws.{octet_at, number_below}
use Rattle.record_bytes.proofs.HeldLaws.{placed_all}
use Rattle.morphelai.specs.CodecDoor.{Codec, order_byte, header_out, codec_read, codec_written, codec_write}

-- No field of a header stands at byte 4, nor behind byte 79.
order_aside : (s : List ℕ) (order : ℕ) → length s ≡ header_size → header_of true (placed 4 (order ∷ []) s) ≡ header_of true s
unfolding header_of placed put_at choose number
order_aside s order size =
    subst (λ (t : List ℕ). header_of true (placed 4 (order ∷ []) t) ≡ header_of true t) (part_all header_size s size) refl

-- What stands at byte 4 is put there; the bytes beside the fields, and their count, stay.
record Beside (before after : List ℕ) (byte : ℕ) : Type 0 where
  size : length after ≡ header_size
  version : get_or after 0 0 ≡ get_or before 0 0
  order : get_or after 4 0 ≡ byte
  second : get_or after 5 0 ≡ get_or before 5 0
  third : get_or after 6 0 ≡ get_or before 6 0
  body : number 2 true after 74 ≡ number 2 true before 74

order_there : (s : List ℕ) (order : ℕ) → length s ≡ header_size → Beside s (placed 4 (order ∷ []) s) order
unfolding placed put_at choose number
order_there s order size =
    subst (λ (t : List ℕ). Beside t (placed 4 (order ∷ []) t) order) (part_all header_size s size)
    (record { size = refl; version = refl; order = refl; second = refl; third = refl; body = refl })

body_aside : (s body : List ℕ) → length s ≡ header_size
    → (header_of true (s ++ body) ≡ header_of true s) × (number 2 true (s ++ body) 74 ≡ number 2 true s 74)
unfolding header_of number
body_aside s body size =
    subst
    (λ (t : List ℕ).
    (header_of true (t ++ body) ≡ header_of true t) × (number 2 true (t ++ body) 74 ≡ number 2 true t 74))
    (part_all header_size s size) (refl, refl)

-- A header that stands in bytes fits its widths.
header_fits : (little : Bool) (s : List ℕ) → Octets s → Fits (header_of little s)
unfolding header_of
header_fits little s octets = record {
  sized = sizes little;
  serial = omega (arith, octet_at s octets 79, octet_at s octets 7);
  boot = number_below 4 little s 56 octets;
  version = number_below 4 little s 60 octets;
  number = number_below 4 little s 64 octets;
  operation = number_below 2 little s 68 octets;
  ihint = number_below 2 little s 70 octets;
  ahint = number_below 2 little s 72 octets;
  fragment = number_below 2 little s 76 octets;
}
  where
    sizes : (order : Bool) → Sized (header_of order s)
    sizes true = record { object = refl; interface = refl; activity = refl }
    sizes false = record { object = refl; interface = refl; activity = refl }

-- A datagram that was read, and a header's buffer.
module _ (s out : List ℕ) (octets : Octets s) (room : length out ≡ header_size) (done : (reading s).answer ≡ Done) where
  fits : Fits (reading s).header
  fits =
      subst Fits (sym (ap (λ (r : Reading). r.header) (accepted_reading s done)))
      (header_fits (order_is 16 s) s octets)

  -- Its header in the little-endian form, as it stands and with the body behind it.
  told : List ℕ
  told = header_bytes (reading s).header (length (body_of s))

  whole : List ℕ
  whole = datagram (reading s).header (body_of s)

  size : length told ≡ header_size
  unfolding told
  size = length-header (reading s).header (length (body_of s)) fits.sized

  read : reading whole ≡ record { answer = Done; little = true; header = (reading s).header }
  unfolding whole header_of
  read =
      let h = (reading s).header in
      let r = accepted_readable s done in
      let is = accepted_reading s done in
      let kind : h.kind ≡ get_or s 1 0 = ap (λ (x : Reading). x.header.kind) is in
      let authentication : h.authentication ≡ get_or s 78 0 = ap (λ (x : Reading). x.header.authentication) is in
      read-written h (body_of s) fits (rw kind r.known_type) (authentication ∙ r.unauthenticated)
      (body_short s done)

  again : reading whole
      ≡ record { answer = Done; little = order_is 16 whole; header = header_of (order_is 16 whole) whole }
  again = accepted_reading whole (ap (λ (x : Reading). x.answer) read)

  little : order_is 16 whole ≡ true
  little = ap (λ (x : Reading). x.little) (sym again ∙ read)

  -- It has the fields that were read, and the length of the body.
  same-fields : header_of true told ≡ (reading s).header
  unfolding told whole datagram
  same-fields =
      sym (body_aside told (body_of s) size).0 ∙ sym (ap (λ (b : Bool). header_of b whole) little)
      ∙ ap (λ (x : Reading). x.header) (sym again ∙ read)

  same_length : number 2 true told 74 ≡ length (body_of s)
  unfolding told whole datagram
  same_length =
      let sum : length whole ≡ header_size + number 2 (order_is 16 whole) whole 74 =
      (accepted_readable whole (ap (λ (x : Reading). x.answer) read)).whole in
      let here : number 2 (order_is 16 whole) whole 74 ≡ number 2 true told 74 =
      ap (λ (b : Bool). number 2 b whole 74) little ∙ (body_aside told (body_of s) size).1 in
      omega (arith, sum, here, length-append told (body_of s), size)

  -- What is left is that form, but for byte 4.
  left : (codec_read s out).out ≡ placed 4 (order_byte (reading s).little ∷ []) told
  unfolding codec_read header_out told
  left =
      let zero : number_of (reading s).answer ≡ 0 = ap number_of done in
      ap (λ (c : Codec). c.out) (choose_true (eqb (length out) header_size) _ _ (eq-eqb (length out) header_size room))
      ∙ choose_true (eqb (number_of (reading s).answer) 0) _ out (eq-eqb _ 0 zero)
      ∙ ap (placed 4 (order_byte (reading s).little ∷ []))
      (placed_all told out (size ∙ sym room))

  beside : Beside told (codec_read s out).out (order_byte (reading s).little)
  beside =
      subst (λ (l : List ℕ). Beside told l (order_byte (reading s).little)) (sym left) (order_there told _ size)

  -- So its fields are those that were read,
  pub told_fields : header_of true (codec_read s out).out ≡ (reading s).header
  told_fields = ap (header_of true) left ∙ order_aside _ _ size ∙ same-fields

  -- byte 4 is 16 of a little-endian sender and 0 of a big-endian one,
  pub told_order : get_or (codec_read s out).out 4 0 ≡ choose (reading s).little 16 0
  unfolding order_byte
  told_order = beside.order

  -- version 4 and the rest of the representation, 0 and 0, stand there as a header has them,
  pub told_version : get_or (codec_read s out).out 0 0 ≡ 4
  unfolding told header_bytes
  told_version = beside.version

  pub told_representation : (get_or (codec_read s out).out 5 0 ≡ 0) × (get_or (codec_read s out).out 6 0 ≡ 0)
  unfolding told header_bytes
  told_representation = (beside.second, beside.third)

  -- the length told is that of the body,
  pub told_length : number 2 true (codec_read s out).out 74 ≡ length (body_of s)
  told_length = beside.body ∙ same_length

  -- and a write of it is one of the header that was read.
  pub told_written : (body pdu : List ℕ)
      → codec_write (codec_read s out).out body pdu ≡ codec_written (writing (reading s).header body pdu)
  unfolding codec_write
  told_written body pdu =
      choose_true _ _ _ (eq-eqb _ header_size beside.size)
      ∙ ap (λ (h : Header). codec_written (writing h body pdu)) told_fields
