-- Each return of the exported reader and writer, over plain variables.
use Prim.Native.Nat.{ℕ, ◌+◌, ◌*◌, ◌/◌, ◌%◌}
use mathlib.Core.Bool.{true}
use mathlib.Core.List.{List, [], ◌∷◌, ◌++◌}
use mathlib.Core.Path.{◌≡◌, refl, sym, ap, ◌∙◌, subst}
use native.Mathlib.Omega.{arith}
use lib.ListN.{length}
use lib.Dec.{eqb}
use borrow.Author.Tests.{eq-eqb, ne_eqb}
use Rattle.words.specs.Choice.{choose}
use Rattle.words.specs.Number.{digits}
use Rattle.words.specs.Place.{placed}
use Rattle.words.specs.Sizes.{header_size}
use Rattle.words.proofs.Tests.{choose_true, choose_false}
use Rattle.std.specs.Prelude.{Result}
use Rattle.answers.specs.declared.Refusal.{Refusal}
use Rattle.answers.specs.Answer.{Answer, Ok, Refused, if_done}
use Rattle.answers.specs.Number.{number_of}
use Rattle.answers.specs.Table.{answer_of}
use Rattle.answers.proofs.DoneLaws.{refused_if_done, accepted_if_done}
use Rattle.answers.proofs.NumberLaws.{refused_not_done, zero_done}
use Rattle.reader.specs.declared.Received.{Received}
use Rattle.pdu.specs.declared.Header.{Header}
use Rattle.pdu.specs.Header.{front_bytes, number_bytes, back_bytes, header_bytes, header_of, header_in, body_of}
use Rattle.pdu.proofs.HeaderLaws.{fields_whole}
use Rattle.reader.specs.Reading.{reading, received, read_result}
use Rattle.writer.specs.Writing.{Wrote, write_refusals, write_by, writing, write_result}
use Rattle.morphelai.specs.CodecDoor.{Codec, Coded, refusing_codec, order_byte, header_out, codec_read, written_result, written_number, codec_written, codec_write}

low_byte : (a b : ℕ) → (256 * a + b) % 256 ≡ b % 256
low_byte a b = omega arith

-- A header before a body of n bytes has n's two low bytes.
digits_low : (n : ℕ) → digits 2 (n % 65536) ≡ digits 2 n
digits_low n =
    let low : n % 65536 % 256 ≡ n % 256 = omega arith in
    let rest : n / 256 ≡ 256 * (n / 65536) + n % 65536 / 256 = omega arith in
    let high : n % 65536 / 256 % 256 ≡ n / 256 % 256 = sym (ap (λ (k : ℕ). k % 256) rest ∙ low_byte (n / 65536) (n % 65536 / 256)) in
    λ i. low i ∷ (high i ∷ [])

header_low : (h : Header) (n : ℕ) → header_bytes h (n % 65536) ≡ header_bytes h n
unfolding header_bytes
header_low h n =
    λ i.
    front_bytes h.kind h.flags1 h.flags2 h.serial ++
    ((h.object ++ (h.interface ++ h.activity)) ++
    (number_bytes h.boot h.version h.number ++
    ((digits 2 h.operation ++ (digits 2 h.ihint ++ (digits 2 h.ahint ++ digits_low n i))) ++
    back_bytes h.fragment h.authentication h.serial)))

refused : (c : Codec) (s out : List ℕ) → (length s ≡ header_size → ⊥) → Coded (choose (eqb (length s) header_size) c (refusing_codec out)) 1 out
unfolding refusing_codec
refused c s out h =
    subst (λ (d : Codec). Coded d 1 out) (sym (choose_false _ c (refusing_codec out) (ne_eqb (length s) header_size h))) (record { result = refl; buffer = refl })

passed : (c : Codec) (s out after : List ℕ) (r : ℕ) → length s ≡ header_size → Coded c r after → Coded (choose (eqb (length s) header_size) c (refusing_codec out)) r after
passed c s out after r h x = subst (λ (d : Codec). Coded d r after) (sym (choose_true _ c (refusing_codec out) (eq-eqb (length s) header_size h))) x

pub read-refused : (datagram out : List ℕ) → (length out ≡ header_size → ⊥) → Coded (codec_read datagram out) 1 out
unfolding codec_read
read-refused datagram out h = refused _ out out h

module _ (datagram out : List ℕ) (h : length out ≡ header_size) where
  -- What is read is laid down,
  pub read_laid : (read : Received) (size : ℕ) (after : List ℕ) → ◌≡◌ {A = Result Received Refusal} (Ok read) (read_result datagram)
      → size ≡ length (body_of datagram)
      → after ≡ placed 4 (order_byte read.little ∷ []) (placed 0 (header_bytes read.header (size % 65536)) out)
      → Coded (codec_read datagram out) 0 after
  unfolding codec_read header_out read_result received
  read_laid read size after e s a =
      let told = accepted_if_done (reading datagram).answer (received (reading datagram)) read (sym e) in
      let zero : number_of (reading datagram).answer ≡ 0 = ap number_of told.0 in
      passed _ out out after 0 h
      (record {
        result = sym zero;
        buffer =
            a
            ∙ ap (λ (b : List ℕ). placed 4 (order_byte read.little ∷ []) (placed 0 b out))
            (header_low read.header size ∙ ap (header_bytes read.header) s)
            ∙ ap (λ (x : Received). placed 4 (order_byte x.little ∷ []) (placed 0 (header_bytes x.header (length (body_of datagram))) out)) (sym told.1)
            ∙ sym (choose_true _ _ _ (eq-eqb _ 0 zero));
      })

  -- and a refusal tells its number.
  pub read_not : (refusal : Refusal) (number : ℕ) → ◌≡◌ {A = Result Received Refusal} (Refused refusal) (read_result datagram)
      → number ≡ number_of (Refused refusal) → Coded (codec_read datagram out) number out
  unfolding codec_read header_out read_result
  read_not refusal number e k =
      let told = refused_if_done (reading datagram).answer (received (reading datagram)) refusal (sym e) in
      let answered : number ≡ number_of (reading datagram).answer = k ∙ ap number_of (sym told) in
      let some : number_of (reading datagram).answer ≡ 0 → ⊥ = λ z. refused_not_done refusal (sym told ∙ zero_done _ z) in
      passed _ out out out number h (record { result = answered; buffer = sym (choose_false _ _ _ (ne_eqb _ 0 some)) })

-- What a write gives, as one number.
number_written : (h : Header) (body out : List ℕ) → written_number (write_result (writing h body out).result) ≡ written_result (writing h body out).result
unfolding writing write_by write_result if_done written_number written_result
number_written h body out = by_answer (answer_of (write_refusals (length out) h.kind h.authentication (length body)))
  where
    by_answer : (a : Answer) → written_number (write_result (write_by a h body out).result) ≡ written_result (write_by a h body out).result
    by_answer (Ok tt) = refl
    by_answer (Refused r) = refl

pub write-refused : (header body out : List ℕ) → (length header ≡ header_size → ⊥) → Coded (codec_write header body out) 1 out
unfolding codec_write
write-refused header body out h = refused _ header out h

pub write_left : (header body out after : List ℕ) (h : Header) (w : Result ℕ Refusal) (r : ℕ) → length header ≡ header_size
    → h ≡ header_in true header → Wrote (writing h body out) w after → r ≡ written_number w → Coded (codec_write header body out) r after
unfolding codec_write codec_written
write_left header body out after h w r l f x p =
    let fields : h ≡ header_of true header = f ∙ fields_whole true header (omega (arith, l)) in
    let y : Wrote (writing (header_of true header) body out) w after =
    subst (λ (g : Header). Wrote (writing g body out) w after) fields x in
    passed _ header out after r l
    (record { result = p ∙ ap written_number y.result ∙ number_written (header_of true header) body out; buffer = y.buffer })
