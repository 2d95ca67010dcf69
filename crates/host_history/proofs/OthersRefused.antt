-- A refused fresh, read or write leaves the lent bytes as they were.
use Prim.Native.Nat.{ℕ, ◌%◌}
use mathlib.Core.Bool.{true}
use mathlib.Core.List.{List, []}
use mathlib.Core.Path.{◌≡◌, refl}
use native.Mathlib.Omega.{arith}
use lib.Dec.{eqb}
use lib.ListN.{length}
use borrow.Author.Tests.{eqb-true}
use Rattle.words.specs.Sizes.{header_size}
use Rattle.answers.specs.Answer.{Answer, Refused, Ok}
use Rattle.answers.specs.Number.{number_of}
use Rattle.answers.specs.Table.{answer_of}
use Rattle.pdu.specs.declared.Header.{Header}
use Rattle.pdu.specs.Header.{header_of}
use Rattle.reader.specs.Reading.{reading}
use Rattle.record_bytes.proofs.Keeping.{choice_by}
use Rattle.writer.specs.Writing.{write_refusals, write_by, writing}
use Rattle.morphelai.specs.Result.{packed}
use Rattle.morphelai.specs.Export.{Export, refusing}
use Rattle.morphelai.specs.ClientDoor.{client_fresh}
use Rattle.morphelai.specs.ServerDoor.{server_fresh}
use Rattle.morphelai.specs.CodecDoor.{Codec, refusing_codec, header_out, codec_read, written_result, codec_written, codec_write}

pub client_fresh_leaves : (bytes activity : List ℕ) (tickets : ℕ)
    → ((client_fresh bytes activity tickets).result ≡ 0 → ⊥) → (client_fresh bytes activity tickets).bytes ≡ bytes
unfolding client_fresh refusing
client_fresh_leaves bytes activity tickets =
    choice_by (λ (x : Export). (x.result ≡ 0 → ⊥) → x.bytes ≡ bytes) _ _ (refusing bytes [] [])
    (λ passed other. absurd (other refl)) (λ failed other. refl)

pub server_fresh_leaves : (bytes activity : List ℕ) (boot tickets : ℕ)
    → ((server_fresh bytes activity boot tickets).result ≡ 0 → ⊥)
    → (server_fresh bytes activity boot tickets).bytes ≡ bytes
unfolding server_fresh refusing
server_fresh_leaves bytes activity boot tickets =
    choice_by (λ (x : Export). (x.result ≡ 0 → ⊥) → x.bytes ≡ bytes) _ _ (refusing bytes [] [])
    (λ passed other. absurd (other refl)) (λ failed other. refl)

pub read_leaves : (datagram out : List ℕ) → ((codec_read datagram out).result ≡ 0 → ⊥)
    → (codec_read datagram out).out ≡ out
unfolding codec_read refusing_codec header_out
read_leaves datagram out =
    choice_by (λ (c : Codec). (c.result ≡ 0 → ⊥) → c.out ≡ out) (eqb (length out) header_size) _ (refusing_codec out)
    (λ whole other.
    choice_by (λ (l : List ℕ). l ≡ out) (eqb (number_of (reading datagram).answer) 0) _ out
    (λ (e : eqb (number_of (reading datagram).answer) 0 ≡ true). absurd (other (eqb-true _ 0 e))) (λ e. refl))
    (λ wrong other. refl)

-- The answer of a write stands in bits 0 to 7.
written_leaves : (a : Answer) (h : Header) (body out : List ℕ)
    → ((codec_written (write_by a h body out)).result % 256 ≡ 0 → ⊥) → (codec_written (write_by a h body out)).out ≡ out
unfolding codec_written written_result write_by packed
written_leaves (Ok tt) h body out other = absurd (other (omega arith))
written_leaves (Refused r) h body out other = refl

pub write_leaves : (header body out : List ℕ) → ((codec_write header body out).result % 256 ≡ 0 → ⊥)
    → (codec_write header body out).out ≡ out
unfolding codec_write refusing_codec writing
write_leaves header body out =
    choice_by (λ (c : Codec). (c.result % 256 ≡ 0 → ⊥) → c.out ≡ out) (eqb (length header) header_size) _ (refusing_codec out)
    (λ whole.
    let h = header_of true header in
    written_leaves (answer_of (write_refusals (length out) h.kind h.authentication (length body))) h body out)
    (λ wrong other. refl)
