-- What a host reads of a datagram that was taken is what the reader gives: its type, its activity and call number, and
-- the number of a cancel or a cancel_ack.
use Prim.Native.Nat.{ℕ, zero, suc, ◌+◌}
use mathlib.Core.Bool.{Bool, true, false}
use mathlib.Core.List.{List, ◌∷◌}
use mathlib.Core.Path.{◌≡◌, refl, sym, ap, ◌∙◌}
use native.Mathlib.Omega.{arith}
use lib.Dec.{eqb}
use lib.ListN.{get_or, drop}
use lib.Seq.{get_or-drop}
use borrow.Author.Tests.{eqb-true}
use Rattle.words.specs.Choice.{choose, either}
use Rattle.words.specs.Number.{part, value, number}
use Rattle.words.specs.Sizes.{header_size}
use Rattle.words.proofs.Tests.{both_true}
use Rattle.answers.specs.Answer.{Done}
use Rattle.answers.proofs.NumberLaws.{zero_done}
use Rattle.pdu.specs.declared.Header.{Header}
use Rattle.pdu.specs.Header.{header_of, body_of}
use Rattle.reader.specs.Reading.{Reading, order_is, reading}
use Rattle.reader.proofs.Readable.{accepted_readable, accepted_reading}
use Rattle.record_bytes.proofs.Keeping.{choice_keeps}
use Rattle.client.proofs.Accepting.{arrive_accepted}
use Rattle.history.specs.World.{SentPdu, World}
use Rattle.history.specs.Events.{Lent, ClientArrive, OfClient}
use Rattle.history.specs.Steps.{bytes_lent, happens, answer_to}
use Rattle.morphelai.specs.CodecDoor.{Codec, refusing_codec, codec_read}
use Rattle.host_history.specs.HostReads.{type_byte, is_little, activity_carried, call_carried, version_carried, cancel_carried}

-- What the client answers 0 was read,
pub client_took : (w : World) (p : SentPdu) (lent : Lent) (out : List ℕ)
    → answer_to w (OfClient (ClientArrive p lent out)) ≡ Done → (reading p.bytes).answer ≡ Done
unfolding answer_to happens
client_took w p lent out done =
    (arrive_accepted w.client.machine p.bytes (bytes_lent lent w.client.slots) out done).taken.read

-- and so was what morphelai_read answers 0.
pub read_took : (s header : List ℕ) → (codec_read s header).result ≡ 0 → (reading s).answer ≡ Done
unfolding codec_read refusing_codec
read_took s header =
    choice_keeps (λ (c : Codec). c.result ≡ 0 → (reading s).answer ≡ Done) _ _ (refusing_codec header)
    (zero_done (reading s).answer) (λ (never : 1 ≡ 0). absurd (omega (arith, never)))

-- The order of a representation that is known is told by its first byte.
order_there : (s : List ℕ) → either (order_is 16 s) (order_is 0 s) ≡ true → order_is 16 s ≡ eqb (get_or s 4 0) 16
unfolding order_is
order_there s known = by_order (order_is 16 s) refl known
  where
    by_order : (little : Bool) → order_is 16 s ≡ little → either little (order_is 0 s) ≡ true
        → little ≡ eqb (get_or s 4 0) 16
    by_order true e told = sym (both_true (eqb (get_or s 4 0) 16) _ e).0
    by_order false e told =
        let zero : get_or s 4 0 ≡ 0 = unfold either choose in eqb-true _ 0 (both_true (eqb (get_or s 4 0) 0) _ told).0 in
        sym (ap (λ (n : ℕ). eqb n 16) zero)

-- A part of what is left of bytes.
part-drop : (n k : ℕ) (s : List ℕ) (at : ℕ) → part n (drop k s) at ≡ part n s (k + at)
part-drop zero k s at = refl
part-drop (suc n) k s at =
    let next : k + (at + 1) ≡ k + at + 1 = omega arith in
    let rest : part n (drop k s) (at + 1) ≡ part n s (k + at + 1) = part-drop n k s (at + 1) ∙ ap (part n s) next in
    λ i. get_or-drop k s at 0 i ∷ rest i

module _ (s : List ℕ) (done : (reading s).answer ≡ Done) where
  -- The sender's order is told by byte 4, and the header is read in it:
  order_same : order_is 16 s ≡ is_little s
  order_same = order_there s (accepted_readable s done).known_order

  little_there : (reading s).little ≡ is_little s
  little_there = ap (λ (r : Reading). r.little) (accepted_reading s done) ∙ order_same

  header_there : (reading s).header ≡ header_of (is_little s) s
  header_there =
      ap (λ (r : Reading). r.header) (accepted_reading s done) ∙ ap (λ (little : Bool). header_of little s) order_same

  -- the type stands at 1,
  pub kind_there : (reading s).header.kind ≡ type_byte s
  unfolding header_of
  kind_there = ap (λ (h : Header). h.kind) header_there

  -- the activity at 40,
  pub activity_there : (reading s).header.activity ≡ activity_carried s
  unfolding header_of
  activity_there = ap (λ (h : Header). h.activity) header_there

  -- the call number at 64,
  pub call_there : (reading s).header.number ≡ call_carried s
  unfolding header_of
  call_there = ap (λ (h : Header). h.number) header_there

  -- and the first two words of the body at 80 and 84.
  pub version_there : number 4 (reading s).little (body_of s) 0 ≡ version_carried s
  unfolding number body_of
  version_there = λ i. value (little_there i) (part-drop 4 header_size s 0 i)

  pub carried_there : number 4 (reading s).little (body_of s) 4 ≡ cancel_carried s
  unfolding number body_of
  carried_there = λ i. value (little_there i) (part-drop 4 header_size s 4 i)
