-- Reading what was written gives back header and body; writing what was read of a little-endian datagram gives back its bytes.
use Prim.Native.Nat.{ℕ, ◌+◌, ◌*◌, ◌≤◌, ◌<◌, ◌/◌, ◌%◌}
use mathlib.Core.Bool.{Bool, true, false}
use mathlib.Core.List.{List, ◌++◌, [], ◌∷◌}
use mathlib.Core.Path.{◌≡◌, refl, sym, ap, ◌∙◌, subst}
use native.Mathlib.Omega.{arith}
use lib.ListN.{length, get_or, take, drop, length-drop, take-append-drop}
use lib.Seq.{drop_at}
use lib.Dec.{eqb}
use borrow.Author.Tests.{eqb-true}
use Rattle.words.specs.Choice.{choose, both, either}
use Rattle.words.specs.Number.{le, digits, part, number}
use Rattle.words.proofs.Tests.{both_true}
use Rattle.words.proofs.Number.{value-bytes, part_all, part-take, digits-part}
use Rattle.answers.specs.Answer.{Answer, Done, Refused, Ok}
use Rattle.answers.specs.Table.{answer_of}
use Rattle.answers.proofs.TableLaws.{answer_done}
use Rattle.pdu.specs.declared.Header.{Header}
use Rattle.reader.specs.Reading.{Reading, order_is, reader_refusals, read_refusals, read_by, reading}
use Rattle.pdu.specs.Header.{uuid_at, header_of, front_bytes, number_bytes, hint_bytes, back_bytes, header_bytes, datagram, body_of}
use Rattle.words.specs.Place.{placed}
use Rattle.words.specs.Sizes.{header_size, body_size, pdu_size}
use Rattle.words.proofs.Place.{placed-front}
use Rattle.writer.specs.Writing.{write_refusals, write_by, writing}
use Rattle.pdu.proofs.HeaderLaws.{same-header}
use Rattle.reader.proofs.Readable.{readable_passes, accepted_readable, accepted_reading}
use Rattle.writer.proofs.Returns.{Sized, length-header, length-datagram, Writable, writable, writable_passes}

-- Every field of a header is within its width.
pub record Fits (h : Header) : Type 0 where
  pub sized : Sized h
  pub serial : h.serial < 65536
  pub boot : h.boot < 4294967296
  pub version : h.version < 4294967296
  pub number : h.number < 4294967296
  pub operation : h.operation < 65536
  pub ihint : h.ihint < 65536
  pub ahint : h.ahint < 65536
  pub fragment : h.fragment < 65536

-- The same header, its UUIDs written out byte by byte, so that the datagram computes.
spelled : Header → Header
spelled h = record {
  kind = h.kind;
  flags1 = h.flags1;
  flags2 = h.flags2;
  serial = h.serial;
  object = part 16 h.object 0;
  interface = part 16 h.interface 0;
  activity = part 16 h.activity 0;
  boot = h.boot;
  version = h.version;
  number = h.number;
  operation = h.operation;
  ihint = h.ihint;
  ahint = h.ahint;
  fragment = h.fragment;
  authentication = h.authentication;
}

spelled_same : (h : Header) → Sized h → spelled h ≡ h
unfolding spelled
spelled_same h z =
    same-header (spelled h) h refl refl refl refl
    (part_all 16 h.object z.object) (part_all 16 h.interface z.interface) (part_all 16 h.activity z.activity)
    refl refl refl refl refl refl refl refl

header_spelled : (h : Header) (body : List ℕ) → Fits h → header_of true (datagram (spelled h) body) ≡ spelled h
unfolding spelled header_of datagram header_bytes number
header_spelled h body f =
    same-header (header_of true (datagram (spelled h) body)) (spelled h) refl refl refl (omega arith) refl refl refl
    (value-bytes 4 true h.boot f.boot) (value-bytes 4 true h.version f.version) (value-bytes 4 true h.number f.number)
    (value-bytes 2 true h.operation f.operation) (value-bytes 2 true h.ihint f.ihint) (value-bytes 2 true h.ahint f.ahint)
    (value-bytes 2 true h.fragment f.fragment) refl

answer_spelled : (h : Header) (body : List ℕ) → h.kind ≤ 10 → h.authentication ≡ 0 → length body ≤ body_size
    → answer_of (reader_refusals (datagram (spelled h) body) true false) ≡ Done
unfolding either choose datagram header_bytes spelled number
answer_spelled h body k a n =
    let told : number 2 true (datagram (spelled h) body) 74 ≡ length body = value-bytes 2 true (length body) (omega arith) in
    let size : length (datagram (spelled h) body) ≡ header_size + length body =
    length-datagram (spelled h) body (record { object = refl; interface = refl; activity = refl }) in
    readable_passes (datagram (spelled h) body) true false
    (record {
      whole = size ∙ ap (λ (m : ℕ). header_size + m) (sym told);
      version_4 = refl;
      known_type = k;
      known_order = refl;
      unauthenticated = a;
      short = rw told n;
    })

-- What an accepted little-endian datagram gives.
abbrev pub accepted : Header → Reading
accepted h = record { answer = Done; little = true; header = h }

order_spelled : (h : Header) (body : List ℕ) → (order_is 16 (datagram (spelled h) body) ≡ true) × (order_is 0 (datagram (spelled h) body) ≡ false)
unfolding order_is both choose datagram header_bytes spelled
order_spelled h body = (refl, refl)

reading_spelled : (h : Header) (body : List ℕ) → Fits h → h.kind ≤ 10 → h.authentication ≡ 0 → length body ≤ body_size
    → reading (datagram (spelled h) body) ≡ accepted (spelled h)
unfolding reading read_by read_refusals
reading_spelled h body f k a n =
    let order = order_spelled h body in
    rw (order.0, order.1, answer_spelled h body k a n, header_spelled h body f)

-- Reading what was written gives back the header,
pub read-written : (h : Header) (body : List ℕ) → Fits h → h.kind ≤ 10 → h.authentication ≡ 0 → length body ≤ body_size
    → reading (datagram h body) ≡ accepted h
read-written h body f k a n =
    subst (λ (g : Header). reading (datagram g body) ≡ accepted g) (spelled_same h f.sized) (reading_spelled h body f k a n)

-- its type whatever the other fields are,
taken_spelled : (h : Header) (body : List ℕ) → h.kind ≤ 10 → h.authentication ≡ 0 → length body ≤ body_size
    → reading (datagram (spelled h) body) ≡ accepted (header_of true (datagram (spelled h) body))
unfolding reading read_by read_refusals
taken_spelled h body k a n =
    let order = order_spelled h body in
    rw (order.0, order.1, answer_spelled h body k a n)

kind_spelled : (h : Header) (body : List ℕ) → (header_of true (datagram (spelled h) body)).kind ≡ h.kind
unfolding spelled header_of datagram header_bytes
kind_spelled h body = refl

pub kind-written : (h : Header) (body : List ℕ) → Sized h → h.kind ≤ 10 → h.authentication ≡ 0 → length body ≤ body_size
    → ((reading (datagram h body)).answer ≡ Done) × ((reading (datagram h body)).header.kind ≡ h.kind)
kind-written h body z k a n =
    let taken = taken_spelled h body k a n in
    subst (λ (g : Header). ((reading (datagram g body)).answer ≡ Done) × ((reading (datagram g body)).header.kind ≡ h.kind))
    (spelled_same h z)
    (ap (λ (r : Reading). r.answer) taken, ap (λ (r : Reading). r.header.kind) taken ∙ kind_spelled h body)

-- the call number,
number_spelled : (h : Header) (body : List ℕ) → h.number < 4294967296 → (header_of true (datagram (spelled h) body)).number ≡ (spelled h).number
unfolding spelled header_of datagram header_bytes number
number_spelled h body small = value-bytes 4 true h.number small

header-number : (h : Header) (body : List ℕ) → Sized h → h.number < 4294967296 → (header_of true (datagram h body)).number ≡ h.number
header-number h body z small =
    subst (λ (g : Header). (header_of true (datagram g body)).number ≡ g.number) (spelled_same h z) (number_spelled h body small)

-- and the body.
pub body-written : (h : Header) (body : List ℕ) → Sized h → body_of (datagram h body) ≡ body
unfolding body_of datagram
body-written h body z = drop_at (header_bytes h (length body)) body header_size (length-header h (length body) z)

-- Bytes 4 to 6 of a datagram with this mark.
representation : (mark : ℕ) (d : List ℕ) → order_is mark d ≡ true → (get_or d 4 0 ≡ mark) × (get_or d 5 0 ≡ 0) × (get_or d 6 0 ≡ 0)
unfolding order_is
representation mark d e =
    let first = both_true (eqb (get_or d 4 0) mark) _ e in
    let rest = both_true (eqb (get_or d 5 0) 0) (eqb (get_or d 6 0) 0) first.1 in
    (eqb-true (get_or d 4 0) mark first.0, eqb-true (get_or d 5 0) 0 rest.0, eqb-true (get_or d 6 0) 0 rest.1)

-- The body of an accepted datagram is at most 1,392 bytes.
pub body_short : (s : List ℕ) → (reading s).answer ≡ Done → length (body_of s) ≤ body_size
unfolding body_of
body_short s done = let known = accepted_readable s done in rw length-drop (omega arith)

-- A datagram that reads has the call number that was written.
pub number-written : (h : Header) (body : List ℕ) → Sized h → h.number < 4294967296 → (reading (datagram h body)).answer ≡ Done
    → (reading (datagram h body)).header.number ≡ h.number
number-written h body z small done =
    ap (λ (r : Reading). r.header.number) (accepted_reading (datagram h body) done)
    ∙ ap (λ (little : Bool). (header_of little (datagram h body)).number)
    (subst (λ (g : Header). order_is 16 (datagram g body) ≡ true) (spelled_same h z) (order_spelled h body).0)
    ∙ header-number h body z small

-- The pieces of a little-endian header are the parts of the datagram that it was read from.
module _ (s : List ℕ) (octets : (i : ℕ) → get_or s i 0 < 256) where
  front_same : get_or s 0 0 ≡ 4 → (get_or s 4 0 ≡ 16) × (get_or s 5 0 ≡ 0) × (get_or s 6 0 ≡ 0)
      → front_bytes (get_or s 1 0) (get_or s 2 0) (get_or s 3 0) (le (get_or s 79 0 ∷ (get_or s 7 0 ∷ []))) ≡ part 8 s 0
  front_same v o =
      let high : (get_or s 79 0 + 256 * (get_or s 7 0 + 256 * 0)) / 256 % 256 ≡ get_or s 7 0 = omega (arith, octets 7, octets 79) in
      rw (v, o.0, o.1, o.2, high)

  number_same : number_bytes (number 4 true s 56) (number 4 true s 60) (number 4 true s 64) ≡ part 12 s 56
  number_same = λ i. digits-part 4 s 56 octets i ++ (digits-part 4 s 60 octets i ++ digits-part 4 s 64 octets i)

  hint_same : (n : ℕ) → n ≡ number 2 true s 74 → hint_bytes (number 2 true s 68) (number 2 true s 70) (number 2 true s 72) n ≡ part 8 s 68
  hint_same n e =
      λ i. digits-part 2 s 68 octets i ++ (digits-part 2 s 70 octets i ++ (digits-part 2 s 72 octets i ++ (ap (digits 2) e ∙ digits-part 2 s 74 octets) i))

  back-same : back_bytes (number 2 true s 76) (get_or s 78 0) (le (get_or s 79 0 ∷ (get_or s 7 0 ∷ []))) ≡ part 4 s 76
  back-same =
      let low : (get_or s 79 0 + 256 * (get_or s 7 0 + 256 * 0)) % 256 ≡ get_or s 79 0 = omega (arith, octets 7, octets 79) in
      λ i. digits-part 2 s 76 octets i ++ (get_or s 78 0 ∷ (low i ∷ []))

  header-same : (n : ℕ) → get_or s 0 0 ≡ 4 → (get_or s 4 0 ≡ 16) × (get_or s 5 0 ≡ 0) × (get_or s 6 0 ≡ 0) → n ≡ number 2 true s 74
      → header_bytes (header_of true s) n ≡ part header_size s 0
  unfolding header_bytes header_of
  header-same n v o e =
      λ i. front_same v o i ++ ((uuid_at true s 8 ++ (uuid_at true s 24 ++ uuid_at true s 40)) ++ (number_same i ++ (hint_same n e i ++ back-same i)))

-- Writing the header and the body of an accepted little-endian datagram gives back its bytes.
pub written_read : (s : List ℕ) → ((i : ℕ) → get_or s i 0 < 256) → (reading s).answer ≡ Done → (reading s).little ≡ true
    → datagram (reading s).header (body_of s) ≡ s
unfolding datagram body_of
written_read s octets done little =
    let r = accepted_readable s done in
    let is = accepted_reading s done in
    let order : order_is 16 s ≡ true = sym (ap (λ (x : Reading). x.little) is) ∙ little in
    let header : (reading s).header ≡ header_of true s = ap (λ (x : Reading). x.header) is ∙ ap (λ (b : Bool). header_of b s) order in
    let size : length s ≡ header_size + number 2 true s 74 = rw order at r.whole in
    let rest : length (drop header_size s) ≡ number 2 true s 74 = omega (arith, length-drop header_size s) in
    let front : header_bytes (header_of true s) (length (drop header_size s)) ≡ part header_size s 0 =
    header-same s octets (length (drop header_size s)) r.version_4 (representation 16 s order) rest in
    ap (λ (h : Header). header_bytes h (length (drop header_size s)) ++ drop header_size s) header
    ∙ ap (λ (l : List ℕ). l ++ drop header_size s) (front ∙ part-take header_size s 0 (omega arith)) ∙ take-append-drop header_size s

-- So the write of an accepted little-endian datagram's header and body is answered 0, and leaves its bytes at the front of the buffer.
module _ (s out : List ℕ) (octets : (i : ℕ) → get_or s i 0 < 256) (done : (reading s).answer ≡ Done) (room : length out ≡ pdu_size) where
  write_passes : answer_of (write_refusals (length out) (reading s).header.kind (reading s).header.authentication (length (body_of s))) ≡ Done
  unfolding header_of
  write_passes =
      let r = accepted_readable s done in
      let is = accepted_reading s done in
      let kind : (reading s).header.kind ≡ get_or s 1 0 = ap (λ (x : Reading). x.header.kind) is in
      let authentication : (reading s).header.authentication ≡ get_or s 78 0 = ap (λ (x : Reading). x.header.authentication) is in
      writable_passes (length out) (reading s).header.kind (reading s).header.authentication (length (body_of s))
      (record {
        room = room;
        known_type = rw kind r.known_type;
        unauthenticated = authentication ∙ r.unauthenticated;
        short = body_short s done;
      })

  pub write-back : (reading s).little ≡ true
      → ((writing (reading s).header (body_of s) out).result ≡ record { answer = Done; length = length s })
      × ((writing (reading s).header (body_of s) out).out ≡ placed 0 s out)
  unfolding writing write_by body_of
  write-back little =
      let r = accepted_readable s done in
      let size : header_size + length (drop header_size s) ≡ length s = omega (arith, length-drop header_size s, r.whole) in
      let bytes = written_read s octets done little in
      rw write_passes (ap (λ (n : ℕ). record { answer = Done; length = n }) size, ap (λ (d : List ℕ). placed 0 d out) bytes)

answered : (a : Answer) (h : Header) (body out : List ℕ) → (write_by a h body out).result.answer ≡ a
unfolding write_by
answered (Ok tt) h body out = refl
answered (Refused r) h body out = refl

module _ (h : Header) (body out : List ℕ) where
  -- The writer answers by its table.
  pub write_answers : (writing h body out).result.answer
      ≡ answer_of (write_refusals (length out) h.kind h.authentication (length body))
  unfolding writing
  write_answers = answered (answer_of (write_refusals (length out) h.kind h.authentication (length body))) h body out

  -- What is known of a write that answers 0.
  pub accepted_writable : (writing h body out).result.answer ≡ Done
      → Writable (length out) h.kind h.authentication (length body)
  accepted_writable done =
      writable (length out) h.kind h.authentication (length body) (answer_done _ (sym write_answers ∙ done))

-- Where a write answers 0, the PDU stands at the front of the buffer, as long as the result says.
pub written-datagram : (h : Header) (body out : List ℕ) → Sized h → (writing h body out).result.answer ≡ Done
    → take (writing h body out).result.length (writing h body out).out ≡ datagram h body
unfolding writing write_by
written-datagram h body out z done =
    let w = accepted_writable h body out done in
    let size : length (datagram h body) ≡ header_size + length body = length-datagram h body z in
    rw (writable_passes (length out) h.kind h.authentication (length body) w)
    (placed-front (datagram h body) out (header_size + length body) size (omega arith))

-- The two together: what a write that answers 0 leaves in the buffer reads as the header and the body that were written.
pub read_back : (h : Header) (body out : List ℕ) → Fits h → (writing h body out).result.answer ≡ Done
    → (reading (take (writing h body out).result.length (writing h body out).out) ≡ accepted h)
    × (body_of (take (writing h body out).result.length (writing h body out).out) ≡ body)
read_back h body out f done =
    let w = accepted_writable h body out done in
    rw (written-datagram h body out f.sized done)
    (read-written h body f w.known_type w.unauthenticated w.short, body-written h body f.sized)
