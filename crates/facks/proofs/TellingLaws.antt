-- What one side tells the other by a fack.
use Prim.Native.Nat.{ℕ, ◌+◌, ◌-◌, ◌<◌, ◌≤◌}
use mathlib.Core.Bool.{Bool, true, false}
use mathlib.Core.List.{List}
use mathlib.Core.Path.{◌≡◌, refl, sym, ap, subst, ◌∙◌}
use native.Mathlib.Omega.{arith}
use native.Mathlib.Nat.{lt_of_lt_of_le}
use lib.Dec.{eqb}
use lib.ListN.{length, drop, get_or, length-drop}
use lib.Pow.{pow_mono}
use borrow.Author.Tests.{eqb-true, eqb-false}
use Rattle.words.specs.Bit.{bit}
use Rattle.words.specs.Choice.{choose}
use Rattle.words.specs.Sizes.{body_size, pdu_size, window_size}
use Rattle.answers.specs.Answer.{Done}
use Rattle.pdu.specs.declared.Header.{Header}
use Rattle.pdu.specs.Header.{datagram, body_of}
use Rattle.reader.specs.Reading.{Reading, reading}
use Rattle.writer.proofs.Returns.{Sized}
use Rattle.writer.proofs.RoundTrip.{Fits, read-written, kind-written, body-written}
use Rattle.bodies.specs.Fack.{FackReading, fack_bytes, fack_fields, fack_reading}
use Rattle.bodies.proofs.RoundTrip.{read-written-fack}
use Rattle.calls.specs.Sent.{Posting, sent_bytes}
use Rattle.calls.proofs.PostLaws.{whole, whole_bytes}
use Rattle.incoming.specs.declared.Incoming.{Incoming}
use Rattle.incoming.specs.Slots.{missing, contiguous}
use Rattle.incoming.proofs.SlotLaws.{count_held}
use Rattle.facks.specs.Mask.{last_contiguous, acknowledged_by, held_bit, mask_from, mask_of}
use Rattle.facks.specs.Telling.{acknowledged_in, body_in, TellsHeld, OtherType}
use Rattle.facks.proofs.MaskLaws.{word_below, count_small, mask-behind}

-- The number that one side sends acknowledges to the other the very contiguous count.
pub count-acknowledged : (count : ℕ) → count ≤ 65535 → acknowledged_by (last_contiguous count) ≡ count
unfolding acknowledged_by last_contiguous choose
count-acknowledged count small = by_count (eqb count 0) refl
  where
    by_number : (t : Bool) → eqb (count - 1) 65535 ≡ t → (count ≡ 0 → ⊥) → choose t 0 (count - 1 + 1) ≡ count
    by_number true e some = omega (arith, eqb-true (count - 1) 65535 e, some)
    by_number false e some = omega (arith, some)

    by_count : (t : Bool) → eqb count 0 ≡ t
        → choose (eqb (choose t 65535 (count - 1)) 65535) 0 (choose t 65535 (count - 1) + 1) ≡ count
    by_count true e = sym (eqb-true count 0 e)
    by_count false e = by_number (eqb (count - 1) 65535) refl (eqb-false count 0 e)

-- It fits its field.
pub number_small : (count : ℕ) → count ≤ window_size → last_contiguous count < 65536
unfolding last_contiguous choose
number_small count most = by_test (eqb count 0)
  where
    by_test : (t : Bool) → choose t 65535 (count - 1) < 65536
    by_test true = omega arith
    by_test false = omega arith

-- So does the mask.
pub mask_small : (m : Incoming) → length m.slots ≡ window_size → mask_of m < 4294967296
unfolding mask_of mask_from
mask_small m long =
    let size : length (drop (contiguous m) m.slots) ≤ 32 = omega (arith, length-drop (contiguous m) m.slots) in
    lt_of_lt_of_le (word_below (drop (contiguous m) m.slots)) (pow_mono size)

-- The body of a fack is short.
pub fack_short : (serial mask : ℕ) → length (fack_bytes (fack_fields serial mask)) ≤ body_size
unfolding fack_bytes
fack_short serial mask = omega arith

-- A fack as it is sent tells its reader what is held, of which call and with which serials.
module _ (h : Header) (m : Incoming) (answered : ℕ) (fits : Fits h) (typed : h.kind ≡ 9)
    (plain : h.authentication ≡ 0) (named : h.fragment ≡ last_contiguous (contiguous m)) (small : answered < 65536)
    (long : length m.slots ≡ window_size) where
  abbrev body : List ℕ
  body = fack_bytes (fack_fields answered (mask_of m))

  abbrev pdu : List ℕ
  pdu = datagram h body

  -- The reader accepts it, with its header,
  taken : reading pdu ≡ record { answer = Done; little = true; header = h }
  taken = read-written h body fits (rw typed (omega arith)) plain (fack_short answered (mask_of m))

  -- takes it as acknowledging the contiguous count,
  count_told : acknowledged_in pdu ≡ contiguous m
  count_told =
      ap (λ (r : Reading). acknowledged_by r.header.fragment) taken
      ∙ ap acknowledged_by named
      ∙ count-acknowledged (contiguous m) (omega (arith, count_small m long))

  -- and reads the mask and the serial answered.
  body_told : body_in pdu ≡ record { answer = Done; fack = fack_fields answered (mask_of m) }
  body_told =
      ap (λ (r : Reading). fack_reading r.little (body_of pdu)) taken
      ∙ ap (fack_reading true) (body-written h body fits.sized)
      ∙ read-written-fack answered (mask_of m) small (mask_small m long)

  pub fack_tells : TellsHeld m h.number h.serial answered pdu
  unfolding contiguous
  fack_tells = record {
    accepted = ap (λ (r : Reading). r.answer) taken;
    kind = ap (λ (r : Reading). r.header.kind) taken ∙ typed;
    formed = ap (λ (r : FackReading). r.answer) body_told;
    number = ap (λ (r : Reading). r.header.number) taken;
    own = ap (λ (r : Reading). r.header.serial) taken;
    counted = count_told;
    below = λ f under. count_held m.slots f missing (rw (← count_told) under);
    behind =
        λ j few.
        ap (λ (r : FackReading). bit j r.fack.mask) body_told ∙ mask-behind m j
        ∙ ap (λ (n : ℕ). held_bit (get_or m.slots (n + j) missing).held) (sym count_told);
    answers = ap (λ (r : FackReading). r.fack.serial) body_told;
  }

  -- So does one that was sent into a buffer of 1,472 bytes, read off that buffer.
  pub sent_tells : (p : Posting) (out : List ℕ) → length out ≡ pdu_size → p ≡ whole h body out
      → TellsHeld m h.number h.serial answered (sent_bytes p.sent p.out)
  sent_tells p out room e =
      subst (TellsHeld m h.number h.serial answered)
      (sym (ap (λ (q : Posting). sent_bytes q.sent q.out) e
      ∙ whole_bytes h body out room fits.sized (fack_short answered (mask_of m))))
      fack_tells

-- A PDU of another type that was so sent is none.
pub sent_other : (h : Header) (body out : List ℕ) → Sized h → h.kind ≤ 10 → h.authentication ≡ 0
    → length body ≤ body_size → (h.kind ≡ 9 → ⊥) → length out ≡ pdu_size → (p : Posting) → p ≡ whole h body out
    → OtherType (sent_bytes p.sent p.out)
sent_other h body out sized known plain short other room p e =
    let bytes = ap (λ (q : Posting). sent_bytes q.sent q.out) e ∙ whole_bytes h body out room sized short in
    let read = kind-written h body sized known plain short in
    subst OtherType (sym bytes) (record { accepted = read.0; kind = λ is. other (sym read.1 ∙ is) })
