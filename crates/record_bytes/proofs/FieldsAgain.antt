-- What stands in readable bytes fits them; and written again it is those bytes, where what is not judged is 0.
use Prim.Native.Nat.{ℕ, ◌+◌, ◌≤◌, ◌<◌}
use mathlib.Core.Bool.{true}
use mathlib.Core.List.{List, [], ◌∷◌, ◌++◌}
use mathlib.Core.Path.{◌≡◌, refl, sym, ap, subst, ◌∙◌}
use native.Mathlib.Omega.{arith}
use lib.Dec.{eqb, leb}
use lib.ListN.{length, get_or, drop, replicate, length-drop, take-append-drop}
use borrow.Author.Tests.{eqb-true}
use Rattle.words.specs.Choice.{mark_of}
use Rattle.words.specs.Number.{digits, part, number}
use Rattle.words.proofs.Number.{digits-part, part-take, length_part}
use Rattle.words.proofs.Tests.{both_true}
use Rattle.record_bytes.specs.Fits.{Octets, Uuid, FitsFields}
use Rattle.record_bytes.specs.Canonical.{TicketClear, LengthsClear}
use Rattle.record_bytes.specs.Parts.{timer_in, is_armed, timer_ticket, last_field, last_of, uuid_in}
use Rattle.record_bytes.specs.Held.{slots_bytes, slots_below, slots_in, slots_readable}
use Rattle.record_bytes.specs.Layout.{last_readable, marks_readable, spares_readable, readable}
use Rattle.record_bytes.specs.Layout.{call_in, outgoing_in, incoming_in, fields_in}
use Rattle.record_bytes.specs.Layout.{record_front, record_numbers, mark_bytes, record_back, laid_bytes, field_bytes}
use Rattle.record_bytes.proofs.ByteLaws.{octet_at, octets_part, octets_drop, number_below}
use Rattle.record_bytes.proofs.PartLaws.{uuid-part}
use Rattle.record_bytes.proofs.Reading.{clear-part, mark_again, armed_again, ticket_again, timer_fits}
use Rattle.record_bytes.proofs.Reading.{last_again, last_fits}
use Rattle.record_bytes.proofs.SlotReading.{slots_fit, slots_again}

-- Readable bytes, by their parts.
pub record Readable (b : List ℕ) : Type 0 where
  pub idempotent : leb (get_or b 1 0) 1 ≡ true
  pub first : leb (get_or b 64 0) 1 ≡ true
  pub second : leb (get_or b 65 0) 1 ≡ true
  pub third : leb (get_or b 66 0) 1 ≡ true
  pub last : last_readable (number 2 true b 10) ≡ true
  pub spare : get_or b 67 0 ≡ 0
  pub behind : part 24 b 72 ≡ replicate 24 0
  pub slots : slots_readable (drop 144 b) ≡ true

pub known : (b : List ℕ) → readable b ≡ true → Readable b
unfolding readable marks_readable spares_readable
known b e =
    let all = both_true _ _ e in
    let rest = both_true _ _ all.1 in
    let end = both_true _ _ rest.1 in
    let marks = both_true _ _ all.0 in
    let armed = both_true _ _ marks.1 in
    let others = both_true _ _ armed.1 in
    let spares = both_true _ _ end.0 in
    record {
      idempotent = marks.0;
      first = armed.0;
      second = others.0;
      third = others.1;
      last = rest.0;
      spare = eqb-true (get_or b 67 0) 0 spares.0;
      behind = clear-part 24 b 72 spares.1;
      slots = end.1;
    }

module _ (b : List ℕ) (size : length b ≡ 272) (octets : Octets b) (allowed : readable b ≡ true) where
  byte : (i : ℕ) → get_or b i 0 < 256
  byte = octet_at b octets

  uuid_fits : (at : ℕ) → at + 16 ≤ length b → Uuid (uuid_in b at)
  uuid_fits at room =
      subst Uuid (sym (uuid-part b at room))
      (record { size = length_part 16 b at; octets = octets_part 16 b at octets })

  pub bytes_fit : FitsFields (fields_in b)
  unfolding fields_in call_in outgoing_in incoming_in slots_in slots_below
  bytes_fit = record {
    state = byte 0;
    count = byte 2;
    extra = byte 3;
    activity = uuid_fits 96 (omega arith);
    number = number_below 4 true b 16 octets;
    boot = number_below 4 true b 28 octets;
    call = record {
      object = uuid_fits 112 (omega arith);
      interface = uuid_fits 128 (omega arith);
      version = number_below 4 true b 20 octets;
      operation = number_below 2 true b 14 octets;
    };
    outgoing = record {
      length = number_below 4 true b 24 octets;
      count = number_below 2 true b 4 octets;
      sent = number_below 2 true b 6 octets;
      acknowledged = number_below 2 true b 8 octets;
      serial = number_below 2 true b 12 octets;
    };
    incoming = record {
      size = refl;
      slots = slots_fit (drop 144 b) (octets_drop 144 b octets);
      last = last_fits (number 2 true b 10) (known b allowed).last;
    };
    tickets = number_below 8 true b 32 octets;
    timer = timer_fits (eqb (get_or b 64 0) 1) (number 8 true b 40) (number_below 8 true b 40 octets);
    word = number_below 8 true b 48 octets;
    cancel = timer_fits (eqb (get_or b 66 0) 1) (number 8 true b 56) (number_below 8 true b 56 octets);
    cancels = number_below 4 true b 68 octets;
  }

  digits_at : (n at : ℕ) → digits n (number n true b at) ≡ part n b at
  digits_at n at = digits-part n b at byte

  front-again
      : record_front (get_or b 0 0) (get_or b 2 0) (get_or b 3 0) (call_in b) (outgoing_in b) (last_of (number 2 true b 10))
      ≡ part 16 b 0
  unfolding call_in outgoing_in
  front-again =
      let r = known b allowed in
      let last : digits 2 (last_field (last_of (number 2 true b 10))) ≡ part 2 b 10 =
      ap (digits 2) (last_again (number 2 true b 10)) ∙ digits_at 2 10 in
      λ i.
      get_or b 0 0
      ∷ (mark_again (get_or b 1 0) r.idempotent i
      ∷ (get_or b 2 0
      ∷ (get_or b 3 0
      ∷ (digits_at 2 4 i
      ++ (digits_at 2 6 i
      ++ (digits_at 2 8 i
      ++ (last i
      ++ (digits_at 2 12 i
      ++ digits_at 2 14 i))))))))

  numbers-again
      : record_numbers (number 4 true b 16) (number 4 true b 20) (number 4 true b 24) (number 4 true b 28) ≡ part 16 b 16
  numbers-again = λ i. digits_at 4 16 i ++ (digits_at 4 20 i ++ (digits_at 4 24 i ++ digits_at 4 28 i))

  armed_at : (mark at : ℕ) → leb (get_or b mark 0) 1 ≡ true → mark_of (is_armed (timer_in b mark at)) ≡ get_or b mark 0
  armed_at mark at e =
      ap mark_of (armed_again (eqb (get_or b mark 0) 1) (number 8 true b at)) ∙ mark_again (get_or b mark 0) e

  marks_again : mark_bytes (timer_in b 64 40) (eqb (get_or b 65 0) 1) (timer_in b 66 56) ≡ part 4 b 64
  marks_again =
      let r = known b allowed in
      λ i.
      armed_at 64 40 r.first i
      ∷ (mark_again (get_or b 65 0) r.second i ∷ (armed_at 66 56 r.third i ∷ (sym r.spare i ∷ [])))

  ticket-digits : (mark at : ℕ) → leb (get_or b mark 0) 1 ≡ true → TicketClear mark at b
      → digits 8 (timer_ticket (timer_in b mark at)) ≡ part 8 b at
  ticket-digits mark at e clear = ap (digits 8) (ticket_again b mark at e clear) ∙ digits_at 8 at

  module _ (ticket : TicketClear 64 40 b) (cancel : TicketClear 66 56 b) (lengths : LengthsClear (drop 144 b)) where
    back_again : record_back (timer_in b 64 40) (eqb (get_or b 65 0) 1) (timer_in b 66 56) (number 4 true b 68) ≡ part 40 b 56
    back_again =
        let r = known b allowed in
        λ i.
        ticket-digits 66 56 r.third cancel i ++ (marks_again i ++ (digits_at 4 68 i ++ sym r.behind i))

    slots_same : slots_bytes (slots_in (drop 144 b)) ≡ drop 144 b
    slots_same =
        slots_again (drop 144 b) (octets_drop 144 b octets) (omega (arith, length-drop 144 b)) (known b allowed).slots
        lengths

    pub fields_again : field_bytes (fields_in b) ≡ b
    unfolding field_bytes fields_in call_in outgoing_in incoming_in
    fields_again =
        (λ i.
        laid_bytes (front-again i) (numbers-again i) (digits_at 8 32 i)
        (ticket-digits 64 40 (known b allowed).first ticket i) (digits_at 8 48 i)
        (back_again i) (uuid-part b 96 (omega arith) i) (uuid-part b 112 (omega arith) i)
        (uuid-part b 128 (omega arith) i) (slots_same i))
        ∙ ap (λ (l : List ℕ). l ++ drop 144 b) (part-take 144 b 0 (omega arith))
        ∙ take-append-drop 144 b
