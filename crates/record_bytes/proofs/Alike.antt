-- Bytes that are the same but at places that are not judged are both readable or both not, and the same stands in them.
use Prim.Native.Nat.{ℕ, zero, suc, ◌+◌, ◌-◌, ◌*◌, ◌≤◌, ◌<◌}
use mathlib.Core.Bool.{Bool, true, false}
use mathlib.Core.List.{List, ◌++◌}
use mathlib.Core.Logic.{◌⊎◌, inl, inr}
use mathlib.Core.Path.{◌≡◌, refl, sym, ap, ◌∙◌}
use native.Mathlib.Omega.{arith}
use lib.Dec.{eqb, ltb}
use lib.ListN.{length, get_or, take, drop, set, get_or-append}
use lib.Seq.{get_or-append-add, get_or-take, get_or-drop, length-take-le}
use borrow.Author.Tests.{eqb-true, ltb-true, ltb-false}
use Rattle.words.specs.Choice.{choose}
use Rattle.words.specs.Number.{number}
use Rattle.words.specs.Place.{put_at, placed}
use Rattle.words.specs.Sizes.{window_size}
use Rattle.words.proofs.Place.{placed_fits, length-put_at}
use Rattle.timers.specs.Timer.{Timer}
use Rattle.record_bytes.specs.declared.Fields.{Fields}
use Rattle.record_bytes.specs.Canonical.{SharedUnjudged, SameButAt}
use Rattle.record_bytes.specs.Parts.{timer_where, timer_in, last_of, uuid_in}
use Rattle.record_bytes.specs.Held.{length_where, slot_of, slot_in, slots_below, slots_in, slot_readable, readable_below, slots_readable}
use Rattle.record_bytes.specs.Layout.{spares_readable, readable}
use Rattle.record_bytes.specs.Layout.{call_in, outgoing_in, incoming_in, fields_in}
use Rattle.record_bytes.proofs.Places.{part_alike, number_alike, clear_alike, uuid-bytes}

-- The ticket of a timer that is not armed, and the length of a slot that is not held, may be any.
pub timer_alike : (armed : Bool) (t u : ℕ) → (armed ≡ true → t ≡ u) → timer_where armed t ≡ timer_where armed u
unfolding timer_where choose
timer_alike true t u h = ap (timer_where true) (h refl)
timer_alike false t u h = refl

length_alike : (held : Bool) (m n : ℕ) → (held ≡ true → m ≡ n) → length_where held m ≡ length_where held n
unfolding length_where choose
length_alike true m n h = h refl
length_alike false m n h = refl

-- A mark of 1 is not 0.
pub mark_not_zero : (m : ℕ) → eqb m 1 ≡ true → m ≡ 0 → ⊥
mark_not_zero m e z = omega (arith, eqb-true m 1 e, z)

pub timer_at_alike : (b c : List ℕ) (mark at : ℕ) → get_or c mark 0 ≡ get_or b mark 0
    → ((get_or b mark 0 ≡ 0 → ⊥) → number 8 true c at ≡ number 8 true b at) → timer_in c mark at ≡ timer_in b mark at
timer_at_alike b c mark at same ticket =
    ap (λ (m : ℕ). timer_where (eqb m 1) (number 8 true c at)) same
    ∙ timer_alike (eqb (get_or b mark 0) 1) _ _
    (λ (e : eqb (get_or b mark 0) 1 ≡ true). ticket (mark_not_zero (get_or b mark 0) e))

-- Slots by their bytes.
module _ (s t : List ℕ) (mark : (f : ℕ) → f < window_size → get_or t (4 * f + 2) 0 ≡ get_or s (4 * f + 2) 0) where
  slots-alike
      : ((f : ℕ) → f < window_size → (get_or s (4 * f + 2) 0 ≡ 0 → ⊥) → number 2 true t (4 * f) ≡ number 2 true s (4 * f))
      → (n : ℕ) → n ≤ window_size → slots_below t n ≡ slots_below s n
  unfolding slots_below slot_in slot_of
  slots-alike lengths zero below = refl
  slots-alike lengths (suc n) below =
      let here : get_or t (4 * n + 2) 0 ≡ get_or s (4 * n + 2) 0 = mark n (omega arith) in
      let length : length_where (eqb (get_or t (4 * n + 2) 0) 1) (number 2 true t (4 * n))
      ≡ length_where (eqb (get_or s (4 * n + 2) 0) 1) (number 2 true s (4 * n)) =
      ap (λ (m : ℕ). length_where (eqb m 1) (number 2 true t (4 * n))) here
      ∙ length_alike (eqb (get_or s (4 * n + 2) 0) 1) _ _
      (λ (e : eqb (get_or s (4 * n + 2) 0) 1 ≡ true).
      lengths n (omega arith) (mark_not_zero (get_or s (4 * n + 2) 0) e)) in
      λ i. set (slots-alike lengths n (omega arith) i) n (record { held = eqb (here i) 1; length = length i })

  readable_alike : ((f : ℕ) → f < window_size → get_or t (4 * f + 3) 0 ≡ get_or s (4 * f + 3) 0)
      → (n : ℕ) → n ≤ window_size → readable_below t n ≡ readable_below s n
  unfolding readable_below slot_readable
  readable_alike spare zero below = refl
  readable_alike spare (suc n) below =
      rw (readable_alike spare n (omega arith), mark n (omega arith), spare n (omega arith))

-- What stands in bytes, with another word at 48 and another third timer.
abbrev pub with_own : ℕ → Timer → Fields → Fields
with_own word cancel f = record {
  state = f.state;
  count = f.count;
  extra = f.extra;
  activity = f.activity;
  number = f.number;
  boot = f.boot;
  call = f.call;
  outgoing = f.outgoing;
  incoming = f.incoming;
  tickets = f.tickets;
  timer = f.timer;
  armed = f.armed;
  word = word;
  cancel = cancel;
  cancels = f.cancels;
}

-- Each side has its own places that are not judged beside those of both, and they are among bytes 48 to 63. Nothing
-- from 272 on is looked at.
module _ (Unjudged : ℕ → Type 0) (b c : List ℕ) (same : (i : ℕ) → (Unjudged i → ⊥) → get_or c i 0 ≡ get_or b i 0)
    (own : (i : ℕ) → i < 272 → Unjudged i → SharedUnjudged b i ⊎ ((48 ≤ i) × (i < 64))) where
  judged : (i : ℕ) → i < 272 → (SharedUnjudged b i → ⊥) → ((48 ≤ i) × (i < 64) → ⊥) → get_or c i 0 ≡ get_or b i 0
  judged i below p q = same i (λ (u : Unjudged i). by_side (own i below u))
    where
      by_side : SharedUnjudged b i ⊎ ((48 ≤ i) × (i < 64)) → ⊥
      by_side (inl u) = p u
      by_side (inr u) = q u

  -- The places that are always judged: those before 40,
  pub front_alike : (i : ℕ) → i < 40 → get_or c i 0 ≡ get_or b i 0
  front_alike i h = judged i (omega arith) shared (λ u. omega (arith, u.0))
    where
      shared : SharedUnjudged b i → ⊥
      shared (inl u) = omega (arith, u.1)
      shared (inr u) = omega (arith, u.from)

  -- those from 64 to 143,
  pub back_alike : (i : ℕ) → 64 ≤ i → i < 144 → get_or c i 0 ≡ get_or b i 0
  back_alike i low high = judged i (omega arith) shared (λ u. omega (arith, u.1))
    where
      shared : SharedUnjudged b i → ⊥
      shared (inl u) = omega (arith, u.2)
      shared (inr u) = omega (arith, u.from)

  -- the third and fourth byte of a slot;
  slot_alike : (f k : ℕ) → f < window_size → 2 ≤ k → k < 4
      → get_or (drop 144 c) (4 * f + k) 0 ≡ get_or (drop 144 b) (4 * f + k) 0
  slot_alike f k below low high =
      get_or-drop 144 c (4 * f + k) 0 ∙ judged (144 + (4 * f + k)) (omega arith) shared (λ u. omega (arith, u.1))
      ∙ sym (get_or-drop 144 b (4 * f + k) 0)
    where
      shared : SharedUnjudged b (144 + (4 * f + k)) → ⊥
      shared (inl u) = omega (arith, u.2)
      shared (inr u) = omega (arith, u.from, u.below)

  -- and, by their marks, the ticket at 40 and lengths.
  ticket_alike : (get_or b 64 0 ≡ 0 → ⊥) → number 8 true c 40 ≡ number 8 true b 40
  ticket_alike armed =
      number_alike 8 b c 40 (λ (i : ℕ) (low : 40 ≤ i) (high : i < 48).
      judged i (omega arith) (shared i high) (λ u. omega (arith, u.0)))
    where
      shared : (i : ℕ) → i < 48 → SharedUnjudged b i → ⊥
      shared i high (inl u) = armed u.0
      shared i high (inr u) = omega (arith, u.from)

  lengths_alike : (f : ℕ) → f < window_size → (get_or (drop 144 b) (4 * f + 2) 0 ≡ 0 → ⊥)
      → number 2 true (drop 144 c) (4 * f) ≡ number 2 true (drop 144 b) (4 * f)
  lengths_alike f below held =
      number_alike 2 (drop 144 b) (drop 144 c) (4 * f) (λ (i : ℕ) (low : 4 * f ≤ i) (high : i < 4 * f + 2).
      get_or-drop 144 c i 0 ∙ judged (144 + i) (omega arith) (shared i low high) (λ u. omega (arith, u.1))
      ∙ sym (get_or-drop 144 b i 0))
    where
      shared : (i : ℕ) → 4 * f ≤ i → i < 4 * f + 2 → SharedUnjudged b (144 + i) → ⊥
      shared i low high (inl u) = omega (arith, u.2)
      shared i low high (inr u) =
          let place : 144 + (4 * f + 2) ≡ 4 * u.fragment + 146 = omega (arith, u.from, u.below) in
          held (get_or-drop 144 b (4 * f + 2) 0 ∙ ap (λ (k : ℕ). get_or b k 0) place ∙ u.missing)

  mark_alike : (f : ℕ) → f < window_size → get_or (drop 144 c) (4 * f + 2) 0 ≡ get_or (drop 144 b) (4 * f + 2) 0
  mark_alike f below = slot_alike f 2 below (omega arith) (omega arith)

  spare_alike : (f : ℕ) → f < window_size → get_or (drop 144 c) (4 * f + 3) 0 ≡ get_or (drop 144 b) (4 * f + 3) 0
  spare_alike f below = slot_alike f 3 below (omega arith) (omega arith)

  low_number : (n at : ℕ) → at + n ≤ 40 → number n true c at ≡ number n true b at
  low_number n at h =
      number_alike n b c at (λ (i : ℕ) (low : at ≤ i) (high : i < at + n). front_alike i (omega arith))

  -- So they are both readable or both not,
  pub shared_readable_lem : readable c ≡ readable b
  unfolding readable spares_readable slots_readable
  shared_readable_lem =
      let front : (i : ℕ) → i < 40 → get_or c i 0 ≡ get_or b i 0 = front_alike in
      let back : (i : ℕ) → 64 ≤ i → i < 144 → get_or c i 0 ≡ get_or b i 0 = back_alike in
      rw (
        front 1 (omega arith),
        back 64 (omega arith) (omega arith),
        back 65 (omega arith) (omega arith),
        back 66 (omega arith) (omega arith),
        low_number 2 10 (omega arith),
        back 67 (omega arith) (omega arith),
        clear_alike 24 b c 72 (λ (k : ℕ) (low : 72 ≤ k) (high : k < 96). back k (omega arith) (omega arith)),
        readable_alike (drop 144 b) (drop 144 c) mark_alike spare_alike window_size (omega arith),
      )

  uuid_alike : (at : ℕ) → 64 ≤ at → at + 16 ≤ 144 → uuid_in c at ≡ uuid_in b at
  uuid_alike at low high =
      uuid-bytes c at
      ∙ part_alike 16 b c at (λ (i : ℕ) (from : at ≤ i) (to : i < at + 16). back_alike i (omega arith) (omega arith))
      ∙ sym (uuid-bytes b at)

  -- and the same stands in them, but for the word at 48 and the third timer.
  pub fields_alike : fields_in c ≡ with_own (number 8 true c 48) (timer_in c 66 56) (fields_in b)
  unfolding fields_in call_in outgoing_in incoming_in slots_in
  fields_alike =
      let front : (i : ℕ) → i < 40 → get_or c i 0 ≡ get_or b i 0 = front_alike in
      let cancels : number 4 true c 68 ≡ number 4 true b 68 =
      number_alike 4 b c 68 (λ (k : ℕ) (low : 68 ≤ k) (high : k < 72). back_alike k (omega arith) (omega arith)) in
      λ i. record {
        state = front 0 (omega arith) i;
        count = front 2 (omega arith) i;
        extra = front 3 (omega arith) i;
        activity = uuid_alike 96 (omega arith) (omega arith) i;
        number = low_number 4 16 (omega arith) i;
        boot = low_number 4 28 (omega arith) i;
        call = record {
          idempotent = eqb (front 1 (omega arith) i) 1;
          object = uuid_alike 112 (omega arith) (omega arith) i;
          interface = uuid_alike 128 (omega arith) (omega arith) i;
          version = low_number 4 20 (omega arith) i;
          operation = low_number 2 14 (omega arith) i;
        };
        outgoing = record {
          length = low_number 4 24 (omega arith) i;
          count = low_number 2 4 (omega arith) i;
          sent = low_number 2 6 (omega arith) i;
          acknowledged = low_number 2 8 (omega arith) i;
          serial = low_number 2 12 (omega arith) i;
        };
        incoming = record {
          slots = slots-alike (drop 144 b) (drop 144 c) mark_alike lengths_alike window_size (omega arith) i;
          last = last_of (low_number 2 10 (omega arith) i);
        };
        tickets = low_number 8 32 (omega arith) i;
        timer = timer_at_alike b c 64 40 (back_alike 64 (omega arith) (omega arith)) ticket_alike i;
        armed = eqb (back_alike 65 (omega arith) (omega arith) i) 1;
        word = number 8 true c 48;
        cancel = timer_in c 66 56;
        cancels = cancels i;
      }

-- Bytes put into places that are not judged: any ticket, length or status there.
put_aside : (at : ℕ) (s d : List ℕ) (i : ℕ) → at + length s ≤ length d → ((at ≤ i) × (i < at + length s) → ⊥)
    → get_or (put_at at s d) i 0 ≡ get_or d i 0
unfolding put_at
put_aside at s d i room outside = by_place (ltb i at) refl
  where
    front : length (take at d) ≡ at
    front = length-take-le at d (omega (arith, room))

    past_end : at ≤ i → (test : Bool) → ltb i (at + length s) ≡ test → at + length s ≤ i
    past_end low true e = absurd (outside (low, ltb-true i (at + length s) e))
    past_end low false e = ltb-false i (at + length s) e

    behind : at ≤ i → get_or (take at d ++ (s ++ drop (at + length s) d)) i 0 ≡ get_or d i 0
    behind low =
        let past : at + length s ≤ i = past_end low (ltb i (at + length s)) refl in
        let first : i ≡ length (take at d) + (length s + (i - (at + length s))) = omega (arith, front, past) in
        let last : at + length s + (i - (at + length s)) ≡ i = omega (arith, past) in
        ap (λ (k : ℕ). get_or (take at d ++ (s ++ drop (at + length s) d)) k 0) first
        ∙ get_or-append-add (take at d) (s ++ drop (at + length s) d) (length s + (i - (at + length s))) 0
        ∙ get_or-append-add s (drop (at + length s) d) (i - (at + length s)) 0
        ∙ get_or-drop (at + length s) d (i - (at + length s)) 0
        ∙ ap (λ (k : ℕ). get_or d k 0) last

    by_place : (test : Bool) → ltb i at ≡ test → get_or (take at d ++ (s ++ drop (at + length s) d)) i 0 ≡ get_or d i 0
    by_place true e =
        get_or-append (take at d) (s ++ drop (at + length s) d) 0 i (omega (arith, front, ltb-true i at e))
        ∙ get_or-take at d i 0 (ltb-true i at e)
    by_place false e = behind (ltb-false i at e)

put_alike : (Unjudged : ℕ → Type 0) (at : ℕ) (s b : List ℕ) → length b ≡ 272 → at + length s ≤ 272
    → ((i : ℕ) → at ≤ i → i < at + length s → Unjudged i) → SameButAt Unjudged b (placed at s b)
put_alike Unjudged at s b size room there =
    let fits : at + length s ≤ length b = omega (arith, size, room) in
    record {
      size = size;
      other_size = ap length (placed_fits at s b fits) ∙ length-put_at at s b fits ∙ size;
      same = λ (i : ℕ) (judged : Unjudged i → ⊥).
          ap (λ (l : List ℕ). get_or l i 0) (placed_fits at s b fits)
          ∙ put_aside at s b i fits (λ (place : (at ≤ i) × (i < at + length s)). judged (there i place.0 place.1));
    }

-- So whatever is put into places that are not judged, nothing changes: said once of either side, by what it calls
-- readable, the record that it reads and the places that it does not judge.
module _ {Machine : Type 0} (is_readable : List ℕ → Bool) (record_in : List ℕ → Machine)
    (Unjudged : List ℕ → ℕ → Type 0)
    (alike : (b c : List ℕ) → SameButAt (Unjudged b) b c → (is_readable c ≡ is_readable b) × (record_in c ≡ record_in b))
  where
    pub put_any : (at : ℕ) (s b : List ℕ) → length b ≡ 272 → at + length s ≤ 272
        → ((i : ℕ) → at ≤ i → i < at + length s → Unjudged b i)
        → (is_readable (placed at s b) ≡ is_readable b) × (record_in (placed at s b) ≡ record_in b)
    put_any at s b size room there = alike b (placed at s b) (put_alike (Unjudged b) at s b size room there)

    module _ (shared : (b : List ℕ) (i : ℕ) → SharedUnjudged b i → Unjudged b i) (b : List ℕ)
        (size : length b ≡ 272) where
      -- Any 8 bytes as the ticket of the first timer where it is not armed.
      pub first_ticket_any : (ticket : List ℕ) → length ticket ≡ 8 → get_or b 64 0 ≡ 0
          → (is_readable (placed 40 ticket b) ≡ is_readable b) × (record_in (placed 40 ticket b) ≡ record_in b)
      first_ticket_any ticket width unarmed =
          put_any 40 ticket b size (omega (arith, width))
          (λ (i : ℕ) (low : 40 ≤ i) (high : i < 40 + length ticket).
          shared b i (inl (unarmed, low, omega (arith, high, width))))

      -- Any 2 bytes as the length of a slot that is not held.
      pub slot_length_any : (f : ℕ) (two : List ℕ) → f < window_size → length two ≡ 2 → get_or b (4 * f + 146) 0 ≡ 0
          → (is_readable (placed (4 * f + 144) two b) ≡ is_readable b)
          × (record_in (placed (4 * f + 144) two b) ≡ record_in b)
      slot_length_any f two below width missing =
          put_any (4 * f + 144) two b size (omega (arith, below, width))
          (λ (i : ℕ) (low : 4 * f + 144 ≤ i) (high : i < 4 * f + 144 + length two).
          shared b i (inr (record { fragment = f; missing = missing; from = low; below = omega (arith, high, width) })))
