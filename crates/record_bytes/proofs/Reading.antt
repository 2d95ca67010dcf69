-- What is read out of bytes and written again is those bytes.
use Prim.Native.Nat.{ℕ, zero, suc, ◌+◌, ◌-◌, ◌≤◌, ◌<◌}
use mathlib.Core.Bool.{Bool, true, false, false≢true}
use mathlib.Core.List.{List, ◌∷◌}
use mathlib.Core.Path.{◌≡◌, refl, sym, ap, ◌∙◌}
use native.Mathlib.Omega.{arith}
use lib.Dec.{eqb, leb, ltb}
use lib.ListN.{get_or, drop, replicate}
use lib.Seq.{get_or-drop}
use borrow.Author.Tests.{ltb-true, leb-true, eqb-true, eqb-false}
use Rattle.words.specs.Choice.{choose, both, either, mark_of}
use Rattle.words.specs.Number.{part, number}
use Rattle.words.specs.Sizes.{retry_limit}
use Rattle.words.proofs.Tests.{both_true, choose_true}
use Rattle.incoming.specs.Last.{Unknown, At}
use Rattle.record_bytes.specs.Fits.{FitsLast, FitsTimer}
use Rattle.record_bytes.specs.Canonical.{TicketClear}
use Rattle.record_bytes.specs.Parts.{timer_where, is_armed, timer_ticket, last_field, last_of}
use Rattle.record_bytes.specs.Parts.{clear, count_where}
use Rattle.record_bytes.specs.Layout.{last_readable}

-- A test of the first n holds of each of them.
pub each_of : (all one : ℕ → Bool) → ((n : ℕ) → all (suc n) ≡ both (all n) (one n))
    → (n : ℕ) → all n ≡ true → (i : ℕ) → i < n → one i ≡ true
each_of all one step zero e i h = absurd (omega arith)
each_of all one step (suc n) e i h =
    let known : (all n ≡ true) × (one n ≡ true) = both_true (all n) (one n) (sym (step n) ∙ e) in
    last_or_before (eqb i n) refl known.1 (each_of all one step n known.0 i)
  where
    last_or_before : (t : Bool) → eqb i n ≡ t → one n ≡ true → (i < n → one i ≡ true) → one i ≡ true
    last_or_before true p here before = ap one (eqb-true i n p) ∙ here
    last_or_before false p here before =
        let other : i ≡ n → ⊥ = eqb-false i n p in
        before (omega (arith, other))

-- Bytes that are clear are zeros.
pub clear_at : (n : ℕ) (s : List ℕ) → clear n s ≡ true → (i : ℕ) → i < n → get_or s i 0 ≡ 0
unfolding clear
clear_at n s e i h =
    eqb-true (get_or s i 0) 0
    (each_of (λ (k : ℕ). clear k s) (λ (k : ℕ). eqb (get_or s k 0) 0) (λ (k : ℕ). refl) n e i h)

zeros-part : (n : ℕ) (s : List ℕ) (at : ℕ) → ((i : ℕ) → at ≤ i → i < at + n → get_or s i 0 ≡ 0)
    → part n s at ≡ replicate n 0
zeros-part zero s at h = refl
zeros-part (suc n) s at h =
    λ i. h at (omega arith) (omega arith) i
    ∷ zeros-part n s (at + 1) (λ (k : ℕ) (low : at + 1 ≤ k) (high : k < at + 1 + n). h k (omega arith) (omega arith)) i

pub clear-part : (n : ℕ) (s : List ℕ) (at : ℕ) → clear n (drop at s) ≡ true → part n s at ≡ replicate n 0
clear-part n s at e =
    zeros-part n s at (λ (i : ℕ) (low : at ≤ i) (high : i < at + n).
    let place : at + (i - at) ≡ i = omega arith in
    ap (λ (k : ℕ). get_or s k 0) (sym place)
    ∙ sym (get_or-drop at s (i - at) 0)
    ∙ clear_at n (drop at s) e (i - at) (omega arith))

-- A mark is 1, or else 0;
pub mark_zero : (m : ℕ) → leb m 1 ≡ true → eqb m 1 ≡ false → m ≡ 0
mark_zero m e p =
    let other : m ≡ 1 → ⊥ = eqb-false m 1 p in
    omega (arith, leb-true m 1 e, other)

pub mark_again : (m : ℕ) → leb m 1 ≡ true → mark_of (eqb m 1) ≡ m
unfolding mark_of choose
mark_again m e = by_mark (eqb m 1) refl
  where
    by_mark : (t : Bool) → eqb m 1 ≡ t → mark_of t ≡ m
    by_mark true p = sym (eqb-true m 1 p)
    by_mark false p = sym (mark_zero m e p)

-- a timer by its mark and its ticket,
pub armed_again : (armed : Bool) (ticket : ℕ) → is_armed (timer_where armed ticket) ≡ armed
unfolding timer_where choose
armed_again true ticket = refl
armed_again false ticket = refl

ticket_where : (armed : Bool) (ticket : ℕ) → (armed ≡ false → ticket ≡ 0)
    → timer_ticket (timer_where armed ticket) ≡ ticket
unfolding timer_where choose
ticket_where true ticket h = refl
ticket_where false ticket h = sym (h refl)

pub ticket_again : (b : List ℕ) (mark at : ℕ) → leb (get_or b mark 0) 1 ≡ true → TicketClear mark at b
    → timer_ticket (timer_where (eqb (get_or b mark 0) 1) (number 8 true b at)) ≡ number 8 true b at
ticket_again b mark at e h =
    ticket_where _ _ (λ (p : eqb (get_or b mark 0) 1 ≡ false). h (mark_zero (get_or b mark 0) e p))

pub timer_fits : (armed : Bool) (ticket : ℕ) → ticket < 18446744073709551616 → FitsTimer (timer_where armed ticket)
unfolding timer_where choose
timer_fits true ticket h = h
timer_fits false ticket h = tt

-- the known last,
pub last_again : (n : ℕ) → last_field (last_of n) ≡ n
unfolding last_of choose
last_again n = by_test (eqb n 65535) refl
  where
    by_test : (t : Bool) → eqb n 65535 ≡ t → last_field (choose t Unknown (At n)) ≡ n
    by_test true p = sym (eqb-true n 65535 p)
    by_test false p = refl

pub last_fits : (n : ℕ) → last_readable n ≡ true → FitsLast (last_of n)
unfolding last_readable last_of either choose
last_fits n e = by_tests (ltb n 256) (eqb n 65535) refl e
  where
    by_tests : (low unknown : Bool) → ltb n 256 ≡ low → choose low true unknown ≡ true
        → FitsLast (choose unknown Unknown (At n))
    by_tests low true p q = tt
    by_tests true false p q = ltb-true n 256 p
    by_tests false false p q = absurd (false≢true q)

-- and the count of a side. It is the bytes' own where they are readable, else one that no record may have.
pub count_again : (readable : Bool) (count : ℕ) → readable ≡ true → count_where readable count ≡ count
unfolding count_where
count_again readable count e = choose_true readable count _ e

pub count_broken : (readable : Bool) (count : ℕ) → readable ≡ false → leb (count_where readable count) retry_limit ≡ false
unfolding count_where choose
count_broken readable count e = ap (λ (r : Bool). leb (count_where r count) retry_limit) e
