-- A part of a record as bytes and back is the part again; and what is read back is what was written.
use Prim.Native.Nat.{ℕ, zero, suc, ◌+◌, ◌^◌, ◌≤◌, ◌<◌}
use mathlib.Core.Bool.{Bool, true, false}
use mathlib.Core.List.{List}
use mathlib.Core.Path.{◌≡◌, refl, ap, ◌∙◌}
use native.Mathlib.Omega.{arith}
use lib.Dec.{eqb, leb}
use lib.ListN.{length}
use borrow.Author.Tests.{lt-ltb, ne_eqb}
use Rattle.words.specs.Choice.{choose, either, mark_of}
use Rattle.words.specs.Number.{digits, part, number}
use Rattle.words.proofs.Number.{value-bytes, part_all}
use Rattle.incoming.specs.Last.{Last, Unknown, At}
use Rattle.timers.specs.Timer.{Timer, Off, Armed}
use Rattle.record_bytes.specs.Fits.{FitsLast, FitsTimer}
use Rattle.record_bytes.specs.Parts.{timer_where, is_armed, timer_ticket, last_field, last_of, uuid_in}
use Rattle.record_bytes.specs.Layout.{last_readable}
use Rattle.record_bytes.proofs.Places.{uuid-bytes}

-- A number that fits its width comes back.
pub number-back : (n v : ℕ) → v < 256 ^ n → number n true (digits n v) 0 ≡ v
unfolding number
number-back n v h = rw (part_all n (digits n v) (length_digits n v)) (value-bytes n true v h)
  where
    length_digits : (m w : ℕ) → length (digits m w) ≡ m
    length_digits zero w = refl
    length_digits (suc m) w = ap suc (length_digits m _)

-- Marks.
pub mark-back : (b : Bool) → eqb (mark_of b) 1 ≡ b
unfolding mark_of choose
mark-back true = refl
mark-back false = refl

pub mark-readable : (b : Bool) → leb (mark_of b) 1 ≡ true
unfolding mark_of choose
mark-readable true = refl
mark-readable false = refl

pub mark_small : (b : Bool) → mark_of b < 256
unfolding mark_of choose
mark_small true = omega arith
mark_small false = omega arith

-- Timers.
pub ticket_small : (t : Timer) → FitsTimer t → timer_ticket t < 18446744073709551616
ticket_small Off fits = omega arith
ticket_small (Armed ticket) fits = fits

pub timer-same : (t : Timer) → timer_where (is_armed t) (timer_ticket t) ≡ t
unfolding timer_where choose
timer-same Off = refl
timer-same (Armed ticket) = refl

pub timer-back : (t : Timer) → FitsTimer t
    → timer_where (eqb (mark_of (is_armed t)) 1) (number 8 true (digits 8 (timer_ticket t)) 0) ≡ t
timer-back t fits =
    rw (mark-back (is_armed t), number-back 8 (timer_ticket t) (ticket_small t fits)) (timer-same t)

-- A timer that is not armed is written with ticket 0.
pub ticket-clear : (t : Timer) → mark_of (is_armed t) ≡ 0 → number 8 true (digits 8 (timer_ticket t)) 0 ≡ 0
unfolding mark_of choose number
ticket-clear Off e = refl
ticket-clear (Armed ticket) e = absurd (omega (arith, e))

-- The known last.
last_small : (l : Last) → FitsLast l → last_field l < 65536
last_small Unknown fits = omega arith
last_small (At n) fits = omega (arith, fits)

last-same : (l : Last) → FitsLast l → last_of (last_field l) ≡ l
unfolding last_of choose
last-same Unknown fits = refl
last-same (At n) fits =
    ap (λ (t : Bool). choose t Unknown (At n)) (ne_eqb n 65535 (λ (e : n ≡ 65535). omega (arith, fits, e)))

pub last-back : (l : Last) → FitsLast l → last_of (number 2 true (digits 2 (last_field l)) 0) ≡ l
last-back l fits = ap last_of (number-back 2 (last_field l) (last_small l fits)) ∙ last-same l fits

last_allowed : (l : Last) → FitsLast l → last_readable (last_field l) ≡ true
unfolding last_readable either choose
last_allowed Unknown fits = refl
last_allowed (At n) fits = ap (λ (t : Bool). choose t true (eqb n 65535)) (lt-ltb n 256 fits)

pub last-readable : (l : Last) → FitsLast l → last_readable (number 2 true (digits 2 (last_field l)) 0) ≡ true
last-readable l fits = ap last_readable (number-back 2 (last_field l) (last_small l fits)) ∙ last_allowed l fits

-- A UUID within bytes is its sixteen bytes.
pub uuid-part : (s : List ℕ) (at : ℕ) → at + 16 ≤ length s → uuid_in s at ≡ part 16 s at
uuid-part s at h = uuid-bytes s at
