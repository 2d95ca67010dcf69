-- Round trips of the bodies of cancel and cancel_ack.
use Prim.Native.Nat.{ℕ, zero, suc, ◌≤◌, ◌<◌}
use mathlib.Core.Bool.{Bool, true, false}
use mathlib.Core.List.{List, ◌++◌}
use mathlib.Core.Path.{◌≡◌, refl, sym, ap, ◌∙◌}
use native.Mathlib.Omega.{arith}
use lib.ListN.{length, get_or}
use lib.Dec.{eqb}
use borrow.Author.Tests.{eqb-true, ltb-false, not-false}
use Rattle.words.specs.Choice.{choose, either, mark_of}
use Rattle.words.specs.Number.{digits, part, number}
use Rattle.words.proofs.Number.{value-bytes, digits-part, part_all}
use Rattle.words.proofs.Tests.{choose_false, either_false}
use Rattle.answers.specs.declared.Refusal.TheVariants.{MalformedBody}
use Rattle.answers.specs.Answer.{Done}
use Rattle.answers.proofs.NumberLaws.{refused_not_done}
use Rattle.bodies.specs.Cancel.{CancelReading, CancelAckReading, cancel_malformed, cancel_reading, cancel_bytes, cancel_ack_malformed, cancel_ack_reading, cancel_ack_bytes}
use Rattle.bodies.proofs.Returns.{chosen_second}

-- Reading the cancel that was written gives back its number,
pub read-written-cancel : (n : ℕ) → n < 4294967296 → cancel_reading true (cancel_bytes n) ≡ record { answer = Done; number = n }
unfolding cancel_reading cancel_malformed cancel_bytes choose either number
read-written-cancel n h = λ i. record { answer = Done; number = value-bytes 4 true n h i }

-- and reading the cancel_ack that was written gives back its number and whether cancels are accepted.
pub read-written-cancel-ack : (n : ℕ) (accepts : Bool) → n < 4294967296
    → cancel_ack_reading true (cancel_ack_bytes n accepts) ≡ record { answer = Done; number = n; accepts = accepts }
unfolding cancel_ack_reading cancel_ack_malformed cancel_ack_bytes choose either number mark_of
read-written-cancel-ack n true h = λ i. record { answer = Done; number = value-bytes 4 true n h i; accepts = true }
read-written-cancel-ack n false h = λ i. record { answer = Done; number = value-bytes 4 true n h i; accepts = false }

-- A body that was read is well formed: 8 bytes with version 0,
pub record FormedCancel (little : Bool) (body : List ℕ) : Type 0 where
  pub size : length body ≡ 8
  pub version : number 4 little body 0 ≡ 0
  pub reading : cancel_reading little body ≡ record { answer = Done; number = number 4 little body 4 }

pub cancel_formed : (little : Bool) (body : List ℕ) → cancel_malformed little body ≡ false → FormedCancel little body
unfolding cancel_malformed cancel_reading
cancel_formed little body formed =
    let parts = either_false _ _ formed in
    record {
      size = eqb-true (length body) 8 (not-false _ parts.0);
      version = eqb-true (number 4 little body 0) 0 (not-false _ parts.1);
      reading = choose_false (cancel_malformed little body) _ _ formed;
    }

pub cancel-read : (little : Bool) (body : List ℕ) → (cancel_reading little body).answer ≡ Done → FormedCancel little body
unfolding cancel_reading
cancel-read little body done =
    cancel_formed little body
    (chosen_second (cancel_malformed little body) (λ (r : CancelReading). r.answer) _ _ Done
    (refused_not_done MalformedBody) done)

-- or 12 bytes with version 0 and a third number of 0 or 1.
pub record FormedCancelAck (little : Bool) (body : List ℕ) : Type 0 where
  pub size : length body ≡ 12
  pub version : number 4 little body 0 ≡ 0
  pub accepts : number 4 little body 8 ≤ 1
  pub reading :
      cancel_ack_reading little body ≡ record { answer = Done; number = number 4 little body 4; accepts = eqb (number 4 little body 8) 1 }

pub cancel_ack_formed : (little : Bool) (body : List ℕ) → cancel_ack_malformed little body ≡ false
    → FormedCancelAck little body
unfolding cancel_ack_malformed cancel_ack_reading
cancel_ack_formed little body formed =
    let parts = either_false _ _ formed in
    let inner = either_false _ _ parts.1 in
    record {
      size = eqb-true (length body) 12 (not-false _ parts.0);
      version = eqb-true (number 4 little body 0) 0 (not-false _ inner.0);
      accepts = ltb-false 1 (number 4 little body 8) inner.1;
      reading = choose_false (cancel_ack_malformed little body) _ _ formed;
    }

pub cancel-ack-read : (little : Bool) (body : List ℕ) → (cancel_ack_reading little body).answer ≡ Done → FormedCancelAck little body
unfolding cancel_ack_reading
cancel-ack-read little body done =
    cancel_ack_formed little body
    (chosen_second (cancel_ack_malformed little body) (λ (r : CancelAckReading). r.answer) _ _ Done
    (refused_not_done MalformedBody) done)

-- Writing what was read of a little-endian cancel gives back its bytes,
pub written-read-cancel : (body : List ℕ) → ((i : ℕ) → get_or body i 0 < 256) → (cancel_reading true body).answer ≡ Done
    → cancel_bytes (cancel_reading true body).number ≡ body
unfolding cancel_bytes
written-read-cancel body octets done =
    let f = cancel-read true body done in
    let n : (cancel_reading true body).number ≡ number 4 true body 4 = ap (λ (r : CancelReading). r.number) f.reading in
    let first : digits 4 0 ≡ part 4 body 0 = ap (digits 4) (sym f.version) ∙ digits-part 4 body 0 octets in
    let second : digits 4 (cancel_reading true body).number ≡ part 4 body 4 = ap (digits 4) n ∙ digits-part 4 body 4 octets in
    (λ i. first i ++ second i) ∙ part_all 8 body f.size

-- and of a little-endian cancel_ack too.
mark_of_test : (n : ℕ) → n ≤ 1 → mark_of (eqb n 1) ≡ n
unfolding mark_of choose
mark_of_test zero h = refl
mark_of_test (suc zero) h = refl
mark_of_test (suc (suc n)) h = absurd (omega arith)

pub written-read-cancel-ack : (body : List ℕ) → ((i : ℕ) → get_or body i 0 < 256) → (cancel_ack_reading true body).answer ≡ Done
    → cancel_ack_bytes (cancel_ack_reading true body).number (cancel_ack_reading true body).accepts ≡ body
unfolding cancel_ack_bytes
written-read-cancel-ack body octets done =
    let f = cancel-ack-read true body done in
    let n : (cancel_ack_reading true body).number ≡ number 4 true body 4 = ap (λ (r : CancelAckReading). r.number) f.reading in
    let a : (cancel_ack_reading true body).accepts ≡ eqb (number 4 true body 8) 1 = ap (λ (r : CancelAckReading). r.accepts) f.reading in
    let first : digits 4 0 ≡ part 4 body 0 = ap (digits 4) (sym f.version) ∙ digits-part 4 body 0 octets in
    let second : digits 4 (cancel_ack_reading true body).number ≡ part 4 body 4 = ap (digits 4) n ∙ digits-part 4 body 4 octets in
    let third : digits 4 (mark_of (cancel_ack_reading true body).accepts) ≡ part 4 body 8 =
    ap (λ (t : Bool). digits 4 (mark_of t)) a ∙ ap (digits 4) (mark_of_test (number 4 true body 8) f.accepts) ∙ digits-part 4 body 8 octets in
    (λ i. first i ++ (second i ++ third i)) ∙ part_all 12 body f.size
