-- What a host reads of a result is the answer, the notice and what was sent.
use Prim.Native.Nat.{ℕ, ◌/◌, ◌%◌, ◌<◌, ◌≤◌}
use mathlib.Core.Path.{◌≡◌, refl, ap, ◌∙◌}
use native.Mathlib.Omega.{arith}
use lib.Dec.{eqb}
use borrow.Author.Tests.{ne_eqb}
use Rattle.words.specs.Choice.{choose}
use Rattle.words.specs.Sizes.{pdu_size}
use Rattle.words.proofs.Tests.{choose_false}
use Rattle.answers.specs.declared.Refusal.TheVariants.{WrongLength, BrokenRecord, ShortDatagram, WrongVersion, UnknownType, UnknownRepresentation, Authenticated, WrongBodyLength, OtherActivity, WrongSide, MaybeOrBroadcast, WrongFragment, OldCall, MalformedBody, NoRow, Repeated, Contradiction, LateTimer, NumbersUsedUp, TicketsUsedUp}
use Rattle.answers.specs.Answer.{Answer, Refused, Ok}
use Rattle.answers.specs.Number.{number_of}
use Rattle.answers.proofs.NumberLaws.{refusal_numbered}
use Rattle.calls.specs.declared.Notice.{Notice}
use Rattle.calls.specs.declared.Notice.TheVariants.{Nothing as Untold, Last, Count, Fault, Reject, Cause, Dispatch, Cancel}
use Rattle.calls.specs.Sent.{Sent, Nothing, Pdu}
use Rattle.morphelai.specs.Result.{notice_kind, notice_value, sent_length, packed, result_of}
use Rattle.host_history.specs.Results.{refusal_at, answer_at, notice_at, sent_at, answer_in, notice_in, sent_in}

-- Each part of a result stands apart.
module _ (a k l v : ℕ) (answer : a < 256) (kind : k < 256) (size : l < 65536) where
  packed_answer : packed a k l v % 256 ≡ a
  unfolding packed
  packed_answer = omega arith

  packed-kind : packed a k l v / 256 % 256 ≡ k
  unfolding packed
  packed-kind = omega arith

  packed-length : packed a k l v / 65536 % 65536 ≡ l
  unfolding packed
  packed-length = omega arith

  packed-value : packed a k l v / 4294967296 ≡ v
  unfolding packed
  packed-value = omega arith

-- An answer's number, a notice's kind and a length fit their places.
answer_small : (a : Answer) → number_of a < 256
answer_small (Ok tt) = omega arith
answer_small (Refused r) = omega (arith, refusal_numbered r)

kind_small : (n : Notice) → notice_kind n < 256
kind_small Untold = omega arith
kind_small Last = omega arith
kind_small (Count n) = omega arith
kind_small (Fault status) = omega arith
kind_small (Reject status) = omega arith
kind_small (Cause cause) = omega arith
kind_small Dispatch = omega arith
kind_small Cancel = omega arith

length_small : (s : Sent) → sent_length s < 65536
length_small Nothing = omega arith
length_small (Pdu n) = omega arith

-- Each number is read as what it is the number of.
pub answer_back : (a : Answer) → answer_at (number_of a) ≡ a
unfolding answer_at refusal_at choose
answer_back (Ok tt) = refl
answer_back (Refused WrongLength) = refl
answer_back (Refused BrokenRecord) = refl
answer_back (Refused ShortDatagram) = refl
answer_back (Refused WrongVersion) = refl
answer_back (Refused UnknownType) = refl
answer_back (Refused UnknownRepresentation) = refl
answer_back (Refused Authenticated) = refl
answer_back (Refused WrongBodyLength) = refl
answer_back (Refused OtherActivity) = refl
answer_back (Refused WrongSide) = refl
answer_back (Refused MaybeOrBroadcast) = refl
answer_back (Refused WrongFragment) = refl
answer_back (Refused OldCall) = refl
answer_back (Refused MalformedBody) = refl
answer_back (Refused NoRow) = refl
answer_back (Refused Repeated) = refl
answer_back (Refused Contradiction) = refl
answer_back (Refused LateTimer) = refl
answer_back (Refused NumbersUsedUp) = refl
answer_back (Refused TicketsUsedUp) = refl

notice_back : (n : Notice) → notice_at (notice_kind n) (notice_value n) ≡ n
unfolding notice_at choose
notice_back Untold = refl
notice_back Last = refl
notice_back (Count n) = refl
notice_back (Fault status) = refl
notice_back (Reject status) = refl
notice_back (Cause cause) = refl
notice_back Dispatch = refl
notice_back Cancel = refl

-- What was sent is nothing, or a PDU of 1 to 1,472 bytes.
abbrev pub FitsSent : Sent → Type 0
FitsSent Nothing = Unit {0}
FitsSent (Pdu n) = (0 < n) × (n ≤ pdu_size)

-- So 16 bits cut nothing off.
pub length_whole : (n : ℕ) → FitsSent (Pdu n) → sent_length (Pdu n) ≡ n
length_whole n fits = omega (arith, fits.1)

sent_back : (s : Sent) → FitsSent s → sent_at (sent_length s) ≡ s
unfolding sent_at choose
sent_back Nothing fits = refl
sent_back (Pdu n) fits =
    ap sent_at (length_whole n fits) ∙ choose_false (eqb n 0) Nothing (Pdu n) (ne_eqb n 0 (omega (arith, fits.0)))

module _ (a : Answer) (n : Notice) (s : Sent) where
  pub result-number : result_of a n s % 256 ≡ number_of a
  unfolding result_of
  result-number = packed_answer _ _ _ _ (answer_small a) (kind_small n) (length_small s)

  pub result_answer : answer_in (result_of a n s) ≡ a
  unfolding answer_in
  result_answer = ap answer_at result-number ∙ answer_back a

  pub result_notice : notice_in (result_of a n s) ≡ n
  unfolding notice_in result_of
  result_notice =
      (λ i. notice_at (packed-kind _ _ _ (notice_value n) (answer_small a) (kind_small n) (length_small s) i)
      (packed-value _ _ _ (notice_value n) (answer_small a) (kind_small n) (length_small s) i))
      ∙ notice_back n

  pub result-sent : FitsSent s → sent_in (result_of a n s) ≡ s
  unfolding sent_in result_of
  result-sent fits =
      ap sent_at (packed-length _ _ _ (notice_value n) (answer_small a) (kind_small n) (length_small s))
      ∙ sent_back s fits

-- A result that is an answer's number alone tells nothing and sends nothing.
pub result_alone : (a : Answer) → result_of a Untold Nothing ≡ number_of a
unfolding result_of packed
result_alone a = omega arith
