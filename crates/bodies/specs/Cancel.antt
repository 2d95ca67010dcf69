-- The bodies of cancel and cancel_ack, as document 02's request 2 lays them out: numbers of 32 bits, the first a version.
use Rattle.std.specs.Prelude.{ℕ, Result, Bool, false, not, List, ◌++◌, length, ltb, eqb}
use Rattle.words.specs.Choice.{choose, either, mark_of}
use Rattle.words.specs.Number.{digits, number}
use Rattle.answers.specs.declared.Refusal.TheVariants.{MalformedBody}
use Rattle.answers.specs.declared.Refusal.{Refusal}
use Rattle.answers.specs.Answer.{Answer, Done, Refused, if_done}
use Rattle.bodies.specs.declared.CancelAck.{CancelAck}

-- A cancel's body is 8 bytes: version 0, the cancel number. Anything else is malformed.
unfoldable pub cancel_malformed : Bool → List ℕ → Bool
cancel_malformed little body = either (not (eqb (length body) 8)) (not (eqb (number 4 little body 0) 0))

-- The number in the body of a cancel or cancel_ack, behind the version.
abbrev pub cancel_number_in : Bool → List ℕ → ℕ
cancel_number_in little body = number 4 little body 4

-- What reading a cancel's body gives, in the sender's order: the answer, and the number, which means something where it is
-- Done.
pub record CancelReading : Type 0 where
  pub answer : Answer
  pub number : ℕ

unfoldable pub cancel_reading : Bool → List ℕ → CancelReading
cancel_reading little body =
    choose (cancel_malformed little body) (record { answer = Refused MalformedBody; number = 0 })
    (record { answer = Done; number = cancel_number_in little body })

-- The same as the code gives it: the number, or why not.
unfoldable pub cancel_result : Bool → List ℕ → Result ℕ Refusal
cancel_result little body = if_done (cancel_reading little body).answer (cancel_reading little body).number

-- A cancel's body as it is written.
unfoldable pub cancel_bytes : ℕ → List ℕ
cancel_bytes n = digits 4 0 ++ digits 4 n

-- A cancel_ack's body is 12 bytes: version 0, the cancel number, and whether the server accepts cancels, 0 or 1. Anything
-- else is malformed.
unfoldable pub cancel_ack_malformed : Bool → List ℕ → Bool
cancel_ack_malformed little body =
    either (not (eqb (length body) 12)) (either (not (eqb (number 4 little body 0) 0)) (ltb 1 (number 4 little body 8)))

-- What reading a cancel_ack's body gives, in the sender's order: the answer; and the number and whether the server accepts
-- cancels, which mean something where it is Done.
pub record CancelAckReading : Type 0 where
  pub answer : Answer
  pub number : ℕ
  pub accepts : Bool

unfoldable pub cancel_ack_reading : Bool → List ℕ → CancelAckReading
cancel_ack_reading little body =
    choose (cancel_ack_malformed little body) (record { answer = Refused MalformedBody; number = 0; accepts = false })
    (record { answer = Done; number = cancel_number_in little body; accepts = eqb (number 4 little body 8) 1 })

-- The number and whether the server accepts cancels, without the answer.
unfoldable pub acknowledging : CancelAckReading → CancelAck
acknowledging r = record { number = r.number; accepts = r.accepts }

-- The same as the code gives it: both, or why not.
unfoldable pub cancel_ack_result : Bool → List ℕ → Result CancelAck Refusal
cancel_ack_result little body = if_done (cancel_ack_reading little body).answer (acknowledging (cancel_ack_reading little body))

-- A cancel_ack's body as it is written.
unfoldable pub cancel_ack_bytes : ℕ → Bool → List ℕ
cancel_ack_bytes n accepts = digits 4 0 ++ (digits 4 n ++ digits 4 (mark_of accepts))
