-- What a host reads of an export's result: the answer in bits 0 to 7, the notice's kind in 8 to 15, the length of the
-- PDU sent in 16 to 31, the notice's value in 32 to 63.
use Rattle.std.specs.Prelude.{ℕ, ◌/◌, ◌%◌, eqb}
use Rattle.words.specs.Choice.{choose}
use Rattle.answers.specs.Answer.{Answer, Done, Refused}
use Rattle.answers.specs.declared.Refusal.{Refusal}
use Rattle.answers.specs.declared.Refusal.TheVariants.{WrongLength, BrokenRecord, ShortDatagram, WrongVersion, UnknownType, UnknownRepresentation, Authenticated, WrongBodyLength, OtherActivity, WrongSide, MaybeOrBroadcast, WrongFragment, OldCall, MalformedBody, NoRow, Repeated, Contradiction, LateTimer, NumbersUsedUp, TicketsUsedUp}
use Rattle.calls.specs.declared.Notice.{Notice}
use Rattle.calls.specs.declared.Notice.TheVariants.{Nothing as Untold, Last, Count, Fault, Reject, Cause, Dispatch, Cancel}
use Rattle.calls.specs.Sent.{Sent, Nothing, Pdu}

-- The refusal of that number. One above 20 never comes (`answer_back`); it is read as 2.
unfoldable pub refusal_at : ℕ → Refusal
refusal_at number =
    choose (eqb number 1) WrongLength
    (choose (eqb number 2) BrokenRecord
    (choose (eqb number 3) ShortDatagram
    (choose (eqb number 4) WrongVersion
    (choose (eqb number 5) UnknownType
    (choose (eqb number 6) UnknownRepresentation
    (choose (eqb number 7) Authenticated
    (choose (eqb number 8) WrongBodyLength
    (choose (eqb number 9) OtherActivity
    (choose (eqb number 10) WrongSide
    (choose (eqb number 11) MaybeOrBroadcast
    (choose (eqb number 12) WrongFragment
    (choose (eqb number 13) OldCall
    (choose (eqb number 14) MalformedBody
    (choose (eqb number 15) NoRow
    (choose (eqb number 16) Repeated
    (choose (eqb number 17) Contradiction
    (choose (eqb number 18) LateTimer
    (choose (eqb number 19) NumbersUsedUp
    (choose (eqb number 20) TicketsUsedUp
    BrokenRecord)))))))))))))))))))

-- The answer of that number.
unfoldable pub answer_at : ℕ → Answer
answer_at number = choose (eqb number 0) Done (Refused (refusal_at number))

-- The notice of that kind, with its value. A kind above 7 never comes (`notice_back`); it is read as nothing told.
unfoldable pub notice_at : ℕ → ℕ → Notice
notice_at kind value =
    choose (eqb kind 0) Untold
    (choose (eqb kind 1) Last
    (choose (eqb kind 2) (Count value)
    (choose (eqb kind 3) (Fault value)
    (choose (eqb kind 4) (Reject value)
    (choose (eqb kind 5) (Cause value)
    (choose (eqb kind 6) Dispatch
    (choose (eqb kind 7) Cancel
    Untold)))))))

-- A PDU of that length; none where it is 0.
unfoldable pub sent_at : ℕ → Sent
sent_at length = choose (eqb length 0) Nothing (Pdu length)

-- The same of a whole result.
unfoldable pub answer_in : ℕ → Answer
answer_in result = answer_at (result % 256)

unfoldable pub notice_in : ℕ → Notice
notice_in result = notice_at (result / 256 % 256) (result / 4294967296)

unfoldable pub sent_in : ℕ → Sent
sent_in result = sent_at (result / 65536 % 65536)
