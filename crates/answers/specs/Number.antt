-- The number that document 01 gives each refusal, and the answer Done.
use Rattle.std.specs.Prelude.{ℕ}
use Rattle.answers.specs.declared.Refusal.{Refusal}
use Rattle.answers.specs.declared.Refusal.TheVariants.{WrongLength, BrokenRecord, ShortDatagram, WrongVersion, UnknownType, UnknownRepresentation, Authenticated, WrongBodyLength, OtherActivity, WrongSide, MaybeOrBroadcast, WrongFragment, OldCall, MalformedBody, NoRow, Repeated, Contradiction, LateTimer, NumbersUsedUp, TicketsUsedUp}
use Rattle.answers.specs.Answer.{Answer, Refused, Ok}

abbrev pub refusal_number : Refusal → ℕ
refusal_number WrongLength = 1
refusal_number BrokenRecord = 2
refusal_number ShortDatagram = 3
refusal_number WrongVersion = 4
refusal_number UnknownType = 5
refusal_number UnknownRepresentation = 6
refusal_number Authenticated = 7
refusal_number WrongBodyLength = 8
refusal_number OtherActivity = 9
refusal_number WrongSide = 10
refusal_number MaybeOrBroadcast = 11
refusal_number WrongFragment = 12
refusal_number OldCall = 13
refusal_number MalformedBody = 14
refusal_number NoRow = 15
refusal_number Repeated = 16
refusal_number Contradiction = 17
refusal_number LateTimer = 18
refusal_number NumbersUsedUp = 19
refusal_number TicketsUsedUp = 20

abbrev pub number_of : Answer → ℕ
number_of (Ok tt) = 0
number_of (Refused r) = refusal_number r
