-- The answer 0 is Done, and no other answer is.
use Prim.Native.Nat.{◌≤◌, ◌<◌}
use mathlib.Core.Path.{◌≡◌, refl, ap}
use native.Mathlib.Omega.{arith}
use Rattle.answers.specs.declared.Refusal.{Refusal}
use Rattle.answers.specs.declared.Refusal.TheVariants.{WrongLength, BrokenRecord, ShortDatagram, WrongVersion, UnknownType, UnknownRepresentation, Authenticated, WrongBodyLength, OtherActivity, WrongSide, MaybeOrBroadcast, WrongFragment, OldCall, MalformedBody, NoRow, Repeated, Contradiction, LateTimer, NumbersUsedUp, TicketsUsedUp}
use Rattle.answers.specs.Answer.{Answer, Done, Refused, Ok}
use Rattle.answers.specs.Number.{refusal_number, number_of}

-- A refusal's number is 1 to 20,
pub refusal_numbered : (r : Refusal) → (0 < refusal_number r) × (refusal_number r ≤ 20)
refusal_numbered WrongLength = (omega arith, omega arith)
refusal_numbered BrokenRecord = (omega arith, omega arith)
refusal_numbered ShortDatagram = (omega arith, omega arith)
refusal_numbered WrongVersion = (omega arith, omega arith)
refusal_numbered UnknownType = (omega arith, omega arith)
refusal_numbered UnknownRepresentation = (omega arith, omega arith)
refusal_numbered Authenticated = (omega arith, omega arith)
refusal_numbered WrongBodyLength = (omega arith, omega arith)
refusal_numbered OtherActivity = (omega arith, omega arith)
refusal_numbered WrongSide = (omega arith, omega arith)
refusal_numbered MaybeOrBroadcast = (omega arith, omega arith)
refusal_numbered WrongFragment = (omega arith, omega arith)
refusal_numbered OldCall = (omega arith, omega arith)
refusal_numbered MalformedBody = (omega arith, omega arith)
refusal_numbered NoRow = (omega arith, omega arith)
refusal_numbered Repeated = (omega arith, omega arith)
refusal_numbered Contradiction = (omega arith, omega arith)
refusal_numbered LateTimer = (omega arith, omega arith)
refusal_numbered NumbersUsedUp = (omega arith, omega arith)
refusal_numbered TicketsUsedUp = (omega arith, omega arith)

-- so a refusal is not Done,
pub refused_not_done : (r : Refusal) → Refused r ≡ Done → ⊥
refused_not_done r e =
    let same : refusal_number r ≡ 0 = ap number_of e in
    omega (arith, refusal_numbered r)

-- and an answer's number is 0 exactly where it is Done.
pub zero_done : (a : Answer) → number_of a ≡ 0 → a ≡ Done
zero_done (Ok tt) e = refl
zero_done (Refused r) e = absurd (omega (arith, refusal_numbered r))

pub done_zero : (a : Answer) → a ≡ Done → number_of a ≡ 0
done_zero a e = ap number_of e

-- An answer is Done or it is not.
pub done_or_not : (a : Answer) → Dec (a ≡ Done)
done_or_not (Ok tt) = yes refl
done_or_not (Refused r) = no (refused_not_done r)
