-- The types of a PDU and their numbers, as document 01 lists them.
use Rattle.std.specs.Prelude.{ℕ, Result, Ok, Err, ◌≡◌, ◌<◌}
use Rattle.answers.specs.declared.Refusal.{Refusal}
use Rattle.answers.specs.declared.Refusal.TheVariants.{UnknownType}
use Rattle.pdu.specs.declared.kind.Kind.{Kind}
use Rattle.pdu.specs.declared.kind.Kind.TheVariants.{Request, Ping, Response, Fault, Working, Nocall, Reject, Ack, Cancel, Fack, CancelAck}

abbrev pub kind_number : Kind → ℕ
kind_number Request = 0
kind_number Ping = 1
kind_number Response = 2
kind_number Fault = 3
kind_number Working = 4
kind_number Nocall = 5
kind_number Reject = 6
kind_number Ack = 7
kind_number Cancel = 8
kind_number Fack = 9
kind_number CancelAck = 10

-- What a number names: the type that has it, or none where it is above 10, which is refusal 5.
abbrev pub Names : ℕ → Result Kind Refusal → Type 0
Names n (Ok kind) = kind_number kind ≡ n
Names n (Err refusal) = (refusal ≡ UnknownType) × (10 < n)
