-- What an event gives back in one number: the answer in bits 0 to 7, the notice's kind in 8 to 15, the length of the
-- PDU sent in 16 to 31, the notice's value in 32 to 63.
use Rattle.std.specs.Prelude.{ℕ, ◌+◌, ◌*◌, ◌%◌}
use Rattle.answers.specs.Answer.{Answer}
use Rattle.answers.specs.Number.{number_of}
use Rattle.calls.specs.declared.Notice.{Notice}
use Rattle.calls.specs.declared.Notice.TheVariants.{Nothing as Untold, Last, Count, Fault, Reject, Cause, Dispatch, Cancel}
use Rattle.calls.specs.Sent.{Sent, Nothing, Pdu}

-- A notice's kind,
abbrev pub notice_kind : Notice → ℕ
notice_kind Untold = 0
notice_kind Last = 1
notice_kind (Count n) = 2
notice_kind (Fault status) = 3
notice_kind (Reject status) = 4
notice_kind (Cause cause) = 5
notice_kind Dispatch = 6
notice_kind Cancel = 7

-- and its value.
abbrev pub notice_value : Notice → ℕ
notice_value Untold = 0
notice_value Last = 0
notice_value (Count n) = n
notice_value (Fault status) = status
notice_value (Reject status) = status
notice_value (Cause cause) = cause
notice_value Dispatch = 0
notice_value Cancel = 0

-- How many bytes were sent, in 16 bits: no PDU has more than 1,472.
abbrev pub sent_length : Sent → ℕ
sent_length Nothing = 0
sent_length (Pdu length) = length % 65536

unfoldable pub packed : ℕ → ℕ → ℕ → ℕ → ℕ
packed answer kind length value = answer + 256 * (kind + 256 * (length + 65536 * value))

unfoldable pub result_of : Answer → Notice → Sent → ℕ
result_of answer notice sent = packed (number_of answer) (notice_kind notice) (sent_length sent) (notice_value notice)
