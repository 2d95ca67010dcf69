-- A case, and what the definitions that the contracts cite give for it.
use Rattle.std.specs.Prelude.{ℕ, List}
use Rattle.words.specs.Sizes.{pdu_size}
use Rattle.answers.specs.Number.{number_of}
use Rattle.reader.specs.Reading.{reading}
use Rattle.incoming.specs.Slots.{contiguous}
use Rattle.facks.specs.Mask.{last_contiguous, mask_of}
use Rattle.outgoing.specs.Message.{fragments}
use Rattle.outgoing.specs.Sending.{next_serial}
use Rattle.calls.specs.Sent.{blank_call}
use Rattle.client.specs.declared.records.TimerKind.TheVariants.{Wait, Ack, Cancel}
use Rattle.client.specs.Machine.{starting, timing as client_timing}
use Rattle.server.specs.Machine.{replying, timing as server_timing}
use Rattle.rows.specs.Datagrams.{zeros}
use Rattle.rows.specs.Records.{holding, client, dispatched, ack_pending, cancelled, running, held}

-- What is handed in.
pub data Case : Type 0 where
  -- A datagram: the answer of reading it, and the serial in its header.
  Read : List ℕ → Case
  SerialOf : List ℕ → Case
  -- A serial: the one after it.
  SerialAfter : ℕ → Case
  -- The numbers of the fragments held: what a fack says of them.
  Held : List ℕ → Case
  -- A message's length: its fragments, the answer of a start and of a reply.
  Message : ℕ → Case
  Start : ℕ → Case
  Reply : ℕ → Case
  -- The ticket that the timer is armed with, and the event's: the answer of the timer event.
  WaitTimer : ℕ → ℕ → Case
  AckTimer : ℕ → ℕ → Case
  CancelTimer : ℕ → ℕ → Case
  ResendTimer : ℕ → ℕ → Case

-- What is given back.
pub data Given : Type 0 where
  -- A number of "Numbers answered".
  Answer : ℕ → Given
  Serial : ℕ → Given
  -- How many fragments.
  Fragments : ℕ → Given
  -- The contiguous count, g, and the mask, which is the word that `Describes` names.
  Fack : ℕ → ℕ → ℕ → Given

-- By the definitions that the public functions' contracts cite; the PDU buffer lent has 1,472 bytes.
unfoldable pub given : Case → Given
given (Read d) = Answer (number_of (reading d).answer)
given (SerialOf d) = Serial (reading d).header.serial
given (SerialAfter serial) = Serial (next_serial serial)
given (Held fs) = Fack (contiguous (holding fs)) (last_contiguous (contiguous (holding fs))) (mask_of (holding fs))
given (Message length) = Fragments (fragments length)
given (Start length) = Answer (number_of (starting client blank_call length).answer)
given (Reply length) = Answer (number_of (replying running length).answer)
given (WaitTimer armed ticket) = Answer (number_of (client_timing (dispatched armed) Wait ticket (zeros pdu_size)).outcome.answer)
given (AckTimer armed ticket) = Answer (number_of (client_timing (ack_pending armed) Ack ticket (zeros pdu_size)).outcome.answer)
given (CancelTimer armed ticket) = Answer (number_of (client_timing (cancelled armed) Cancel ticket (zeros pdu_size)).outcome.answer)
given (ResendTimer armed ticket) = Answer (number_of (server_timing (held armed) ticket (zeros pdu_size)).outcome.answer)
