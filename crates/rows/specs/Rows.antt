-- Document 01's "Bench rows": the cases marked *, in its order, each with the answer that it must have. A new row is a new line.
use mathlib.Core.List.{List, [], ◌∷◌, Memᴰ}
use Rattle.std.specs.Prelude.{◌≡◌}
use Rattle.words.specs.Sizes.{header_size, body_size, pdu_size, message_size}
use Rattle.rows.specs.Datagrams.{zeros, datagram, version, kind, representation, serial_high, serial_low, body_length}
use Rattle.rows.specs.Cases.{Case, Read, SerialOf, SerialAfter, Held, Message, Start, Reply, WaitTimer, AckTimer, CancelTimer, ResendTimer, Given, Answer, Serial, Fragments, Fack, given}

-- A case, and the answer that it must have.
pub record Row : Type 0 where
  pub case : Case
  pub answer : Given

infix 70 ◌gives◌
abbrev pub ◌gives◌ : Case → Given → Row
◌gives◌ case answer = record { case = case; answer = answer }

unfoldable pub rows : List Row
rows =
    Read (zeros 79) gives Answer 3
    ∷ Read (zeros header_size) gives Answer 4
    ∷ Read (datagram header_size (version 4 ∷ kind 11 ∷ [])) gives Answer 5
    ∷ Read (datagram header_size (version 4 ∷ representation 32 0 0 ∷ [])) gives Answer 6
    ∷ Read (datagram 1473 (version 4 ∷ representation 16 0 0 ∷ body_length 1393 ∷ [])) gives Answer 8
    ∷ SerialOf (datagram header_size (version 4 ∷ serial_high 1 ∷ serial_low 2 ∷ [])) gives Serial 258
    ∷ SerialAfter 65535 gives Serial 0
    ∷ Held (0 ∷ 1 ∷ 3 ∷ 4 ∷ []) gives Fack 2 1 6
    ∷ Held (1 ∷ 2 ∷ []) gives Fack 0 65535 6
    ∷ Message 0 gives Fragments 1
    ∷ Message body_size gives Fragments 1
    ∷ Message 1393 gives Fragments 2
    ∷ Message message_size gives Fragments 32
    ∷ Start 44545 gives Answer 1
    ∷ Reply 44545 gives Answer 1
    ∷ WaitTimer 7 6 gives Answer 18
    ∷ AckTimer 7 6 gives Answer 18
    ∷ CancelTimer 7 6 gives Answer 18
    ∷ ResendTimer 7 6 gives Answer 18
    -- Not marked: what lies next to a refusal is taken.
    ∷ Read (datagram header_size (version 4 ∷ kind 10 ∷ [])) gives Answer 0
    ∷ Read (datagram pdu_size (version 4 ∷ representation 16 0 0 ∷ body_length body_size ∷ [])) gives Answer 0
    ∷ Start message_size gives Answer 0
    ∷ Reply message_size gives Answer 0
    ∷ WaitTimer 7 7 gives Answer 0
    ∷ AckTimer 7 7 gives Answer 0
    ∷ CancelTimer 7 7 gives Answer 0
    ∷ ResendTimer 7 7 gives Answer 0
    ∷ []

-- The case of every row of the list gives the row's answer.
abbrev pub Hold : List Row → Type 0
Hold list = (row : Row) → Memᴰ row list → given row.case ≡ row.answer
