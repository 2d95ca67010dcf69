-- What is lent at a transmit.
use Rattle.std.specs.Prelude.{ℕ, Bool, not, ◌==◌, nat_le}
use Rattle.words.specs.Choice.{both, either}
use Rattle.words.specs.Sizes.{pdu_size, message_size}

-- The message lent has the length that its start or reply gave, where transmit has a row. Elsewhere only the limit is
-- judged.
unfoldable pub same_message : Bool → ℕ → ℕ → Bool
same_message sending message length = either (not sending) (message == length)

-- What is lent at a transmit is right: a PDU buffer, and a message within the limit, of that length.
unfoldable pub transmit_lent : Bool → ℕ → ℕ → ℕ → Bool
transmit_lent sending message length out =
    both (out == pdu_size) (both (nat_le message message_size) (same_message sending message length))
