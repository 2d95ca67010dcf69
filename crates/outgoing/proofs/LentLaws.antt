-- What is known of what is lent at a transmit where it is right.
use Rattle.std.proofs.Common.{◌≡◌, ℕ, ◌≤◌, Bool, true, not, eqb, leb, sym, ap, ◌∙◌, eqb-true, leb-true}
use Rattle.words.specs.Choice.{either}
use Rattle.words.specs.Sizes.{pdu_size, message_size}
use Rattle.words.proofs.Tests.{choose_false, both_true}
use Rattle.outgoing.specs.Lent.{same_message, transmit_lent}

-- The buffer and the message have their lengths, and the message that of the record where it is sending.
pub transmit_lent_lem : (sending : Bool) (message size out : ℕ) → transmit_lent sending message size out ≡ true
    → (out ≡ pdu_size) × (message ≤ message_size) × (sending ≡ true → message ≡ size)
unfolding transmit_lent same_message either
transmit_lent_lem sending message size out e =
    let told = both_true (eqb out pdu_size) _ e in
    let fits = both_true (leb message message_size) (same_message sending message size) told.1 in (
      eqb-true out pdu_size told.0,
      leb-true message message_size fits.0,
      λ (sends : sending ≡ true). eqb-true message size (sym (choose_false (not sending) true _ (ap not sends)) ∙ fits.1),
    )
