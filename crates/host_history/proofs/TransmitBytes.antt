-- Where a transmit has a row, and which message it is lent, by the bytes of the record.
use Prim.Native.Nat.{ℕ}
use mathlib.Core.Bool.{Bool, true, false}
use mathlib.Core.List.{List}
use mathlib.Core.Path.{◌≡◌, sym, ap, ◌∙◌}
use native.Mathlib.Omega.{arith}
use lib.Dec.{eqb, leb}
use lib.ListN.{length, get_or}
use borrow.Author.Tests.{eqb-true, leb-false, ne_eqb}
use Rattle.words.specs.Choice.{both}
use Rattle.words.specs.Number.{number}
use Rattle.words.specs.Sizes.{pdu_size}
use Rattle.outgoing.specs.Lent.{same_message, transmit_lent}
use Rattle.record_bytes.specs.Layout.{outgoing_in, fields_in}
use Rattle.record_bytes.proofs.Keeping.{choice_by, choice_keeps}
use Rattle.client.specs.declared.records.State.{State as ClientState}
use Rattle.client.specs.records.States.{is_sending}
use Rattle.client_bytes.specs.Layout.{state_of as client_state_of, client_of, client_in}
use Rattle.server.specs.declared.records.State.{State as ServerState}
use Rattle.server.specs.records.States.{is_replying}
use Rattle.server_bytes.specs.Layout.{state_of as server_state_of, server_of, server_in}
use Rattle.host_history.specs.Refusal.{message_sized}

other_byte : (n m k : ℕ) → eqb n m ≡ true → (m ≡ k → ⊥) → false ≡ eqb n k
other_byte n m k e other = sym (ne_eqb n k (λ (p : n ≡ k). other (sym (eqb-true n m e) ∙ p)))

-- A message is sent where the state byte is 1 at a client and 5 at a server. A byte that is no state's counts as one
-- without a row.
pub sending-byte : (n : ℕ) → is_sending (client_state_of n) ≡ eqb n 1
unfolding client_state_of is_sending
sending-byte n =
    choice_by Byte (eqb n 0) _ _ (λ (e : eqb n 0 ≡ true). other_byte n 0 1 e (omega arith))
    (λ not-0.
    choice_by Byte (eqb n 1) _ _ (λ (e : eqb n 1 ≡ true). sym e)
    (λ (e : eqb n 1 ≡ false).
    choice_keeps Byte (eqb n 2) _ _ (sym e)
    (choice_keeps Byte (eqb n 3) _ _ (sym e)
    (choice_keeps Byte (eqb n 4) _ _ (sym e)
    (choice_keeps Byte (eqb n 5) _ _ (sym e) (sym e))))))
  where
    Byte : ClientState → Type 0
    Byte state = is_sending state ≡ eqb n 1

pub replying-byte : (n status : ℕ) → is_replying (server_state_of n status) ≡ eqb n 5
unfolding server_state_of is_replying
replying-byte n status =
    choice_by Byte (eqb n 1) _ _ (λ (e : eqb n 1 ≡ true). other_byte n 1 5 e (omega arith))
    (λ not-1.
    choice_by Byte (eqb n 2) _ _ (λ (e : eqb n 2 ≡ true). other_byte n 2 5 e (omega arith))
    (λ not-2.
    choice_by Byte (eqb n 3) _ _ (λ (e : eqb n 3 ≡ true). other_byte n 3 5 e (omega arith))
    (λ not-3.
    choice_by Byte (eqb n 4) _ _ (λ (e : eqb n 4 ≡ true). other_byte n 4 5 e (omega arith))
    (λ not-4.
    choice_by Byte (eqb n 5) _ _ (λ (e : eqb n 5 ≡ true). sym e)
    (λ (e : eqb n 5 ≡ false).
    choice_keeps Byte (eqb n 6) _ _ (sym e) (choice_keeps Byte (eqb n 7) _ _ (sym e) (sym e)))))))
  where
    Byte : ServerState → Type 0
    Byte state = is_replying state ≡ eqb n 5

pub client_unlisted : (n : ℕ) → leb n 6 ≡ false → is_sending (client_state_of n) ≡ false
client_unlisted n above = sending-byte n ∙ ne_eqb n 1 (λ (e : n ≡ 1). omega (arith, e, leb-false n 6 above))

pub server_unlisted : (n status : ℕ) → leb n 7 ≡ false → is_replying (server_state_of n status) ≡ false
server_unlisted n status above =
    replying-byte n status ∙ ne_eqb n 5 (λ (e : n ≡ 5). omega (arith, e, leb-false n 7 above))

-- So what a transmit is lent is right by the bytes of its record.
pub client-message : (bytes message out : List ℕ)
    → transmit_lent (is_sending (client_in bytes).state) (length message) (client_in bytes).outgoing.length (length out)
    ≡ both (eqb (length out) pdu_size) (message_sized 1 bytes message)
unfolding transmit_lent same_message client_in client_of fields_in outgoing_in
client-message bytes message out =
    ap (λ (sending : Bool). transmit_lent sending (length message) (number 4 true bytes 24) (length out))
    (sending-byte (get_or bytes 0 0))

pub server-message : (bytes message out : List ℕ)
    → transmit_lent (is_replying (server_in bytes).state) (length message) (server_in bytes).outgoing.length (length out)
    ≡ both (eqb (length out) pdu_size) (message_sized 5 bytes message)
unfolding transmit_lent same_message server_in server_of fields_in outgoing_in
server-message bytes message out =
    ap (λ (sending : Bool). transmit_lent sending (length message) (number 4 true bytes 24) (length out))
    (replying-byte (get_or bytes 0 0) (number 4 true bytes 48))
