-- Bytes that are the same but at places that are not judged are both readable as a client's record or both not, and
-- stand for the same record.
use Prim.Native.Nat.{ℕ, ◌+◌, ◌*◌, ◌≤◌, ◌<◌}
use mathlib.Core.Bool.{true}
use mathlib.Core.List.{List}
use mathlib.Core.Logic.{◌⊎◌, inl, inr}
use mathlib.Core.Path.{◌≡◌, ◌∙◌}
use native.Mathlib.Omega.{arith}
use lib.Dec.{eqb}
use lib.ListN.{length, get_or}
use Rattle.words.specs.Number.{number}
use Rattle.words.specs.Place.{placed}
use Rattle.words.specs.Sizes.{window_size}
use Rattle.record_bytes.specs.Canonical.{SharedUnjudged, SameButAt}
use Rattle.record_bytes.specs.Parts.{timer_where, timer_in}
use Rattle.record_bytes.specs.Layout.{fields_in}
use Rattle.record_bytes.proofs.Alike.{timer_alike, timer_at_alike, mark_not_zero, front_alike, back_alike, shared_readable_lem, fields_alike, put_any, first_ticket_any, slot_length_any}
use Rattle.record_bytes.proofs.Places.{number_alike, clear_alike}
use Rattle.client_bytes.specs.Canonical.{Unjudged}
use Rattle.client_bytes.specs.Layout.{readable, client_of, client_in}

module _ (b c : List ℕ) (alike : SameButAt (Unjudged b) b c) where
  own : (i : ℕ) → i < 272 → Unjudged b i → SharedUnjudged b i ⊎ ((48 ≤ i) × (i < 64))
  own i below (inl u) = inl u
  own i below (inr (inl u)) = inr (u.1, omega (arith, u.2))
  own i below (inr (inr u)) = inr (omega (arith, u.1), u.2)

  front : (i : ℕ) → i < 40 → get_or c i 0 ≡ get_or b i 0
  front = front_alike (Unjudged b) b c alike.same own

  -- The tickets of ACK and CANCEL are judged where they are armed, and their marks always.
  ack-ticket : (get_or b 65 0 ≡ 0 → ⊥) → number 8 true c 48 ≡ number 8 true b 48
  ack-ticket armed =
      number_alike 8 b c 48 (λ (i : ℕ) (low : 48 ≤ i) (high : i < 56). alike.same i (judged i low high))
    where
      judged : (i : ℕ) → 48 ≤ i → i < 56 → Unjudged b i → ⊥
      judged i low high (inl (inl u)) = omega (arith, u.2)
      judged i low high (inl (inr u)) = omega (arith, u.from)
      judged i low high (inr (inl u)) = armed u.0
      judged i low high (inr (inr u)) = omega (arith, u.1)

  cancel-ticket : (get_or b 66 0 ≡ 0 → ⊥) → number 8 true c 56 ≡ number 8 true b 56
  cancel-ticket armed =
      number_alike 8 b c 56 (λ (i : ℕ) (low : 56 ≤ i) (high : i < 64). alike.same i (judged i low high))
    where
      judged : (i : ℕ) → 56 ≤ i → i < 64 → Unjudged b i → ⊥
      judged i low high (inl (inl u)) = omega (arith, u.2)
      judged i low high (inl (inr u)) = omega (arith, u.from)
      judged i low high (inr (inl u)) = omega (arith, u.2)
      judged i low high (inr (inr u)) = armed u.0

  mark_alike : (mark : ℕ) → 64 ≤ mark → mark < 144 → get_or c mark 0 ≡ get_or b mark 0
  mark_alike = back_alike (Unjudged b) b c alike.same own

  pub client_readable_alike : readable c ≡ readable b
  unfolding readable
  client_readable_alike =
      rw (
        front 0 (omega arith),
        clear_alike 4 b c 28 (λ (k : ℕ) (low : 28 ≤ k) (high : k < 32). front k (omega arith)),
        shared_readable_lem (Unjudged b) b c alike.same own,
      )

  pub client_alike : client_in c ≡ client_in b
  unfolding client_in client_of fields_in
  client_alike =
      let ack : timer_where (eqb (get_or b 65 0) 1) (number 8 true c 48) ≡ timer_in b 65 48 =
      timer_alike (eqb (get_or b 65 0) 1) _ _
      (λ (e : eqb (get_or b 65 0) 1 ≡ true). ack-ticket (mark_not_zero (get_or b 65 0) e)) in
      let cancel : timer_in c 66 56 ≡ timer_in b 66 56 =
      timer_at_alike b c 66 56 (mark_alike 66 (omega arith) (omega arith)) cancel-ticket in
      (λ i. client_of (client_readable_alike i) (fields_alike (Unjudged b) b c alike.same own i))
      ∙ (λ i. record {
        state = (client_in b).state;
        activity = (client_in b).activity;
        number = (client_in b).number;
        call = (client_in b).call;
        outgoing = (client_in b).outgoing;
        incoming = (client_in b).incoming;
        waits = (client_in b).waits;
        resends = (client_in b).resends;
        cancels = (client_in b).cancels;
        tickets = (client_in b).tickets;
        wait = (client_in b).wait;
        ack = ack i;
        cancel = cancel i;
      })

-- So whatever is put into places that are not judged, nothing changes.
both_alike : (b c : List ℕ) → SameButAt (Unjudged b) b c → (readable c ≡ readable b) × (client_in c ≡ client_in b)
both_alike b c alike = (client_readable_alike b c alike, client_alike b c alike)

shared : (b : List ℕ) (i : ℕ) → SharedUnjudged b i → Unjudged b i
shared b i u = inl u

module _ (b : List ℕ) (size : length b ≡ 272) where
  -- Any 8 bytes as the ticket of WAIT where it is not armed.
  pub wait_ticket_any : (ticket : List ℕ) → length ticket ≡ 8 → get_or b 64 0 ≡ 0
      → (readable (placed 40 ticket b) ≡ readable b) × (client_in (placed 40 ticket b) ≡ client_in b)
  wait_ticket_any = first_ticket_any readable client_in Unjudged both_alike shared b size

  -- Any 8 bytes as the ticket of ACK where it is not armed.
  pub ack_ticket_any : (ticket : List ℕ) → length ticket ≡ 8 → get_or b 65 0 ≡ 0
      → (readable (placed 48 ticket b) ≡ readable b) × (client_in (placed 48 ticket b) ≡ client_in b)
  ack_ticket_any ticket width unarmed =
      put_any readable client_in Unjudged both_alike 48 ticket b size (omega (arith, width))
      (λ (i : ℕ) (low : 48 ≤ i) (high : i < 48 + length ticket).
      inr (inl (unarmed, low, omega (arith, high, width))))

  -- Any 8 bytes as the ticket of CANCEL where it is not armed.
  pub cancel_ticket_any : (ticket : List ℕ) → length ticket ≡ 8 → get_or b 66 0 ≡ 0
      → (readable (placed 56 ticket b) ≡ readable b) × (client_in (placed 56 ticket b) ≡ client_in b)
  cancel_ticket_any ticket width unarmed =
      put_any readable client_in Unjudged both_alike 56 ticket b size (omega (arith, width))
      (λ (i : ℕ) (low : 56 ≤ i) (high : i < 56 + length ticket).
      inr (inr (unarmed, low, omega (arith, high, width))))

  -- Any 2 bytes as the length of a slot that is not held.
  pub length_any : (f : ℕ) (two : List ℕ) → f < window_size → length two ≡ 2 → get_or b (4 * f + 146) 0 ≡ 0
      → (readable (placed (4 * f + 144) two b) ≡ readable b) × (client_in (placed (4 * f + 144) two b) ≡ client_in b)
  length_any = slot_length_any readable client_in Unjudged both_alike shared b size
