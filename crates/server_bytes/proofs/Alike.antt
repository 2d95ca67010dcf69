-- Bytes that are the same but at places that are not judged are both readable as a server's record or both not, and
-- stand for the same record.
use Prim.Native.Nat.{ℕ, ◌+◌, ◌*◌, ◌≤◌, ◌<◌}
use mathlib.Core.Bool.{Bool, true, false, true≢false}
use mathlib.Core.List.{List}
use mathlib.Core.Logic.{◌⊎◌, inl, inr}
use mathlib.Core.Path.{◌≡◌, refl, sym, ap, ◌∙◌}
use native.Mathlib.Omega.{arith}
use lib.Dec.{eqb}
use lib.ListN.{length, get_or, drop}
use Rattle.words.specs.Choice.{choose}
use Rattle.words.specs.Number.{number}
use Rattle.words.specs.Place.{placed}
use Rattle.words.specs.Sizes.{window_size}
use Rattle.record_bytes.specs.Canonical.{SharedUnjudged, SameButAt}
use Rattle.record_bytes.specs.Parts.{clear}
use Rattle.record_bytes.specs.Layout.{fields_in}
use Rattle.record_bytes.proofs.Places.{number_alike, clear_alike}
use Rattle.record_bytes.proofs.Alike.{front_alike, back_alike, shared_readable_lem, fields_alike, put_any, first_ticket_any, slot_length_any}
use Rattle.server.specs.declared.records.State.{State}
use Rattle.server.specs.declared.records.State.TheVariants.{Idle as IdleState, Collect, Running, Replying, Held}
use Rattle.server.specs.declared.records.Idle.TheVariants.{Fresh, Spent, Repeatable}
use Rattle.server.specs.declared.records.Reply.TheVariants.{Data, Fault}
use Rattle.server_bytes.specs.Canonical.{Unjudged}
use Rattle.server_bytes.specs.Layout.{state_of, readable, server_of, server_in}

-- The status outside HELD with fault may be any.
held_alike : (test : Bool) (status other : ℕ) → (test ≡ true → status ≡ other)
    → choose test (Held (Fault status)) (IdleState Fresh) ≡ choose test (Held (Fault other)) (IdleState Fresh)
unfolding choose
held_alike true status other same = ap (λ (k : ℕ). Held (Fault k)) (same refl)
held_alike false status other same = refl

state_alike : (n status other : ℕ) → (eqb n 7 ≡ true → status ≡ other) → state_of n status ≡ state_of n other
unfolding state_of
state_alike n status other same =
    ap
    (λ (seven : State).
    choose (eqb n 1) (IdleState Spent)
    (choose (eqb n 2) (IdleState Repeatable)
    (choose (eqb n 3) Collect
    (choose (eqb n 4) Running
    (choose (eqb n 5) Replying
    (choose (eqb n 6) (Held Data) seven))))))
    (held_alike (eqb n 7) status other same)

module _ (b c : List ℕ) (alike : SameButAt (Unjudged b) b c) where
  own : (i : ℕ) → i < 272 → Unjudged b i → SharedUnjudged b i ⊎ ((48 ≤ i) × (i < 64))
  own i below (inl u) = inl u
  own i below (inr u) = inr (u.1, omega (arith, u.2))

  front : (i : ℕ) → i < 40 → get_or c i 0 ≡ get_or b i 0
  front = front_alike (Unjudged b) b c alike.same own

  -- The status is judged in HELD with fault, and the twelve bytes behind it always.
  status_alike : eqb (get_or b 0 0) 7 ≡ true → number 4 true c 48 ≡ number 4 true b 48
  status_alike held =
      number_alike 4 b c 48 (λ (i : ℕ) (low : 48 ≤ i) (high : i < 52). alike.same i (judged i low high))
    where
      judged : (i : ℕ) → 48 ≤ i → i < 52 → Unjudged b i → ⊥
      judged i low high (inl (inl u)) = omega (arith, u.2)
      judged i low high (inl (inr u)) = omega (arith, u.from)
      judged i low high (inr u) = true≢false (sym held ∙ u.0)

  behind-status : clear 12 (drop 52 c) ≡ clear 12 (drop 52 b)
  behind-status =
      clear_alike 12 b c 52 (λ (i : ℕ) (low : 52 ≤ i) (high : i < 64). alike.same i (judged i low high))
    where
      judged : (i : ℕ) → 52 ≤ i → i < 64 → Unjudged b i → ⊥
      judged i low high (inl (inl u)) = omega (arith, u.2)
      judged i low high (inl (inr u)) = omega (arith, u.from)
      judged i low high (inr u) = omega (arith, u.2)

  pub server_readable_alike : readable c ≡ readable b
  unfolding readable
  server_readable_alike =
      let back : (i : ℕ) → 64 ≤ i → i < 144 → get_or c i 0 ≡ get_or b i 0 = back_alike (Unjudged b) b c alike.same own in
      rw (
        front 0 (omega arith),
        front 3 (omega arith),
        back 65 (omega arith) (omega arith),
        back 66 (omega arith) (omega arith),
        behind-status,
        shared_readable_lem (Unjudged b) b c alike.same own,
      )

  pub server_alike : server_in c ≡ server_in b
  unfolding server_in server_of fields_in
  server_alike =
      (λ i.
      server_of (server_readable_alike i) (number 4 true c 48) (fields_alike (Unjudged b) b c alike.same own i))
      ∙ (λ i. record {
        state = state_alike (get_or b 0 0) (number 4 true c 48) (number 4 true b 48) status_alike i;
        activity = (server_in b).activity;
        boot = (server_in b).boot;
        number = (server_in b).number;
        call = (server_in b).call;
        outgoing = (server_in b).outgoing;
        incoming = (server_in b).incoming;
        resends = (server_in b).resends;
        seen = (server_in b).seen;
        tickets = (server_in b).tickets;
        resend = (server_in b).resend;
      })

-- So whatever is put into places that are not judged, nothing changes.
both_alike : (b c : List ℕ) → SameButAt (Unjudged b) b c → (readable c ≡ readable b) × (server_in c ≡ server_in b)
both_alike b c alike = (server_readable_alike b c alike, server_alike b c alike)

shared : (b : List ℕ) (i : ℕ) → SharedUnjudged b i → Unjudged b i
shared b i u = inl u

module _ (b : List ℕ) (size : length b ≡ 272) where
  -- Any 8 bytes as the ticket of RESEND where it is not armed.
  pub resend_ticket_any : (ticket : List ℕ) → length ticket ≡ 8 → get_or b 64 0 ≡ 0
      → (readable (placed 40 ticket b) ≡ readable b) × (server_in (placed 40 ticket b) ≡ server_in b)
  resend_ticket_any = first_ticket_any readable server_in Unjudged both_alike shared b size

  -- Any 4 bytes as the status outside HELD with fault.
  pub status_any : (status : List ℕ) → length status ≡ 4 → eqb (get_or b 0 0) 7 ≡ false
      → (readable (placed 48 status b) ≡ readable b) × (server_in (placed 48 status b) ≡ server_in b)
  status_any status width other =
      put_any readable server_in Unjudged both_alike 48 status b size (omega (arith, width))
      (λ (i : ℕ) (low : 48 ≤ i) (high : i < 48 + length status).
      inr (other, low, omega (arith, high, width)))

  -- Any 2 bytes as the length of a slot that is not held.
  pub length_any : (f : ℕ) (two : List ℕ) → f < window_size → length two ≡ 2 → get_or b (4 * f + 146) 0 ≡ 0
      → (readable (placed (4 * f + 144) two b) ≡ readable b) × (server_in (placed (4 * f + 144) two b) ≡ server_in b)
  length_any = slot_length_any readable server_in Unjudged both_alike shared b size
