-- Which number a local cancel is answered with.
use Rattle.std.proofs.Common.{◌≡◌, ℕ, Bool, true, false, not, eqb, ◌⊎◌, List, length, refl, ap, ◌∙◌, inl, inr, eq-eqb, ne_eqb}
use Rattle.words.specs.Choice.{choose, both}
use Rattle.words.specs.Sizes.{pdu_size}
use Rattle.words.proofs.Tests.{tests, choose_false, not_of_true, both_hold}
use Rattle.answers.specs.declared.Refusal.{Refusal}
use Rattle.answers.specs.declared.Refusal.TheVariants.{WrongLength, BrokenRecord, NoRow, TicketsUsedUp}
use Rattle.answers.specs.Answer.{Answer, Done, Refused}
use Rattle.answers.specs.Table.{first_of}
use Rattle.answers.proofs.TableLaws.{AllPassed, all_behind}
use Rattle.timers.specs.Timer.{Timer, Off, Armed}
use Rattle.timers.specs.Tickets.{used_up, off}
use Rattle.client.specs.declared.records.State.{State}
use Rattle.client.specs.declared.records.State.TheVariants.{Queued, SendFrags, Dispatched, ReceiveFrags, AckPending, Complete, Fault}
use Rattle.client.specs.declared.records.Client.{Client}
use Rattle.client.specs.judge.Verdict.{Refuse, Go}
use Rattle.client.specs.records.States.{is_active}
use Rattle.client.specs.records.Rules.{sound}
use Rattle.client.specs.judge.Rows.{cancel_row, arms}
use Rattle.client.specs.judge.Refusals.{may_cancel, cancel_refusals, cancel_verdict}
use Rattle.client.specs.Machine.{cancelling}
use Rattle.client.proofs.Accepting.{answered_by, cancel_answers}

-- The three active states, by their names.
abbrev pub Active : State → Type 0
Active state = (state ≡ SendFrags) ⊎ ((state ≡ Dispatched) ⊎ (state ≡ ReceiveFrags))

pub active : (state : State) → Active state → is_active state ≡ true
unfolding is_active
active state (inl e) = ap is_active e
active state (inr (inl e)) = ap is_active e
active state (inr (inr e)) = ap is_active e

pub inactive : (state : State) → (Active state → ⊥) → is_active state ≡ false
unfolding is_active
inactive Queued other = refl
inactive SendFrags other = absurd (other (inl refl))
inactive Dispatched other = absurd (other (inr (inl refl)))
inactive ReceiveFrags other = absurd (other (inr (inr refl)))
inactive AckPending other = refl
inactive Complete other = refl
inactive Fault other = refl

-- A local cancel.
module _ (c : Client) (out : List ℕ) where
  abbrev answer : Answer
  answer = (cancelling c out).outcome.answer

  refuses : (r : Refusal) → cancel_verdict c (length out) ≡ Refuse r → answer ≡ Refused r
  refuses r e = cancel_answers c out ∙ ap answered_by e

  takes : AllPassed (cancel_refusals c (length out)) → answer ≡ Done
  unfolding cancel_verdict
  takes passed =
      cancel_answers c out
      ∙ ap answered_by (all_behind Refuse (cancel_refusals c (length out)) (Go (cancel_row c)) passed)

  -- It is 1 where the PDU buffer has another length,
  pub unsized_cancel : (length out ≡ pdu_size → ⊥) → answer ≡ Refused WrongLength
  unfolding cancel_verdict cancel_refusals first_of
  unsized_cancel other = refuses WrongLength (search tests)

  module _ (sized : length out ≡ pdu_size) where
    -- else 2 where the record breaks its rules,
    pub broken_cancel : sound c ≡ false → answer ≡ Refused BrokenRecord
    unfolding cancel_verdict cancel_refusals first_of
    broken_cancel broken = refuses BrokenRecord (search tests)

    module _ (kept : sound c ≡ true) where
      unlisted : may_cancel c.state c.cancels ≡ false → answer ≡ Refused NoRow
      unfolding cancel_verdict cancel_refusals first_of
      unlisted none = refuses NoRow (search tests)

      -- else 15 outside the three active states,
      pub inactive_cancel : (Active c.state → ⊥) → answer ≡ Refused NoRow
      unfolding may_cancel both
      inactive_cancel other = unlisted (choose_false _ _ _ (inactive c.state other))

      -- and behind the last cancel number.
      pub numberless_cancel : c.cancels ≡ 4294967295 → answer ≡ Refused NoRow
      unfolding may_cancel both choose
      numberless_cancel last = unlisted (by_state (is_active c.state))
        where
          by_state : (t : Bool) → choose t (not (eqb c.cancels 4294967295)) false ≡ false
          by_state true = ap not (eq-eqb c.cancels 4294967295 last)
          by_state false = refl

      -- In the three, with a number left,
      module _ (three : Active c.state) (below : c.cancels ≡ 4294967295 → ⊥) where
        may : may_cancel c.state c.cancels ≡ true
        unfolding may_cancel
        may = both_hold _ _ (active c.state three) (ap not (ne_eqb c.cancels 4294967295 below))

        taken_with : both (off c.cancel) (used_up c.tickets) ≡ false → answer ≡ Done
        unfolding cancel_refusals arms cancel_row
        taken_with spare =
            let size = not_of_true _ (eq-eqb (length out) pdu_size sized) in
            takes (size, (not_of_true _ kept, (not_of_true _ may, (spare, tt))))

        -- it is taken with a ticket left
        pub first-cancel : c.cancel ≡ Off → (c.tickets ≡ 18446744073709551615 → ⊥) → answer ≡ Done
        unfolding used_up off both choose
        first-cancel unarmed left =
            taken_with
            (ap (λ (t : Timer). both (off t) (used_up c.tickets)) unarmed
            ∙ ne_eqb c.tickets 18446744073709551615 left)

        -- or with CANCEL armed already, whatever the counter.
        pub further_cancel : (ticket : ℕ) → c.cancel ≡ Armed ticket → answer ≡ Done
        unfolding off both choose
        further_cancel ticket armed =
            taken_with (ap (λ (t : Timer). both (off t) (used_up c.tickets)) armed)

        -- It is 20 where CANCEL is not armed and no ticket is left.
        pub ticketless_cancel : c.cancel ≡ Off → c.tickets ≡ 18446744073709551615 → answer ≡ Refused TicketsUsedUp
        unfolding cancel_verdict cancel_refusals first_of arms cancel_row used_up off both choose
        ticketless_cancel unarmed last =
            let has = may in
            let armed : off c.cancel ≡ true = ap off unarmed in
            refuses TicketsUsedUp (search tests)
