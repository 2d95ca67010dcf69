-- `server::judge::pdu` meets its contract: each arm knows the range of its numbers.
use Prim.Native.Nat.{ℕ, ◌<◌}
use mathlib.Core.Bool.{false}
use mathlib.Core.Path.{◌≡◌, refl, sym, ◌∙◌}
use native.Mathlib.Omega.{arith}
use borrow.Author.Tests.{ne_eqb}
use Rattle.words.specs.Choice.{choose, either}
use Rattle.server.specs.judge.Rows.{is_for_server}
use Rattle.server.proofs.judge.KindLaws.{called_lines, ack_lines, cancel_lines, fack_lines, foreign_lines}
use Rattle.server.proofs.judge.pdu.Goals as goal

-- No number but these is the server's.
outside : (kind : ℕ) → 1 < kind → (kind ≡ 7 → ⊥) → (kind ≡ 8 → ⊥) → (kind ≡ 9 → ⊥) → is_for_server kind ≡ false
unfolding is_for_server either
outside kind above no-ack no-cancel no-fack =
    rw (
      ne_eqb kind 0 (λ e. omega arith),
      ne_eqb kind 1 (λ e. omega arith),
      ne_eqb kind 7 no-ack,
      ne_eqb kind 8 no-cancel,
      ne_eqb kind 9 no-fack,
    ) (unfold choose in refl)

pub returns-in-0-to-1 : goal.returns-in-0-to-1
returns-in-0-to-1 c = c.request_or_ping.ensures ∙ sym (called_lines _ _ _ _ (omega arith))

pub returns-in-7 : goal.returns-in-7
returns-in-7 c = c.ack.ensures ∙ sym (ack_lines _ _ _ _ c.in-7.is)

pub returns-in-8 : goal.returns-in-8
returns-in-8 c = c.cancel.ensures ∙ sym (cancel_lines _ _ _ _ c.in-8.is)

pub returns-in-9 : goal.returns-in-9
returns-in-9 c = c.fack.ensures ∙ sym (fack_lines _ _ _ _ c.in-9.is)

pub returns-in_default : goal.returns-in_default
returns-in_default c =
    sym (foreign_lines _ _ _ _ (outside _ (omega arith) (λ e. omega arith) (λ e. omega arith) (λ e. omega arith)))
