-- What is left of the table once the type of a PDU, the order of its number and the state are known.
use Prim.Native.Nat.{ℕ, zero, suc, ◌≤◌}
use native.Mathlib.Omega.{arith}
use lib.Dec.{eqb}
use mathlib.Core.Bool.{Bool, true, false, not}
use mathlib.Core.List.{List, [], ◌∷◌, ◌++◌}
use mathlib.Core.Path.{◌≡◌, refl, sym, ap, ◌∙◌}
use Rattle.words.specs.Choice.{choose, both, either}
use Rattle.words.specs.Same.{same}
use Rattle.answers.specs.declared.Refusal.TheVariants.{WrongLength, BrokenRecord, OtherActivity, WrongSide, OldCall, MalformedBody, NoRow, Repeated, Contradiction}
use Rattle.answers.specs.Table.{Line, ◌when◌, first_of, answer_of, behind_answer}
use Rattle.answers.proofs.TableLaws.{joined, by_answer}
use Rattle.flags.specs.Flags.{idempotent, has_flag}
use Rattle.fragments.specs.Fragment.{lent_right, is_last}
use Rattle.fragments.specs.Judgement.{held}
use Rattle.fragments.proofs.PutLaws.{cleared-missing, cleared-agrees}
use Rattle.incoming.specs.Slots.{cleared}
use Rattle.pdu.specs.declared.Header.{Header}
use Rattle.pdu.specs.Header.{body_of}
use Rattle.reader.specs.Reading.{read_refusals, reading}
use Rattle.reader.proofs.Readable.{read_answers}
use Rattle.server.specs.declared.records.Idle.TheVariants.{Fresh, Spent, Repeatable}
use Rattle.server.specs.declared.records.Reply.{Reply}
use Rattle.server.specs.declared.records.State.{State}
use Rattle.server.specs.declared.records.State.TheVariants.{Idle as IdleState, Collect, Running, Replying, Held}
use Rattle.server.specs.declared.records.Server.{Server}
use Rattle.server.specs.declared.judge.Order.{Order}
use Rattle.server.specs.declared.judge.Order.TheVariants.{Below, Equal, Newer}
use Rattle.server.specs.declared.judge.Row.TheVariants.{Begin, Put, Working}
use Rattle.server.specs.judge.Verdict.{Verdict, Refuse, Go}
use Rattle.server.specs.records.States.{is_running, is_replying, is_held}
use Rattle.server.specs.records.Rules.{sound}
use Rattle.server.specs.judge.Rows.{is_for_server, says, order_for, replay_row, request_newer, request_again, request_idle, request_equal, request_cell, ping_equal, ping_cell, where_replied, acknowledgement_cell, ack_cell, cancel_equal, cancel_cell, request_put, arrival_cell}
use Rattle.server.specs.judge.Refusals.{is_request, is_malformed, puts, slots_for, is_held_already, same_call, is_other_call, is_contradiction, pdu_refusals, pdu_verdict, activity_verdict, arrival_refusals, arrival_verdict}
use Rattle.server.specs.judge.Parts.{row_left, request_left, request_verdict, ping_verdict, ack_verdict, cancel_verdict, fack_verdict, contradicts_call, entry_answer, read_verdict}

-- A number below the server's.
unfoldable pub is_below : Order → Bool
is_below Below = true
is_below Equal = false
is_below Newer = false

-- What stands in REPLYING and HELD alone, by the two tests.
pub replied_lines : (state : State) (row : Verdict)
    → where_replied state row ≡ choose (not (either (is_replying state) (is_held state))) (Refuse NoRow) row
unfolding where_replied is_replying is_held either choose
replied_lines (IdleState idle) row = refl
replied_lines Collect row = refl
replied_lines Running row = refl
replied_lines Replying row = refl
replied_lines (Held reply) row = refl

-- What is left of the table by what it says of a PDU.
ping_left : (order : Order) (state : State) → row_left false false false (ping_cell order state) ≡ ping_cell order state
unfolding row_left first_of says ping_cell ping_equal either choose
ping_left Below state = refl
ping_left Equal (IdleState idle) = refl
ping_left Equal Collect = refl
ping_left Equal Running = refl
ping_left Equal Replying = refl
ping_left Equal (Held reply) = refl
ping_left Newer state = refl

ack_left : (order : Order) (state : State) (mark : Bool)
    → row_left false false false (acknowledgement_cell order state (ack_cell mark))
    ≡ acknowledgement_cell order state (ack_cell mark)
unfolding row_left first_of says acknowledgement_cell where_replied ack_cell either choose
ack_left Below state mark = refl
ack_left Equal (IdleState idle) mark = refl
ack_left Equal Collect mark = refl
ack_left Equal Running mark = refl
ack_left Equal Replying true = refl
ack_left Equal Replying false = refl
ack_left Equal (Held reply) true = refl
ack_left Equal (Held reply) false = refl
ack_left Newer state mark = refl

pub cancel_left : (order : Order) (state : State) (seen n : ℕ) (malformed : Bool)
    → row_left malformed false false (cancel_cell order state seen n) ≡
    choose (is_below order) (Refuse OldCall) (choose malformed (Refuse MalformedBody) (cancel_cell order state seen n))
unfolding row_left first_of is_below says cancel_cell cancel_equal either choose
cancel_left Below state seen n malformed = refl
cancel_left Equal (IdleState idle) seen n malformed = refl
cancel_left Equal Collect seen n malformed = refl
cancel_left Equal Running seen n malformed = refl
cancel_left Equal Replying seen n malformed = refl
cancel_left Equal (Held reply) seen n malformed = refl
cancel_left Newer state seen n malformed = refl

module _ (s : Server) (h : Header) (body : List ℕ) where
  -- A newer number: nothing is held of the call that begins, so nothing contradicts it.
  pub newer_lines : (state : State)
      → request_left s h body Newer state ≡ choose (is_running state) (Refuse NoRow) (Go (Begin (request_put cleared h body)))
  unfolding request_left row_left first_of says puts slots_for is_other_call is_running request_cell request_newer both either choose
  newer_lines (IdleState idle) = rw (cleared-missing h.fragment, cleared-agrees h.fragment (is_last h.flags1))
  newer_lines Collect = rw (cleared-missing h.fragment, cleared-agrees h.fragment (is_last h.flags1))
  newer_lines Running = refl
  newer_lines Replying = rw (cleared-missing h.fragment, cleared-agrees h.fragment (is_last h.flags1))
  newer_lines (Held reply) = rw (cleared-missing h.fragment, cleared-agrees h.fragment (is_last h.flags1))

  -- An equal number, by the state.
  pub fresh_lines : request_left s h body Equal (IdleState Fresh) ≡ Refuse OldCall
  unfolding request_left row_left first_of says request_cell request_equal request_idle choose
  fresh_lines = refl

  pub spent_lines : request_left s h body Equal (IdleState Spent) ≡ Refuse OldCall
  unfolding request_left row_left first_of says request_cell request_equal request_idle choose
  spent_lines = refl

  pub repeatable_lines : request_left s h body Equal (IdleState Repeatable) ≡
      choose (not (has_flag idempotent h.flags1)) (Refuse OldCall)
      (choose (not (same_call s.call h)) (Refuse Contradiction)
      (Go (Begin (request_put cleared h body))))
  unfolding request_left row_left first_of says puts slots_for is_other_call request_cell request_equal request_idle request_again both either choose
  repeatable_lines = by_bit (has_flag idempotent h.flags1) refl
    where
      by_bit : (bit : Bool) → has_flag idempotent h.flags1 ≡ bit → request_left s h body Equal (IdleState Repeatable) ≡
          choose (not bit) (Refuse OldCall)
          (choose (not (same_call s.call h)) (Refuse Contradiction)
          (Go (Begin (request_put cleared h body))))
      by_bit true e = rw (e, cleared-missing h.fragment, cleared-agrees h.fragment (is_last h.flags1))
      by_bit false e = rw e

  pub collect_lines : request_left s h body Equal Collect ≡
      choose (held s.incoming h.fragment) (Refuse Repeated)
      (choose (contradicts_call s h) (Refuse Contradiction)
      (Go (Put (request_put s.incoming h body))))
  unfolding request_left row_left first_of says puts slots_for is_other_call request_cell request_equal both either choose
  collect_lines = refl

  pub running_lines : request_left s h body Equal Running ≡
      choose (contradicts_call s h) (Refuse Contradiction)
      (Go Working)
  unfolding request_left row_left first_of says puts slots_for is_other_call request_cell request_equal both either choose
  running_lines = refl

  pub replying_lines : request_left s h body Equal Replying ≡ Refuse Repeated
  unfolding request_left row_left first_of says puts slots_for is_other_call request_cell request_equal both either choose
  replying_lines = refl

  pub held_lines : (reply : Reply) → request_left s h body Equal (Held reply) ≡
      choose (contradicts_call s h) (Refuse Contradiction)
      (Go (replay_row reply))
  unfolding request_left row_left first_of says puts slots_for is_other_call request_cell request_equal both either choose
  held_lines reply = refl

  -- A number below the server's.
  pub below_lines : (state : State) → request_left s h body Below state ≡ Refuse OldCall
  unfolding request_left row_left first_of says request_cell choose
  below_lines state = refl

-- The types, each by its own part of the table.
module _ (s : Server) (h : Header) (little : Bool) (body : List ℕ) where
  pub request_lines : h.kind ≡ 0 → pdu_verdict s h little body ≡ request_verdict s h body
  unfolding pdu_verdict pdu_refusals first_of arrival_cell is_request is_for_server is_malformed is_held_already is_contradiction request_verdict request_left row_left both either choose
  request_lines e = rw e

  pub ping_lines : h.kind ≡ 1 → pdu_verdict s h little body ≡ ping_verdict s h
  unfolding pdu_verdict pdu_refusals first_of arrival_cell is_request is_for_server is_malformed is_contradiction row_left ping_verdict order_for both either choose
  ping_lines e = rw e (ping_left (order_for s h) s.state)

  -- What the client calls with, types 0 and 1.
  pub called_lines : h.kind ≤ 1
      → pdu_verdict s h little body ≡ choose (eqb h.kind 0) (request_verdict s h body) (ping_verdict s h)
  unfolding choose
  called_lines = by_kind h.kind refl
    where
      by_kind : (kind : ℕ) → h.kind ≡ kind → kind ≤ 1
          → pdu_verdict s h little body ≡ choose (eqb h.kind 0) (request_verdict s h body) (ping_verdict s h)
      by_kind zero e low = request_lines e ∙ rw e
      by_kind (suc zero) e low = ping_lines e ∙ rw e
      by_kind (suc (suc more)) e low = absurd (omega arith)

  pub ack_lines : h.kind ≡ 7 → pdu_verdict s h little body ≡ ack_verdict s h
  unfolding pdu_verdict pdu_refusals first_of arrival_cell is_request is_for_server is_malformed is_contradiction row_left ack_verdict order_for both either choose
  ack_lines e = rw e (ack_left (order_for s h) s.state s.call.idempotent)

  pub cancel_lines : h.kind ≡ 8 → pdu_verdict s h little body ≡ cancel_verdict s h little body
  unfolding pdu_verdict pdu_refusals first_of arrival_cell is_request is_for_server is_malformed is_contradiction row_left cancel_verdict order_for both either choose
  cancel_lines e = rw e

  pub fack_lines : h.kind ≡ 9 → pdu_verdict s h little body ≡ fack_verdict s h little body
  unfolding pdu_verdict pdu_refusals first_of arrival_cell is_request is_for_server is_malformed is_contradiction row_left fack_verdict order_for both either choose
  fack_lines e = rw e

  pub foreign_lines : is_for_server h.kind ≡ false → pdu_verdict s h little body ≡ Refuse WrongSide
  unfolding pdu_verdict pdu_refusals first_of choose
  foreign_lines e = rw e

-- A datagram that was read: one of another activity is 9.
pub activity_lines : (s : Server) (h : Header) (little : Bool) (body : List ℕ) → activity_verdict s h little body ≡
    choose (not (same s.activity h.activity)) (Refuse OtherActivity) (pdu_verdict s h little body)
unfolding activity_verdict pdu_verdict first_of
activity_lines s h little body = refl

-- A datagram: its entry, then what the reader answers, then its own.
pub arrival_lines : (s : Server) (slots out : ℕ) (d : List ℕ) → arrival_verdict s slots out d ≡
    behind_answer Refuse (read_verdict s (reading d) (body_of d)) (entry_answer s slots out)
unfolding arrival_verdict arrival_refusals activity_verdict first_of
arrival_lines s slots out d =
    by_answer Refuse first (first_of Refuse (read_refusals d ++ mine) row)
    ∙ ap (λ (v : Verdict). behind_answer Refuse v (answer_of first))
    (joined Refuse (read_refusals d) mine row ∙ by_answer Refuse (read_refusals d) (first_of Refuse mine row)
    ∙ ap (behind_answer Refuse (first_of Refuse mine row)) (sym (read_answers d)))
  where
    first : List Line
    first = WrongLength when not (lent_right slots out) ∷ BrokenRecord when not (sound s) ∷ []

    row : Verdict
    row = arrival_cell s (reading d).header (reading d).little (body_of d)

    mine : List Line
    mine =
        OtherActivity when not (same s.activity (reading d).header.activity)
        ∷ pdu_refusals s (reading d).header (reading d).little (body_of d) row
