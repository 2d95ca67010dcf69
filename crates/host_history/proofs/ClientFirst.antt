-- Every exported event of the client judges lengths first, and then its record: 1 and 2 stand first in its tables.
use Prim.Native.Nat.{ℕ}
use mathlib.Core.Bool.{Bool, true, false, false≢true}
use mathlib.Core.List.{List, []}
use mathlib.Core.Path.{◌≡◌, refl}
use lib.Dec.{eqb, leb}
use lib.ListN.{length}
use borrow.Author.Tests.{not-false}
use Rattle.words.specs.Choice.{choose, both}
use Rattle.words.specs.Sizes.{pdu_size, message_size}
use Rattle.answers.specs.Answer.{Answer}
use Rattle.answers.proofs.TableLaws.{passed_parts}
use Rattle.calls.specs.declared.Call.{Call}
use Rattle.fragments.specs.Fragment.{lent_right}
use Rattle.outgoing.specs.Lent.{transmit_lent}
use Rattle.pdu.specs.Header.{body_of}
use Rattle.reader.specs.Reading.{read_refusals}
use Rattle.record_bytes.proofs.Keeping.{choice_keeps}
use Rattle.client.specs.declared.records.Client.{Client}
use Rattle.client.specs.declared.records.TimerKind.{TimerKind}
use Rattle.client.specs.declared.records.TimerKind.TheVariants.{Wait, Ack, Cancel}
use Rattle.client.specs.judge.Verdict.{Verdict, Refuse, Go, StartVerdict, Refuse as RefuseStart}
use Rattle.client.specs.records.Rules.{sound}
use Rattle.client.specs.records.States.{is_sending}
use Rattle.client.specs.judge.Rows.{is_row}
use Rattle.client.specs.judge.Refusals.{start_refusals, start_verdict, transmit_refusals, transmit_verdict, timer_refusals, timer_verdict, cancel_refusals, cancel_verdict, pdu_refusals, arrival_refusals, arrival_verdict}
use Rattle.client.specs.Machine.{refused, done, start_by, starting, sending, step_by, transmitting, timing, cancelling, acted, arrival_by, arriving}
use Rattle.client.proofs.Lowest.{start_rise, transmit_rise, timer_rise, cancel_rise, arrival_rise}
use Rattle.client_bytes.specs.Layout.{client_in}
use Rattle.history.specs.World.{Side}
use Rattle.morphelai.specs.Export.{sized}
use Rattle.morphelai.specs.ClientDoor.{client_result, start_sized, client_start, client_transmit, client_arrive, client_timing, client_timer, client_cancel}
use Rattle.host_history.specs.Hosts.{ClientCall, ClientStart, ClientTransmit, ClientArrive, ClientTimer, ClientCancel, client_export}
use Rattle.host_history.specs.Meaning.{startable}
use Rattle.host_history.specs.Refusal.{client_sized}
use Rattle.host_history.proofs.TransmitBytes.{client-message}
use Rattle.host_history.proofs.FirstRefusals.{is_one, First, behind_two, table_first, right_by, above, ReadsFirst, read_first, or_first, kind-first}

-- A row is answered Done, so not 1.
row_other : (v : Verdict) (c : Client) (body slots out : List ℕ) → is_row v ≡ true
    → is_one (arrival_by v c body slots out).outcome.answer ≡ false
unfolding is_row arrival_by acted sending done
row_other (Refuse r) c body slots out e = absurd (false≢true e)
row_other (Go row) c body slots out e = refl

-- The client's events.
module _ (c : Client) where
  start_so : (call : Call) (n : ℕ) → First (leb n message_size) (sound c) (starting c call n).answer
  unfolding starting start_verdict start_refusals start_by refused both choose
  start_so call n =
      table_first RefuseStart (λ (v : StartVerdict). (start_by v c call n).answer) (λ r. refl) _ _ (start_rise c n)
      (λ passed. refl) _ (sound c) _ (above n)

  -- What a verdict gives of an event with a PDU buffer.
  abbrev answered : List ℕ → List ℕ → Verdict → Answer
  answered lent out v = (step_by v c lent out).outcome.answer

  transmit_so : (message out : List ℕ)
      → First (transmit_lent (is_sending c.state) (length message) c.outgoing.length (length out)) (sound c)
      (transmitting c message out).outcome.answer
  unfolding transmitting transmit_verdict transmit_refusals step_by sending refused done both choose
  transmit_so message out =
      table_first Refuse (answered _ out) (λ r. refl) _ _ (transmit_rise c (length message) (length out)) (λ passed. refl)
      _ (sound c) _ refl

  timer_so : (kind : TimerKind) (ticket : ℕ) (out : List ℕ)
      → First (eqb (length out) pdu_size) (sound c) (timing c kind ticket out).outcome.answer
  unfolding timing timer_verdict timer_refusals step_by sending refused done both choose
  timer_so kind ticket out =
      table_first Refuse (answered [] out) (λ r. refl) _ _ (timer_rise c kind ticket (length out)) (λ passed. refl) _
      (sound c) _ refl

  cancel_so : (out : List ℕ) → First (eqb (length out) pdu_size) (sound c) (cancelling c out).outcome.answer
  unfolding cancelling cancel_verdict cancel_refusals step_by sending refused done both choose
  cancel_so out =
      table_first Refuse (answered [] out) (λ r. refl) _ _ (cancel_rise c (length out)) (λ passed. refl) _ (sound c) _ refl

  arrive_so : (datagram slots out : List ℕ)
      → First (lent_right (length slots) (length out)) (sound c) (arriving c datagram slots out).outcome.answer
  unfolding arriving arrival_verdict arrival_refusals pdu_refusals arrival_by refused both choose
  arrive_so datagram slots out =
      table_first Refuse (λ (v : Verdict). (arrival_by v c (body_of datagram) slots out).outcome.answer) (λ r. refl)
      (behind_two (arrival_refusals c (length slots) (length out) datagram)) _
      (arrival_rise c (length slots) (length out) datagram)
      (λ passed.
      row_other _ c (body_of datagram) slots out
      (not-false _ (passed_parts (read_refusals datagram) _ passed).1.1.1.1.1.1.0))
      _ (sound c) _ refl

-- Two tests before a third.
both_joined : (a b c : Bool) → both (both a b) c ≡ both a (both b c)
unfolding both choose
both_joined true b c = refl
both_joined false b c = refl

-- Every call of the client.
pub client_so : (side : Side (List ℕ)) (call : ClientCall)
    → ReadsFirst (both (sized side.machine) (client_sized side call)) (sound (client_in side.machine))
    (client_export side call)
unfolding client_start start_sized startable client_transmit client_arrive client_timer client_timing client_cancel
    client_result lent_right
client_so side (ClientStart idempotent object interface version operation n message) =
    right_by _ _ _ _ (both_joined (sized side.machine) _ (leb n message_size))
    (or_first _ (leb n message_size) _ _ side.machine [] [] (read_first _ _ _ _ _ (start_so _ _ n)))
client_so side (ClientTransmit message out) =
    or_first _ _ _ _ side.machine [] out
    (right_by _ _ _ _ (client-message side.machine message out)
    (read_first _ _ _ _ _ (transmit_so (client_in side.machine) message out)))
client_so side (ClientArrive p lent out) =
    or_first _ _ _ _ side.machine _ out (read_first _ _ _ _ _ (arrive_so _ p.bytes _ out))
client_so side (ClientTimer kind ticket out) =
    let kept = sound (client_in side.machine) in
    let right = eqb (length out) pdu_size in
    or_first _ _ _ _ side.machine [] out
    (choice_keeps (ReadsFirst right kept) (eqb kind 1) _ _ (read_first _ _ _ _ _ (timer_so _ Wait ticket out))
    (choice_keeps (ReadsFirst right kept) (eqb kind 2) _ _ (read_first _ _ _ _ _ (timer_so _ Ack ticket out))
    (choice_keeps (ReadsFirst right kept) (eqb kind 4) _ _ (read_first _ _ _ _ _ (timer_so _ Cancel ticket out))
    (kind-first kept side.machine [] out))))
client_so side (ClientCancel out) =
    or_first _ _ _ _ side.machine [] out (read_first _ _ _ _ _ (cancel_so _ out))
