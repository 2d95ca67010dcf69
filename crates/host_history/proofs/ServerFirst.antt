-- Every exported event of the server judges lengths first, and then its record: 1 and 2 stand first in its tables.
use Prim.Native.Nat.{ℕ}
use mathlib.Core.Bool.{false}
use mathlib.Core.List.{List, []}
use mathlib.Core.Path.{◌≡◌, refl, ap}
use lib.Dec.{eqb, leb}
use lib.ListN.{length}
use Rattle.words.specs.Choice.{choose, both}
use Rattle.words.specs.Sizes.{pdu_size, message_size}
use Rattle.answers.specs.Answer.{Answer}
use Rattle.answers.proofs.TableLaws.{passed_parts}
use Rattle.fragments.specs.Fragment.{lent_right}
use Rattle.outgoing.specs.Lent.{transmit_lent}
use Rattle.pdu.specs.Header.{body_of}
use Rattle.reader.specs.Reading.{read_refusals, reading}
use Rattle.record_bytes.proofs.Keeping.{choice_keeps}
use Rattle.server.specs.declared.records.Server.{Server}
use Rattle.server.specs.judge.Verdict.{Verdict, Refuse}
use Rattle.server.specs.records.Rules.{sound}
use Rattle.server.specs.records.States.{is_replying}
use Rattle.server.specs.judge.Rows.{timer_cell}
use Rattle.server.specs.judge.Refusals.{reply_refusals, reply_verdict, transmit_refusals, transmit_verdict, timer_refusals, timer_verdict, fault_refusals, fault_verdict, arrival_refusals, arrival_verdict}
use Rattle.server.specs.Machine.{refused, done, reply_by, replying, sending, step_by, transmitting, timing, faulting, acted, arrival_by, arriving}
use Rattle.server.proofs.Lowest.{reply_rise, transmit_rise, timer_rise, fault_rise, arrival_rise}
use Rattle.server.proofs.Judging.{timer-rows}
use Rattle.server.proofs.Arriving.{row_stands}
use Rattle.server_bytes.specs.Layout.{server_in}
use Rattle.history.specs.World.{Side}
use Rattle.morphelai.specs.Export.{sized}
use Rattle.morphelai.specs.ServerDoor.{server_result, server_arrive, server_transmit, server_timing, server_timer, server_reply, server_fault}
use Rattle.host_history.specs.Hosts.{ServerCall, ServerArrive, ServerTransmit, ServerTimer, ServerReply, ServerFault, server_export}
use Rattle.host_history.specs.Refusal.{server_sized}
use Rattle.host_history.proofs.TransmitBytes.{server-message}
use Rattle.host_history.proofs.FirstRefusals.{is_one, First, behind_two, table_first, right_by, above, ReadsFirst, read_first, or_first, kind-first}

-- The server's events.
module _ (s : Server) where
  reply_so : (n : ℕ) → First (leb n message_size) (sound s) (replying s n).answer
  unfolding replying reply_verdict reply_refusals reply_by refused done both choose
  reply_so n =
      table_first Refuse (λ (v : Verdict). (reply_by v s).answer) (λ r. refl) _ _ (reply_rise s n) (λ passed. refl) _
      (sound s) _ (above n)

  -- What a verdict gives of an event of the stub or the timer.
  abbrev answered : List ℕ → List ℕ → Verdict → Answer
  answered lent out v = (step_by v s lent out).outcome.answer

  transmit_so : (message out : List ℕ)
      → First (transmit_lent (is_replying s.state) (length message) s.outgoing.length (length out)) (sound s)
      (transmitting s message out).outcome.answer
  unfolding transmitting transmit_verdict transmit_refusals step_by sending refused done both choose
  transmit_so message out =
      table_first Refuse (answered _ out) (λ r. refl) _ _ (transmit_rise s (length message) (length out)) (λ passed. refl)
      _ (sound s) _ refl

  timer_so : (ticket : ℕ) (out : List ℕ)
      → First (eqb (length out) pdu_size) (sound s) (timing s ticket out).outcome.answer
  unfolding timing timer_verdict timer_refusals step_by sending refused done both choose
  timer_so ticket out =
      table_first Refuse (answered [] out) (λ r. refl) _ _
      (timer_rise s ticket (length out) (timer_cell s.state s.resends))
      (λ passed.
      timer-rows s (λ (v : Verdict). is_one (answered [] out v) ≡ false) (λ other. refl) (λ held below. refl)
      (λ status held below. refl) (λ held limit. refl))
      _ (sound s) _ refl

  fault_so : (status : ℕ) (out : List ℕ)
      → First (eqb (length out) pdu_size) (sound s) (faulting s status out).outcome.answer
  unfolding faulting fault_verdict fault_refusals step_by sending refused done both choose
  fault_so status out =
      table_first Refuse (answered [] out) (λ r. refl) _ _ (fault_rise s status (length out)) (λ passed. refl) _ (sound s)
      _ refl

  arrive_so : (datagram slots out : List ℕ)
      → First (lent_right (length slots) (length out)) (sound s) (arriving s datagram slots out).outcome.answer
  unfolding arriving arrival_verdict arrival_refusals arrival_by acted sending refused done both choose
  arrive_so datagram slots out =
      let h = (reading datagram).header in
      table_first Refuse (λ (v : Verdict). (arrival_by v s h (body_of datagram) slots out).outcome.answer) (λ r. refl)
      (behind_two (arrival_refusals s (length slots) (length out) datagram)) _
      (arrival_rise s (length slots) (length out) datagram)
      (λ passed.
      ap (λ (v : Verdict). is_one (arrival_by v s h (body_of datagram) slots out).outcome.answer)
      (row_stands s h (reading datagram).little (body_of datagram)
      (passed_parts (read_refusals datagram) _ passed).1.1).is)
      _ (sound s) _ refl

-- Every call of the server.
pub server_so : (side : Side (List ℕ)) (call : ServerCall)
    → ReadsFirst (both (sized side.machine) (server_sized side call)) (sound (server_in side.machine))
    (server_export side call)
unfolding server_arrive server_transmit server_timer server_timing server_reply server_fault server_result lent_right
server_so side (ServerArrive p lent out) =
    or_first _ _ _ _ side.machine _ out (read_first _ _ _ _ _ (arrive_so _ p.bytes _ out))
server_so side (ServerTransmit message out) =
    or_first _ _ _ _ side.machine [] out
    (right_by _ _ _ _ (server-message side.machine message out)
    (read_first _ _ _ _ _ (transmit_so (server_in side.machine) message out)))
server_so side (ServerTimer kind ticket out) =
    let kept = sound (server_in side.machine) in
    or_first _ _ _ _ side.machine [] out
    (choice_keeps (ReadsFirst (eqb (length out) pdu_size) kept) (eqb kind 3) _ _
    (read_first _ _ _ _ _ (timer_so _ ticket out)) (kind-first kept side.machine [] out))
server_so side (ServerReply n message) =
    or_first _ _ _ _ side.machine [] [] (read_first _ _ _ _ _ (reply_so _ n))
server_so side (ServerFault status out) =
    or_first _ _ _ _ side.machine [] out (read_first _ _ _ _ _ (fault_so _ status out))
