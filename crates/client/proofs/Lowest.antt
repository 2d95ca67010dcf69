-- The numbers of each table of refusals rise, so the lowest position decides: where the test of a line holds, the event is
-- refused with a number at most that line's; where none does, it takes a row.
use Rattle.std.proofs.Common.{◌≡◌, ℕ, true, List, length, refl, ◌∙◌}
use mathlib.Core.Bool.{false≢true}
use borrow.Author.Tests.{not-false}
use Rattle.words.specs.Choice.{choose, both}
use Rattle.answers.specs.Table.{Line, rises_from}
use Rattle.answers.proofs.TableLaws.{AllPassed, all_behind, passed_parts, Stands, RefusedAtMost, lowest}
use Rattle.calls.specs.declared.Call.{Call}
use Rattle.pdu.specs.Header.{body_of}
use Rattle.reader.specs.Reading.{read_refusals, reader_refusals, reading}
use Rattle.client.specs.declared.records.Client.{Client}
use Rattle.client.specs.declared.records.TimerKind.{TimerKind}
use Rattle.client.specs.declared.judge.Row.{Row}
use Rattle.client.specs.judge.Verdict.{Verdict, Refuse, Go, Refuse as RefuseStart, Go as GoStart}
use Rattle.client.specs.records.States.{is_queued}
use Rattle.client.specs.judge.Rows.{is_row, next_number, transmit_row, timer_row, cancel_row, arrival_cell}
use Rattle.client.specs.judge.Refusals.{start_refusals, start_verdict, transmit_refusals, transmit_verdict, timer_refusals, timer_verdict, cancel_refusals, cancel_verdict, pdu_refusals, arrival_refusals, arrival_verdict}
use Rattle.client.specs.Machine.{starting, transmitting, timing, cancelling, arriving}
use Rattle.client.proofs.Accepting.{answered_by, start_answered_by, start_answers, transmit_answers, timer_answers, cancel_answers, arrive_answers}

-- A row is taken.
pub record Takes (v : Verdict) : Type 0 where
  pub row : Row
  pub is : v ≡ Go row

module _ (c : Client) where
  -- Start,
  pub start_rise : (n : ℕ) → rises_from 0 (start_refusals c n) ≡ true
  unfolding start_refusals both choose
  start_rise n = refl

  pub start_lowest : (call : Call) (n : ℕ) (line : Line) → Stands line (start_refusals c n) → line.test ≡ true
      → RefusedAtMost (starting c call n).answer line.refusal
  unfolding start_verdict
  start_lowest call n line stands holds =
      rw (start_answers c call n)
      (lowest RefuseStart start_answered_by (λ r. refl) (start_refusals c n) _ (start_rise n) line stands holds)

  -- transmit,
  pub transmit_rise : (message out : ℕ) → rises_from 0 (transmit_refusals c message out) ≡ true
  unfolding transmit_refusals both choose
  transmit_rise message out = refl

  pub transmit_lowest : (message out : List ℕ) (line : Line)
      → Stands line (transmit_refusals c (length message) (length out))
      → line.test ≡ true → RefusedAtMost (transmitting c message out).outcome.answer line.refusal
  unfolding transmit_verdict
  transmit_lowest message out line stands holds =
      rw (transmit_answers c message out)
      (lowest Refuse answered_by (λ r. refl) (transmit_refusals c (length message) (length out)) _
      (transmit_rise (length message) (length out)) line stands holds)

  -- a timer event,
  pub timer_rise : (kind : TimerKind) (ticket out : ℕ) → rises_from 0 (timer_refusals c kind ticket out) ≡ true
  unfolding timer_refusals both choose
  timer_rise kind ticket out = refl

  pub timer_lowest : (kind : TimerKind) (ticket : ℕ) (out : List ℕ) (line : Line)
      → Stands line (timer_refusals c kind ticket (length out)) → line.test ≡ true
      → RefusedAtMost (timing c kind ticket out).outcome.answer line.refusal
  unfolding timer_verdict
  timer_lowest kind ticket out line stands holds =
      rw (timer_answers c kind ticket out)
      (lowest Refuse answered_by (λ r. refl) (timer_refusals c kind ticket (length out)) _
      (timer_rise kind ticket (length out)) line stands holds)

  -- a local cancel
  pub cancel_rise : (out : ℕ) → rises_from 0 (cancel_refusals c out) ≡ true
  unfolding cancel_refusals both choose
  cancel_rise out = refl

  pub cancel_lowest : (out : List ℕ) (line : Line) → Stands line (cancel_refusals c (length out)) → line.test ≡ true
      → RefusedAtMost (cancelling c out).outcome.answer line.refusal
  unfolding cancel_verdict
  cancel_lowest out line stands holds =
      rw (cancel_answers c out)
      (lowest Refuse answered_by (λ r. refl) (cancel_refusals c (length out)) _
      (cancel_rise (length out)) line stands holds)

  -- and an arriving datagram.
  pub arrival_rise : (slots out : ℕ) (datagram : List ℕ) → rises_from 0 (arrival_refusals c slots out datagram) ≡ true
  unfolding arrival_refusals read_refusals reader_refusals pdu_refusals both choose
  arrival_rise slots out datagram = refl

  pub arrival_lowest : (datagram slots out : List ℕ) (line : Line)
      → Stands line (arrival_refusals c (length slots) (length out) datagram) → line.test ≡ true
      → RefusedAtMost (arriving c datagram slots out).outcome.answer line.refusal
  unfolding arrival_verdict
  arrival_lowest datagram slots out line stands holds =
      rw (arrive_answers c datagram slots out)
      (lowest Refuse answered_by (λ r. refl) (arrival_refusals c (length slots) (length out) datagram) _
      (arrival_rise (length slots) (length out) datagram) line stands holds)

-- Where no test of its table holds, a start takes its row,
module _ (c : Client) where
  pub start_goes : (n : ℕ) → AllPassed (start_refusals c n) → start_verdict c n ≡ GoStart (next_number (is_queued c.state) c.number)
  unfolding start_verdict
  start_goes n passed = all_behind RefuseStart (start_refusals c n) _ passed

  -- a transmit,
  pub transmit_goes : (message out : ℕ) → AllPassed (transmit_refusals c message out)
      → transmit_verdict c message out ≡ Go (transmit_row c)
  unfolding transmit_verdict
  transmit_goes message out passed = all_behind Refuse (transmit_refusals c message out) _ passed

  -- a timer event,
  pub timer_goes : (kind : TimerKind) (ticket out : ℕ) → AllPassed (timer_refusals c kind ticket out)
      → timer_verdict c kind ticket out ≡ Go (timer_row kind c)
  unfolding timer_verdict
  timer_goes kind ticket out passed = all_behind Refuse (timer_refusals c kind ticket out) _ passed

  -- a local cancel
  pub cancel_goes : (out : ℕ) → AllPassed (cancel_refusals c out) → cancel_verdict c out ≡ Go (cancel_row c)
  unfolding cancel_verdict
  cancel_goes out passed = all_behind Refuse (cancel_refusals c out) _ passed

  -- and an arriving datagram: behind the table of a PDU a row stands wherever it passes.
  row_of : (v : Verdict) → is_row v ≡ true → Takes v
  unfolding is_row
  row_of (Refuse r) e = absurd (false≢true e)
  row_of (Go row) e = record { row = row; is = refl }

  pub arrival_goes : (slots out : ℕ) (d : List ℕ) → AllPassed (arrival_refusals c slots out d)
      → Takes (arrival_verdict c slots out d)
  unfolding arrival_verdict arrival_refusals pdu_refusals
  arrival_goes slots out d passed =
      let v = arrival_cell c (reading d).header (reading d).little (body_of d) in
      let has = row_of v (not-false (is_row v) (passed_parts (read_refusals d) _ passed.1.1).1.1.1.1.1.1.0) in
      record { row = has.row; is = all_behind Refuse (arrival_refusals c slots out d) v passed ∙ has.is }
