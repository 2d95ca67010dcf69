-- The numbers of each table of refusals rise, so the lowest position decides: where the test of a line holds, the event is
-- refused with a number at most that line's; where none does, it takes a row.
use Prim.Native.Nat.{ℕ}
use mathlib.Core.Bool.{true, false≢true}
use mathlib.Core.List.{List, []}
use mathlib.Core.Path.{◌≡◌, refl, ◌∙◌}
use lib.ListN.{length}
use borrow.Author.Tests.{not-false}
use Rattle.words.specs.Choice.{choose, both}
use Rattle.answers.specs.Table.{Line, rises_from}
use Rattle.answers.proofs.TableLaws.{AllPassed, all_behind, passed_parts, Stands, RefusedAtMost, lowest}
use Rattle.outgoing.specs.Message.{fragment_of}
use Rattle.pdu.specs.Header.{body_of}
use Rattle.reader.specs.Reading.{reader_refusals, read_refusals, reading}
use Rattle.server.specs.declared.records.Server.{Server}
use Rattle.server.specs.declared.judge.Row.TheVariants.{Reply as ReplyRow}
use Rattle.server.specs.judge.Verdict.{Verdict, Refuse, Go}
use Rattle.server.specs.judge.Rows.{is_row, arrival_cell, transmit_row, fault_row, timer_cell}
use Rattle.server.specs.judge.Refusals.{reply_refusals, reply_verdict, transmit_refusals, transmit_verdict, fault_refusals, fault_verdict, timer_refusals, timer_verdict, pdu_refusals, arrival_refusals, arrival_verdict}
use Rattle.server.specs.Machine.{refused, reply_by, replying, step_by, transmitting, timing, faulting, arrival_by, arriving}
use Rattle.server.proofs.Judging.{Takes}
use Rattle.server.proofs.Arriving.{row_stands}

module _ (s : Server) where
  -- Reply,
  pub reply_rise : (n : ℕ) → rises_from 0 (reply_refusals s n) ≡ true
  unfolding reply_refusals both choose
  reply_rise n = refl

  pub reply_lowest : (n : ℕ) (line : Line) → Stands line (reply_refusals s n) → line.test ≡ true
      → RefusedAtMost (replying s n).answer line.refusal
  unfolding replying reply_verdict reply_by refused
  reply_lowest n = lowest Refuse (λ v. (reply_by v s).answer) (λ r. refl) (reply_refusals s n) _ (reply_rise n)

  -- transmit,
  pub transmit_rise : (message out : ℕ) → rises_from 0 (transmit_refusals s message out) ≡ true
  unfolding transmit_refusals both choose
  transmit_rise message out = refl

  pub transmit_lowest : (message out : List ℕ) (line : Line)
      → Stands line (transmit_refusals s (length message) (length out))
      → line.test ≡ true → RefusedAtMost (transmitting s message out).outcome.answer line.refusal
  unfolding transmitting transmit_verdict step_by refused
  transmit_lowest message out =
      lowest Refuse (λ v. (step_by v s (fragment_of message s.outgoing.sent) out).outcome.answer) (λ r. refl)
      (transmit_refusals s (length message) (length out)) _ (transmit_rise (length message) (length out))

  -- fault,
  pub fault_rise : (status out : ℕ) → rises_from 0 (fault_refusals s status out) ≡ true
  unfolding fault_refusals both choose
  fault_rise status out = refl

  pub fault_lowest : (status : ℕ) (out : List ℕ) (line : Line) → Stands line (fault_refusals s status (length out))
      → line.test ≡ true
      → RefusedAtMost (faulting s status out).outcome.answer line.refusal
  unfolding faulting fault_verdict step_by refused
  fault_lowest status out =
      lowest Refuse (λ v. (step_by v s [] out).outcome.answer) (λ r. refl) (fault_refusals s status (length out)) _ (fault_rise status (length out))

  -- the timer,
  pub timer_rise : (ticket out : ℕ) (cell : Verdict) → rises_from 0 (timer_refusals s ticket out cell) ≡ true
  unfolding timer_refusals both choose
  timer_rise ticket out cell = refl

  pub timer_lowest : (ticket : ℕ) (out : List ℕ) (line : Line)
      → Stands line (timer_refusals s ticket (length out) (timer_cell s.state s.resends)) → line.test ≡ true
      → RefusedAtMost (timing s ticket out).outcome.answer line.refusal
  unfolding timing timer_verdict step_by refused
  timer_lowest ticket out =
      lowest Refuse (λ v. (step_by v s [] out).outcome.answer) (λ r. refl)
      (timer_refusals s ticket (length out) (timer_cell s.state s.resends)) _
      (timer_rise ticket (length out) (timer_cell s.state s.resends))

  -- and an arriving datagram.
  pub arrival_rise : (slots out : ℕ) (d : List ℕ) → rises_from 0 (arrival_refusals s slots out d) ≡ true
  unfolding arrival_refusals read_refusals reader_refusals pdu_refusals both choose
  arrival_rise slots out d = refl

  pub arrival_lowest : (datagram slots out : List ℕ) (line : Line)
      → Stands line (arrival_refusals s (length slots) (length out) datagram)
      → line.test ≡ true → RefusedAtMost (arriving s datagram slots out).outcome.answer line.refusal
  unfolding arriving arrival_verdict arrival_by refused
  arrival_lowest datagram slots out =
      lowest Refuse (λ v. (arrival_by v s (reading datagram).header (body_of datagram) slots out).outcome.answer) (λ r. refl)
      (arrival_refusals s (length slots) (length out) datagram)
      (arrival_cell s (reading datagram).header (reading datagram).little (body_of datagram)) (arrival_rise (length slots) (length out) datagram)

-- Where no test of its table holds, a reply takes a row,
module _ (s : Server) where
  pub reply_goes : (n : ℕ) → AllPassed (reply_refusals s n) → Takes (reply_verdict s n)
  unfolding reply_verdict
  reply_goes n passed = record { row = ReplyRow n; is = all_behind Refuse (reply_refusals s n) (Go (ReplyRow n)) passed }

  -- a transmit,
  pub transmit_goes : (message out : ℕ) → AllPassed (transmit_refusals s message out) → Takes (transmit_verdict s message out)
  unfolding transmit_verdict
  transmit_goes message out passed =
      record { row = transmit_row s; is = all_behind Refuse (transmit_refusals s message out) (Go (transmit_row s)) passed }

  -- a fault,
  pub fault_goes : (status out : ℕ) → AllPassed (fault_refusals s status out) → Takes (fault_verdict s status out)
  unfolding fault_verdict
  fault_goes status out passed =
      record { row = fault_row s status; is = all_behind Refuse (fault_refusals s status out) (Go (fault_row s status)) passed }

  -- the timer,
  row_of : (v : Verdict) → is_row v ≡ true → Takes v
  unfolding is_row
  row_of (Refuse r) e = absurd (false≢true e)
  row_of (Go row) e = record { row = row; is = refl }

  pub timer_goes : (ticket out : ℕ) → AllPassed (timer_refusals s ticket out (timer_cell s.state s.resends))
      → Takes (timer_verdict s ticket out)
  unfolding timer_verdict timer_refusals
  timer_goes ticket out passed =
      let v = timer_cell s.state s.resends in
      let has = row_of v (not-false (is_row v) passed.1.1.0) in
      record { row = has.row; is = all_behind Refuse (timer_refusals s ticket out v) v passed ∙ has.is }

  -- and an arriving datagram: behind the table of a PDU a row stands wherever it passes.
  pub arrival_goes : (slots out : ℕ) (d : List ℕ) → AllPassed (arrival_refusals s slots out d) → Takes (arrival_verdict s slots out d)
  unfolding arrival_verdict arrival_refusals
  arrival_goes slots out d passed =
      let h = (reading d).header in
      let v = arrival_cell s h (reading d).little (body_of d) in
      let has = row_stands s h (reading d).little (body_of d) (passed_parts (read_refusals d) _ passed.1.1).1.1 in
      record { row = has.row; is = all_behind Refuse (arrival_refusals s slots out d) v passed ∙ has.is }
