-- Every row of the client keeps what is known of the world.
use Prim.Native.Nat.{ℕ}
use mathlib.Core.Bool.{Bool, true, false, false≢true}
use mathlib.Core.List.{List}
use mathlib.Core.Path.{◌≡◌, refl, sym, ap, ◌∙◌}
use lib.ListN.{length}
use Rattle.words.specs.Choice.{choose}
use Rattle.words.specs.Sizes.{pdu_size}
use Rattle.pdu.specs.declared.Header.{Header}
use Rattle.client.specs.declared.records.Client.{Client}
use Rattle.client.specs.declared.judge.Row.{Row}
use Rattle.client.specs.declared.judge.Row.TheVariants.{Transmit, Ping, SendAck, Cancel, Response, Fault, Reject, Working, Resend, GiveUp, Fack, CancelAck}
use Rattle.client.specs.records.States.{is_queued, is_active}
use Rattle.client.specs.records.Record.{unarmed}
use Rattle.client.specs.step.Plan.{going, failed}
use Rattle.client.specs.step.Steps.{fack_for, response_plan, working_plan, step_of}
use Rattle.client.specs.Machine.{sending}
use Rattle.client.proofs.Judging.{CanTake, Judged}
use Rattle.client.proofs.RowLaws.{Arrives}
use Rattle.client.proofs.Keeping.{row_sound}
use Rattle.client.proofs.StateLaws.{sending_state, dispatched_state, waiting_active}
use Rattle.history.specs.Lists.{In}
use Rattle.history.specs.World.{Completed, World}
use Rattle.history.specs.Steps.{last_start, completions_after, completion_entry}
use Rattle.history.specs.Replies.{WholeReply}
use Rattle.history.proofs.Holding.{Short}
use Rattle.history.proofs.Network.{Request}
use Rattle.history.proofs.Invariant.{ClientInv, Inv, client_step}
use Rattle.history.proofs.ClientSteps.{goes_on, puts, taken_started, row_goes_on}
use Rattle.history.proofs.ClientSends.{asks, acknowledges, cancels, others_known, planned}

-- Rows of what arrives, and of the timers: they send no request and no cancel.
abbrev pub sends_other : Row → Bool
sends_other (Transmit last) = false
sends_other (Ping waits) = true
sends_other SendAck = true
sends_other (Cancel number) = false
sends_other (Response p) = true
sends_other (Fault status) = true
sends_other (Reject status) = true
sends_other Working = true
sends_other (Resend resends) = true
sends_other (GiveUp cause) = true
sends_other (Fack count) = true
sends_other CancelAck = true

-- What arrives has such a row.
pub arrival_sends : (row : Row) (c : Client) (h : Header) (little : Bool) (body : List ℕ) → Arrives row c h little body → sends_other row ≡ true
arrival_sends (Transmit last) c h little body a = absurd a
arrival_sends (Ping waits) c h little body a = refl
arrival_sends SendAck c h little body a = refl
arrival_sends (Cancel number) c h little body a = absurd a
arrival_sends (Response p) c h little body a = refl
arrival_sends (Fault status) c h little body a = refl
arrival_sends (Reject status) c h little body a = refl
arrival_sends Working c h little body a = refl
arrival_sends (Resend resends) c h little body a = refl
arrival_sends (GiveUp cause) c h little body a = refl
arrival_sends (Fack count) c h little body a = refl
arrival_sends CancelAck c h little body a = refl

-- They send no request, and no cancel.
sends_no_request : (row : Row) (c : Client) → sends_other row ≡ true → asks (step_of row c).send ≡ false
unfolding step_of going failed response_plan working_plan
sends_no_request (Transmit last) c e = absurd (false≢true e)
sends_no_request (Ping waits) c e = refl
sends_no_request SendAck c e = refl
sends_no_request (Cancel number) c e = absurd (false≢true e)
sends_no_request (Response p) c e = by_fack p.facked
  where
    by_fack : (wanted : Bool) → asks (fack_for wanted p.serial p.count) ≡ false
    by_fack true = unfold fack_for choose in refl
    by_fack false = unfold fack_for choose in refl
sends_no_request (Fault status) c e = refl
sends_no_request (Reject status) c e = refl
sends_no_request Working c e = refl
sends_no_request (Resend resends) c e = refl
sends_no_request (GiveUp cause) c e = refl
sends_no_request (Fack count) c e = refl
sends_no_request CancelAck c e = refl

sends_no_cancel : (row : Row) (c : Client) → sends_other row ≡ true → cancels (step_of row c).send ≡ false
unfolding step_of going failed response_plan working_plan
sends_no_cancel (Transmit last) c e = absurd (false≢true e)
sends_no_cancel (Ping waits) c e = refl
sends_no_cancel SendAck c e = refl
sends_no_cancel (Cancel number) c e = absurd (false≢true e)
sends_no_cancel (Response p) c e = by_fack p.facked
  where
    by_fack : (wanted : Bool) → cancels (fack_for wanted p.serial p.count) ≡ false
    by_fack true = unfold fack_for choose in refl
    by_fack false = unfold fack_for choose in refl
sends_no_cancel (Fault status) c e = refl
sends_no_cancel (Reject status) c e = refl
sends_no_cancel Working c e = refl
sends_no_cancel (Resend resends) c e = refl
sends_no_cancel (GiveUp cause) c e = refl
sends_no_cancel (Fack count) c e = refl
sends_no_cancel CancelAck c e = refl

-- Where an ack is sent the call has ended.
pub ack_ends : (row : Row) (c : Client) → acknowledges (step_of row c).send ≡ true → is_active (step_of row c).machine.state ≡ false
unfolding step_of going failed response_plan working_plan unarmed is_active
ack_ends (Transmit last) c e = absurd (false≢true e)
ack_ends (Ping waits) c e = absurd (false≢true e)
ack_ends SendAck c e = refl
ack_ends (Cancel number) c e = absurd (false≢true e)
ack_ends (Response p) c e = absurd (false≢true (sym (by_fack p.facked) ∙ e))
  where
    by_fack : (wanted : Bool) → acknowledges (fack_for wanted p.serial p.count) ≡ false
    by_fack true = unfold fack_for choose in refl
    by_fack false = unfold fack_for choose in refl
ack_ends (Fault status) c e = absurd (false≢true e)
ack_ends (Reject status) c e = absurd (false≢true e)
ack_ends Working c e = absurd (false≢true e)
ack_ends (Resend resends) c e = absurd (false≢true e)
ack_ends (GiveUp cause) c e = absurd (false≢true e)
ack_ends (Fack count) c e = absurd (false≢true e)
ack_ends CancelAck c e = absurd (false≢true e)

-- A call that has ended is not active after a row.
pub idle_stays : (row : Row) (c : Client) → CanTake row c → is_active c.state ≡ false → is_active (step_of row c).machine.state ≡ false
unfolding step_of going unarmed is_active
idle_stays (Transmit last) c can idle = absurd (false≢true (sym idle ∙ ap is_active (sending_state c.state can.row)))
idle_stays (Ping waits) c can idle = absurd (false≢true (sym idle ∙ waiting_active c.state can.row))
idle_stays SendAck c can idle = refl
idle_stays (Cancel number) c can idle = absurd (false≢true (sym idle ∙ can.row))
idle_stays (Response p) c can idle = absurd (false≢true (sym idle ∙ can.row))
idle_stays (Fault status) c can idle = absurd (false≢true (sym idle ∙ can))
idle_stays (Reject status) c can idle = absurd (false≢true (sym idle ∙ can))
idle_stays Working c can idle = absurd (false≢true (sym idle ∙ ap is_active (dispatched_state c.state can.row)))
idle_stays (Resend resends) c can idle = absurd (false≢true (sym idle ∙ ap is_active (dispatched_state c.state can.row)))
idle_stays (GiveUp cause) c can idle = absurd (false≢true (sym idle ∙ can))
idle_stays (Fack count) c can idle = absurd (false≢true (sym idle ∙ can.row))
idle_stays CancelAck c can idle = absurd (false≢true (sym idle ∙ can.row))

-- A row that puts nothing: what is known of the client stays known.
pub kept_on : (w : World) → Inv w → (row : Row) → Judged w.client.machine row → puts row ≡ false
    → ClientInv (step_of row w.client.machine).machine w.client.slots w.books.starts w.books.replies
kept_on w inv row j none =
    let c = w.client.machine in
    goes_on c (step_of row c).machine w.client.slots w.books.starts w.books.replies inv.client (taken_started row c j.can)
    (row_sound c row j) (row_goes_on row c j.can none)

-- A row that is no transmit and no cancel keeps what is known of the world, where it does so of its side.
pub row_inv : (w : World) (row : Row) (lent out slots : List ℕ) → Inv w → Judged w.client.machine row
    → ClientInv (step_of row w.client.machine).machine slots w.books.starts w.books.replies
    → is_queued (step_of row w.client.machine).machine.state ≡ false
    → sends_other row ≡ true → Short lent → length out ≡ pdu_size
    → ((x : Completed) → In x (completions_after w.books.completions (step_of row w.client.machine).notice
    (completion_entry w.books.starts (step_of row w.client.machine).machine slots)) → WholeReply w.books.replies x)
    → Inv (client_step w (sending (step_of row w.client.machine) lent out).outcome (sending (step_of row w.client.machine) lent out).out slots)
row_inv w row lent out slots inv j next begun other short room completed =
    let c = w.client.machine in
    planned w (step_of row c) lent out slots inv next begun short room (idle_stays row c j.can) (ack_ends row c) completed
    (others_known (Request w.books.starts) (last_start w.books.starts) (step_of row c).send (step_of row c).machine lent
    (sends_no_request row c other))
    (sends_no_cancel row c other)
