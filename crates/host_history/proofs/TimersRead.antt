-- The timers of the theorem's world are those that a host reads in the bytes.
use Prim.Native.Nat.{ℕ, ◌≤◌}
use mathlib.Core.Bool.{Bool, true, false, false≢true}
use mathlib.Core.List.{List, [], ◌∷◌}
use mathlib.Core.Logic.{inl, inr}
use mathlib.Core.Path.{◌≡◌, refl, sym, ap, subst, ◌∙◌}
use native.Mathlib.Omega.{arith}
use lib.Dec.{eqb, leb}
use lib.ListN.{get_or}
use borrow.Author.Tests.{eqb-true, ne_eqb}
use Rattle.words.specs.Choice.{choose}
use Rattle.words.proofs.Tests.{choose_false, both_true}
use Rattle.timers.specs.Timer.{Off, Armed}
use Rattle.record_bytes.specs.Parts.{timer_where, is_armed, timer_ticket}
use Rattle.record_bytes.specs.Layout.{readable as shared_readable, fields_in}
use Rattle.record_bytes.proofs.Keeping.{choice_by}
use Rattle.record_bytes.proofs.Reading.{mark_zero, armed_again}
use Rattle.record_bytes.proofs.FieldsAgain.{known}
use Rattle.client.specs.declared.records.State.{State as ClientState}
use Rattle.client.specs.declared.records.State.TheVariants.{Queued, SendFrags, Dispatched, ReceiveFrags, AckPending, Complete, Fault}
use Rattle.client.specs.declared.records.TimerKind.TheVariants.{Wait, Ack, Cancel}
use Rattle.client_bytes.specs.Layout.{state_of as client_state, readable as client_readable, client_of, client_in}
use Rattle.client_bytes.specs.Canonical.{Canonical as ClientCanonical}
use Rattle.server.specs.declared.records.State.{State as ServerState}
use Rattle.server_bytes.specs.Layout.{state_of as server_state, readable as server_readable, server_of, server_in}
use Rattle.server_bytes.specs.Canonical.{Canonical as ServerCanonical}
use Rattle.history.specs.World.{World}
use Rattle.history.specs.Steps.{answer_to, step, run}
use Rattle.history.specs.Timers.{TimerOf, OnClient, OnServer, timer_in, timer_event, LateTimers, ActsOnce, names_wait, names_ack, names_cancel, names_resend, Quiet}
use Rattle.host_history.specs.Results.{answer_in}
use Rattle.host_history.specs.Hosts.{HostWorld, world_of, HostCall, ClientTimer, ServerTimer, ToClient, ToServer, exported, host_step}
use Rattle.host_history.specs.Meaning.{meant, HostFits, Keeps, TellsOf, Tells}
use Rattle.host_history.specs.Refusal.{Undone}
use Rattle.host_history.specs.HostReads.{state_byte, NamesWait, NamesAck, NamesCancel, NamesResend, HostTimer, WaitTimer, AckTimer, CancelTimer, ResendTimer, mark_byte, ticket_bytes, ArmedWith, timer_call}
use Rattle.host_history.specs.HostDemand.{DoesNothing, LateDoesNothing, StrangeDoesNothing, TicketsActOnce, NothingArmed, QuietBytes}
use Rattle.host_history.proofs.Refusals.{refused_leaves}
use Rattle.host_history.proofs.Unchanged.{refused-same}
use Rattle.host_history.proofs.SameRun.{same_step, told}

-- A mark of 1 and a ticket are an armed timer.
armed_there : (mark bytes ticket : ℕ) → mark ≡ 1 → bytes ≡ ticket → timer_where (eqb mark 1) bytes ≡ Armed ticket
unfolding timer_where choose
armed_there mark bytes ticket e same = λ i. timer_where (eqb (e i) 1) (same i)

armed_back : (mark bytes ticket : ℕ) → timer_where (eqb mark 1) bytes ≡ Armed ticket → (mark ≡ 1) × (bytes ≡ ticket)
armed_back mark bytes ticket e = by_mark (eqb mark 1) refl e
  where
    by_mark : (t : Bool) → eqb mark 1 ≡ t → timer_where t bytes ≡ Armed ticket → (mark ≡ 1) × (bytes ≡ ticket)
    by_mark true m is = unfold timer_where choose in (eqb-true mark 1 m, ap timer_ticket is)
    by_mark false m is = unfold timer_where choose in absurd (false≢true (ap is_armed is))

-- The same timer in the theorem's world.
abbrev pub named : HostTimer → TimerOf
named WaitTimer = OnClient Wait
named AckTimer = OnClient Ack
named CancelTimer = OnClient Cancel
named ResendTimer = OnServer

pub armed_told : (h : HostWorld) (timer : HostTimer) (ticket : ℕ) → ArmedWith h timer ticket
    → timer_in (world_of h) (named timer) ≡ Armed ticket
unfolding timer_in client_in client_of server_in server_of fields_in mark_byte ticket_bytes
armed_told h WaitTimer ticket a = armed_there _ _ ticket a.mark a.same
armed_told h AckTimer ticket a = armed_there _ _ ticket a.mark a.same
armed_told h CancelTimer ticket a = armed_there _ _ ticket a.mark a.same
armed_told h ResendTimer ticket a = armed_there _ _ ticket a.mark a.same

pub armed_read : (h : HostWorld) (timer : HostTimer) (ticket : ℕ) → timer_in (world_of h) (named timer) ≡ Armed ticket
    → ArmedWith h timer ticket
unfolding timer_in client_in client_of server_in server_of fields_in mark_byte ticket_bytes
armed_read h WaitTimer ticket e = let a = armed_back _ _ ticket e in record { mark = a.0; same = a.1 }
armed_read h AckTimer ticket e = let a = armed_back _ _ ticket e in record { mark = a.0; same = a.1 }
armed_read h CancelTimer ticket e = let a = armed_back _ _ ticket e in record { mark = a.0; same = a.1 }
armed_read h ResendTimer ticket e = let a = armed_back _ _ ticket e in record { mark = a.0; same = a.1 }

-- The call of a timer is its event.
timer-meant : (timer : HostTimer) (ticket : ℕ) (out : List ℕ)
    → meant (timer_call timer ticket out) ≡ timer_event (named timer) ticket out ∷ []
unfolding meant timer_call timer_event choose
timer-meant WaitTimer ticket out = refl
timer-meant AckTimer ticket out = refl
timer-meant CancelTimer ticket out = refl
timer-meant ResendTimer ticket out = refl

-- A call that is not answered 0 does nothing.
pub undone_nothing : (h : HostWorld) (call : HostCall) → Undone (exported h call) → DoesNothing h call
undone_nothing h call undone =
    let r = refused_leaves h call undone in
    record {
      refused = undone;
      untold = r.untold;
      unsent = r.unsent;
      same = refused-same h call undone;
      buffer = r.buffer;
    }

module _ (h : HostWorld) (keeps : Keeps h) where
  -- What a timer's call is answered is what its event is.
  timer_answer : (timer : HostTimer) (ticket : ℕ) (out : List ℕ) → HostFits (timer_call timer ticket out)
      → answer_in (exported h (timer_call timer ticket out)).result
      ≡ answer_to (world_of h) (timer_event (named timer) ticket out)
  timer_answer timer ticket out small =
      let call = timer_call timer ticket out in
      let tells : TellsOf (world_of h) (exported h call) (timer_event (named timer) ticket out) =
      subst (Tells (world_of h) (exported h call)) (timer-meant timer ticket out) (told h call keeps small) in
      tells.answer

  -- A late timer does nothing,
  pub late_nothing : LateTimers (world_of h) → LateDoesNothing h
  unfolding LateTimers LateDoesNothing
  late_nothing late timer ticket out small other =
      let e = timer_event (named timer) ticket out in
      undone_nothing h (timer_call timer ticket out)
      (λ done.
      (late (named timer) ticket out (λ is. other (armed_read h timer ticket is))).refused
      (sym (timer_answer timer ticket out small) ∙ done))

  -- so does one of a kind that the side does not have, which is no event;
  no_event : (call : HostCall) → HostFits call → meant call ≡ [] → DoesNothing h call
  no_event call small none =
      undone_nothing h call (subst (Tells (world_of h) (exported h call)) none (told h call keeps small))

  pub strange_nothing : StrangeDoesNothing h
  unfolding meant
  strange_nothing = record {
    client =
        λ kind ticket out small not-1 not-2 not-4.
        no_event (ToClient (ClientTimer kind ticket out)) small
        (choose_false (eqb kind 1) _ _ (ne_eqb kind 1 not-1)
        ∙ choose_false (eqb kind 2) _ _ (ne_eqb kind 2 not-2)
        ∙ choose_false (eqb kind 4) _ _ (ne_eqb kind 4 not-4));
    server =
        λ kind ticket out small not-3.
        no_event (ToServer (ServerTimer kind ticket out)) small
        (choose_false (eqb kind 3) _ _ (ne_eqb kind 3 not-3));
  }

  -- and one that acts is no longer armed.
  pub acts_read : ActsOnce (world_of h) → TicketsActOnce h
  unfolding ActsOnce TicketsActOnce run
  acts_read acts timer ticket out small done armed =
      let call = timer_call timer ticket out in
      let e = timer_event (named timer) ticket out in
      let next : world_of (host_step h call) ≡ step (world_of h) e =
      same_step h call keeps small ∙ ap (run (world_of h)) (timer-meant timer ticket out) in
      acts (named timer) ticket out (sym (timer_answer timer ticket out small) ∙ done)
      (subst (λ (w : World). timer_in w (named timer) ≡ Armed ticket) next
      (armed_told (host_step h call) timer ticket armed))

-- A timer that is off has the mark 0.
mark-off : (mark ticket : ℕ) → leb mark 1 ≡ true → timer_where (eqb mark 1) ticket ≡ Off → mark ≡ 0
mark-off mark ticket small off =
    mark_zero mark small (sym (armed_again (eqb mark 1) ticket) ∙ ap is_armed off)

-- The state of a byte that does not name a timer does not name it either.
module _ (n : ℕ) where
  abbrev Unwaited : ClientState → Type 0
  Unwaited s = names_wait s ≡ false

  wait_unnamed : (NamesWait n → ⊥) → names_wait (client_state n) ≡ false
  unfolding client_state
  wait_unnamed other =
      choice_by Unwaited (eqb n 0) Queued _ (λ e. refl)
      (λ e. choice_by Unwaited (eqb n 1) SendFrags _ (λ f. refl)
      (λ f. choice_by Unwaited (eqb n 2) Dispatched _ (λ two. absurd (other (inl (eqb-true n 2 two))))
      (λ g. choice_by Unwaited (eqb n 3) ReceiveFrags _ (λ three. absurd (other (inr (eqb-true n 3 three))))
      (λ k. choice_by Unwaited (eqb n 4) AckPending _ (λ l. refl)
      (λ l. choice_by Unwaited (eqb n 5) Complete Fault (λ m. refl) (λ m. refl))))))

  abbrev Unacked : ClientState → Type 0
  Unacked s = names_ack s ≡ false

  ack_unnamed : (NamesAck n → ⊥) → names_ack (client_state n) ≡ false
  unfolding client_state
  ack_unnamed other =
      choice_by Unacked (eqb n 0) Queued _ (λ e. refl)
      (λ e. choice_by Unacked (eqb n 1) SendFrags _ (λ f. refl)
      (λ f. choice_by Unacked (eqb n 2) Dispatched _ (λ g. refl)
      (λ g. choice_by Unacked (eqb n 3) ReceiveFrags _ (λ k. refl)
      (λ k. choice_by Unacked (eqb n 4) AckPending _ (λ four. absurd (other (eqb-true n 4 four)))
      (λ l. choice_by Unacked (eqb n 5) Complete Fault (λ m. refl) (λ m. refl))))))

  abbrev Uncancelled : ClientState → Type 0
  Uncancelled s = names_cancel s ≡ false

  cancel_unnamed : (NamesCancel n → ⊥) → names_cancel (client_state n) ≡ false
  unfolding client_state
  cancel_unnamed other =
      choice_by Uncancelled (eqb n 0) Queued _ (λ e. refl)
      (λ e. choice_by Uncancelled (eqb n 1) SendFrags _ (λ one. absurd (other (inl (eqb-true n 1 one))))
      (λ f. choice_by Uncancelled (eqb n 2) Dispatched _ (λ two. absurd (other (inr (inl (eqb-true n 2 two)))))
      (λ g. choice_by Uncancelled (eqb n 3) ReceiveFrags _ (λ three. absurd (other (inr (inr (eqb-true n 3 three)))))
      (λ k. choice_by Uncancelled (eqb n 4) AckPending _ (λ l. refl)
      (λ l. choice_by Uncancelled (eqb n 5) Complete Fault (λ m. refl) (λ m. refl))))))

  abbrev Unresent : ServerState → Type 0
  Unresent s = names_resend s ≡ false

  resend_unnamed : (status : ℕ) → (NamesResend n → ⊥) → names_resend (server_state n status) ≡ false
  unfolding server_state
  resend_unnamed status other =
      choice_by Unresent (eqb n 1) _ _ (λ e. refl)
      (λ e. choice_by Unresent (eqb n 2) _ _ (λ f. refl)
      (λ f. choice_by Unresent (eqb n 3) _ _ (λ g. refl)
      (λ g. choice_by Unresent (eqb n 4) _ _ (λ k. refl)
      (λ k. choice_by Unresent (eqb n 5) _ _ (λ l. refl)
      (λ l. choice_by Unresent (eqb n 6) _ _ (λ six. absurd (other (inl (eqb-true n 6 six))))
      (λ m. choice_by Unresent (eqb n 7) _ _ (λ seven. absurd (other (inr (eqb-true n 7 seven)))) (λ o. refl)))))))

  -- The states of a finished call name none.
  finished_waits : 5 ≤ n → NamesWait n → ⊥
  finished_waits late (inl two) = omega (arith, late, two)
  finished_waits late (inr three) = omega (arith, late, three)

  finished_acks : 5 ≤ n → NamesAck n → ⊥
  finished_acks late four = omega (arith, late, four)

  finished_cancels : 5 ≤ n → NamesCancel n → ⊥
  finished_cancels late (inl one) = omega (arith, late, one)
  finished_cancels late (inr (inl two)) = omega (arith, late, two)
  finished_cancels late (inr (inr three)) = omega (arith, late, three)

  idle_resends : n ≤ 2 → NamesResend n → ⊥
  idle_resends low (inl six) = omega (arith, low, six)
  idle_resends low (inr seven) = omega (arith, low, seven)

-- What both sides ask of readable bytes.
pub shared_client : (b : List ℕ) → ClientCanonical b → shared_readable b ≡ true
unfolding client_readable
shared_client b canonical = (both_true _ _ (both_true _ _ canonical.readable).1).1

shared_server : (b : List ℕ) → ServerCanonical b → shared_readable b ≡ true
unfolding server_readable
shared_server b canonical = (both_true _ _ (both_true _ _ canonical.readable).1).1

-- Nothing is armed where no state names it.
module _ (h : HostWorld) (keeps : Keeps h) (quiet : Quiet (world_of h)) where
  client_known : shared_readable h.client.machine ≡ true
  client_known = shared_client h.client.machine keeps.client

  server_known : shared_readable h.server.machine ≡ true
  server_known = shared_server h.server.machine keeps.server

  wait_quiet : (NamesWait (state_byte h.client) → ⊥) → mark_byte h WaitTimer ≡ 0
  unfolding mark_byte client_in client_of fields_in
  wait_quiet other =
      mark-off _ _ (known h.client.machine client_known).first (quiet.wait (wait_unnamed _ other))

  ack_quiet : (NamesAck (state_byte h.client) → ⊥) → mark_byte h AckTimer ≡ 0
  unfolding mark_byte client_in client_of fields_in
  ack_quiet other = mark-off _ _ (known h.client.machine client_known).second (quiet.ack (ack_unnamed _ other))

  cancel_quiet : (NamesCancel (state_byte h.client) → ⊥) → mark_byte h CancelTimer ≡ 0
  unfolding mark_byte client_in client_of fields_in
  cancel_quiet other =
      mark-off _ _ (known h.client.machine client_known).third (quiet.cancel (cancel_unnamed _ other))

  resend_quiet : (NamesResend (state_byte h.server) → ⊥) → mark_byte h ResendTimer ≡ 0
  unfolding mark_byte server_in server_of fields_in
  resend_quiet other =
      mark-off _ _ (known h.server.machine server_known).first (quiet.resend (resend_unnamed _ _ other))

  finished_quiet : 5 ≤ state_byte h.client → NothingArmed h
  finished_quiet late = (
    wait_quiet (finished_waits _ late),
    ack_quiet (finished_acks _ late),
    cancel_quiet (finished_cancels _ late),
  )

  no_others : (get_or h.server.machine 65 0 ≡ 0) × (get_or h.server.machine 66 0 ≡ 0)
  unfolding server_readable
  no_others =
      let own = (both_true _ _ (both_true _ _ keeps.server.readable).1).0 in
      let marks = both_true _ _ (both_true _ _ (both_true _ _ own).1).0 in
      (eqb-true _ _ marks.0, eqb-true _ _ marks.1)

  pub quiet_read : QuietBytes h
  quiet_read = record {
    wait = wait_quiet;
    ack = ack_quiet;
    cancel = cancel_quiet;
    resend = resend_quiet;
    second = no_others.0;
    third = no_others.1;
    complete = λ five. finished_quiet (omega (arith, five));
    fault = λ six. finished_quiet (omega (arith, six));
    idle = λ low. resend_quiet (idle_resends _ low);
  }
