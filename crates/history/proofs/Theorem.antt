-- The theorem over every list of events.
use Prim.Native.Nat.{ℕ, ◌≤◌}
use mathlib.Core.Bool.{Bool, true, false, false≢true}
use mathlib.Core.List.{List, [], ◌∷◌, ◌++◌, append_assoc}
use mathlib.Core.Logic.{◌⊎◌, inl, inr}
use mathlib.Core.Path.{◌≡◌, refl, sym, ap, subst, ◌∙◌}
use native.Mathlib.Omega.{arith}
use lib.Dec.{eqb}
use Rattle.fragments.specs.Joined.{Leads}
use Rattle.fragments.proofs.BufferLaws.{joined}
use Rattle.timers.specs.Timer.{Armed}
use Rattle.timers.proofs.TimerLaws.{ticket_most}
use Rattle.client.specs.declared.records.State.{State}
use Rattle.client.specs.declared.records.State.TheVariants.{Queued, SendFrags, Dispatched as DispatchedState, ReceiveFrags, AckPending, Complete, Fault}
use Rattle.client.specs.records.States.{is_queued, is_waiting, is_ack_pending}
use Rattle.client.proofs.RuleLaws.{rules_told, wait_off, ack-off, cancel-off}
use Rattle.client.specs.declared.records.TimerKind.TheVariants.{Wait, Ack, Cancel}
use Rattle.client.specs.records.Named.{named_timer}
use Rattle.client.proofs.Growing.{hands_joined}
use Rattle.client.proofs.TicketLaws.{old_most as client-most}
use Rattle.server.specs.declared.records.Idle.TheVariants.{Fresh as NeverCalled, Spent, Repeatable}
use Rattle.server.specs.records.States.{is_held, is_fresh, never_called}
use Rattle.server.specs.declared.records.State.{State as ServerState}
use Rattle.server.specs.declared.records.State.TheVariants.{Idle, Collect, Running, Replying, Held}
use Rattle.server.proofs.RuleLaws.{resend-off, rules_told as server-rules-told}
use Rattle.history.specs.Lists.{In, how_many}
use Rattle.history.specs.World.{call_number, Started, Dispatched, SentPdu, World}
use Rattle.history.specs.Events.{Event}
use Rattle.history.specs.Steps.{last_start, run}
use Rattle.history.specs.Fairness.{Fair}
use Rattle.history.specs.Freshness.{Fresh}
use Rattle.history.specs.Dispatches.{times, AtMostOnce, WholeMessages, WholeWhereRunning}
use Rattle.history.specs.Replies.{reply_handed_up, RepliesToDispatches, LeadsReply, OneReply, WholeReplies, WholeWhereAnswered, OnlyGrows}
use Rattle.history.specs.Timers.{TimerOf, OnClient, OnServer, timer_in, LateTimers, GoneTickets, names_wait, names_ack, names_resend, Quiet}
use Rattle.history.specs.Numbers.{client_calls, server_called, Numbered}
use Rattle.history.specs.Cancels.{CancelsCounted}
use Rattle.history.specs.Claim.{Claim}
use Rattle.history.proofs.Holding.{unheld_joined, holding_leads}
use Rattle.history.proofs.Network.{Known}
use Rattle.history.proofs.Types.{IsAck}
use Rattle.history.proofs.Invariant.{ClientHolds, nothing, fragments_of, AckOf, Inv}
use Rattle.history.proofs.Beginning.{fresh_inv}
use Rattle.history.proofs.ClientArrivals.{whole_handed}
use Rattle.history.proofs.Refused.{late_nothing}
use Rattle.history.proofs.Undisturbed.{running_is, undisturbed}
use Rattle.history.proofs.Cancelling.{some_start, named_cancel, stays_armed}
use Rattle.history.proofs.CancelSends.{cancels_taken, cancels_sent}
use Rattle.history.proofs.CancelRuns.{CancelInv, run_cancels, fresh_cancels, heard_asked_for, told_once, told_running, hears_all}
use Rattle.history.proofs.Histories.{run_inv, run-append, fair_append, run_grows}
use Rattle.history.proofs.Tickets.{counter_of, run_counts, run_gone, acts_once, armed_afresh_lem}

module _ (w : World) (inv : Inv w) where
  joins : reply_handed_up w ≡ joined w.client.machine.incoming w.client.slots
  joins = hands_joined w.client.machine w.client.slots inv.client.kept

  -- What the client hands up is nothing, or a leading part of one reply,
  one_reply : OneReply w
  unfolding OneReply
  one_reply = by_state (is_queued w.client.machine.state) refl
    where
      by_holds : ClientHolds (last_start w.books.starts) w.client.machine.incoming w.client.slots w.books.replies
          → (reply_handed_up w ≡ []) ⊎ LeadsReply w
      by_holds (nothing e) = inl (joins ∙ unheld_joined w.client.machine.incoming w.client.slots e.none)
      by_holds (fragments_of r m n h) =
          inr
          (record {
            reply = r;
            given = m;
            ordinal = n;
            leads =
                subst (λ (bytes : List ℕ). Leads bytes r.message) (sym joins)
                (holding_leads w.client.machine.incoming w.client.slots r.message h (rules_told w.client.machine inv.client.kept).incoming);
          })

      by_state : (queued : Bool) → is_queued w.client.machine.state ≡ queued → (reply_handed_up w ≡ []) ⊎ LeadsReply w
      by_state true e = inl (joins ∙ unheld_joined w.client.machine.incoming w.client.slots (inv.client.unasked e))
      by_state false e = by_holds (inv.client.holds e)

  -- Each dispatch gets the whole message of its one start.
  whole_messages : WholeMessages w
  unfolding WholeMessages
  whole_messages d m =
      let from = inv.calls.whole d m in
      record {
        start = from.start;
        started = from.started;
        ordinal = from.ordinal;
        call = from.call;
        whole = from.whole;
        only = λ other k n. inv.calls.unique other from.start k from.started (n ∙ sym from.ordinal);
      }

  -- A timer is armed only in the states that name it.
  quiet : Quiet w
  quiet = record {
    wait = λ e. wait_off w.client.machine inv.client.kept (sym (named_wait w.client.machine.state) ∙ e);
    ack = λ e. ack-off w.client.machine inv.client.kept (sym (named_ack w.client.machine.state) ∙ e);
    cancel = λ e. cancel-off w.client.machine inv.client.kept (sym (named_cancel w.client.machine.state) ∙ e);
    resend = λ e. resend-off w.server.machine inv.server.kept (sym (named_resend w.server.machine.state) ∙ e);
  }
    where
      named_wait : (s : State) → names_wait s ≡ is_waiting s
      named_wait Queued = unfold is_waiting in refl
      named_wait SendFrags = unfold is_waiting in refl
      named_wait DispatchedState = unfold is_waiting in refl
      named_wait ReceiveFrags = unfold is_waiting in refl
      named_wait AckPending = unfold is_waiting in refl
      named_wait Complete = unfold is_waiting in refl
      named_wait Fault = unfold is_waiting in refl

      named_ack : (s : State) → names_ack s ≡ is_ack_pending s
      named_ack Queued = unfold is_ack_pending in refl
      named_ack SendFrags = unfold is_ack_pending in refl
      named_ack DispatchedState = unfold is_ack_pending in refl
      named_ack ReceiveFrags = unfold is_ack_pending in refl
      named_ack AckPending = unfold is_ack_pending in refl
      named_ack Complete = unfold is_ack_pending in refl
      named_ack Fault = unfold is_ack_pending in refl

      named_resend : (s : ServerState) → names_resend s ≡ is_held s
      named_resend (Idle idle) = unfold is_held in refl
      named_resend Collect = unfold is_held in refl
      named_resend Running = unfold is_held in refl
      named_resend Replying = unfold is_held in refl
      named_resend (Held reply) = unfold is_held in refl

-- A client with a call is not QUEUED, and a server that was called is not fresh.
calls_begun : (s : State) → client_calls s ≡ true → is_queued s ≡ false
unfolding is_queued
calls_begun Queued e = absurd (false≢true e)
calls_begun SendFrags e = refl
calls_begun DispatchedState e = refl
calls_begun ReceiveFrags e = refl
calls_begun AckPending e = refl
calls_begun Complete e = refl
calls_begun Fault e = refl

called_once : (s : ServerState) → server_called s ≡ true → is_fresh s ≡ false
unfolding is_fresh never_called
called_once (Idle NeverCalled) e = absurd (false≢true e)
called_once (Idle Spent) e = refl
called_once (Idle Repeatable) e = refl
called_once Collect e = refl
called_once Running e = refl
called_once Replying e = refl
called_once (Held reply) e = refl

-- Call numbers name starts.
numbered : (w : World) → Inv w → Numbered w
numbered w inv = record {
  last =
      λ e.
      let now = inv.client.current (calls_begun w.client.machine.state e) in
      record { start = now.start; started = now.started; ordinal = now.is };
  starts = inv.calls.numbered;
  dispatches = inv.calls.called;
  client = λ e. (inv.client.current (calls_begun w.client.machine.state e)).number;
  server = λ e. (inv.server.called (called_once w.server.machine.state e)).number;
}

-- The client's cancel number counts its cancels.
cancels_counted : (w : World) → Inv w → CancelInv w → CancelsCounted w
unfolding CancelsCounted
cancels_counted w inv known e = known.client.counted (some_start w inv (calls_begun w.client.machine.state e))

-- An armed ticket is at most the counter of its side.
armed_in_most : (w : World) → Inv w → (timer : TimerOf) (ticket : ℕ) → timer_in w timer ≡ Armed ticket → ticket ≤ counter_of w timer
unfolding timer_in named_timer
armed_in_most w inv (OnClient Wait) ticket e = client-most w.client.machine Wait ticket inv.client.kept e
armed_in_most w inv (OnClient Ack) ticket e = client-most w.client.machine Ack ticket inv.client.kept e
armed_in_most w inv (OnClient Cancel) ticket e = client-most w.client.machine Cancel ticket inv.client.kept e
armed_in_most w inv OnServer ticket e =
    ticket_most (is_held w.server.machine.state) w.server.machine.resend w.server.machine.tickets ticket (server-rules-told w.server.machine inv.server.kept).timer e

-- A ticket that was armed and is no longer never is again.
gone_tickets : (w : World) (events : List Event) → Inv w → Fair w events → GoneTickets w events
unfolding GoneTickets
gone_tickets w events inv fair before between after split timer ticket armed gone now =
    let earlier = run_inv w before inv (fair_append w before (between ++ after) (subst (Fair w) split fair)).0 in
    let most = armed_in_most (run w before) earlier timer ticket armed in
    let counts = run_counts (run w before) between timer in
    let middle : run w (before ++ between) ≡ run (run w before) between = run-append w before between in
    let end : run w events ≡ run (run w (before ++ between)) after =
    ap (run w) (split ∙ sym (append_assoc before between after)) ∙ run-append w (before ++ between) after in
    run_gone (run w (before ++ between)) after timer ticket (subst (λ (v : World). ticket ≤ counter_of v timer) (sym middle) (omega arith)) gone
    (subst (λ (v : World). timer_in v timer ≡ Armed ticket) end now)

-- A call that is not idempotent is dispatched at most once.
at_most_once : (w : World) → Inv w → AtMostOnce w
unfolding AtMostOnce
at_most_once w inv = inv.calls.once

-- A late timer changes nothing.
late_timers : (w : World) → LateTimers w
unfolding LateTimers
late_timers w = late_nothing w

-- While no start is accepted, what was handed up leads what is handed up.
only_grows : (w : World) (events : List Event) → Fair w events → OnlyGrows w events
unfolding OnlyGrows
only_grows w events fair before after split same =
    let later = (fair_append w before after (subst (Fair w) split fair)).1 in
    let end : run w events ≡ run (run w before) after = ap (run w) split ∙ run-append w before after in
    subst (λ (v : World). Leads (reply_handed_up (run w before)) (reply_handed_up v)) (sym end)
    (run_grows (run w before) after later (sym (ap (λ (v : World). v.books.starts) end) ∙ same))

-- After every fair list of events of a fresh world the claim holds.
pub theorem : (w : World) → Fresh w → (events : List Event) → Fair w events → Claim w events
unfolding WholeWhereRunning RepliesToDispatches WholeReplies WholeWhereAnswered
theorem w fresh events fair =
    let start = fresh_inv w fresh in
    let inv = run_inv w events start fair in
    let cancels = run_cancels w events start (fresh_cancels w fresh) fair in
    record {
      once = at_most_once (run w events) inv;
      whole = whole_messages (run w events) inv;
      running = λ e. let r = inv.server.running (running_is (run w events).server.machine.state e) in record { ran = r.ran; last = r.entry };
      undisturbed = undisturbed (run w events);
      replied = inv.calls.replied;
      reply = one_reply (run w events) inv;
      complete = inv.completed;
      answered = λ e. let v = run w events in whole_handed v.client.machine v.client.slots v.books.starts v.books.replies inv.client (inv.client.whole e);
      grows = only_grows w events fair;
      late = late_timers (run w events);
      gone = gone_tickets w events start fair;
      acts = acts_once (run w events);
      afresh = armed_afresh_lem (run w events);
      quiet = quiet (run w events) inv;
      stays = stays_armed (run w events);
      taken = cancels_taken (run w events) inv;
      sent = cancels_sent (run w events) inv;
      counted = cancels_counted (run w events) inv cancels;
      asked = heard_asked_for (run w events) cancels;
      heard = told_once (run w events) cancels;
      told = told_running (run w events);
      hears = hears_all (run w events) inv cancels;
      rules = record { client = inv.client.kept; server = inv.server.kept };
      numbered = numbered (run w events) inv;
    }

-- Beside the claim: an ack that the client has sent has the number of its start, and the client is done with that
-- start.
pub acks_told : (w : World) → Fresh w → (events : List Event) → Fair w events → (d : SentPdu) → In d (run w events).client.sent
    → Known IsAck (AckOf (run w events).client.machine (run w events).books.starts) d
acks_told w fresh events fair = (run_inv w events (fresh_inv w fresh) fair).acks

-- The same by call numbers, which today name starts for good: a number whose start is not idempotent is dispatched at
-- most once.
abbrev times_numbered : ℕ → List Dispatched → ℕ
times_numbered n = how_many (λ d. eqb n d.number)

same-times : (n : ℕ) (ds : List Dispatched) → ((d : Dispatched) → In d ds → d.number ≡ call_number d.ordinal) → times_numbered n ds ≡ times n ds
same-times n [] all = refl
same-times n (d ∷ ds) all = rw (all d (inl refl), same-times n ds (λ e m. all e (inr m)))

pub numbers_once : (w : World) → Fresh w → (events : List Event) → Fair w events → (s : Started) → In s (run w events).books.starts
    → s.call.idempotent ≡ false → times_numbered s.number (run w events).books.dispatches ≤ 1
unfolding AtMostOnce
numbers_once w fresh events fair s m mark =
    let claim = theorem w fresh events fair in
    rw (same-times s.number (run w events).books.dispatches claim.numbered.dispatches, claim.numbered.starts s m)
    (claim.once s m mark)
