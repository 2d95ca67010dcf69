-- Demand 3 holds of a host that calls exports only, in its own terms.
use Prim.Native.Nat.{ℕ}
use mathlib.Core.Bool.{true}
use mathlib.Core.List.{List, [], ◌∷◌, ◌++◌, append_assoc, append-nil}
use mathlib.Core.Logic.{inl, inr}
use mathlib.Core.Path.{◌≡◌, refl, sym, ap, subst, ◌∙◌}
use Rattle.words.specs.Choice.{choose}
use Rattle.timers.specs.Timer.{Armed}
use Rattle.fragments.specs.Joined.{Leads}
use Rattle.record_bytes.specs.Layout.{fields_in}
use Rattle.client_bytes.specs.Layout.{state_of, client_of, client_in}
use Rattle.history.specs.World.{World}
use Rattle.history.specs.Events.{Event}
use Rattle.history.specs.Steps.{run}
use Rattle.history.specs.Dispatches.{AtMostOnce, WholeMessages, WholeWhereRunning, RunsUndisturbed}
use Rattle.history.specs.Replies.{RepliesToDispatches, reply_handed_up, OneReply, WholeReplies, has_reply, WholeWhereAnswered, OnlyGrows}
use Rattle.history.specs.Timers.{timer_in, LateTimers, GoneTickets, ActsOnce, ArmedAfresh, Quiet}
use Rattle.history.specs.Numbers.{Numbered}
use Rattle.history.specs.Cancels.{StaysArmed, CancelsTaken as Taken, CancelsSent as Sent, CancelsCounted, HeardAskedFor, HeardOnce, Hears}
use Rattle.host_history.specs.Hosts.{HostWorld, world_of, HostCall, host_step, host_run}
use Rattle.host_history.specs.Meaning.{meant, events_of, AllFit, FairHost, Keeps, FreshHost}
use Rattle.host_history.specs.HostClaim.{HostClaim}
use Rattle.host_history.specs.HandedUp.{client_parts}
use Rattle.host_history.specs.HostReads.{HasReply, HostTimer, ArmedWith}
use Rattle.host_history.specs.HostDemand.{DispatchedOnce, DispatchesWhole, Numbers, RepliesDispatched, OneReplyRead, CompletionsWhole, AnsweredWhole, ReplyGrows, TicketsGone, HostDemand}
use Rattle.host_history.proofs.SameRun.{same-run, keeps_run}
use Rattle.host_history.proofs.FreshHosts.{fresh_keeps}
use Rattle.host_history.proofs.HostTheorem.{host_theorem, at_host}
use Rattle.host_history.proofs.Handing.{client-parts}
use Rattle.host_history.proofs.BooksGiven.{starts_given, cancels_given, replies_given}
use Rattle.host_history.proofs.BooksRead.{dispatches_read, completions_read}
use Rattle.host_history.proofs.TimersRead.{named, armed_told, armed_read, late_nothing, strange_nothing, acts_read, quiet_read}
use Rattle.host_history.proofs.WaitRead.{afresh_read}
use Rattle.host_history.proofs.RunsRead.{running-read, running_alone}
use Rattle.host_history.proofs.CancelsRead.{cancels_read, stays_read, taken_read, sent-read, counted-read, asked_read, once_read, hears_read}

-- The events of calls one behind the other, and the first of calls that fit.
events_append : (before after : List HostCall) → events_of (before ++ after) ≡ events_of before ++ events_of after
unfolding events_of
events_append [] after = refl
events_append (call ∷ calls) after =
    ap (λ (es : List Event). meant call ++ es) (events_append calls after)
    ∙ sym (append_assoc (meant call) (events_of calls) (events_of after))

fit_before : (before after : List HostCall) → AllFit (before ++ after) → AllFit before
fit_before [] after fit = tt
fit_before (call ∷ calls) after fit = (fit.0, fit_before calls after fit.1)

-- What a host reads of the client is what it hands up.
module _ (h : HostWorld) (keeps : Keeps h) where
  one_reply_read : OneReply (world_of h) → OneReplyRead h
  unfolding OneReply OneReplyRead
  one_reply_read (inl none) = inl (client-parts h keeps ∙ none)
  one_reply_read (inr known) =
      inr
      (record {
        reply = known.reply;
        given = known.given;
        last = known.ordinal;
        leads = subst (λ (l : List ℕ). Leads l known.reply.message) (sym (client-parts h keeps)) known.leads;
      })

  -- The state byte is that of ACK_PENDING or COMPLETE.
  state_answered : HasReply h.client
      → has_reply (world_of h).client.machine.state ≡ true
  unfolding client_in client_of fields_in state_of choose
  state_answered (inl four) = ap (λ (n : ℕ). has_reply (state_of n)) four
  state_answered (inr five) = ap (λ (n : ℕ). has_reply (state_of n)) five

  answered-read : WholeWhereAnswered (world_of h) → AnsweredWhole h
  unfolding WholeWhereAnswered AnsweredWhole
  answered-read answered state =
      let known = answered (state_answered state) in
      record {
        reply = known.reply;
        given = known.given;
        last = known.ordinal;
        whole = client-parts h keeps ∙ known.whole;
      }

module _ (h : HostWorld) (keeps : Keeps h) (calls : List HostCall) (small : AllFit calls) where
  -- The first of the calls: what the host keeps then is what their events make.
  module _ (before after : List HostCall) (is : calls ≡ before ++ after) where
    abbrev first_small : AllFit before
    first_small = fit_before before after (subst AllFit is small)

    first-same : world_of (host_run h before) ≡ run (world_of h) (events_of before)
    first-same = same-run h before keeps first_small

    first_keeps : Keeps (host_run h before)
    first_keeps = keeps_run h before keeps first_small

    first-parts : client_parts (host_run h before).client ≡ reply_handed_up (run (world_of h) (events_of before))
    first-parts = client-parts (host_run h before) first_keeps ∙ ap reply_handed_up first-same

    first_armed : (timer : HostTimer) (ticket : ℕ) → ArmedWith (host_run h before) timer ticket
        → timer_in (run (world_of h) (events_of before)) (named timer) ≡ Armed ticket
    first_armed timer ticket armed =
        subst (λ (w : World). timer_in w (named timer) ≡ Armed ticket) first-same
        (armed_told (host_run h before) timer ticket armed)

    first_read : (timer : HostTimer) (ticket : ℕ)
        → timer_in (run (world_of h) (events_of before)) (named timer) ≡ Armed ticket
        → ArmedWith (host_run h before) timer ticket
    first_read timer ticket armed =
        armed_read (host_run h before) timer ticket
        (subst (λ (w : World). timer_in w (named timer) ≡ Armed ticket) (sym first-same) armed)

  whole_list : calls ≡ calls ++ []
  whole_list = sym (append-nil calls)

  grows_read : OnlyGrows (world_of h) (events_of calls) → ReplyGrows h calls
  unfolding OnlyGrows ReplyGrows
  grows_read grows before after is starts =
      let now = first-same calls [] whole_list in
      let then = first-same before after is in
      let leads =
      grows (events_of before) (events_of after) (ap events_of is ∙ events_append before after)
      (sym (ap (λ (w : World). w.books.starts) now) ∙ starts ∙ ap (λ (w : World). w.books.starts) then) in
      subst (λ (l : List ℕ). Leads l (client_parts (host_run h calls).client)) (sym (first-parts before after is))
      (subst (λ (l : List ℕ). Leads (reply_handed_up (run (world_of h) (events_of before))) l)
      (sym (first-parts calls [] whole_list)) leads)

  gone_read : GoneTickets (world_of h) (events_of calls) → TicketsGone h calls
  unfolding GoneTickets TicketsGone
  gone_read gone before between after is timer ticket armed disarmed again =
      let split : calls ≡ (before ++ between) ++ after = is ∙ sym (append_assoc before between after) in
      let events : events_of calls ≡ events_of before ++ (events_of between ++ events_of after) =
      ap events_of is ∙ events_append before (between ++ after)
      ∙ ap (λ (es : List Event). events_of before ++ es) (events_append between after) in
      gone (events_of before) (events_of between) (events_of after) events (named timer) ticket
      (first_armed before (between ++ after) is timer ticket armed)
      (λ still.
      disarmed
      (first_read (before ++ between) after split timer ticket
      (subst (λ (es : List Event). timer_in (run (world_of h) es) (named timer) ≡ Armed ticket)
      (sym (events_append before between)) still)))
      (first_armed calls [] whole_list timer ticket again)

numbers-read : (h : HostWorld) → Numbered (world_of h) → Numbers h
numbers-read h known = record { starts = known.starts; dispatches = known.dispatches }

-- From what the theorem over histories claims of its calls,
pub host_demanded : (h : HostWorld) → Keeps h → (calls : List HostCall) → AllFit calls → HostClaim h calls
    → HostDemand h calls
unfolding AtMostOnce DispatchedOnce WholeMessages DispatchesWhole RepliesToDispatches RepliesDispatched
    WholeReplies CompletionsWhole
host_demanded h keeps calls small holds =
    let now = host_run h calls in
    let kept = holds.kept in
    let claim = holds.claim in
    let whole : DispatchesWhole now = at_host h calls holds WholeMessages claim.whole in
    record {
      once = at_host h calls holds AtMostOnce claim.once;
      starts = starts_given now;
      cancels = cancels_given now;
      replies = replies_given now;
      dispatches = dispatches_read now kept;
      completions = completions_read now kept;
      told = cancels_read now kept;
      whole = whole;
      numbers = numbers-read now (at_host h calls holds Numbered claim.numbered);
      running = running-read now kept (at_host h calls holds WholeWhereRunning claim.running) whole;
      alone = running_alone now kept (at_host h calls holds RunsUndisturbed claim.undisturbed);
      replied = at_host h calls holds RepliesToDispatches claim.replied;
      reply = one_reply_read now kept (at_host h calls holds OneReply claim.reply);
      complete = at_host h calls holds WholeReplies claim.complete;
      answered = answered-read now kept (at_host h calls holds WholeWhereAnswered claim.answered);
      grows = grows_read h keeps calls small claim.grows;
      late = late_nothing now kept (at_host h calls holds LateTimers claim.late);
      strange = strange_nothing now kept;
      gone = gone_read h keeps calls small claim.gone;
      acts = acts_read now kept (at_host h calls holds ActsOnce claim.acts);
      afresh = afresh_read now kept (at_host h calls holds ArmedAfresh claim.afresh);
      quiet = quiet_read now kept (at_host h calls holds Quiet claim.quiet);
      stays = stays_read now kept (at_host h calls holds StaysArmed claim.stays);
      taken = taken_read now kept (at_host h calls holds Taken claim.taken);
      sent = sent-read now kept (at_host h calls holds Sent claim.sent);
      counted = counted-read now kept (at_host h calls holds CancelsCounted claim.counted);
      asked = asked_read now (at_host h calls holds HeardAskedFor claim.asked);
      heard = once_read now (at_host h calls holds HeardOnce claim.heard);
      hears = hears_read now kept (at_host h calls holds Hears claim.hears);
    }

-- so of every host that begins fresh, whose arguments are what C's types allow, and that keeps document 01's premises
-- at every call that it is answered 0 for.
pub host_demand : (h : HostWorld) → FreshHost h → (calls : List HostCall) → AllFit calls → FairHost h calls
    → HostDemand h calls
host_demand h fresh calls small fair =
    host_demanded h (fresh_keeps h fresh) calls small (host_theorem h fresh calls small fair)

-- It holds at every moment on the way.
fair_before : (h : HostWorld) (before after : List HostCall) → FairHost h (before ++ after) → FairHost h before
fair_before h [] after fair = tt
fair_before h (call ∷ calls) after fair = (fair.0, fair_before (host_step h call) calls after fair.1)

pub always_demanded : (h : HostWorld) → FreshHost h → (before after : List HostCall) → AllFit (before ++ after)
    → FairHost h (before ++ after) → HostDemand h before
always_demanded h fresh before after small fair =
    host_demand h fresh before (fit_before before after small) (fair_before h before after fair)
