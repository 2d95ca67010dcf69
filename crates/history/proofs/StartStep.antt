-- A start keeps what is known of the world.
use Prim.Native.Nat.{ℕ, ◌+◌, ◌≤◌, ◌<◌}
use mathlib.Core.Bool.{Bool, true, false, false≢true}
use mathlib.Core.List.{List}
use mathlib.Core.Logic.{◌⊎◌, inl, inr}
use mathlib.Core.Path.{◌≡◌, refl, sym, ap, subst, ◌∙◌}
use native.Mathlib.Omega.{arith}
use lib.ListN.{length, length-append}
use Rattle.words.specs.Choice.{choose}
use Rattle.answers.specs.Answer.{Done}
use Rattle.calls.specs.declared.Call.{Call}
use Rattle.outgoing.specs.Sending.{started_message, message_of}
use Rattle.pdu.specs.declared.Header.{Header}
use Rattle.client.specs.declared.records.Client.{Client}
use Rattle.client.specs.records.States.{is_queued, is_active}
use Rattle.client.specs.judge.Verdict.{StartVerdict, Go}
use Rattle.client.specs.judge.Rows.{next_number}
use Rattle.client.specs.step.Steps.{started}
use Rattle.client.proofs.StepLaws.{next_number_lem, started-sound}
use Rattle.client.specs.Machine.{start_by, starting}
use Rattle.client.proofs.Judging.{CanStart, start_taken}
use Rattle.client.proofs.Accepting.{start_accepted}
use Rattle.history.specs.Lists.{In, and_then}
use Rattle.history.specs.World.{call_number, Started, Dispatched, Replied, World}
use Rattle.history.specs.Steps.{last_start, sent_after, completions_after}
use Rattle.history.specs.Fairness.{FairStart}
use Rattle.history.specs.Dispatches.{times}
use Rattle.history.proofs.ListLaws.{within_grown, in_added, in_grown, all_grown, last_added, times_none}
use Rattle.history.proofs.Holding.{cleared-empty}
use Rattle.history.proofs.Network.{Request, more_known}
use Rattle.history.proofs.More.{request_more, whole_more, more_starts}
use Rattle.history.proofs.Types.{IsRequest, IsAck}
use Rattle.history.proofs.Invariant.{nothing, ClientInv, ServerInv, CallInv, Ended, AckOf, Inv, start_step}

-- The number of a new start is that of its ordinal.
module _ (c : Client) (slots : List ℕ) (starts : List Started) (replies : List Replied) (inv : ClientInv c slots starts replies)
    (below : (s : Started) → In s starts → s.ordinal < length starts) (n : ℕ) (can : CanStart c n (next_number (is_queued c.state) c.number)) where
  -- The client's number is a u32 that is not used up, where it has one.
  next_is : is_queued c.state ≡ false → next_number false c.number ≡ c.number + 1
  unfolding choose
  next_is e = next_number_lem false c.number (inv.current e).small (λ q. can.numbered e)

  next_small : next_number (is_queued c.state) c.number < 4294967296
  unfolding next_number choose
  next_small = by_state (is_queued c.state)
    where
      by_state : (t : Bool) → next_number t c.number < 4294967296
      by_state true = unfold next_number choose in omega arith
      by_state false = unfold next_number choose in omega arith

  next_call_number : next_number (is_queued c.state) c.number ≡ call_number (length starts)
  next_call_number = by_state (is_queued c.state) refl
    where
      by_state : (t : Bool) → is_queued c.state ≡ t → next_number t c.number ≡ call_number (length starts)
      by_state true e = unfold next_number choose in sym (ap length (inv.unbegun e))
      by_state false e =
          let now = inv.current e in
          let number = now.number in
          let some = below now.start now.started in
          let next = next_is e in
          omega arith

-- A start that goes on the books.
module _ (w : World) (inv : Inv w) (call : Call) (n : ℕ) (message : List ℕ)
    (can : CanStart w.client.machine n (next_number (is_queued w.client.machine.state) w.client.machine.number)) (fair : FairStart call n message) where
  abbrev number : ℕ
  number = next_number (is_queued w.client.machine.state) w.client.machine.number

  abbrev start : Started
  start = record { ordinal = length w.books.starts; number = number; call = call; message = message }

  abbrev starts : List Started
  starts = and_then w.books.starts start

  above : (s : Started) → In s w.books.starts → s.ordinal < length w.books.starts
  above = inv.calls.below

  more : length starts ≡ length w.books.starts + 1
  more = rw length-append refl

  last : length w.books.starts ≡ last_start starts
  last = let one = more in omega arith

  numbered : number ≡ call_number (length w.books.starts)
  numbered = next_call_number w.client.machine w.client.slots w.books.starts w.books.replies inv.client above n can

  -- The client has the new call and holds nothing,
  client-started : ClientInv (started w.client.machine number call n) w.client.slots starts w.books.replies
  unfolding started is_queued started_message message_of
  client-started = record {
    kept = started-sound w.client.machine number call n can.short;
    activity = inv.client.activity;
    unbegun = λ e. absurd (false≢true e);
    current =
        λ e.
        record {
          start = start;
          started = in_added w.books.starts start;
          is = last;
          number = numbered ∙ ap call_number last;
          call = refl;
          message = λ m. last_added (λ (s : Started). m ≡ s.message) w.books.starts start;
          size = fair.whole;
          typed = fair.typed;
          small = next_small w.client.machine w.client.slots w.books.starts w.books.replies inv.client above n can;
        };
    unasked = λ e. absurd (false≢true e);
    whole = λ e. absurd (false≢true e);
    holds = λ e. nothing cleared-empty;
  }

  -- no start has that ordinal, and no dispatch;
  undispatched : (d : Dispatched) → In d w.books.dispatches → d.ordinal ≡ length w.books.starts → ⊥
  undispatched d m e =
      let from = inv.calls.whole d m in
      let below = above from.start from.started in
      let same = from.ordinal in
      omega arith

  -- the server's call is still one that was started,
  server-started : ServerInv w.server.machine w.books.standing w.server.slots starts w.books.dispatches w.books.replies
  server-started =
      more_starts w.books.starts starts (within_grown w.books.starts start) w.server.machine w.books.standing w.server.slots
      w.books.dispatches w.books.replies
      (λ k new.
      let before = inv.server.takes k new in
      record {
        first =
            all_grown (λ (t : Started). t.ordinal ≡ k → t.call.idempotent ≡ false → (d : Dispatched) → In d w.books.dispatches → d.ordinal ≡ k → ⊥)
            w.books.starts start before.first (λ e i d m n. undispatched d m (n ∙ sym e));
        single = before.single;
      })
      inv.server

  unique : (s t : Started) → In s starts → In t starts → s.ordinal ≡ t.ordinal → s ≡ t
  unique s t m k e = by_places (in_grown w.books.starts s start m) (in_grown w.books.starts t start k)
    where
      by_places : In s w.books.starts ⊎ (s ≡ start) → In t w.books.starts ⊎ (t ≡ start) → s ≡ t
      by_places (inl p) (inl q) = inv.calls.unique s t p q e
      by_places (inl p) (inr q) =
          let below = above s p in
          let same : t.ordinal ≡ length w.books.starts = ap (λ (x : Started). x.ordinal) q in
          absurd (omega arith)
      by_places (inr p) (inl q) =
          let below = above t q in
          let same : s.ordinal ≡ length w.books.starts = ap (λ (x : Started). x.ordinal) p in
          absurd (omega arith)
      by_places (inr p) (inr q) = p ∙ sym q

  calls_started : CallInv starts w.books.dispatches w.books.replies
  calls_started = record {
    unique = unique;
    below =
        all_grown (λ (s : Started). s.ordinal < length starts) w.books.starts start (λ s m. omega (arith, above s m, more)) (omega (arith, more));
    numbered = all_grown (λ (s : Started). s.number ≡ call_number s.ordinal) w.books.starts start inv.calls.numbered numbered;
    once =
        all_grown (λ (s : Started). s.call.idempotent ≡ false → times s.ordinal w.books.dispatches ≤ 1) w.books.starts start inv.calls.once
        (λ e. let none = times_none w.books.dispatches (length w.books.starts) undispatched in omega arith);
    whole = λ d m. whole_more w.books.starts starts (within_grown w.books.starts start) d (inv.calls.whole d m);
    called = inv.calls.called;
    replied = inv.calls.replied;
    alike = inv.calls.alike;
  }

  -- and what was sent is known with one start more.
  -- Acks are of starts that the client is done with, now as before.
  ended_next : (k : ℕ) → Ended w.client.machine w.books.starts k → Ended (started w.client.machine number call n) starts k
  unfolding started is_queued
  ended_next k (begun, place) =
      let now = inv.client.current begun in
      let some = above now.start now.started in
      (refl, inl (by_place place))
    where
      by_place : (k < last_start w.books.starts) ⊎ ((k ≡ last_start w.books.starts) × (is_active w.client.machine.state ≡ false)) → k < last_start starts
      by_place (inl below) = omega (arith, last)
      by_place (inr own) = let now = inv.client.current begun in omega (arith, last, own.0, above now.start now.started)

  acks_started : (o : ℕ) (h : Header) (body : List ℕ) → AckOf w.client.machine w.books.starts o h body
      → AckOf (started w.client.machine number call n) starts o h body
  acks_started o h body a = record { number = a.number; ended = ended_next o a.ended }

  start_inv : Inv (start_step w (start_by (Go number) w.client.machine call n) call message)
  unfolding start_by choose started sent_after completions_after
  start_inv = record {
    client = client-started;
    server = server-started;
    calls = calls_started;
    requests =
        λ d m.
        more_known IsRequest (Request w.books.starts) (Request starts)
        (request_more w.books.starts starts (within_grown w.books.starts start)) d (inv.requests d m);
    asked = inv.asked;
    acks =
        λ d m.
        more_known IsAck (AckOf w.client.machine w.books.starts) (AckOf (started w.client.machine number call n) starts) acks_started d (inv.acks d m);
    responses = inv.responses;
    completed = inv.completed;
  }

-- A start that is answered 0 keeps what is known of the world.
pub started_inv : (w : World) (call : Call) (n : ℕ) (message : List ℕ) → Inv w → (starting w.client.machine call n).answer ≡ Done → FairStart call n message
    → Inv (start_step w (starting w.client.machine call n) call message)
unfolding starting
started_inv w call n message inv done fair =
    let c = w.client.machine in
    let taken = start_accepted c call n done in
    let can = start_taken c n taken.number taken.is in
    let number = next_number (is_queued c.state) c.number in
    subst (λ (v : StartVerdict). Inv (start_step w (start_by v c call n) call message)) (sym (taken.is ∙ ap Go can.is))
    (start_inv w inv call n message (subst (CanStart c n) can.is can) fair)
