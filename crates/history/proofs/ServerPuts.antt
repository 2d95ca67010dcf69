-- A request that the server puts keeps what is known of the world: only fragments of its call, dispatched whole.
use Prim.Native.Nat.{ℕ, ◌≤◌}
use mathlib.Core.Bool.{Bool, true, false, false≢true}
use mathlib.Core.List.{List, []}
use mathlib.Core.Logic.{◌⊎◌, inl, inr}
use mathlib.Core.Path.{◌≡◌, refl, sym, ap, subst, ◌∙◌}
use native.Mathlib.Omega.{arith}
use lib.Dec.{eqb}
use lib.ListN.{length}
use borrow.Author.Tests.{eqb-true, eqb-false}
use Rattle.words.specs.Choice.{choose, both}
use Rattle.words.specs.Sizes.{pdu_size}
use Rattle.calls.specs.declared.Call.{Call}
use Rattle.flags.specs.Flags.{idempotent, has_flag}
use Rattle.fragments.specs.Slots.{filled}
use Rattle.fragments.specs.Joined.{parts}
use Rattle.fragments.proofs.PutLaws.{CanPut, stored-sound}
use Rattle.fragments.proofs.PartLaws.{parts_joined}
use Rattle.incoming.specs.declared.Incoming.{Incoming}
use Rattle.incoming.specs.Slots.{contiguous, complete, cleared, stored, sound as incoming_sound}
use Rattle.incoming.proofs.SlotLaws.{cleared-sound}
use Rattle.outgoing.specs.Sending.{no_message, bounded, has_nothing}
use Rattle.pdu.specs.declared.Header.{Header}
use Rattle.timers.proofs.TimerLaws.{off-sound}
use Rattle.fragments.specs.Fragment.{is_last, wants_fack}
use Rattle.fragments.specs.Put.{put_of}
use Rattle.fragments.proofs.FlagLaws.{body-length}
use Rattle.server.specs.declared.records.Idle.TheVariants.{Repeatable}
use Rattle.server.specs.declared.records.State.TheVariants.{Idle as IdleState, Collect}
use Rattle.server.specs.declared.records.Server.{Server}
use Rattle.server.specs.records.States.{is_fresh, is_running, is_held}
use Rattle.server.specs.records.Rules.{sound, outgoing_sound, message_rule}
use Rattle.server.specs.records.Record.{unarmed, with_incoming}
use Rattle.server.proofs.RuleLaws.{rules_told, rules_hold}
use Rattle.server.specs.judge.Rows.{request_put}
use Rattle.server.specs.step.Steps.{call_of, begun, put_state, put_notice, fack_for, put_plan}
use Rattle.server.proofs.StepLaws.{put-sound}
use Rattle.server.specs.HandUp.{hands_up}
use Rattle.server.specs.Machine.{done, sending}
use Rattle.server.specs.declared.step.Send.{Send}
use Rattle.history.specs.Lists.{In, and_then}
use Rattle.history.specs.World.{call_number, Started, Dispatched, Replied, World}
use Rattle.history.specs.Steps.{dispatches_after, Subject, dispatch_entry}
use Rattle.history.specs.Dispatches.{times}
use Rattle.history.proofs.ListLaws.{within_grown, added_last, in_added, all_grown, last-dispatched, times-same, times_other, times_none}
use Rattle.history.proofs.Holding.{Buffer, Short, cleared-empty, PartOf, Holding, Single, empty-holding, put-holding, holding_whole}
use Rattle.history.proofs.Network.{Request, Response, Known}
use Rattle.history.proofs.More.{more_dispatches, called_on}
use Rattle.history.proofs.Types.{IsResponse}
use Rattle.history.proofs.Invariant.{entry_of, DispatchedStart, Collecting, unanswered, NewTo, new_on, ServerInv, CallInv, Inv, server_step}
use Rattle.history.proofs.ServerSends.{answers, of_call, pdu_uuids, sends_known, others_known}

-- A record that has begun keeps its rules.
begun-sound : (s : Server) (h : Header) → sound (begun s h) ≡ true
unfolding begun outgoing_sound message_rule bounded has_nothing no_message both choose is_held
begun-sound s h = rules_hold (begun s h) (record { count = refl; outgoing = refl; incoming = cleared-sound; timer = off-sound false s.tickets })

-- How a request comes to begin: it is newer, or equal with the bit set in IDLE repeatable.
abbrev pub Begins : Server → ℕ → ℕ → Header → Type 0
Begins s standing o h =
    NewTo s standing o
    ⊎ ((standing ≡ o) × ((s.state ≡ IdleState Repeatable) × (has_flag idempotent h.flags1 ≡ true)))

-- A request that begins.
module _ (s : Server) (standing : ℕ) (slots : List ℕ) (starts : List Started) (dispatches : List Dispatched) (replies : List Replied)
    (inv : ServerInv s standing slots starts dispatches replies) (buffer : Buffer slots) (o : ℕ) (h : Header) (body : List ℕ)
    (request : Request starts o h body) where
  -- What is newer to the record that has begun was newer before.
  newer_on : Begins s standing o h → (k : ℕ) → NewTo (begun s h) o k → NewTo s standing k
  unfolding begun is_fresh
  newer_on begins k (inl fresh) = absurd (false≢true fresh)
  newer_on (inl (inl fresh)) k (inr above) = inl fresh
  newer_on (inl (inr newer)) k (inr above) = inr (omega arith)
  newer_on (inr equal) k (inr above) = inr (rw equal.0 above)

  -- A call not marked idempotent was not dispatched before it begins,
  first_time : Begins s standing o h → has_flag idempotent h.flags1 ≡ false → (d : Dispatched) → In d dispatches → d.ordinal ≡ o → ⊥
  unfolding call_of
  first_time (inl newer) e d m n = (inv.takes o newer).first request.start request.started request.is (sym (ap (λ (x : Call). x.idempotent) request.call) ∙ e) d m n
  first_time (inr equal) e d m n = false≢true (sym e ∙ equal.1.1)

  -- and every reply to one that begins again was a single fragment.
  all_single : Begins s standing o h → (r : Replied) → In r replies → r.ordinal ≡ o → Single r.message
  all_single (inl newer) r m n = (inv.takes o newer).single r m n
  all_single (inr equal) r m n = inv.single (ap unanswered equal.1.0) r m (n ∙ sym equal.0)

  pub begun_inv : Begins s standing o h → ServerInv (begun s h) o slots starts dispatches replies
  unfolding begun call_of is_fresh is_running
  begun_inv begins = record {
    kept = begun-sound s h;
    activity = inv.activity;
    boot = inv.boot;
    takes = λ k new. inv.takes k (newer_on begins k new);
    called =
        λ e.
        record {
          start = request.start;
          started = request.started;
          is = request.is;
          number = request.number;
          call = sym request.call;
          typed =
              record {
                object = request.sized.object;
                interface = request.sized.interface;
                version = request.version;
                operation = request.operation;
              };
          small = request.small;
        };
    collecting =
        λ e.
        record {
          start = request.start;
          started = request.started;
          is = request.is;
          holding = empty-holding cleared slots request.start.message buffer cleared-empty;
          first = first_time begins;
        };
    running = λ e. absurd (false≢true (ap is_running e));
    single = λ e. all_single begins;
    replying = λ e. absurd (false≢true e);
  }

-- A request of the call is put in COLLECT.
module _ (s : Server) (o : ℕ) (slots : List ℕ) (starts : List Started) (dispatches : List Dispatched) (replies : List Replied)
    (inv : ServerInv s o slots starts dispatches replies) (calls : CallInv starts dispatches replies) (state : s.state ≡ Collect)
    (h : Header) (body : List ℕ) (request : Request starts o h body)
    (short : Short body) (can : CanPut s.incoming h.fragment (is_last h.flags1)) where
  collecting : Collecting s o slots starts dispatches
  collecting = inv.collecting state

  -- It is a fragment of the message that is collected,
  same_start : request.start ≡ collecting.start
  same_start = calls.unique request.start collecting.start request.started collecting.started (request.is ∙ sym collecting.is)

  abbrev after : Incoming
  after = stored s.incoming h.fragment (length body) (is_last h.flags1)

  after-sound : incoming_sound after ≡ true
  after-sound =
      stored-sound s.incoming h.fragment (length body) (is_last h.flags1)
      (rules_told s inv.kept).incoming short can

  -- so what is held then is of that message,
  after_holds : Holding after (filled h.fragment body slots) collecting.start.message
  after_holds =
      put-holding s.incoming slots collecting.start.message h.flags1 h.fragment body collecting.holding (rules_told s inv.kept).incoming
      (subst (λ (x : Started). PartOf x.message h.flags1 h.fragment body) same_start request.part) can

  -- and where all to the last is held it is handed up whole.
  handed_whole : (t : Server) → sound t ≡ true → t.incoming ≡ after → complete after ≡ true
      → hands_up t (filled h.fragment body slots) ≡ collecting.start.message
  unfolding hands_up
  handed_whole t kept same all =
      ap (λ (m : Incoming). parts (sound t) m (filled h.fragment body slots)) same
      ∙ parts_joined (sound t) after (filled h.fragment body slots) kept
      ∙ holding_whole after (filled h.fragment body slots) collecting.start.message after_holds after-sound all

  -- The record after the put, by whether all is held.
  abbrev put_server : Bool → Server
  put_server all = with_incoming (unarmed s (put_state all)) after

  -- Not all is held: it goes on collecting.
  collects : sound (put_server false) ≡ true → ServerInv (put_server false) o (filled h.fragment body slots) starts dispatches replies
  unfolding with_incoming unarmed put_state choose is_fresh is_running
  collects kept =
      let called : is_fresh s.state ≡ false = ap is_fresh state in
      let k = inv.called called in
      record {
        kept = kept;
        activity = inv.activity;
        boot = inv.boot;
        takes = λ n new. inv.takes n (new_on s (put_server false) o refl n new);
        called = λ e. called_on s (put_server false) o starts refl refl k;
        collecting =
            λ e.
            record {
              start = collecting.start;
              started = collecting.started;
              is = collecting.is;
              holding = after_holds;
              first = collecting.first;
            };
        running = λ e. absurd (false≢true (ap is_running e));
        single = λ e. inv.single (ap unanswered state);
        replying = λ e. absurd (false≢true e);
      }

  -- All is held: it is dispatched.
  abbrev dispatch : List ℕ → Dispatched
  dispatch bytes = record { ordinal = o; number = h.number; call = s.call; bytes = bytes }

  -- It is what the record and the slot buffer give then.
  entry_is : dispatch (hands_up (put_server true) (filled h.fragment body slots)) ≡ entry_of (put_server true) o (filled h.fragment body slots)
  unfolding with_incoming unarmed put_state choose is_fresh
  entry_is = λ i. record {
    ordinal = o;
    number = (request.number ∙ sym (inv.called (ap is_fresh state)).number) i;
    call = s.call;
    bytes = hands_up (put_server true) (filled h.fragment body slots);
  }

  -- What is newer to it is another start.
  above_other : (n : ℕ) → NewTo (put_server true) o n → o ≡ n → ⊥
  unfolding with_incoming unarmed put_state choose is_fresh
  above_other n (inl fresh) e = false≢true fresh
  above_other n (inr above) e = omega arith

  runs : (bytes : List ℕ) → bytes ≡ hands_up (put_server true) (filled h.fragment body slots) → sound (put_server true) ≡ true
      → ServerInv (put_server true) o (filled h.fragment body slots) starts (and_then dispatches (dispatch bytes)) replies
  unfolding with_incoming unarmed put_state choose is_fresh is_running
  runs bytes handed kept =
      let called : is_fresh s.state ≡ false = ap is_fresh state in
      let k = inv.called called in
      record {
        kept = kept;
        activity = inv.activity;
        boot = inv.boot;
        takes =
            λ n new.
            let old = inv.takes n (new_on s (put_server true) o refl n new) in
            record {
              first =
                  λ t m e i.
                  all_grown (λ (d : Dispatched). d.ordinal ≡ n → ⊥) dispatches (dispatch bytes) (old.first t m e i) (above_other n new);
              single = old.single;
            };
        called = λ e. called_on s (put_server true) o starts refl refl k;
        collecting = λ e. absurd (false≢true (sym (ap is_running e)));
        running =
            λ e.
            record {
              last = last-dispatched dispatches (dispatch bytes);
              ran = record { dispatch = dispatch bytes; dispatched = in_added dispatches (dispatch bytes); same = refl };
              entry =
                  added_last (λ (d : Dispatched). d ≡ entry_of (put_server true) o (filled h.fragment body slots)) dispatches (dispatch bytes)
                  (ap dispatch handed ∙ entry_is);
            };
        single = λ e. inv.single (ap unanswered state);
        replying = λ e. absurd (false≢true e);
      }

  -- The record's call data is that of its start,
  call_is : (t : Started) → In t starts → t.ordinal ≡ o → t.call ≡ s.call
  unfolding is_fresh
  call_is t m e =
      let k = inv.called (ap is_fresh state) in
      ap (λ (x : Started). x.call) (calls.unique t k.start m k.started (e ∙ sym k.is)) ∙ k.call

  -- so a start not marked idempotent is dispatched once,
  dispatched_once : (bytes : List ℕ) (t : Started) → In t starts → t.call.idempotent ≡ false → times t.ordinal (and_then dispatches (dispatch bytes)) ≤ 1
  dispatched_once bytes t m mark = by_ordinal (eqb t.ordinal o) refl
    where
      by_ordinal : (x : Bool) → eqb t.ordinal o ≡ x → times t.ordinal (and_then dispatches (dispatch bytes)) ≤ 1
      by_ordinal true e =
          let same : t.ordinal ≡ o = eqb-true t.ordinal o e in
          let none : times t.ordinal dispatches ≡ 0 =
          times_none dispatches t.ordinal
          (λ d k n. collecting.first (sym (ap (λ (x : Call). x.idempotent) (call_is t m same)) ∙ mark) d k (n ∙ same)) in
          let one = times-same dispatches (dispatch bytes) t.ordinal same in
          omega arith
      by_ordinal false e =
          let other = times_other dispatches (dispatch bytes) t.ordinal (eqb-false t.ordinal o e) in
          rw other (calls.once t m mark)

  -- and the calls on the books stay as they are known.
  calls_dispatched : (bytes : List ℕ) → bytes ≡ collecting.start.message → CallInv starts (and_then dispatches (dispatch bytes)) replies
  calls_dispatched bytes all = record {
    unique = calls.unique;
    below = calls.below;
    numbered = calls.numbered;
    once = dispatched_once bytes;
    whole =
        all_grown (DispatchedStart starts) dispatches (dispatch bytes) calls.whole
        (record {
          start = collecting.start;
          started = collecting.started;
          ordinal = collecting.is;
          call = sym (call_is collecting.start collecting.started collecting.is);
          whole = all;
        });
    called = all_grown (λ (d : Dispatched). d.number ≡ call_number d.ordinal) dispatches (dispatch bytes) calls.called request.number;
    replied =
        λ r m.
        more_dispatches dispatches (and_then dispatches (dispatch bytes)) (within_grown dispatches (dispatch bytes)) r.ordinal (calls.replied r m);
    alike = calls.alike;
  }

  -- Both ways the server and the calls are as they are known.
  put_known : (all : Bool) → complete after ≡ all → sound (put_server all) ≡ true
      → ServerInv (put_server all) o (filled h.fragment body slots) starts
      (dispatches_after dispatches (put_notice all) (dispatch (hands_up (put_server all) (filled h.fragment body slots)))) replies
      × CallInv starts (dispatches_after dispatches (put_notice all) (dispatch (hands_up (put_server all) (filled h.fragment body slots)))) replies
  unfolding put_notice dispatches_after choose with_incoming
  put_known true e kept =
      let bytes = hands_up (put_server true) (filled h.fragment body slots) in
      (runs bytes refl kept, calls_dispatched bytes (handed_whole (put_server true) kept refl e))
  put_known false e kept = (collects kept, calls)

-- A fack is no response, and does not speak of the record's call.
fack_sends : (wanted : Bool) (serial count : ℕ) → (answers (fack_for wanted serial count) ≡ false) × (of_call (fack_for wanted serial count) ≡ false)
unfolding fack_for choose
fack_sends true serial count = (refl, refl)
fack_sends false serial count = (refl, refl)

-- A request that is taken is of its start, and the record then stands there.
abbrev pub of_request : ℕ → Header → ℕ → Subject
of_request o h cancel = record { ordinal = o; number = h.number; cancel = cancel; standing = o }

-- A world whose server put a request.
pub put_inv : (w : World) → Inv w → (s : Server) (o : ℕ) → ServerInv s o w.server.slots w.books.starts w.books.dispatches w.books.replies → s.state ≡ Collect
    → (h : Header) (body : List ℕ) → Request w.books.starts o h body → Short body
    → CanPut s.incoming h.fragment (is_last h.flags1)
    → (out : List ℕ) → length out ≡ pdu_size → (cancel : ℕ)
    → Inv
    (server_step w (sending (put_plan s (request_put s.incoming h body)) h [] out).outcome
    (sending (put_plan s (request_put s.incoming h body)) h [] out).out
    (filled h.fragment body w.server.slots) (of_request o h cancel))
unfolding request_put put_of put_plan sending done with_incoming unarmed
put_inv w inv s o server state h body request short can out room cancel =
    subst
    (λ (n : ℕ).
    Inv
    (server_step w (sending (put_plan s (put_of s.incoming h.flags1 h.serial h.fragment n)) h [] out).outcome
    (sending (put_plan s (put_of s.incoming h.flags1 h.serial h.fragment n)) h [] out).out
    (filled h.fragment body w.server.slots) (of_request o h cancel)))
    (sym (body-length body short))
    (record {
      client = inv.client;
      server = known.0;
      calls = known.1;
      requests = inv.requests;
      acks = inv.acks;
      asked = inv.asked;
      completed = inv.completed;
      responses =
          sends_known (Known IsResponse (Response w.books.replies)) send (put_server_of (complete m)) h [] out w.server.sent o
          (pdu_uuids send (put_server_of (complete m)) h known.0.activity request.sized
          (λ e. absurd (false≢true (sym (fack_sends (wants_fack h.flags1) h.serial (contiguous m)).1 ∙ e)))) (omega arith) room inv.responses
          (others_known (Response w.books.replies) o send (put_server_of (complete m)) h [] (fack_sends (wants_fack h.flags1) h.serial (contiguous m)).0);
    })
  where
    m : Incoming
    m = stored s.incoming h.fragment (length body) (is_last h.flags1)

    send : Send
    send = fack_for (wants_fack h.flags1) h.serial (contiguous m)

    put_server_of : Bool → Server
    put_server_of all = with_incoming (unarmed s (put_state all)) m

    kept : sound (put_server_of (complete m)) ≡ true
    kept =
        put-sound s server.kept (put_of s.incoming h.flags1 h.serial h.fragment (length body)) state
        (stored-sound s.incoming h.fragment (length body) (is_last h.flags1)
        (rules_told s server.kept).incoming short can)

    dispatches : List Dispatched
    dispatches =
        dispatches_after w.books.dispatches (put_notice (complete m))
        (dispatch_entry (of_request o h cancel) (put_server_of (complete m)) (filled h.fragment body w.server.slots))

    known : ServerInv (put_server_of (complete m)) o (filled h.fragment body w.server.slots) w.books.starts dispatches w.books.replies
        × CallInv w.books.starts dispatches w.books.replies
    known =
        put_known s o w.server.slots w.books.starts w.books.dispatches w.books.replies server inv.calls state h body request short can (complete m) refl kept
