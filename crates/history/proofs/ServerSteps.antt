-- What is known of the server stays known at the rows that go on with its call.
use Prim.Native.Nat.{ℕ}
use mathlib.Core.Bool.{Bool, true, false, false≢true}
use mathlib.Core.List.{List}
use mathlib.Core.Path.{◌≡◌, refl, sym, ap, ◌∙◌}
use Rattle.outgoing.specs.Sending.{rewound}
use Rattle.server.specs.declared.records.Idle.TheVariants.{Fresh, Spent, Repeatable}
use Rattle.server.specs.declared.records.Reply.{Reply}
use Rattle.server.specs.declared.records.State.{State}
use Rattle.server.specs.declared.records.State.TheVariants.{Idle as IdleState, Collect, Running, Replying, Held}
use Rattle.server.specs.declared.records.Server.{Server}
use Rattle.server.specs.records.States.{never_called, is_fresh}
use Rattle.server.specs.records.Rules.{sound}
use Rattle.server.specs.records.Record.{holding, unarmed, with_outgoing, with_seen}
use Rattle.server.specs.step.Steps.{repeatable, rewinding}
use Rattle.server.specs.HandUp.{hands_up}
use Rattle.history.specs.Lists.{In}
use Rattle.history.specs.World.{Started, Dispatched, Replied}
use Rattle.history.proofs.Holding.{Single}
use Rattle.history.proofs.More.{called_on}
use Rattle.history.proofs.Invariant.{CurrentReply, unanswered, has_data, new_on, ServerInv}

-- The states that follow RUNNING.
abbrev pub past : State → Bool
past (IdleState Fresh) = false
past (IdleState Spent) = true
past (IdleState Repeatable) = true
past Collect = false
past Running = false
past Replying = true
past (Held reply) = true

pub past_called : (s : State) → past s ≡ true → is_fresh s ≡ false
unfolding is_fresh never_called
past_called (IdleState Fresh) e = absurd (false≢true e)
past_called (IdleState Spent) e = refl
past_called (IdleState Repeatable) e = refl
past_called Collect e = refl
past_called Running e = refl
past_called Replying e = refl
past_called (Held reply) e = refl

-- A server that goes on with its call past RUNNING: the call stays; one that could be answered again was answered
-- by single fragments, and one that replies with data has that reply.
pub record GoesOn (s t : Server) (standing : ℕ) (replies : List Replied) : Type 0 where
  pub activity : t.activity ≡ s.activity
  pub boot : t.boot ≡ s.boot
  pub number : t.number ≡ s.number
  pub call : t.call ≡ s.call
  pub incoming : t.incoming ≡ s.incoming
  pub size : t.outgoing.length ≡ s.outgoing.length
  pub after : past t.state ≡ true
  pub single : unanswered t.state ≡ true → (r : Replied) → In r replies → r.ordinal ≡ standing → Single r.message
  pub replying : has_data t.state ≡ true → CurrentReply s standing replies

-- What is known of it stays known.
pub goes_on : (s t : Server) (standing : ℕ) (slots : List ℕ) (starts : List Started) (dispatches : List Dispatched) (replies : List Replied)
    → ServerInv s standing slots starts dispatches replies → is_fresh s.state ≡ false → sound t ≡ true → GoesOn s t standing replies
    → ServerInv t standing slots starts dispatches replies
goes_on s t standing slots starts dispatches replies inv called kept g =
    let later = past_called t.state g.after in
    let k = inv.called called in
    record {
      kept = kept;
      activity = rw g.activity inv.activity;
      boot = rw g.boot inv.boot;
      takes = λ n new. inv.takes n (new_on s t standing later n new);
      called = λ e. called_on s t standing starts g.number g.call k;
      collecting = λ e. absurd (false≢true (sym (ap past e) ∙ g.after));
      running = λ e. absurd (false≢true (sym (ap past e) ∙ g.after));
      single = λ e r m n. g.single e r m n;
      replying =
          λ e.
          let c = g.replying e in
          record {
            reply = c.reply;
            given = c.given;
            is = c.is;
            message = c.message;
            size = rw g.size c.size;
            others = λ r m n. c.others r m n;
          };
    }

-- The ways in which a row goes on with a call: to IDLE repeatable where every reply is single,
pub repeatable_goes_on : (s t : Server) (standing : ℕ) (replies : List Replied) → t.activity ≡ s.activity → t.boot ≡ s.boot
    → t.number ≡ s.number → t.call ≡ s.call → t.incoming ≡ s.incoming → t.outgoing.length ≡ s.outgoing.length
    → ((r : Replied) → In r replies → r.ordinal ≡ standing → Single r.message) → GoesOn s (repeatable t) standing replies
unfolding repeatable unarmed
repeatable_goes_on s t standing replies a b n c i z single = record {
  activity = a;
  boot = b;
  number = n;
  call = c;
  incoming = i;
  size = z;
  after = refl;
  single = λ e. single;
  replying = λ e. absurd (false≢true e);
}

-- to HELD,
pub holding_goes_on : (s t : Server) (reply : Reply) (standing : ℕ) (replies : List Replied) → t.activity ≡ s.activity → t.boot ≡ s.boot
    → t.number ≡ s.number → t.call ≡ s.call → t.incoming ≡ s.incoming → t.outgoing.length ≡ s.outgoing.length
    → (has_data (Held reply) ≡ true → CurrentReply s standing replies) → GoesOn s (holding t reply) standing replies
unfolding holding
holding_goes_on s t reply standing replies a b n c i z has = record {
  activity = a;
  boot = b;
  number = n;
  call = c;
  incoming = i;
  size = z;
  after = refl;
  single = λ e. absurd (false≢true e);
  replying = has;
}

-- replaying data,
pub rewinding_goes_on : (s t : Server) (standing : ℕ) (replies : List Replied) → t.activity ≡ s.activity → t.boot ≡ s.boot → t.number ≡ s.number
    → t.call ≡ s.call → t.incoming ≡ s.incoming → t.outgoing.length ≡ s.outgoing.length → CurrentReply s standing replies
    → GoesOn s (rewinding t) standing replies
unfolding rewinding unarmed with_outgoing rewound
rewinding_goes_on s t standing replies a b n c i z now = record {
  activity = a;
  boot = b;
  number = n;
  call = c;
  incoming = i;
  size = z;
  after = refl;
  single = λ e. absurd (false≢true e);
  replying = λ e. now;
}

-- a call that is spent,
pub spent_goes_on : (s : Server) (standing : ℕ) (replies : List Replied) → GoesOn s (unarmed s (IdleState Spent)) standing replies
unfolding unarmed
spent_goes_on s standing replies = record {
  activity = refl;
  boot = refl;
  number = refl;
  call = refl;
  incoming = refl;
  size = refl;
  after = refl;
  single = λ e. absurd (false≢true e);
  replying = λ e. absurd (false≢true e);
}

-- and a record that stays, past RUNNING.
pub stays_goes_on : (s t : Server) (standing : ℕ) (replies : List Replied) → t.activity ≡ s.activity → t.boot ≡ s.boot → t.number ≡ s.number → t.call ≡ s.call
    → t.incoming ≡ s.incoming → t.outgoing.length ≡ s.outgoing.length → t.state ≡ s.state → past s.state ≡ true
    → (unanswered s.state ≡ true → (r : Replied) → In r replies → r.ordinal ≡ standing → Single r.message)
    → (has_data s.state ≡ true → CurrentReply s standing replies) → GoesOn s t standing replies
stays_goes_on s t standing replies a b n c i z e p single has = record {
  activity = a;
  boot = b;
  number = n;
  call = c;
  incoming = i;
  size = z;
  after = rw e p;
  single = λ u. single (sym (ap unanswered e) ∙ u);
  replying = λ u. has (sym (ap has_data e) ∙ u);
}

-- What is known of the server does not speak of the cancel number last seen.
pub seen_inv : (s : Server) (n standing : ℕ) (slots : List ℕ) (starts : List Started) (dispatches : List Dispatched) (replies : List Replied)
    → ServerInv s standing slots starts dispatches replies → ServerInv (with_seen s n) standing slots starts dispatches replies
unfolding with_seen sound hands_up
seen_inv s n standing slots starts dispatches replies inv = record {
  kept = inv.kept;
  activity = inv.activity;
  boot = inv.boot;
  takes = inv.takes;
  called =
      λ e.
      let k = inv.called e in
      record { start = k.start; started = k.started; is = k.is; number = k.number; call = k.call; typed = k.typed; small = k.small };
  collecting = λ e. let k = inv.collecting e in record { start = k.start; started = k.started; is = k.is; holding = k.holding; first = k.first };
  running = λ e. let k = inv.running e in record { last = k.last; ran = k.ran; entry = k.entry };
  single = inv.single;
  replying =
      λ e.
      let k = inv.replying e in
      record { reply = k.reply; given = k.given; is = k.is; message = k.message; size = k.size; others = k.others };
}
