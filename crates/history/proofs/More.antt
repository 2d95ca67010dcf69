-- What is known stays known when more is on the books, and when the record goes on with its call.
use Prim.Native.Nat.{ℕ}
use mathlib.Core.List.{List}
use mathlib.Core.Path.{◌≡◌, sym, ◌∙◌}
use Rattle.incoming.specs.declared.Incoming.{Incoming}
use Rattle.pdu.specs.declared.Header.{Header}
use Rattle.client.specs.declared.records.Client.{Client}
use Rattle.server.specs.declared.records.Server.{Server}
use Rattle.history.specs.World.{Started, Dispatched, Replied, Completed}
use Rattle.history.specs.Dispatches.{DispatchOf}
use Rattle.history.specs.Replies.{WholeReply}
use Rattle.history.proofs.ListLaws.{Within}
use Rattle.history.proofs.Network.{Request, Response}
use Rattle.history.proofs.Invariant.{CurrentStart, ClientHolds, nothing, fragments_of, ClientInv, CalledStart, Collecting, Open, NewTo, ServerInv, DispatchedStart}

-- More starts: of a request,
module _ (starts more : List Started) (within : Within starts more) where
  pub request_more : (o : ℕ) (h : Header) (body : List ℕ) → Request starts o h body → Request more o h body
  request_more o h body r = record {
    start = r.start;
    started = within r.start r.started;
    is = r.is;
    number = r.number;
    call = r.call;
    part = r.part;
    sized = r.sized;
    version = r.version;
    small = r.small;
    operation = r.operation;
  }

  -- of a dispatch,
  pub whole_more : (d : Dispatched) → DispatchedStart starts d → DispatchedStart more d
  whole_more d from =
      record { start = from.start; started = within from.start from.started; ordinal = from.ordinal; call = from.call; whole = from.whole }

  -- of the server's call,
  called_more : (s : Server) (standing : ℕ) → CalledStart s standing starts → CalledStart s standing more
  called_more s standing k = record {
    start = k.start;
    started = within k.start k.started;
    is = k.is;
    number = k.number;
    call = k.call;
    typed = k.typed;
    small = k.small;
  }

  collecting_more : (s : Server) (standing : ℕ) (slots : List ℕ) (dispatches : List Dispatched) → Collecting s standing slots starts dispatches
      → Collecting s standing slots more dispatches
  collecting_more s standing slots dispatches k = record {
    start = k.start;
    started = within k.start k.started;
    is = k.is;
    holding = k.holding;
    first = k.first;
  }

  -- of the server, where what it may begin is open with them too.
  pub more_starts : (s : Server) (standing : ℕ) (slots : List ℕ) (dispatches : List Dispatched) (replies : List Replied)
      → ((k : ℕ) → NewTo s standing k → Open more dispatches replies k) → ServerInv s standing slots starts dispatches replies
      → ServerInv s standing slots more dispatches replies
  more_starts s standing slots dispatches replies takes old = record {
    kept = old.kept;
    activity = old.activity;
    boot = old.boot;
    takes = takes;
    called = λ e. called_more s standing (old.called e);
    collecting = λ e. collecting_more s standing slots dispatches (old.collecting e);
    running = old.running;
    single = old.single;
    replying = old.replying;
  }

-- More replies: of a response,
module _ (replies more : List Replied) (within : Within replies more) where
  pub response_more : (o : ℕ) (h : Header) (body : List ℕ) → Response replies o h body → Response more o h body
  response_more o h body r =
      record { reply = r.reply; given = within r.reply r.given; is = r.is; number = r.number; part = r.part }

  -- of a completion,
  pub whole_reply_more : (c : Completed) → WholeReply replies c → WholeReply more c
  whole_reply_more c r = record { reply = r.reply; given = within r.reply r.given; ordinal = r.ordinal; whole = r.whole }

  -- of what the client holds,
  holds_more : (ordinal : ℕ) (m : Incoming) (slots : List ℕ) → ClientHolds ordinal m slots replies → ClientHolds ordinal m slots more
  holds_more ordinal m slots (nothing e) = nothing e
  holds_more ordinal m slots (fragments_of r given is h) = fragments_of r (within r given) is h

  -- of the client.
  pub more_replies : (c : Client) (slots : List ℕ) (starts : List Started) → ClientInv c slots starts replies → ClientInv c slots starts more
  more_replies c slots starts old = record {
    kept = old.kept;
    activity = old.activity;
    unbegun = old.unbegun;
    current = old.current;
    unasked = old.unasked;
    whole = old.whole;
    holds = λ e. holds_more _ c.incoming slots (old.holds e);
  }

-- More dispatches: of what was dispatched.
pub more_dispatches : (dispatches more : List Dispatched) → Within dispatches more → (ordinal : ℕ) → DispatchOf dispatches ordinal → DispatchOf more ordinal
more_dispatches dispatches more within ordinal of =
    record { dispatch = of.dispatch; dispatched = within of.dispatch of.dispatched; same = of.same }

-- A client that goes on with its call, number and message's length has the same start,
pub current_on : (c d : Client) (starts : List Started) → d.number ≡ c.number → d.call ≡ c.call → d.outgoing.length ≡ c.outgoing.length
    → CurrentStart c starts → CurrentStart d starts
current_on c d starts number call size now = record {
  start = now.start;
  started = now.started;
  is = now.is;
  number = number ∙ now.number;
  call = now.call ∙ sym call;
  message = now.message;
  size = now.size ∙ sym size;
  typed = rw call now.typed;
  small = rw number now.small;
}

-- and so has a server.
pub called_on : (s t : Server) (standing : ℕ) (starts : List Started) → t.number ≡ s.number → t.call ≡ s.call → CalledStart s standing starts
    → CalledStart t standing starts
called_on s t standing starts number call k = record {
  start = k.start;
  started = k.started;
  is = k.is;
  number = number ∙ k.number;
  call = k.call ∙ sym call;
  typed = rw call k.typed;
  small = rw number k.small;
}
