-- A fresh world is as every world is known to be.
use Prim.Native.Nat.{ℕ, ◌<◌}
use mathlib.Core.Bool.{Bool, true, false≢true}
use mathlib.Core.List.{List, []}
use mathlib.Core.Path.{◌≡◌, refl, sym, ap, subst, ◌∙◌}
use native.Mathlib.Omega.{arith}
use borrow.Author.Tests.{le-leb, eq-eqb}
use lib.ListN.{length}
use Rattle.words.specs.Choice.{choose, either}
use Rattle.words.specs.Sizes.{retry_limit}
use Rattle.words.proofs.Tests.{both_hold}
use Rattle.incoming.specs.Slots.{cleared}
use Rattle.outgoing.specs.declared.Outgoing.{Outgoing}
use Rattle.outgoing.specs.Sending.{no_message, bounded, has_nothing}
use Rattle.outgoing.proofs.SendLaws.{bounded_holds}
use Rattle.timers.specs.Timer.{Timer, Off}
use Rattle.timers.specs.Tickets.{timer_sound}
use Rattle.timers.proofs.TimerLaws.{off-sound}
use Rattle.client.specs.declared.records.State.{State as ClientState}
use Rattle.client.specs.declared.records.Client.{Client}
use Rattle.client.specs.records.Record.{fresh as client_record}
use Rattle.client.specs.records.States.{is_queued, is_active, is_waiting, is_ack_pending}
use Rattle.client.specs.records.Rules.{outgoing_sound as client_outgoing, message_rule as client_rule}
use Rattle.client.proofs.RuleLaws.{rules_hold as client-rules, counts_hold, timers_hold}
use Rattle.server.specs.declared.records.State.{State as ServerState}
use Rattle.server.specs.declared.records.Server.{Server}
use Rattle.server.specs.records.Record.{fresh as server_record}
use Rattle.server.specs.records.States.{never_called, is_fresh, is_running, is_held}
use Rattle.server.specs.records.Rules.{outgoing_sound as server_outgoing, idle_rule, message_rule as server_rule}
use Rattle.server.proofs.RuleLaws.{rules_hold as server-rules}
use Rattle.history.specs.Lists.{In}
use Rattle.history.specs.World.{Started, Dispatched, Replied, World}
use Rattle.history.specs.Replies.{has_reply}
use Rattle.history.specs.Freshness.{NothingSent, FreshClient, FreshServer, Fresh}
use Rattle.history.proofs.Holding.{none_sound, none_unheld}
use Rattle.history.proofs.Invariant.{ClientInv, unanswered, has_data, ServerInv, CallInv, Inv}

-- No message out keeps the rules of what is sent.
sent-bounded : (o : Outgoing) → NothingSent o → bounded o ≡ true
sent-bounded o n =
    bounded_holds o (record { sent = omega (arith, n.sent); acknowledged = omega (arith, n.acknowledged) })

sent_none : (o : Outgoing) → NothingSent o → has_nothing o ≡ true
unfolding has_nothing
sent_none o n = eq-eqb o.count 0 n.count

-- A timer that is off keeps its rule.
off_kept : (named : Bool) (timer : Timer) (tickets : ℕ) → timer ≡ Off → timer_sound named timer tickets ≡ true
off_kept named timer tickets e = subst (λ (t : Timer). timer_sound named t tickets ≡ true) (sym e) (off-sound named tickets)

-- A fresh client,
client-fresh : (c : Client) (slots : List ℕ) (starts : List Started) (replies : List Replied) → FreshClient c → starts ≡ [] → ClientInv c slots starts replies
unfolding client_outgoing client_rule is_queued
client-fresh c slots starts replies f none = record {
  kept =
      client-rules c
      (record {
        counts = counts_hold c.waits c.resends (omega (arith, f.waits)) (omega (arith, f.resends));
        outgoing =
            subst (λ (s : ClientState). client_outgoing s c.outgoing ≡ true) (sym f.state)
            (both_hold (bounded c.outgoing) (has_nothing c.outgoing) (sent-bounded c.outgoing f.outgoing) (sent_none c.outgoing f.outgoing));
        incoming = none_sound c.incoming f.incoming.slots f.incoming.last f.incoming.none;
        timers =
            timers_hold c.state c.wait c.ack c.cancel c.tickets
            (record {
              wait = off_kept (is_waiting c.state) c.wait c.tickets f.wait;
              ack = off_kept (is_ack_pending c.state) c.ack c.tickets f.ack;
              cancel = off_kept (is_active c.state) c.cancel c.tickets f.cancel;
            });
      });
  activity = f.activity;
  unbegun = λ e. none;
  current = λ e. absurd (false≢true (sym e ∙ ap is_queued f.state));
  unasked = λ e. none_unheld c.incoming f.incoming.none;
  whole = λ e. absurd (false≢true (sym (ap has_reply f.state) ∙ e));
  holds = λ e. absurd (false≢true (sym e ∙ ap is_queued f.state));
}

-- a fresh server
server-fresh : (s : Server) (standing : ℕ) (slots : List ℕ) (starts : List Started) (dispatches : List Dispatched) (replies : List Replied) → FreshServer s
    → dispatches ≡ [] → replies ≡ [] → ServerInv s standing slots starts dispatches replies
unfolding server_outgoing server_rule idle_rule is_fresh never_called is_running
server-fresh s standing slots starts dispatches replies f none unanswered-yet = record {
  kept =
      server-rules s
      (record {
        count = le-leb s.resends retry_limit (omega (arith, f.resends));
        outgoing =
            subst (λ (x : ServerState). server_outgoing x s.outgoing ≡ true) (sym f.state)
            (both_hold (bounded s.outgoing) (has_nothing s.outgoing) (sent-bounded s.outgoing f.outgoing) (sent_none s.outgoing f.outgoing));
        incoming = none_sound s.incoming f.incoming.slots f.incoming.last f.incoming.none;
        timer = off_kept (is_held s.state) s.resend s.tickets f.resend;
      });
  activity = f.activity;
  boot = f.boot;
  takes = λ k new. record { first = λ t m e i d x. absurd (subst (In d) none x); single = λ r m. absurd (subst (In r) unanswered-yet m) };
  called = λ e. absurd (false≢true (sym e ∙ ap is_fresh f.state));
  collecting = λ e. absurd (false≢true (sym (ap unanswered f.state) ∙ ap unanswered e));
  running = λ e. absurd (false≢true (sym (ap is_running f.state) ∙ ap is_running e));
  single = λ e. absurd (false≢true (sym (ap unanswered f.state) ∙ e));
  replying = λ e. absurd (false≢true (sym (ap has_data f.state) ∙ e));
}

-- and nothing on the books.
calls_fresh : (starts : List Started) (dispatches : List Dispatched) (replies : List Replied) → starts ≡ [] → dispatches ≡ [] → replies ≡ []
    → CallInv starts dispatches replies
calls_fresh starts dispatches replies s d r = record {
  unique = λ a b m. absurd (subst (In a) s m);
  below = λ a m. absurd (subst (In a) s m);
  numbered = λ a m. absurd (subst (In a) s m);
  once = λ a m. absurd (subst (In a) s m);
  whole = λ a m. absurd (subst (In a) d m);
  called = λ a m. absurd (subst (In a) d m);
  replied = λ a m. absurd (subst (In a) r m);
  alike = λ a b m. absurd (subst (In a) r m);
}

-- So a fresh world is.
pub fresh_inv : (w : World) → Fresh w → Inv w
fresh_inv w f = record {
  client = client-fresh w.client.machine w.client.slots w.books.starts w.books.replies f.client f.books.starts;
  server = server-fresh w.server.machine w.books.standing w.server.slots w.books.starts w.books.dispatches w.books.replies f.server f.books.dispatches f.books.replies;
  calls = calls_fresh w.books.starts w.books.dispatches w.books.replies f.books.starts f.books.dispatches f.books.replies;
  requests = λ d m. absurd (subst (In d) f.client_unsent m);
  acks = λ d m. absurd (subst (In d) f.client_unsent m);
  asked = λ d m. absurd (subst (In d) f.client_unsent m);
  responses = λ d m. absurd (subst (In d) f.server_unsent m);
  completed = λ c m. absurd (subst (In c) f.books.completions m);
}

-- The records that the library's own functions make are fresh, whatever the activity, the boot value and the ticket
-- counter.
pub client_record_fresh : (activity : List ℕ) (tickets : ℕ) → length activity ≡ 16 → FreshClient (client_record activity tickets)
unfolding client_record no_message cleared either choose
client_record_fresh activity tickets known = record {
  state = refl;
  activity = known;
  outgoing = record { count = refl; sent = refl; acknowledged = refl };
  incoming = record { slots = refl; none = refl; last = refl };
  waits = refl;
  resends = refl;
  wait = refl;
  ack = refl;
  cancel = refl;
}

pub server_record_fresh : (activity : List ℕ) (boot tickets : ℕ) → length activity ≡ 16 → boot < 4294967296 → FreshServer (server_record activity boot tickets)
unfolding server_record no_message cleared either choose
server_record_fresh activity boot tickets known small = record {
  state = refl;
  activity = known;
  boot = small;
  outgoing = record { count = refl; sent = refl; acknowledged = refl };
  incoming = record { slots = refl; none = refl; last = refl };
  resends = refl;
  resend = refl;
}
