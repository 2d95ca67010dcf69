-- Replies: given to what was dispatched, one of them handed up, whole, and it only grows.
use Rattle.std.specs.Prelude.{ℕ, Bool, true, false, List, [], ◌++◌, ◌⊎◌, ◌≡◌}
use Rattle.fragments.specs.Joined.{Leads}
use Rattle.client.specs.declared.records.State.{State as ClientState}
use Rattle.client.specs.declared.records.State.TheVariants.{Queued, SendFrags, Dispatched as DispatchedState, ReceiveFrags, AckPending, Complete, Fault as FaultState}
use Rattle.client.specs.HandUp.{hands_up}
use Rattle.history.specs.Lists.{In}
use Rattle.history.specs.World.{Replied, Completed, World}
use Rattle.history.specs.Events.{Event}
use Rattle.history.specs.Steps.{last_start, completion_entry, run}
use Rattle.history.specs.Dispatches.{DispatchOf}

-- A reply is given to a start that was dispatched.
unfoldable pub RepliesToDispatches : World → Type 0
RepliesToDispatches w = (r : Replied) → In r w.books.replies → DispatchOf w.books.dispatches r.ordinal

-- What the client hands up.
abbrev pub reply_handed_up : World → List ℕ
reply_handed_up w = hands_up w.client.machine w.client.slots

-- One reply: what the client hands up is nothing, or a leading part of one reply that was given to its last start;
pub record LeadsReply (w : World) : Type 0 where
  pub reply : Replied
  pub given : In reply w.books.replies
  pub ordinal : reply.ordinal ≡ last_start w.books.starts
  pub leads : Leads (reply_handed_up w) reply.message

unfoldable pub OneReply : World → Type 0
OneReply w = (reply_handed_up w ≡ []) ⊎ LeadsReply w

-- and what it hands up at the notice "last" is the whole of one.
pub record WholeReply (replies : List Replied) (c : Completed) : Type 0 where
  pub reply : Replied
  pub given : In reply replies
  pub ordinal : reply.ordinal ≡ c.ordinal
  pub whole : c.bytes ≡ reply.message

unfoldable pub WholeReplies : World → Type 0
WholeReplies w = (c : Completed) → In c w.books.completions → WholeReply w.books.replies c

-- It is so still in ACK_PENDING and COMPLETE, where the call has its reply.
abbrev pub has_reply : ClientState → Bool
has_reply Queued = false
has_reply SendFrags = false
has_reply DispatchedState = false
has_reply ReceiveFrags = false
has_reply AckPending = true
has_reply Complete = true
has_reply FaultState = false

unfoldable pub WholeWhereAnswered : World → Type 0
WholeWhereAnswered w =
    has_reply w.client.machine.state ≡ true
    → WholeReply w.books.replies (completion_entry w.books.starts w.client.machine w.client.slots)

-- It only grows: while no further start is accepted, what was handed up before leads what is handed up now.
unfoldable pub OnlyGrows : World → List Event → Type 0
OnlyGrows w events =
    (before after : List Event) → events ≡ before ++ after → (run w events).books.starts ≡ (run w before).books.starts
    → Leads (reply_handed_up (run w before)) (reply_handed_up (run w events))
