-- A refused call leaves all that a host keeps as it was.
use Prim.Native.Nat.{ℕ}
use mathlib.Core.List.{List}
use mathlib.Core.Path.{◌≡◌, refl}
use Rattle.words.proofs.Tests.{choose_false}
use Rattle.answers.specs.Answer.{Answer, Done}
use Rattle.client.specs.declared.records.Client.{Client}
use Rattle.server.specs.declared.records.Server.{Server}
use Rattle.history.specs.World.{Started, Cancelled, Side, Books, World}
use Rattle.history.specs.Steps.{is_done, sent_after, last_start, dispatches_after, completions_after, heard_after, Turn, completion_entry, dispatch_entry, heard_entry}
use Rattle.history.proofs.Refused.{same_own}
use Rattle.morphelai.specs.Export.{Export}
use Rattle.host_history.specs.Hosts.{HostWorld, world_of, ClientCall, ServerCall, HostCall, ClientStart, ClientTransmit, ClientArrive, ClientTimer, ClientCancel, ServerArrive, ServerTransmit, ServerTimer, ServerReply, ServerFault, ToClient, ToServer, client_export, server_export, exported, slots_of_client, slots_of_server, client_seen, server_seen, starts_seen, cancels_seen, replies_seen, subject_seen, host_step}
use Rattle.host_history.specs.Refusal.{Undone, client_lends, server_lends}
use Rattle.host_history.proofs.Leaving.{not_zero}
use Rattle.host_history.proofs.Refusals.{refused_leaves}

-- The slot buffer of its side stays,
client-slots-same : (c : Side (List ℕ)) (call : ClientCall) (x : Export) → x.slots ≡ client_lends c call
    → slots_of_client c call x ≡ c.slots
client-slots-same c (ClientStart idempotent object interface version operation n message) x same = refl
client-slots-same c (ClientTransmit message out) x same = refl
client-slots-same c (ClientArrive p lent out) x same = same_own lent c.slots x.slots same
client-slots-same c (ClientTimer kind ticket out) x same = refl
client-slots-same c (ClientCancel out) x same = refl

server-slots-same : (s : Side (List ℕ)) (call : ServerCall) (x : Export) → x.slots ≡ server_lends s call
    → slots_of_server s call x ≡ s.slots
server-slots-same s (ServerArrive p lent out) x same = same_own lent s.slots x.slots same
server-slots-same s (ServerTransmit message out) x same = refl
server-slots-same s (ServerTimer kind ticket out) x same = refl
server-slots-same s (ServerReply n message) x same = refl
server-slots-same s (ServerFault status out) x same = refl

-- and so do the starts,
starts_same : (before : List Started) (call : ClientCall) (t : Turn Client) → (t.answer ≡ Done → ⊥)
    → starts_seen before call t ≡ before
starts_same before (ClientStart idempotent object interface version operation n message) t other =
    choose_false (is_done t.answer) _ before (not_zero t.answer other)
starts_same before (ClientTransmit message out) t other = refl
starts_same before (ClientArrive p lent out) t other = refl
starts_same before (ClientTimer kind ticket out) t other = refl
starts_same before (ClientCancel out) t other = refl

-- the cancels,
cancels_same : (before : List Cancelled) (call : ClientCall) (t : Turn Client) (ordinal : ℕ) → (t.answer ≡ Done → ⊥)
    → cancels_seen before call t ordinal ≡ before
cancels_same before (ClientStart idempotent object interface version operation n message) t ordinal other = refl
cancels_same before (ClientTransmit message out) t ordinal other = refl
cancels_same before (ClientArrive p lent out) t ordinal other = refl
cancels_same before (ClientTimer kind ticket out) t ordinal other = refl
cancels_same before (ClientCancel out) t ordinal other =
    choose_false (is_done t.answer) _ before (not_zero t.answer other)

-- the replies,
replies_same : (b : Books) (call : ServerCall) (t : Turn Server) → (t.answer ≡ Done → ⊥)
    → replies_seen b call t ≡ b.replies
replies_same b (ServerArrive p lent out) t other = refl
replies_same b (ServerTransmit message out) t other = refl
replies_same b (ServerTimer kind ticket out) t other = refl
replies_same b (ServerReply n message) t other =
    choose_false (is_done t.answer) _ b.replies (not_zero t.answer other)
replies_same b (ServerFault status out) t other = refl

-- and where the server's record stands.
standing_same : (w : World) (call : ServerCall) (answer : Answer) → (answer ≡ Done → ⊥)
    → (subject_seen w call answer).standing ≡ w.books.standing
standing_same w (ServerArrive p lent out) answer other =
    choose_false (is_done answer) _ w.books.standing (not_zero answer other)
standing_same w (ServerTransmit message out) answer other = refl
standing_same w (ServerTimer kind ticket out) answer other = refl
standing_same w (ServerReply n message) answer other = refl
standing_same w (ServerFault status out) answer other = refl

client_unchanged : (h : HostWorld) (call : ClientCall) → Undone (client_export h.client call)
    → host_step h (ToClient call) ≡ h
unfolding host_step sent_after completions_after
client_unchanged h call undone =
    let x = client_export h.client call in
    let t = client_seen h.client call in
    let starts = starts_seen h.books.starts call t in
    let r = refused_leaves h (ToClient call) undone in
    λ i. record {
      client =
          record {
            machine = r.kept i;
            slots = client-slots-same h.client call x r.stored i;
            sent = sent_after h.client.sent (r.unsent i) x.out (last_start starts);
          };
      server = h.server;
      books =
          record {
            starts = starts_same h.books.starts call t undone i;
            dispatches = h.books.dispatches;
            replies = h.books.replies;
            completions =
                completions_after h.books.completions (r.untold i)
                (completion_entry starts t.machine t.slots);
            cancels = cancels_same h.books.cancels call t (last_start h.books.starts) undone i;
            heard = h.books.heard;
            standing = h.books.standing;
          };
    }

server_unchanged : (h : HostWorld) (call : ServerCall) → Undone (server_export h.server call)
    → host_step h (ToServer call) ≡ h
unfolding host_step sent_after dispatches_after heard_after
server_unchanged h call undone =
    let x = server_export h.server call in
    let t = server_seen h.server call in
    let of = subject_seen (world_of h) call t.answer in
    let r = refused_leaves h (ToServer call) undone in
    λ i. record {
      client = h.client;
      server =
          record {
            machine = r.kept i;
            slots = server-slots-same h.server call x r.stored i;
            sent = sent_after h.server.sent (r.unsent i) x.out of.ordinal;
          };
      books =
          record {
            starts = h.books.starts;
            dispatches =
                dispatches_after h.books.dispatches (r.untold i) (dispatch_entry of t.machine t.slots);
            replies = replies_same h.books call t undone i;
            completions = h.books.completions;
            cancels = h.books.cancels;
            heard =
                heard_after h.books.heard (r.untold i) (heard_entry h.books.dispatches of);
            standing = standing_same (world_of h) call t.answer undone i;
          };
    }

-- A call that is not answered 0 changes nothing, whatever the host keeps.
pub refused-same : (h : HostWorld) (call : HostCall) → Undone (exported h call) → host_step h call ≡ h
refused-same h (ToClient call) = client_unchanged h call
refused-same h (ToServer call) = server_unchanged h call
