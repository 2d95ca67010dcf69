-- What goes on the books as a start, a cancel or a reply is what a host gave and was answered 0 for.
use mathlib.Core.Bool.{true}
use mathlib.Core.Path.{◌≡◌, refl, ap}
use Rattle.words.proofs.Tests.{choose_true, choose_false}
use Rattle.answers.specs.Answer.{Answer, Done}
use Rattle.record_bytes.specs.Layout.{fields_in}
use Rattle.client_bytes.specs.Layout.{client_in, client_of}
use Rattle.history.specs.Steps.{is_done}
use Rattle.host_history.specs.Results.{answer_in}
use Rattle.host_history.specs.Hosts.{HostWorld, HostCall, ClientStart, ClientTransmit, ClientArrive, ClientTimer, ClientCancel, ServerArrive, ServerTransmit, ServerTimer, ServerReply, ServerFault, ToClient, ToServer, exported, host_step}
use Rattle.host_history.specs.HostBooks.{is_start, StartsGiven, is_cancel, CancelsGiven, is_reply, RepliesGiven}
use Rattle.host_history.proofs.Leaving.{not_zero}

-- Done is answered 0.
done_zero : (a : Answer) → a ≡ Done → is_done a ≡ true
done_zero a done = ap is_done done

module _ (h : HostWorld) where
  no_start : (call : HostCall) → (is_start call ≡ true → answer_in (exported h call).result ≡ Done → ⊥)
      → (host_step h call).books.starts ≡ h.books.starts
  unfolding host_step
  no_start (ToClient (ClientStart idempotent object interface version operation n message)) other =
      choose_false _ _ h.books.starts (not_zero _ (other refl))
  no_start (ToClient (ClientTransmit message out)) other = refl
  no_start (ToClient (ClientArrive p lent out)) other = refl
  no_start (ToClient (ClientTimer kind ticket out)) other = refl
  no_start (ToClient (ClientCancel out)) other = refl
  no_start (ToServer call) other = refl

  pub starts_given : StartsGiven h
  unfolding host_step client_in client_of fields_in
  starts_given = record {
    taken = λ idempotent object interface version operation n message done.
        record {
          start = _;
          added = choose_true _ _ h.books.starts (done_zero _ done);
          ordinal = refl;
          number = refl;
          same = refl;
          whole = refl;
        };
    none = no_start;
  }

  no_cancel : (call : HostCall) → (is_cancel call ≡ true → answer_in (exported h call).result ≡ Done → ⊥)
      → (host_step h call).books.cancels ≡ h.books.cancels
  unfolding host_step
  no_cancel (ToClient (ClientStart idempotent object interface version operation n message)) other = refl
  no_cancel (ToClient (ClientTransmit message out)) other = refl
  no_cancel (ToClient (ClientArrive p lent out)) other = refl
  no_cancel (ToClient (ClientTimer kind ticket out)) other = refl
  no_cancel (ToClient (ClientCancel out)) other = choose_false _ _ h.books.cancels (not_zero _ (other refl))
  no_cancel (ToServer call) other = refl

  pub cancels_given : CancelsGiven h
  unfolding host_step client_in client_of fields_in
  cancels_given = record {
    taken = λ out done.
        record {
          cancel = _;
          added = choose_true _ _ h.books.cancels (done_zero _ done);
          ordinal = refl;
          number = refl;
        };
    none = no_cancel;
  }

  no_reply : (call : HostCall) → (is_reply call ≡ true → answer_in (exported h call).result ≡ Done → ⊥)
      → (host_step h call).books.replies ≡ h.books.replies
  unfolding host_step
  no_reply (ToClient call) other = refl
  no_reply (ToServer (ServerArrive p lent out)) other = refl
  no_reply (ToServer (ServerTransmit message out)) other = refl
  no_reply (ToServer (ServerTimer kind ticket out)) other = refl
  no_reply (ToServer (ServerReply n message)) other = choose_false _ _ h.books.replies (not_zero _ (other refl))
  no_reply (ToServer (ServerFault status out)) other = refl

  pub replies_given : RepliesGiven h
  unfolding host_step
  replies_given = record {
    taken = λ n message done. choose_true _ _ h.books.replies (done_zero _ done);
    none = no_reply;
  }
