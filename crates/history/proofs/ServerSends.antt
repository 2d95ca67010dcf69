-- What is known of the datagrams that the server has sent, after each of its steps.
use Prim.Native.Nat.{ℕ, ◌+◌, ◌<◌}
use mathlib.Core.Bool.{Bool, true, false, false≢true}
use mathlib.Core.List.{List, [], ◌∷◌, ◌++◌, append-nil}
use mathlib.Core.Logic.{◌⊎◌, inl, inr}
use mathlib.Core.Path.{◌≡◌, refl, sym, ap, subst, ◌∙◌}
use native.Mathlib.Omega.{arith}
use lib.Dec.{eqb}
use lib.ListN.{length}
use borrow.Author.Tests.{eqb-true, eqb-false}
use Rattle.words.specs.Choice.{choose}
use Rattle.words.specs.Sizes.{pdu_size}
use Rattle.words.proofs.Tests.{both_true}
use Rattle.bodies.specs.Fack.{fack_bytes, fack_fields}
use Rattle.bodies.specs.Cancel.{cancel_ack_bytes}
use Rattle.bodies.specs.Status.{status_bytes}
use Rattle.calls.specs.declared.Notice.{Notice}
use Rattle.calls.specs.declared.Notice.TheVariants.{Nothing as Untold, Last, Count, Fault as FaultNotice, Reject, Cause, Dispatch, Cancel as CancelTold}
use Rattle.calls.specs.Sent.{sent_header}
use Rattle.flags.specs.Flags.{with_flag}
use Rattle.facks.specs.Mask.{last_contiguous, mask_from}
use Rattle.outgoing.specs.Message.{fragments, fragment_of, flags_of}
use Rattle.outgoing.specs.Sending.{has_message}
use Rattle.outgoing.proofs.OutgoingLaws.{fragment_most}
use Rattle.outgoing.proofs.SendLaws.{message_count_told, message_count_range}
use Rattle.pdu.specs.declared.Header.{Header}
use Rattle.pdu.specs.Header.{datagram, blank}
use Rattle.writer.proofs.Returns.{Sized}
use Rattle.server.specs.declared.records.State.{State}
use Rattle.server.specs.declared.records.Server.{Server}
use Rattle.server.specs.records.States.{is_replying}
use Rattle.server.specs.records.Rules.{sound, outgoing_sound}
use Rattle.server.specs.records.Repeatable.{runs_again}
use Rattle.server.proofs.StateLaws.{replying_state}
use Rattle.server.proofs.RuleLaws.{rules_told, replying_told}
use Rattle.server.specs.declared.step.Send.{Send}
use Rattle.server.specs.declared.step.Send.TheVariants.{Nothing, Response as SendResponse, Fault as SendFault, Working, Nocall, Fack, CancelAck}
use Rattle.server.specs.step.Plan.{Plan}
use Rattle.server.specs.Sending.{reply_header, echoed, echo_header, response_sent, fault_sent, empty_sent, fack_sent, cancel_ack_sent, sent_out}
use Rattle.server.specs.Machine.{done, sending}
use Rattle.history.specs.Lists.{In}
use Rattle.history.specs.World.{Started, Dispatched, Replied, SentPdu, World}
use Rattle.history.specs.Steps.{sent_after, dispatches_after, Subject, dispatch_entry}
use Rattle.history.specs.Fairness.{OfLastReply, Typed}
use Rattle.history.proofs.ListLaws.{All, all_appended}
use Rattle.history.proofs.Holding.{Short, PartOf, Single, flags-last}
use Rattle.history.proofs.Network.{Response, Known, pdu_of, other_known, same_known, Uuids, typed_uuids, posted, call_fits}
use Rattle.history.proofs.Types.{IsResponse}
use Rattle.history.proofs.Invariant.{CalledStart, CurrentReply, ServerInv, Inv, server_step}
use Rattle.history.proofs.ServerSteps.{GoesOn}

-- Only transmit sends a response.
abbrev pub answers : Send → Bool
answers Nothing = false
answers (SendResponse f) = true
answers (SendFault status) = false
answers Working = false
answers Nocall = false
answers (Fack serial count) = false
answers (CancelAck n accepts) = false

-- Only a fault besides speaks of the record's call.
abbrev pub of_call : Send → Bool
of_call Nothing = false
of_call (SendResponse f) = true
of_call (SendFault status) = true
of_call Working = false
of_call Nocall = false
of_call (Fack serial count) = false
of_call (CancelAck n accepts) = false

-- What the server sends, as it stands among what it has sent: nothing, or one PDU of that start; h is the header of
-- the PDU answered.
abbrev pub server_pdus : ℕ → Send → Server → Header → List ℕ → List SentPdu
server_pdus o Nothing s h lent = []
server_pdus o (SendResponse f) s h lent = pdu_of o (datagram (reply_header 2 (flags_of s.outgoing.count f) f s) lent) ∷ []
server_pdus o (SendFault status) s h lent = pdu_of o (datagram (reply_header 3 0 0 s) (status_bytes status)) ∷ []
server_pdus o Working s h lent = pdu_of o (datagram (echo_header 4 0 s h) []) ∷ []
server_pdus o Nocall s h lent = pdu_of o (datagram (echo_header 5 0 s h) []) ∷ []
server_pdus o (Fack serial count) s h lent =
    pdu_of o (datagram (echo_header 9 (last_contiguous count) s h) (fack_bytes (fack_fields serial (mask_from count s.incoming)))) ∷ []
server_pdus o (CancelAck n accepts) s h lent = pdu_of o (datagram (echo_header 10 0 s h) (cancel_ack_bytes n accepts)) ∷ []

-- The UUIDs that it speaks of: those of the record's call, or those of the PDU answered.
abbrev pub SentUuids : Send → Server → Header → Type 0
SentUuids send s h = (of_call send ≡ true → Uuids s.activity s.call) × Uuids s.activity (echoed h)

-- At an arrival they are those that were read, at any other event those of the record's call.
pub pdu_uuids : (send : Send) (s : Server) (h : Header) → length s.activity ≡ 16 → Sized h → (of_call send ≡ true → Typed s.call) → SentUuids send s h
unfolding echoed
pdu_uuids send s h a sized typed = (
  λ e. typed_uuids s.activity s.call a (typed e),
  record { activity_16 = a; object_16 = sized.object; interface_16 = sized.interface },
)

pub record_uuids : (send : Send) (s : Server) → length s.activity ≡ 16 → Typed s.call → SentUuids send s blank
unfolding blank
record_uuids send s a typed = pdu_uuids send s blank a (record { object = refl; interface = refl; activity = refl }) (λ e. typed)

pub server-sent : (send : Send) (s : Server) (h : Header) (lent out : List ℕ) (before : List SentPdu) (o : ℕ) → SentUuids send s h → Short lent → length out ≡ pdu_size
    → sent_after before (sent_out send s h lent out).sent (sent_out send s h lent out).out o ≡ before ++ server_pdus o send s h lent
unfolding sent_out response_sent fault_sent empty_sent fack_sent cancel_ack_sent reply_header echo_header sent_after fack_bytes cancel_ack_bytes
server-sent Nothing s h lent out before o z short room = sym (append-nil before)
server-sent (SendResponse f) s h lent out before o z short room =
    posted 2 _ _ _ _ _ _ _ lent out before o (omega arith) short (z.0 refl) room
server-sent (SendFault status) s h lent out before o z short room =
    posted 3 _ _ _ _ _ _ _ (status_bytes status) out before o (omega arith) (omega arith) (z.0 refl) room
server-sent Working s h lent out before o z short room = posted 4 _ _ _ _ _ _ _ [] out before o (omega arith) (omega arith) z.1 room
server-sent Nocall s h lent out before o z short room = posted 5 _ _ _ _ _ _ _ [] out before o (omega arith) (omega arith) z.1 room
server-sent (Fack serial count) s h lent out before o z short room =
    posted 9 _ _ _ _ _ _ _ (fack_bytes (fack_fields serial (mask_from count s.incoming))) out before o (omega arith) (omega arith) z.1 room
server-sent (CancelAck n accepts) s h lent out before o z short room =
    posted 10 _ _ _ _ _ _ _ (cancel_ack_bytes n accepts) out before o (omega arith) (omega arith) z.1 room

-- So what is known of all before and of that is known of all then.
pub sends_known : (K : SentPdu → Type 0) (send : Send) (s : Server) (h : Header) (lent out : List ℕ) (before : List SentPdu) (o : ℕ) → SentUuids send s h
    → Short lent → length out ≡ pdu_size → ((d : SentPdu) → In d before → K d) → All K (server_pdus o send s h lent) → (d : SentPdu)
    → In d (sent_after before (sent_out send s h lent out).sent (sent_out send s h lent out).out o) → K d
sends_known K send s h lent out before o z short room known own d m =
    all_appended K before (server_pdus o send s h lent) known own d (subst (In d) (server-sent send s h lent out before o z short room) m)

-- Whatever is sent but a response is known not to be one.
pub others_known : (P : ℕ → Header → List ℕ → Type 0) (o : ℕ) (send : Send) (s : Server) (h : Header) (message : List ℕ) → answers send ≡ false
    → All (Known IsResponse P) (server_pdus o send s h message)
unfolding reply_header echo_header sent_header
others_known P o Nothing s h message e = tt
others_known P o (SendResponse f) s h message e = absurd (false≢true (sym e))
others_known P o (SendFault status) s h message e = (other_known IsResponse P o (reply_header 3 0 0 s) (status_bytes status) (eqb-false 3 2 refl), tt)
others_known P o Working s h message e = (other_known IsResponse P o (echo_header 4 0 s h) [] (eqb-false 4 2 refl), tt)
others_known P o Nocall s h message e = (other_known IsResponse P o (echo_header 5 0 s h) [] (eqb-false 5 2 refl), tt)
others_known P o (Fack serial count) s h message e = (other_known IsResponse P o (echo_header 9 _ s h) _ (eqb-false 9 2 refl), tt)
others_known P o (CancelAck n accepts) s h message e = (other_known IsResponse P o (echo_header 10 0 s h) _ (eqb-false 10 2 refl), tt)

-- A response that transmit sends is a fragment of the reply that is out.
module _ (s : Server) (standing : ℕ) (starts : List Started) (replies : List Replied) (message : List ℕ) (called : CalledStart s standing starts)
    (now : CurrentReply s standing replies)
    (activity : length s.activity ≡ 16) (boot : s.boot < 4294967296) (kept : sound s ≡ true) (row : is_replying s.state ≡ true)
    (lent : OfLastReply replies message) where
  out_is : (has_message s.outgoing ≡ true) × (s.outgoing.sent < s.outgoing.count)
  out_is =
      replying_told s.outgoing
      (subst (λ (x : State). outgoing_sound x s.outgoing ≡ true) (replying_state s.state row) (rules_told s kept).outgoing)

  -- The record's count is that of the reply,
  count_is : s.outgoing.count ≡ fragments (length now.reply.message)
  count_is = message_count_told s.outgoing out_is.0 ∙ ap fragments (sym now.size)

  -- so its next fragment is one of it,
  part-sent : PartOf now.reply.message (flags_of s.outgoing.count s.outgoing.sent) s.outgoing.sent (fragment_of message s.outgoing.sent)
  unfolding with_flag choose
  part-sent =
      record {
        below = rw (← count_is) out_is.1;
        last = flags-last s.outgoing.count s.outgoing.sent false out_is.1 ∙ ap (eqb (s.outgoing.sent + 1)) count_is;
        bytes = ap (λ (m : List ℕ). fragment_of m s.outgoing.sent) (now.message message lent);
      }

  -- and an idempotent call whose reply is one fragment has had only such replies.
  pub all_single : runs_again s.call.idempotent s.outgoing ≡ true → (r : Replied) → In r replies → r.ordinal ≡ standing → Single r.message
  unfolding runs_again
  all_single e r m n = by_reply (now.others r m n)
    where
      one : s.outgoing.count ≡ 1
      one = eqb-true s.outgoing.count 1 (both_true s.call.idempotent (eqb s.outgoing.count 1) e).1

      by_reply : (r ≡ now.reply) ⊎ Single r.message → Single r.message
      by_reply (inl same) = subst (λ (x : Replied). Single x.message) (sym same) (sym count_is ∙ one)
      by_reply (inr single) = single

  -- The header of the next response, with a serial.
  abbrev response_header : ℕ → Header
  response_header serial =
      sent_header 2 (flags_of s.outgoing.count s.outgoing.sent) serial s.activity s.boot s.number s.call s.outgoing.sent

  response_known : (serial : ℕ) → serial < 65536
      → Known IsResponse (Response replies) (pdu_of standing (datagram (response_header serial) (fragment_of message s.outgoing.sent)))
  unfolding sent_header
  response_known serial fits =
      same_known IsResponse (Response replies) standing (response_header serial) (fragment_of message s.outgoing.sent)
      (call_fits 2 _ serial s.activity s.boot s.number s.call s.outgoing.sent activity called.typed fits boot called.small
      (omega (arith, out_is.1, message_count_range s.outgoing out_is.0)))
      (omega arith) refl (fragment_most message s.outgoing.sent)
      (record { reply = now.reply; given = now.given; is = now.is; number = called.number; part = part-sent })

  -- So what a server that goes on with the call sends is a response of it.
  pub response-sent : (t : Server) → GoesOn s t standing replies → t.outgoing.count ≡ s.outgoing.count → t.outgoing.serial < 65536 → (h : Header)
      → All (Known IsResponse (Response replies)) (server_pdus standing (SendResponse s.outgoing.sent) t h (fragment_of message s.outgoing.sent))
  unfolding reply_header sent_header
  response-sent t g count fits h =
      let header : response_header t.outgoing.serial ≡ reply_header 2 (flags_of t.outgoing.count s.outgoing.sent) s.outgoing.sent t =
      rw (g.activity, g.boot, g.number, g.call, count) in (
        subst (λ (x : Header). Known IsResponse (Response replies) (pdu_of standing (datagram x (fragment_of message s.outgoing.sent)))) header
            (response_known t.outgoing.serial fits),
        tt,
      )

-- A notice other than "dispatch" dispatches nothing.
abbrev pub tells_dispatch : Notice → Bool
tells_dispatch Untold = false
tells_dispatch Last = false
tells_dispatch (Count count) = false
tells_dispatch (FaultNotice status) = false
tells_dispatch (Reject status) = false
tells_dispatch (Cause cause) = false
tells_dispatch Dispatch = true
tells_dispatch CancelTold = false

pub none_dispatched : (ds : List Dispatched) (notice : Notice) (d : Dispatched) → tells_dispatch notice ≡ false → dispatches_after ds notice d ≡ ds
unfolding dispatches_after
none_dispatched ds Untold d e = refl
none_dispatched ds Last d e = refl
none_dispatched ds (Count count) d e = refl
none_dispatched ds (FaultNotice status) d e = refl
none_dispatched ds (Reject status) d e = refl
none_dispatched ds (Cause cause) d e = refl
none_dispatched ds Dispatch d e = absurd (false≢true (sym e))
none_dispatched ds CancelTold d e = refl

-- A world whose server made a step by a plan that dispatches nothing.
pub planned : (w : World) (plan : Plan) (h : Header) (lent out slots : List ℕ) (of : Subject) → Inv w → tells_dispatch plan.notice ≡ false
    → ServerInv plan.machine of.standing slots w.books.starts w.books.dispatches w.books.replies → SentUuids plan.send plan.machine h
    → Short lent → length out ≡ pdu_size → All (Known IsResponse (Response w.books.replies)) (server_pdus of.ordinal plan.send plan.machine h lent)
    → Inv (server_step w (sending plan h lent out).outcome (sending plan h lent out).out slots of)
unfolding sending done
planned w plan h lent out slots of inv quiet server uuids short room responses =
    let same = none_dispatched w.books.dispatches plan.notice (dispatch_entry of plan.machine slots) quiet in
    record {
      client = inv.client;
      server = rw same server;
      calls = rw same inv.calls;
      requests = inv.requests;
      acks = inv.acks;
      asked = inv.asked;
      responses =
          sends_known (Known IsResponse (Response w.books.replies)) plan.send plan.machine h lent out w.server.sent of.ordinal uuids short room
          inv.responses responses;
      completed = inv.completed;
    }
