-- Of cancels: what a host is told and reads of them, that CANCEL stays armed, and that the client's cancel number
-- counts them.
use Prim.Native.Nat.{ℕ, ◌+◌, ◌<◌, ◌≤◌}
use mathlib.Core.Bool.{Bool, true, false, false≢true}
use mathlib.Core.List.{List, [], ◌∷◌}
use mathlib.Core.Logic.{◌⊎◌, inl, inr}
use mathlib.Core.Path.{◌≡◌, refl, sym, ap, subst, ◌∙◌}
use native.Mathlib.Omega.{arith}
use lib.Dec.{eqb}
use lib.ListN.{length, length-drop}
use borrow.Author.Tests.{eqb-true}
use Rattle.words.specs.Choice.{choose}
use Rattle.words.specs.Sizes.{header_size}
use Rattle.answers.specs.Answer.{Done}
use Rattle.bodies.specs.Cancel.{CancelReading, CancelAckReading, cancel_ack_reading}
use Rattle.bodies.proofs.CancelTrip.{cancel-read, cancel-ack-read}
use Rattle.calls.specs.declared.Notice.{Notice}
use Rattle.calls.specs.declared.Notice.TheVariants.{Nothing as Untold, Last, Count, Fault, Reject, Cause, Dispatch, Cancel}
use Rattle.pdu.specs.Header.{body_of}
use Rattle.reader.specs.Reading.{reading}
use Rattle.timers.specs.Timer.{Armed}
use Rattle.timers.proofs.TimerLaws.{off_has_none}
use Rattle.record_bytes.specs.Layout.{fields_in}
use Rattle.record_bytes.proofs.PartLaws.{uuid-part}
use Rattle.record_bytes.proofs.Keeping.{choice_by, choice_keeps}
use Rattle.client.specs.declared.records.State.{State as ClientState}
use Rattle.client.specs.declared.records.TimerKind.TheVariants.{Cancel as CancelKind}
use Rattle.client.proofs.Cancels.{cancel_ack_answers}
use Rattle.client_bytes.specs.Layout.{state_of as client_state, client_of, client_in}
use Rattle.server.proofs.CancelAnswers.{WellFormed, formed_read}
use Rattle.server.proofs.Cancels.{cancel_touches_nothing}
use Rattle.server.proofs.Hearing.{reply_deaf, transmit_deaf, fault_deaf, timer_deaf, only_cancel_heard}
use Rattle.server_bytes.specs.Layout.{server_of, server_in}
use Rattle.history.specs.Lists.{and_then}
use Rattle.history.specs.World.{Heard, SentPdu, World}
use Rattle.history.specs.Events.{Lent, Event, Start, ClientTransmit as TransmitOfClient, ClientArrive as ArriveOfClient, ClientTimer as TimerOfClient, ClientCancel as CancelOfClient, ServerArrive as ArriveOfServer, OfClient, OfServer}
use Rattle.history.specs.Steps.{bytes_lent, heard_after, cancel_of, of_arrival, heard_entry, happens, answer_to, notice_of, step, run}
use Rattle.history.specs.Dispatches.{runs}
use Rattle.history.specs.Timers.{OnClient, timer_in, names_cancel}
use Rattle.history.specs.Numbers.{client_calls}
use Rattle.history.specs.Cancels.{Answered, StaysArmed, CancelsTaken as Taken, Asked, CancelsSent as Sent, CancelsCounted, HeardAskedFor, HeardOnce, OwnCancel as ComesOwn, Hears}
use Rattle.morphelai.specs.Result.{notice_kind}
use Rattle.host_history.specs.Results.{notice_in}
use Rattle.host_history.specs.Hosts.{HostWorld, world_of, ServerCall, HostCall, ClientStart, ClientTransmit, ClientArrive, ClientTimer, ClientCancel, ServerArrive, ServerTransmit, ServerTimer, ServerReply, ServerFault, ToClient, ToServer, exported, server_seen, host_step}
use Rattle.host_history.specs.Meaning.{meant, HostFits, Keeps, Tells}
use Rattle.host_history.specs.HostReads.{NamesCancel, CancelTimer, ArmedWith, version_carried, cancel_carried}
use Rattle.host_history.specs.HostBooks.{CancelRead, CancelsRead}
use Rattle.host_history.specs.HostDemand.{CancelAnswered, CancelStays, CancelsTaken, CancelsSent, CancelNumberCounts, CancelsAsked, CancelsOnce, OwnCancel, CancelsTold}
use Rattle.host_history.proofs.Refusals.{refused_leaves}
use Rattle.host_history.proofs.Unchanged.{refused-same}
use Rattle.host_history.proofs.SameRun.{same_step, told}
use Rattle.host_history.proofs.BooksRead.{runs_there, client_told}
use Rattle.history.proofs.ClientNotices.{ClientTells}
use Rattle.host_history.proofs.TimersRead.{armed_told, armed_read}
use Rattle.host_history.proofs.Datagrams.{client_took, read_took, kind_there, activity_there, call_there, version_there, carried_there}
use Rattle.host_history.proofs.RunsRead.{state_runs}

-- Where the notice is "cancel" there is one more cancel told, else none.
module _ (before : List Heard) (heard : Heard) where
  heard_adds : (n : Notice) → n ≡ Cancel → heard_after before n heard ≡ and_then before heard
  unfolding heard_after
  heard_adds n e = ap (λ (m : Notice). heard_after before m heard) e

  none_heard : (n : Notice) → (n ≡ Cancel → ⊥) → heard_after before n heard ≡ before
  unfolding heard_after
  none_heard Untold other = refl
  none_heard Last other = refl
  none_heard (Count count) other = refl
  none_heard (Fault status) other = refl
  none_heard (Reject status) other = refl
  none_heard (Cause cause) other = refl
  none_heard Dispatch other = refl
  none_heard Cancel other = absurd (other refl)

untold-cancel : (n : Notice) → n ≡ Untold → n ≡ Cancel → ⊥
untold-cancel n untold cancel =
    let e : notice_kind Untold ≡ notice_kind Cancel = ap notice_kind (sym untold ∙ cancel) in
    omega (arith, e)

-- The number of a cancel that is well formed, and of a cancel_ack that was taken, is the one that it carries.
cancel_carried_lem : (p : SentPdu) → (reading p.bytes).answer ≡ Done → WellFormed p.bytes
    → cancel_of p ≡ cancel_carried p.bytes
cancel_carried_lem p done formed =
    ap (λ (r : CancelReading). r.number) (formed_read p.bytes formed) ∙ carried_there p.bytes done

ack_carried : (w : World) (p : SentPdu) (lent : Lent) (out : List ℕ)
    → answer_to w (OfClient (ArriveOfClient p lent out)) ≡ Done → (reading p.bytes).header.kind ≡ 10
    → (cancel_ack_reading (reading p.bytes).little (body_of p.bytes)).number ≡ cancel_carried p.bytes
unfolding answer_to happens
ack_carried w p lent out done typed =
    let slots = bytes_lent lent w.client.slots in
    let formed = (cancel_ack_answers w.client.machine p.bytes slots out done typed).0.formed in
    ap (λ (r : CancelAckReading). r.number) (cancel-ack-read _ (body_of p.bytes) formed).reading
    ∙ carried_there p.bytes (client_took w p lent out done)

-- A datagram of 88 bytes with version 0 has a well formed cancel.
well_formed : (s : List ℕ) → (reading s).answer ≡ Done → length s ≡ 88 → version_carried s ≡ 0 → WellFormed s
unfolding body_of
well_formed s done size version = record {
  size = omega (arith, length-drop header_size s, size);
  version = version_there s done ∙ version;
}

-- The call of an arrival is that arrival, and no other call is.
abbrev arrives : Event → Bool
arrives (OfClient (Start call n message)) = false
arrives (OfClient (TransmitOfClient message out)) = false
arrives (OfClient (ArriveOfClient p lent out)) = true
arrives (OfClient (TimerOfClient kind ticket out)) = false
arrives (OfClient (CancelOfClient out)) = false
arrives (OfServer e) = false

abbrev arrived_call : HostCall → Event → HostCall
arrived_call other (OfClient (Start call n message)) = other
arrived_call other (OfClient (TransmitOfClient message out)) = other
arrived_call other (OfClient (ArriveOfClient p lent out)) = ToClient (ClientArrive p lent out)
arrived_call other (OfClient (TimerOfClient kind ticket out)) = other
arrived_call other (OfClient (CancelOfClient out)) = other
arrived_call other (OfServer e) = other

abbrev is_arrival : List Event → Bool
is_arrival [] = false
is_arrival (e ∷ es) = arrives e

abbrev arrival_call : HostCall → List Event → HostCall
arrival_call other [] = other
arrival_call other (e ∷ es) = arrived_call other e

module _ (p : SentPdu) (lent : Lent) (out : List ℕ) where
  no_arrival : (es : List Event) → is_arrival es ≡ false → es ≡ OfClient (ArriveOfClient p lent out) ∷ [] → ⊥
  no_arrival es other is = false≢true (sym other ∙ ap is_arrival is)

  arrival-call : (call : HostCall) → meant call ≡ OfClient (ArriveOfClient p lent out) ∷ []
      → call ≡ ToClient (ClientArrive p lent out)
  unfolding meant
  arrival-call (ToClient (ClientStart idempotent object interface version operation n message)) is =
      absurd (no_arrival _ (choice_keeps (λ (es : List Event). is_arrival es ≡ false) _ _ _ refl refl) is)
  arrival-call (ToClient (ClientTransmit message lent_out)) is = absurd (no_arrival _ refl is)
  arrival-call (ToClient (ClientArrive q other lent_out)) is =
      ap (arrival_call (ToClient (ClientArrive q other lent_out))) is
  arrival-call (ToClient (ClientTimer kind ticket lent_out)) is =
      absurd (no_arrival _
      (choice_keeps (λ (es : List Event). is_arrival es ≡ false) _ _ _ refl
      (choice_keeps (λ (es : List Event). is_arrival es ≡ false) _ _ _ refl
      (choice_keeps (λ (es : List Event). is_arrival es ≡ false) _ _ _ refl refl))) is)
  arrival-call (ToClient (ClientCancel lent_out)) is = absurd (no_arrival _ refl is)
  arrival-call (ToServer (ServerArrive q other lent_out)) is = absurd (no_arrival _ refl is)
  arrival-call (ToServer (ServerTransmit message lent_out)) is = absurd (no_arrival _ refl is)
  arrival-call (ToServer (ServerTimer kind ticket lent_out)) is =
      absurd (no_arrival _ (choice_keeps (λ (es : List Event). is_arrival es ≡ false) _ _ _ refl refl) is)
  arrival-call (ToServer (ServerReply n message)) is = absurd (no_arrival _ refl is)
  arrival-call (ToServer (ServerFault status lent_out)) is = absurd (no_arrival _ refl is)

-- The state of a byte.
named_cancel : (n : ℕ) → NamesCancel n → names_cancel (client_state n) ≡ true
unfolding client_state choose
named_cancel n (inl one) = ap (λ (m : ℕ). names_cancel (client_state m)) one
named_cancel n (inr (inl two)) = ap (λ (m : ℕ). names_cancel (client_state m)) two
named_cancel n (inr (inr three)) = ap (λ (m : ℕ). names_cancel (client_state m)) three

called-byte : (n : ℕ) → (n ≡ 0 → ⊥) → client_calls (client_state n) ≡ true
unfolding client_state
called-byte n other =
    choice_by Called (eqb n 0) _ _ (λ (zero : eqb n 0 ≡ true). absurd (other (eqb-true n 0 zero)))
    (λ called.
    choice_keeps Called (eqb n 1) _ _ refl
    (choice_keeps Called (eqb n 2) _ _ refl
    (choice_keeps Called (eqb n 3) _ _ refl
    (choice_keeps Called (eqb n 4) _ _ refl
    (choice_keeps Called (eqb n 5) _ _ refl refl)))))
  where
    Called : ClientState → Type 0
    Called state = client_calls state ≡ true

module _ (h : HostWorld) (keeps : Keeps h) where
  -- No call of the server but an arrival tells "cancel".
  abbrev Deaf : List Event → Type 0
  Deaf [] = Unit {0}
  Deaf (e ∷ es) = notice_of (world_of h) e ≡ Untold

  deaf : (call : HostCall) (es : List Event) → Tells (world_of h) (exported h call) es → Deaf es
      → notice_in (exported h call).result ≡ Cancel → ⊥
  deaf call [] undone none = untold-cancel _ (refused_leaves h call undone).untold
  deaf call (e ∷ []) tells none = untold-cancel _ (tells.notice ∙ none)
  deaf call (e ∷ (f ∷ es)) never none = absurd never

  -- One that does is a cancel whose number is remembered then.
  arrival_told : (p : SentPdu) (lent : Lent) (out : List ℕ)
      → let call = ToServer (ServerArrive p lent out) in
      HostFits call → notice_in (exported h call).result ≡ Cancel → CancelRead h call (host_step h call)
  unfolding meant run step notice_of happens host_step server_in server_of fields_in
  arrival_told p lent out small cancel =
      let call = ToServer (ServerArrive p lent out) in
      let slots = bytes_lent lent h.server.slots in
      let s = (world_of h).server.machine in
      let t = server_seen h.server (ServerArrive p lent out) in
      let next : world_of (host_step h call) ≡ step (world_of h) (OfServer (ArriveOfServer p lent out)) =
      same_step h call keeps small in
      let known = only_cancel_heard s p.bytes slots out (sym (told h call keeps small).notice ∙ cancel) in
      let same = (cancel_touches_nothing s p.bytes slots out known.comes.typed).1 in
      let state : t.machine.state ≡ s.state = ap (λ (w : World). w.server.machine.state) next ∙ same.state in
      record {
        pdu = p;
        lent = lent;
        out = out;
        arrives = refl;
        cancel = sym (kind_there p.bytes known.comes.read) ∙ known.comes.typed;
        running = runs_there h.server (ap runs known.running);
        heard = heard_entry h.books.dispatches (of_arrival (world_of h) p t.answer);
        added = heard_adds h.books.heard _ t.notice cancel;
        run = refl;
        ordinal = refl;
        number = cancel_carried_lem p known.comes.read known.formed;
        seen =
            ap (λ (w : World). w.server.machine.seen) next ∙ known.seen
            ∙ sym (ap (λ (r : CancelReading). r.number) (formed_read p.bytes known.formed));
        still = runs_there (host_step h call).server (ap runs (state ∙ known.running));
      }

  -- Every other call of the server is such as tells none.
  server-cancel : (call : ServerCall) → HostFits (ToServer call)
      → notice_in (exported h (ToServer call)).result ≡ Cancel
      → CancelRead h (ToServer call) (host_step h (ToServer call))
  unfolding meant notice_of happens
  server-cancel (ServerArrive p lent out) small cancel = arrival_told p lent out small cancel
  server-cancel (ServerTransmit message out) small cancel =
      let call = ToServer (ServerTransmit message out) in
      absurd (deaf call (meant call) (told h call keeps small) (transmit_deaf _ message out).untold cancel)
  server-cancel (ServerTimer kind ticket out) small cancel =
      let call = ToServer (ServerTimer kind ticket out) in
      absurd (deaf call (meant call) (told h call keeps small)
      (choice_keeps Deaf _ _ _ (timer_deaf _ ticket out).untold tt) cancel)
  server-cancel (ServerReply n message) small cancel =
      let call = ToServer (ServerReply n message) in
      absurd (deaf call (meant call) (told h call keeps small) (reply_deaf _ n).untold cancel)
  server-cancel (ServerFault status out) small cancel =
      let call = ToServer (ServerFault status out) in
      absurd (deaf call (meant call) (told h call keeps small) (fault_deaf _ status out).untold cancel)

  pub cancels_read : CancelsRead h
  cancels_read = record { told = by_side; untold = stays }
    where
      by_side : (call : HostCall) → HostFits call → notice_in (exported h call).result ≡ Cancel
          → CancelRead h call (host_step h call)
      by_side (ToClient call) small cancel = absurd (subst (ClientTells _) cancel (client_told h keeps call small))
      by_side (ToServer call) small cancel = server-cancel call small cancel

      stays : (call : HostCall) → (notice_in (exported h call).result ≡ Cancel → ⊥)
          → (host_step h call).books.heard ≡ h.books.heard
      stays (ToClient call) other = unfold host_step in refl
      stays (ToServer call) other =
          let t = server_seen h.server call in
          unfold host_step in none_heard h.books.heard _ t.notice other

  -- CANCEL stays armed until its cancel is answered.
  pub stays_read : StaysArmed (world_of h) → CancelStays h
  unfolding StaysArmed CancelStays run client_in client_of fields_in
  stays_read stays call small ticket armed state =
      by_events (meant call) refl (same_step h call keeps small) (told h call keeps small)
    where
      there : names_cancel (world_of (host_step h call)).client.machine.state ≡ true
      there = unfold client_in client_of fields_in in named_cancel _ state

      answers : (e : Event) → meant call ≡ e ∷ [] → world_of (host_step h call) ≡ step (world_of h) e → Tells (world_of h) (exported h call) (e ∷ [])
          → Answered (world_of h) e → CancelAnswered h call
      answers e is next tells a =
          let w = world_of h in
          let done : answer_to w (OfClient (ArriveOfClient a.pdu a.lent a.out)) ≡ Done =
          sym (ap (answer_to w) a.is) ∙ a.done in
          let took = client_took w a.pdu a.lent a.out done in
          record {
            pdu = a.pdu;
            lent = a.lent;
            out = a.out;
            arrives =
                arrival-call a.pdu a.lent a.out call (is ∙ ap (λ (x : Event). x ∷ []) a.is);
            taken = tells.answer ∙ a.done;
            cancel-ack = sym (kind_there a.pdu.bytes took) ∙ a.kind;
            call-number = sym (call_there a.pdu.bytes took) ∙ a.call;
            number = sym (ack_carried w a.pdu a.lent a.out done a.kind) ∙ a.number;
            disarmed =
                λ other is.
                off_has_none other
                (sym a.disarmed ∙ sym (ap (λ (v : World). timer_in v (OnClient CancelKind)) next)
                ∙ armed_told (host_step h call) CancelTimer other is);
          }

      by_answer : (e : Event) → meant call ≡ e ∷ [] → world_of (host_step h call) ≡ step (world_of h) e
          → Tells (world_of h) (exported h call) (e ∷ [])
          → Answered (world_of h) e ⊎ (timer_in (step (world_of h) e) (OnClient CancelKind) ≡ Armed ticket)
          → CancelAnswered h call ⊎ ArmedWith (host_step h call) CancelTimer ticket
      by_answer e is next tells (inl a) = inl (answers e is next tells a)
      by_answer e is next tells (inr still) =
          inr (armed_read (host_step h call) CancelTimer ticket
          (subst (λ (w : World). timer_in w (OnClient CancelKind) ≡ Armed ticket) (sym next) still))

      by_events : (es : List Event) → meant call ≡ es → world_of (host_step h call) ≡ run (world_of h) es
          → Tells (world_of h) (exported h call) es
          → CancelAnswered h call ⊎ ArmedWith (host_step h call) CancelTimer ticket
      by_events [] is same undone =
          inr (subst (λ (k : HostWorld). ArmedWith k CancelTimer ticket) (sym (refused-same h call undone)) armed)
      by_events (e ∷ []) is same tells =
          by_answer e is same tells
          (stays e ticket (armed_told h CancelTimer ticket armed)
          (subst (λ (w : World). names_cancel w.client.machine.state ≡ true) same there))
      by_events (e ∷ (f ∷ es)) is same never = absurd never

  -- A cancel of an active call is taken,
  pub taken_read : Taken (world_of h) → CancelsTaken h
  unfolding Taken CancelsTaken meant client_in client_of fields_in
  taken_read taken out small state room number ticket =
      (told h (ToClient (ClientCancel out)) keeps small).answer ∙ taken out (named_cancel _ state) room number ticket

  -- and goes out.
  pub sent-read : Sent (world_of h) → CancelsSent h
  unfolding Sent CancelsSent meant run timer_in client_in client_of fields_in
  sent-read sent out small done =
      let call = ToClient (ClientCancel out) in
      let next : world_of (host_step h call) ≡ step (world_of h) (OfClient (CancelOfClient out)) =
      same_step h call keeps small in
      let a : Asked (world_of h) (world_of (host_step h call)).client =
      subst (λ (v : World). Asked (world_of h) v.client) (sym next)
      (sent out (sym (told h call keeps small).answer ∙ done)) in
      let s = a.pdu.bytes in
      let read = cancel-read (reading s).little (body_of s) a.formed in
      record {
        ticket = a.ticket;
        armed = armed_read (host_step h call) CancelTimer a.ticket a.armed;
        pdu = a.pdu;
        sent = a.sent;
        ordinal = a.ordinal;
        cancel = sym (kind_there s a.read) ∙ a.kind;
        call = sym (call_there s a.read) ∙ a.call;
        version = sym (version_there s a.read) ∙ read.version;
        number =
            sym (cancel_carried_lem a.pdu a.read (record { size = read.size; version = read.version })) ∙ a.number;
      }

  -- The client's cancel number counts the cancels of its last start.
  pub counted-read : CancelsCounted (world_of h) → CancelNumberCounts h
  unfolding CancelsCounted CancelNumberCounts client_in client_of fields_in
  counted-read counted other = counted (called-byte _ other)

  -- A cancel of the server's call is one in the theorem's world,
  own_read : (p : SentPdu) (lent : Lent) (out : List ℕ) → OwnCancel h p lent out → ComesOwn (world_of h) p lent out
  unfolding server_in server_of fields_in
  own_read p lent out own =
      let s = p.bytes in
      let took = read_took s own.header own.read in
      let b = h.server.machine in
      let within : 96 + 16 ≤ length b = omega (arith, keeps.server.size) in
      record {
        slotted = own.slotted;
        room = own.room;
        read = took;
        kind = kind_there s took ∙ own.cancel;
        activity = activity_there s took ∙ own.activity ∙ sym (uuid-part b 96 within);
        call = call_there s took ∙ own.call;
        formed =
            ap (λ (r : CancelReading). r.answer)
            (formed_read s (well_formed s took own.size own.version));
      }

  -- and one that comes in time is told.
  pub hears_read : Hears (world_of h) → CancelsTold h
  unfolding Hears CancelsTold meant
  hears_read hears p lent out small state own above highest =
      let tells = told h (ToServer (ServerArrive p lent out)) keeps small in
      let took = read_took p.bytes own.header own.read in
      let number = sym (cancel_carried_lem p took (well_formed p.bytes took own.size own.version)) in
      let known =
      hears p lent out (state_runs h state) (own_read p lent out own) (subst (λ (n : ℕ). 0 < n) number above)
      (λ heard in-books here. subst (λ (n : ℕ). heard.number < n) number (highest heard in-books here)) in
      (tells.answer ∙ known.0, tells.notice ∙ known.1)

-- The cancels told are those of the theorem's world, so they were asked for, and each is told once in a run.
pub asked_read : (h : HostWorld) → HeardAskedFor (world_of h) → CancelsAsked h
unfolding HeardAskedFor CancelsAsked
asked_read h asked = asked

pub once_read : (h : HostWorld) → HeardOnce (world_of h) → CancelsOnce h
unfolding HeardOnce CancelsOnce
once_read h once = once
