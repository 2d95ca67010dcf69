-- What is known of a datagram that takes a row.
use Prim.Native.Nat.{ℕ, ◌≤◌}
use mathlib.Core.Bool.{Bool, true, false, not, false≢true}
use mathlib.Core.List.{List}
use mathlib.Core.Logic.{inl, inr}
use mathlib.Core.Path.{◌≡◌, refl, sym, ap, subst, ◌∙◌}
use native.Mathlib.Omega.{arith}
use lib.Dec.{eqb}
use lib.ListN.{length}
use borrow.Author.Tests.{not-false, eq-eqb}
use Rattle.words.specs.Choice.{both}
use Rattle.words.specs.Same.{same}
use Rattle.words.specs.Sizes.{body_size, pdu_size, slots_size}
use Rattle.words.proofs.SameLaws.{same_equal, same_self}
use Rattle.words.proofs.Tests.{choose_true, choose_false, both_hold, either_false}
use Rattle.answers.specs.declared.Refusal.{Refusal}
use Rattle.answers.specs.declared.Refusal.TheVariants.{OldCall, NoRow, Repeated}
use Rattle.answers.specs.Answer.{Done, Refused}
use Rattle.answers.specs.Table.{first_of}
use Rattle.answers.proofs.TableLaws.{AllPassed, joined, all_behind, passed_parts}
use Rattle.facks.specs.Mask.{acknowledged_by}
use Rattle.facks.proofs.MaskLaws.{acknowledges_most}
use Rattle.fragments.specs.Fragment.{lent_right, is_last, wrong_fragment}
use Rattle.fragments.specs.Judgement.{contradicts}
use Rattle.fragments.specs.Put.{put_of}
use Rattle.fragments.proofs.FlagLaws.{lent_right_lem, put_can}
use Rattle.fragments.proofs.PutLaws.{CanPut}
use Rattle.incoming.specs.declared.Incoming.{Incoming}
use Rattle.incoming.specs.Slots.{cleared}
use Rattle.pdu.specs.declared.Header.{Header}
use Rattle.pdu.specs.Header.{body_of}
use Rattle.reader.specs.Reading.{read_refusals, reading}
use Rattle.reader.proofs.Readable.{read_answers, read_passed}
use Rattle.writer.proofs.RoundTrip.{body_short}
use Rattle.server.specs.declared.records.State.TheVariants.{Collect}
use Rattle.server.specs.declared.records.Server.{Server}
use Rattle.server.specs.records.States.{is_running}
use Rattle.server.specs.records.Rules.{sound}
use Rattle.server.specs.declared.judge.Order.{Order}
use Rattle.server.specs.declared.judge.Order.TheVariants.{Equal}
use Rattle.server.specs.declared.judge.Row.{Row}
use Rattle.server.specs.declared.judge.Row.TheVariants.{Reply as ReplyRow, TransmitMore, TransmitRepeatable, TransmitHeld, FaultRepeatable, FaultHeld, ResendData, ResendFault, Spend, Begin, Put, Working, Nocall, Rewind, RepeatFault, Acknowledge, HearCancel, AcceptCancel, DeclineCancel}
use Rattle.server.specs.judge.Verdict.{Verdict, Refuse, Go}
use Rattle.server.specs.judge.Rows.{says, order_for, request_put, arrival_cell}
use Rattle.server.specs.judge.Refusals.{is_request, is_malformed, puts, slots_for, is_held_already, same_call, is_other_call, is_contradiction, pdu_refusals, pdu_verdict, arrival_refusals, arrival_verdict}
use Rattle.server.proofs.TableLaws.{Begins, RowTells, Stops, row_tells, table_stops}
use Rattle.server.proofs.Judging.{CanBegin, CanCollect, CanTake, Judged, Takes, table_passed, second_fails}

-- What is known of a request that passed 12, 16 and 17.
pub record RequestPassed (s : Server) (h : Header) : Type 0 where
  pub numbered : wrong_fragment h.flags1 h.fragment ≡ false
  pub new : is_held_already s h ≡ false
  pub agrees : contradicts (slots_for (order_for s h) s.state s.incoming) h.fragment (is_last h.flags1) ≡ false
  pub called : order_for s h ≡ Equal → same_call s.call h ≡ true

-- A PDU of whose table no test holds.
module _ (s : Server) (h : Header) (little : Bool) (body : List ℕ)
    (passed : AllPassed (pdu_refusals s h little body (arrival_cell s h little body))) where
  -- A request is so,
  pub request_passed : h.kind ≡ 0 → RequestPassed s h
  unfolding pdu_refusals is_request is_contradiction is_other_call
  request_passed k =
      let typed : is_request h.kind ≡ true = ap is_request k in
      let alone = either_false _ _ (sym (choose_true (is_request h.kind) _ _ typed) ∙ passed.1.1.1.1.1.1.1.0) in
      record {
        numbered = second_fails (is_request h.kind) _ passed.1.1.0 typed;
        new = second_fails (is_request h.kind) _ (either_false _ _ passed.1.1.1.1.1.1.0).1 typed;
        agrees = alone.0;
        called = λ equal. not-false _ (subst (λ (order : Order). is_other_call order s.call h ≡ false) equal alone.1);
      }

  -- its fragment can be put where it is to be put,
  slot_free : h.kind ≡ 0 → (m : Incoming) → puts (order_for s h) s.state ≡ true
      → slots_for (order_for s h) s.state s.incoming ≡ m → CanPut m h.fragment (is_last h.flags1)
  unfolding is_held_already
  slot_free k m putting is =
      let r = request_passed k in
      subst (λ (x : Incoming). CanPut x h.fragment (is_last h.flags1)) is
      (put_can _ h.flags1 h.fragment r.numbered (second_fails (puts (order_for s h) s.state) _ r.new putting) r.agrees)

  -- a fack acknowledges at most the fragment count,
  pub fack_fits : h.kind ≡ 9 → acknowledged_by h.fragment ≤ s.outgoing.count
  unfolding pdu_refusals is_request is_contradiction
  fack_fits k =
      let other : is_request h.kind ≡ false = ap is_request k in
      acknowledges_most s.outgoing.count h.fragment
      (second_fails (eqb h.kind 9) _ (sym (choose_false (is_request h.kind) _ _ other) ∙ passed.1.1.1.1.1.1.1.0)
      (eq-eqb h.kind 9 k))

  -- the body is well formed,
  pub body_formed : is_malformed h.kind little body ≡ false
  unfolding pdu_refusals
  body_formed = passed.1.1.1.1.0

  -- and a row stands behind the table.
  pub row_stands : Takes (arrival_cell s h little body)
  unfolding pdu_refusals
  row_stands = by_verdict (arrival_cell s h little body) refl
    where
      stopped : (r : Refusal) → arrival_cell s h little body ≡ Refuse r → Stops h (Refuse r) → ⊥
      stopped r is (inl old) = false≢true (sym passed.1.1.1.0 ∙ ap (says OldCall) is ∙ old)
      stopped r is (inr (inl none)) = false≢true (sym passed.1.1.1.1.1.0 ∙ ap (says NoRow) is ∙ none)
      stopped r is (inr (inr (inl again))) =
          false≢true (sym (either_false _ _ passed.1.1.1.1.1.1.0).0 ∙ ap (says Repeated) is ∙ again)
      stopped r is (inr (inr (inr foreign))) = false≢true (sym foreign ∙ not-false _ passed.0)

      by_verdict : (v : Verdict) → arrival_cell s h little body ≡ v → Takes (arrival_cell s h little body)
      by_verdict (Refuse r) is = absurd (stopped r is (table_stops s h little body r is))
      by_verdict (Go row) is = record { row = row; is = is }

  -- What is known of its record then: a request's,
  module _ (short : length body ≤ body_size) where
    begin_can : h.kind ≡ 0 → Begins s h → CanBegin s h (request_put cleared h body)
    unfolding request_put put_of puts slots_for is_running
    begin_can k (inl newer) = record {
      begins = inl newer.0;
      idle = newer.1;
      can =
          slot_free k cleared (ap (λ (o : Order). puts o s.state) newer.0)
          (ap (λ (o : Order). slots_for o s.state s.incoming) newer.0);
      count = refl;
      complete = refl;
      short = omega arith;
    }
    begin_can k (inr again) = record {
      begins = inr (again.0, again.1, again.2, (request_passed k).called again.0);
      idle = ap is_running again.1;
      can = slot_free k cleared (λ i. puts (again.0 i) (again.1 i)) (λ i. slots_for (again.0 i) (again.1 i) s.incoming);
      count = refl;
      complete = refl;
      short = omega arith;
    }

    put_can_take : h.kind ≡ 0 → order_for s h ≡ Equal → s.state ≡ Collect
        → CanCollect s h (request_put s.incoming h body)
    unfolding request_put put_of puts slots_for
    put_can_take k equal state = record {
      collect = state;
      equal = equal;
      same = (request_passed k).called equal;
      can = slot_free k s.incoming (λ i. puts (equal i) (state i)) (λ i. slots_for (equal i) (state i) s.incoming);
      count = refl;
      complete = refl;
      short = omega arith;
    }

    -- and that of every row.
    pub row_can : (row : Row) → RowTells row s h little body → CanTake row s h
    row_can (ReplyRow n) told = absurd told
    row_can TransmitMore told = absurd told
    row_can TransmitRepeatable told = absurd told
    row_can TransmitHeld told = absurd told
    row_can (FaultRepeatable status) told = absurd told
    row_can (FaultHeld status) told = absurd told
    row_can (ResendData resends) told = absurd told
    row_can (ResendFault status resends) told = absurd told
    row_can Spend told = told.2
    row_can (Begin p) told = subst (CanBegin s h) (sym told.2) (begin_can told.0 told.1)
    row_can (Put p) told = subst (CanCollect s h) (sym told.3) (put_can_take told.0 told.1 told.2)
    row_can Working told = told.2
    row_can Nocall told = told.1
    row_can Rewind told = told.2
    row_can (RepeatFault status) told = told.2
    row_can (Acknowledge n) told = record {
      replied = told.2;
      fits = subst (λ (x : ℕ). x ≤ s.outgoing.count) (sym told.3) (fack_fits told.0);
    }
    row_can (HearCancel n) told = record { running = told.2; above = told.4 }
    row_can (AcceptCancel n) told = record { running = told.2; seen = told.4 }
    row_can (DeclineCancel n) told = record { busy = told.2; stopped = told.3 }

-- What is known of an arriving datagram that is taken.
pub record ArriveTaken (s : Server) (slots out : ℕ) (d : List ℕ) (row : Row) : Type 0 where
  pub room : slots ≡ slots_size
  pub buffer : out ≡ pdu_size
  pub read : (reading d).answer ≡ Done
  pub short : length (body_of d) ≤ body_size
  pub activity : s.activity ≡ (reading d).header.activity
  pub is : arrival_cell s (reading d).header (reading d).little (body_of d) ≡ Go row
  pub formed : is_malformed (reading d).header.kind (reading d).little (body_of d) ≡ false
  pub request : (reading d).header.kind ≡ 0 → RequestPassed s (reading d).header
  pub told : RowTells row s (reading d).header (reading d).little (body_of d)
  pub judged : Judged s (reading d).header row

pub arrive_taken : (s : Server) (slots out : ℕ) (d : List ℕ) (row : Row) → arrival_verdict s slots out d ≡ Go row
    → ArriveTaken s slots out d row
unfolding arrival_verdict arrival_refusals
arrive_taken s slots out d row e =
    let h = (reading d).header in
    let little = (reading d).little in
    let body = body_of d in
    let told = table_passed (arrival_refusals s slots out d) (arrival_cell s h little body) row e in
    let parts = passed_parts (read_refusals d) _ told.0.1.1 in
    let pdu = parts.1.1 in
    let lent = lent_right_lem slots out (not-false _ told.0.0) in
    let read = read_answers d ∙ all_behind Refused (read_refusals d) Done parts.0 in
    let short = body_short d read in
    let tells = row_tells s h little body row told.1 in
    record {
      room = lent.0;
      buffer = lent.1;
      read = read;
      short = short;
      activity = same_equal s.activity h.activity (not-false (same s.activity h.activity) parts.1.0);
      is = told.1;
      formed = body_formed s h little body pdu;
      request = request_passed s h little body pdu;
      told = tells;
      judged = record { kept = not-false (sound s) told.0.1.0; can = row_can s h little body pdu short row tells };
    }

-- A datagram that passes 1 to 9 is judged by the table of its PDU.
pub entered_judged : (s : Server) (slots out : ℕ) (d : List ℕ) → slots ≡ slots_size → out ≡ pdu_size → sound s ≡ true
    → (reading d).answer ≡ Done
    → s.activity ≡ (reading d).header.activity
    → arrival_verdict s slots out d ≡ pdu_verdict s (reading d).header (reading d).little (body_of d)
unfolding arrival_verdict arrival_refusals pdu_verdict first_of lent_right
entered_judged s slots out d room buffer kept read own =
    let h = (reading d).header in
    let row = arrival_cell s h (reading d).little (body_of d) in
    let lent = both_hold _ _ (eq-eqb slots slots_size room) (eq-eqb out pdu_size buffer) in
    let named = ap (same s.activity) (sym own) ∙ same_self s.activity in
    choose_false (not (both (eqb slots slots_size) (eqb out pdu_size))) _ _ (ap not lent)
    ∙ choose_false (not (sound s)) _ _ (ap not kept)
    ∙ joined Refuse (read_refusals d) _ row
    ∙ all_behind Refuse (read_refusals d) _ (read_passed d read)
    ∙ choose_false (not (same s.activity h.activity)) _ _ (ap not named)
