-- How often cancels are on the books, and which dispatch a run is of.
use Prim.Native.Nat.{ℕ, ◌+◌, ◌≤◌, ◌<◌}
use mathlib.Core.Bool.{Bool, true, false}
use mathlib.Core.List.{List, [], ◌∷◌, append_assoc}
use mathlib.Core.Logic.{inl}
use mathlib.Core.Path.{◌≡◌, refl, sym, ap, ◌∙◌}
use native.Mathlib.Omega.{arith}
use lib.Dec.{eqb}
use lib.ListN.{length}
use borrow.Author.Tests.{eq-eqb, eqb-true}
use Rattle.words.specs.Choice.{both}
use Rattle.words.proofs.Tests.{both_true}
use Rattle.history.specs.Lists.{In, and_then}
use Rattle.history.specs.World.{Dispatched, Cancelled, Heard}
use Rattle.history.specs.Steps.{last_dispatched}
use Rattle.history.specs.Cancels.{times_cancelled, times_heard, RunOf, AskedFor}
use Rattle.history.proofs.ListLaws.{counts, counts_not, counts_none}

-- One more cancel of a start counts once,
pub cancelled-same : (ks : List Cancelled) (k : Cancelled) (n : ℕ) → n ≡ k.ordinal → times_cancelled n (and_then ks k) ≡ times_cancelled n ks + 1
cancelled-same ks k n e = counts (λ x. eqb n x.ordinal) ks k (eq-eqb n k.ordinal e)

-- and a start that no cancel is of was not cancelled.
pub cancelled_none : (ks : List Cancelled) (n : ℕ) → ((k : Cancelled) → In k ks → k.ordinal ≡ n → ⊥) → times_cancelled n ks ≡ 0
cancelled_none ks n none = counts_none (λ x. eqb n x.ordinal) ks (λ k m e. none k m (sym (eqb-true n k.ordinal e)))

-- A cancel told is of a run and a number.
abbrev is_heard : ℕ → ℕ → Heard → Bool
is_heard run n h = both (eqb run h.run) (eqb n h.number)

heard_is : (run n : ℕ) (h : Heard) → is_heard run n h ≡ true → (run ≡ h.run) × (n ≡ h.number)
heard_is run n h e =
    let parts = both_true (eqb run h.run) (eqb n h.number) e in
    (eqb-true run h.run parts.0, eqb-true n h.number parts.1)

-- So a number above all that were told in its run is told once.
pub heard_once : (hs : List Heard) (h : Heard) → ((x : Heard) → In x hs → x.run ≡ h.run → x.number < h.number)
    → ((run n : ℕ) → times_heard run n hs ≤ 1) → (run n : ℕ) → times_heard run n (and_then hs h) ≤ 1
heard_once hs h above once run n = by_test (is_heard run n h) refl
  where
    none : is_heard run n h ≡ true → (x : Heard) → In x hs → is_heard run n x ≡ true → ⊥
    none e x m same =
        let new = heard_is run n h e in
        let old = heard_is run n x same in
        let r = new.0 in
        let k = new.1 in
        let i = old.0 in
        let j = old.1 in
        let less = above x m (sym old.0 ∙ new.0) in
        omega arith

    by_test : (t : Bool) → is_heard run n h ≡ t → times_heard run n (and_then hs h) ≤ 1
    by_test true e =
        let one = counts (is_heard run n) hs h e in
        let before = counts_none (is_heard run n) hs (none e) in
        omega arith
    by_test false e =
        let same = counts_not (is_heard run n) hs h e in
        let before = once run n in
        omega arith

-- The last dispatch is the run of that place.
pub last-run : (ds : List Dispatched) (d : Dispatched) → In d ds → RunOf ds (length ds) (last_dispatched ds)
last-run [] d m = absurd m
last-run (x ∷ []) d m = record { before = []; dispatch = x; after = []; split = refl; place = refl; same = refl }
last-run (x ∷ (y ∷ ds)) d m =
    let r = last-run (y ∷ ds) y (inl refl) in
    record {
      before = x ∷ r.before;
      dispatch = r.dispatch;
      after = r.after;
      split = ap (λ (l : List Dispatched). x ∷ l) r.split;
      place = let behind = r.place in omega arith;
      same = r.same;
    }

-- A run stays of its start when more are dispatched,
pub run_more : (ds : List Dispatched) (d : Dispatched) (run o : ℕ) → RunOf ds run o → RunOf (and_then ds d) run o
run_more ds d run o r = record {
  before = r.before;
  dispatch = r.dispatch;
  after = and_then r.after d;
  split = ap (λ (l : List Dispatched). and_then l d) r.split ∙ append_assoc r.before (r.dispatch ∷ r.after) (d ∷ []);
  place = r.place;
  same = r.same;
}

-- and a cancel told stays asked for when more is on the books.
pub asked_more : (ks more : List Cancelled) (ds later : List Dispatched) → ((k : Cancelled) → In k ks → In k more)
    → ((run o : ℕ) → RunOf ds run o → RunOf later run o) → (h : Heard) → AskedFor ks ds h → AskedFor more later h
asked_more ks more ds later grown runs h a = record {
  cancel = a.cancel;
  asked = grown a.cancel a.asked;
  ordinal = a.ordinal;
  number = a.number;
  ran = runs h.run h.ordinal a.ran;
}
