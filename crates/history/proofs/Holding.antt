-- What a receiver holds of one message. Of the proofs of this crate this one alone knows the slots, the sizes of the slot
-- buffer and of a fragment, and in which slot a fragment lies.
use Prim.Native.Nat.{ℕ, zero, suc, ◌+◌, ◌*◌, ◌<◌, ◌≤◌}
use mathlib.Core.Bool.{Bool, true, false, false≢true, true≢false}
use mathlib.Core.List.{List, [], ◌++◌}
use mathlib.Core.Logic.{◌⊎◌, inl, inr}
use mathlib.Core.Path.{◌≡◌, refl, sym, ap, subst, ◌∙◌}
use native.Mathlib.Omega.{arith}
use lib.Dec.{eqb}
use lib.ListN.{length, drop, take-append-drop, get_or}
use borrow.Author.Tests.{eqb-true, eqb-false, eq-eqb, ltb-true, lt-ltb, le-ltb}
use Rattle.words.specs.Choice.{choose, both, either}
use Rattle.words.specs.Sizes.{body_size, window_size, slots_size}
use Rattle.words.proofs.Tests.{either_false}
use Rattle.flags.specs.Flags.{last_fragment, fragment, idempotent, has_flag, with_flag}
use Rattle.incoming.specs.declared.Slot.{Slot}
use Rattle.incoming.specs.Last.{Last, Unknown, At}
use Rattle.incoming.specs.declared.Incoming.{Incoming}
use Rattle.incoming.specs.Slots.{missing, window, cleared, all_to, last_sound, sound, ready, contiguous, complete, last_with, stored}
use Rattle.incoming.proofs.SlotLaws.{sound_all}
use Rattle.incoming.proofs.RuleLaws.{kept_by, sound_by, ready_held}
use Rattle.outgoing.specs.Message.{fragments, fragment_of, flags_of}
use Rattle.outgoing.proofs.OutgoingLaws.{fragments_reach, fragment_most}
use Rattle.fragments.specs.Joined.{Leads}
use Rattle.fragments.specs.Judgement.{held, any_held, held_above, above_last, other_last, last_below_held, contradicts}
use Rattle.fragments.specs.Slots.{bytes_of, filled}
use Rattle.fragments.proofs.BufferLaws.{handed_below, joined, joined_front, Carries, filled_here, filled_other, joined_whole}
use Rattle.fragments.proofs.PutLaws.{none_held, filled-length, CanPut, stored-slot-same, stored_slot_other, stored-held, stored_held_other, held_told, none_above}
use Rattle.fragments.specs.Fragment.{is_last}

-- The sizes: a slot buffer, the body of a PDU.
abbrev pub Buffer : List ℕ → Type 0
Buffer slots = length slots ≡ slots_size

abbrev pub Short : List ℕ → Type 0
Short body = length body ≤ body_size

-- The slot of a fragment: that of its number.
abbrev slot_of : ℕ → ℕ
slot_of f = f

abbrev slot_at : Incoming → ℕ → Slot
slot_at m f = get_or m.slots (slot_of f) missing

-- No fragment is held.
abbrev pub Unheld : Incoming → Type 0
Unheld m = (f : ℕ) → held m f ≡ false

-- A fragment of a message: one of its numbers, marked last where it is the last, with its bytes.
pub record PartOf (message : List ℕ) (flags1 f : ℕ) (body : List ℕ) : Type 0 where
  pub below : f < fragments (length message)
  pub last : is_last flags1 ≡ eqb (f + 1) (fragments (length message))
  pub bytes : body ≡ fragment_of message f

-- All that is held, in a slot buffer, is of the message; the last is known exactly where it is held.
pub record Holding (m : Incoming) (slots message : List ℕ) : Type 0 where
  pub buffer : Buffer slots
  pub carries : Carries m slots message
  pub below : (f : ℕ) → held m f ≡ true → f < fragments (length message)
  pub last : (k : ℕ) → m.last ≡ At k → k + 1 ≡ fragments (length message)
  pub known : (k : ℕ) → m.last ≡ At k → held m k ≡ true
  pub end : (k : ℕ) → k + 1 ≡ fragments (length message) → held m k ≡ true → m.last ≡ At k

-- Nothing is held and no last is known.
pub record Empty (m : Incoming) : Type 0 where
  pub none : Unheld m
  pub last : m.last ≡ Unknown

-- Nothing is held where no slot is.
pub none_unheld : (m : Incoming) → any_held m.slots ≡ false → Unheld m
unfolding held
none_unheld m none f = none_held (window m) f none

-- It keeps the rules of what is held.
pub none_sound : (m : Incoming) → length m.slots ≡ window_size → last_sound m.last ≡ true
    → any_held m.slots ≡ false → sound m ≡ true
none_sound m long last none =
    sound_by m (record {
      slotted = long;
      last = last;
      slots =
          sound_all m.last 0 (window m) missing
          (λ g below h. absurd (false≢true (sym (none_held (window m) g none) ∙ h)));
    })

-- So it is in a cleared record.
pub cleared-empty : Empty cleared
unfolding cleared either choose
cleared-empty = record { none = none_unheld cleared refl; last = refl }

-- Where nothing is held, none is contiguous,
pub unheld_none : (m : Incoming) → Unheld m → contiguous m ≡ 0
unfolding contiguous held
unheld_none m none = by_count (ready m) refl
  where
    by_count : (n : ℕ) → ready m ≡ n → ready m ≡ 0
    by_count zero k = k
    by_count (suc n) k = absurd (false≢true (sym (none 0) ∙ ready_held m 0 (omega (arith, k))))

-- not all is held,
pub unheld_unfinished : (m : Incoming) → Unheld m → complete m ≡ false
unfolding complete
unheld_unfinished m none = by_last m.last
  where
    by_last : (l : Last) → all_to l (contiguous m) ≡ false
    by_last Unknown = refl
    by_last (At k) = le-ltb k (contiguous m) (omega (arith, unheld_none m none))

-- and nothing is joined.
pub unheld_joined : (m : Incoming) (slots : List ℕ) → Unheld m → joined m slots ≡ []
unfolding joined handed_below
unheld_joined m slots none = rw (unheld_none m none)

-- An unknown last is at no number.
abbrev is_known : Last → Bool
is_known Unknown = false
is_known (At k) = true

not_known : (l : Last) (k : ℕ) → l ≡ Unknown → l ≡ At k → ⊥
not_known l k u e = false≢true (sym (ap is_known u) ∙ ap is_known e)

-- The number of a known last.
abbrev last_or : Last → ℕ
last_or Unknown = 0
last_or (At k) = k

-- Where nothing is held, it is of any message.
pub empty-holding : (m : Incoming) (slots message : List ℕ) → Buffer slots → Empty m → Holding m slots message
unfolding held
empty-holding m slots message buffer e = record {
  buffer = buffer;
  carries = λ f h. absurd (false≢true (sym (e.none f) ∙ h));
  below = λ f h. absurd (false≢true (sym (e.none f) ∙ h));
  last = λ k h. absurd (not_known m.last k e.last h);
  known = λ k h. absurd (not_known m.last k e.last h);
  end = λ k n h. absurd (false≢true (sym (e.none k) ∙ h));
}

-- A held fragment of a sound record is at most 1,392 long.
held_short : (m : Incoming) (g : ℕ) → sound m ≡ true → (slot_at m g).held ≡ true → (slot_at m g).length ≤ body_size
unfolding held
held_short m g kept h = (held_told m g kept h).0

-- A put of a fragment of the message that may be put.
module _ (m : Incoming) (slots message : List ℕ) (flags1 f : ℕ) (body : List ℕ) (holds : Holding m slots message)
    (kept : sound m ≡ true) (part : PartOf message flags1 f body)
    (can : CanPut m f (is_last flags1)) where
  short : Short body
  short = rw part.bytes (fragment_most message f)

  number : f < window_size
  number = omega (arith, can.number)

  here : f < length m.slots
  here = omega (arith, can.number, (kept_by m kept).slotted)

  put_carries : Carries (stored m f (length body) (is_last flags1)) (filled f body slots) message
  put_carries g h = by_number (eqb g f) refl
    where
      by_number : (t : Bool) → eqb g f ≡ t → bytes_of (stored m f (length body) (is_last flags1)).slots g (filled f body slots) ≡ fragment_of message g
      by_number true e =
          let same : g ≡ f = eqb-true g f e in
          rw (same, stored-slot-same m f (length body) (is_last flags1) here)
          (filled_here f body slots holds.buffer short number ∙ part.bytes)
      by_number false e =
          let apart = eqb-false g f e in
          let other = stored_slot_other m f (length body) (is_last flags1) g apart in
          let before : (slot_at m g).held ≡ true = sym (ap (λ (s : Slot). s.held) other) ∙ h in
          rw other
          (filled_other f body slots holds.buffer short number g (slot_at m g).length apart (held_short m g kept before) ∙ holds.carries g before)

  put_below : (g : ℕ) → held (stored m f (length body) (is_last flags1)) g ≡ true → g < fragments (length message)
  put_below g h = by_number (eqb g f) refl
    where
      by_number : (t : Bool) → eqb g f ≡ t → g < fragments (length message)
      by_number true e = rw (eqb-true g f e) part.below
      by_number false e = holds.below g (sym (stored_held_other m f (length body) (is_last flags1) g (eqb-false g f e)) ∙ h)

  -- What is known of the last after the put: it is the fragment where that is the last, else as before.
  put_last : (t : Bool) → is_last flags1 ≡ t → (k : ℕ) → last_with m.last f t ≡ At k → (k + 1 ≡ fragments (length message)) × (held (stored m f (length body) (is_last flags1)) k ≡ true)
  unfolding last_with choose
  put_last true e k h =
      let same : f ≡ k = ap last_or h in
      rw (← same) (
        eqb-true (f + 1) (fragments (length message)) (sym part.last ∙ e),
        stored-held m f (length body) (is_last flags1) kept can,
      )
  put_last false e k h =
      let end = holds.last k h in
      let apart : k ≡ f → ⊥ = λ (same : k ≡ f).
      eqb-false (f + 1) (fragments (length message)) (sym part.last ∙ e) (ap (λ (j : ℕ). j + 1) (sym same) ∙ end) in
      (end, stored_held_other m f (length body) (is_last flags1) k apart ∙ holds.known k h)

  put_end : (t : Bool) → is_last flags1 ≡ t → (k : ℕ) → k + 1 ≡ fragments (length message)
      → held (stored m f (length body) (is_last flags1)) k ≡ true → last_with m.last f t ≡ At k
  unfolding last_with choose
  put_end true e k n h =
      let end = eqb-true (f + 1) (fragments (length message)) (sym part.last ∙ e) in
      let same : f ≡ k = omega arith in
      ap At same
  put_end false e k n h =
      let apart : k ≡ f → ⊥ = λ (same : k ≡ f).
      eqb-false (f + 1) (fragments (length message)) (sym part.last ∙ e) (ap (λ (j : ℕ). j + 1) (sym same) ∙ n) in
      holds.end k n (sym (stored_held_other m f (length body) (is_last flags1) k apart) ∙ h)

  -- After it all that is held is of the message.
  pub put-holding : Holding (stored m f (length body) (is_last flags1)) (filled f body slots) message
  unfolding stored
  put-holding = record {
    buffer = filled-length f body slots ∙ holds.buffer;
    carries = put_carries;
    below = put_below;
    last = λ k h. (put_last (is_last flags1) refl k h).0;
    known = λ k h. (put_last (is_last flags1) refl k h).1;
    end = put_end (is_last flags1) refl;
  }

-- What is handed up is a leading part of the message,
pub holding_leads : (m : Incoming) (slots message : List ℕ) → Holding m slots message → sound m ≡ true → Leads (joined m slots) message
holding_leads m slots message holds kept =
    let front = joined_front m slots message kept holds.buffer holds.carries in
    let end = body_size * contiguous m in
    record { rest = drop end message; whole = sym (take-append-drop end message) ∙ ap (λ (l : List ℕ). l ++ drop end message) (sym front) }

-- and where all to the last is held, the whole of it.
pub holding_whole : (m : Incoming) (slots message : List ℕ) → Holding m slots message → sound m ≡ true → complete m ≡ true
    → joined m slots ≡ message
unfolding complete
holding_whole m slots message holds kept all = by_last m.last refl all
  where
    by_last : (l : Last) → m.last ≡ l → all_to l (contiguous m) ≡ true → joined m slots ≡ message
    by_last Unknown e h = absurd (false≢true h)
    by_last (At k) e h =
        let end = holds.last k e in
        let below : k < contiguous m = ltb-true k (contiguous m) h in
        let reach = fragments_reach message in
        joined_whole m slots message kept holds.buffer holds.carries (omega arith)

-- A message of one fragment.
abbrev pub Single : List ℕ → Type 0
Single message = fragments (length message) ≡ 1

-- What is held of a one-fragment message is its fragment 0, with the last known there: nothing more can be put.
module _ (m : Incoming) (slots message : List ℕ) (holds : Holding m slots message) where
  -- Where fragment 0 of it is missing, nothing is held.
  single_empty : Single message → held m 0 ≡ false → Empty m
  single_empty one new = record { none = none; last = unknown m.last refl }
    where
      none : (f : ℕ) → held m f ≡ false
      none f = by_held (held m f) refl
        where
          by_held : (t : Bool) → held m f ≡ t → t ≡ false
          by_held true e =
              let below = holds.below f e in
              let zero_is : f ≡ 0 = omega (arith, one) in
              absurd (false≢true (sym new ∙ ap (held m) (sym zero_is) ∙ e))
          by_held false e = refl

      unknown : (l : Last) → m.last ≡ l → l ≡ Unknown
      unknown Unknown e = refl
      unknown (At k) e = absurd (false≢true (sym (none k) ∙ holds.known k e))

  -- So a fragment that may be put comes to nothing held.
  single_held : Single message → (f : ℕ) (last : Bool) → CanPut m f last → Empty m
  unfolding contradicts above_last
  single_held one f last can = by_held (held m 0) refl
    where
      by_held : (t : Bool) → held m 0 ≡ t → Empty m
      by_held false e = single_empty one e
      by_held true e = absurd (by_number (eqb f 0) refl)
        where
          known : m.last ≡ At 0
          known = holds.end 0 (sym one) e

          by_number : (t : Bool) → eqb f 0 ≡ t → ⊥
          by_number true z = false≢true (sym can.new ∙ ap (held m) (eqb-true f 0 z) ∙ e)
          by_number false z =
              let apart = eqb-false f 0 z in
              let above : above_last m.last f ≡ true = ap (λ (l : Last). above_last l f) known ∙ lt-ltb 0 f (omega arith) in
              true≢false (sym above ∙ (either_false (above_last m.last f) _ can.fits).0)

  -- A last fragment 0 that may be put comes to nothing held.
  first-last : CanPut m 0 true → Empty m
  unfolding contradicts last_below_held both choose
  first-last can = record { none = none; last = unknown m.last refl }
    where
      above : held_above m 0 ≡ false
      above = (either_false (other_last m.last 0 true) _ (either_false (above_last m.last 0) _ can.fits).1).1

      none : (f : ℕ) → held m f ≡ false
      none f = by_held (held m f) refl
        where
          by_held : (t : Bool) → held m f ≡ t → t ≡ false
          by_held true e =
              let most : f ≤ 0 = none_above m 0 f above e in
              let zero_is : f ≡ 0 = omega arith in
              absurd (false≢true (sym can.new ∙ ap (held m) (sym zero_is) ∙ e))
          by_held false e = refl

      unknown : (l : Last) → m.last ≡ l → l ≡ Unknown
      unknown Unknown e = refl
      unknown (At k) e = absurd (false≢true (sym (none k) ∙ holds.known k e))

-- Of two messages of which one has a single fragment: where a fragment of the other may be put, nothing was held.
pub other_empty : (m : Incoming) (slots message other : List ℕ) (flags1 f : ℕ) (body : List ℕ) → Holding m slots message
    → PartOf other flags1 f body → CanPut m f (is_last flags1) → Single message ⊎ Single other → Empty m
other_empty m slots message other flags1 f body holds part can (inl one) =
    single_held m slots message holds one f (is_last flags1) can
other_empty m slots message other flags1 f body holds part can (inr one) =
    let zero_is : f ≡ 0 = omega (arith, one, part.below) in
    let ends : is_last flags1 ≡ true = part.last ∙ eq-eqb (f + 1) (fragments (length other)) (omega (arith, one)) in
    first-last m slots message holds
    (subst (λ (t : Bool). CanPut m 0 t) ends (subst (λ (k : ℕ). CanPut m k (is_last flags1)) zero_is can))

-- The flags of a fragment, with the idempotent bit or without, mark the last and no other.
pub flags-last : (count f : ℕ) (mark : Bool) → f < count → is_last (with_flag idempotent mark (flags_of count f)) ≡ eqb (f + 1) count
unfolding is_last with_flag flags_of has_flag either choose
flags-last count f mark below = by_tests (eqb count 1) (eqb (f + 1) count) refl refl mark
  where
    by_tests : (one last : Bool) → eqb count 1 ≡ one → eqb (f + 1) count ≡ last → (t : Bool)
        → is_last (with_flag idempotent t (choose one 0 (with_flag last_fragment last fragment))) ≡ last
    by_tests true true p q true = refl
    by_tests true true p q false = refl
    by_tests true false p q t =
        let single : count ≡ 1 = eqb-true count 1 p in
        absurd (eqb-false (f + 1) count q (omega arith))
    by_tests false true p q true = refl
    by_tests false true p q false = refl
    by_tests false false p q true = refl
    by_tests false false p q false = refl

-- The idempotent bit of a fragment is the call's mark.
pub flags-mark : (count f : ℕ) (mark : Bool) → has_flag idempotent (with_flag idempotent mark (flags_of count f)) ≡ mark
unfolding with_flag flags_of has_flag choose
flags-mark count f mark = by_tests (eqb count 1) (eqb (f + 1) count) mark
  where
    by_tests : (one last t : Bool) → has_flag idempotent (with_flag idempotent t (choose one 0 (with_flag last_fragment last fragment))) ≡ t
    by_tests true last true = refl
    by_tests true last false = refl
    by_tests false true true = refl
    by_tests false true false = refl
    by_tests false false true = refl
    by_tests false false false = refl
