-- What a host reads by parts is what its side hands up, which is what the claim speaks of.
use Prim.Native.Nat.{ℕ, zero, suc, ◌*◌, ◌≤◌}
use mathlib.Core.Bool.{Bool, true, false}
use mathlib.Core.List.{List, [], ◌∷◌, ◌++◌, append-nil}
use mathlib.Core.Path.{◌≡◌, refl, ap, ◌∙◌}
use native.Mathlib.Omega.{arith}
use lib.Dec.{eqb, ltb, leb}
use lib.ListN.{length, take, drop, get_or}
use borrow.Author.Tests.{eq-eqb, le-ltb, leb-true, leb-false}
use Rattle.words.specs.Choice.{choose, both}
use Rattle.words.specs.Sizes.{body_size, window_size, slots_size}
use Rattle.words.proofs.Tests.{choose_true, choose_false}
use Rattle.incoming.specs.declared.Incoming.{Incoming}
use Rattle.incoming.specs.Slots.{missing, sound, contiguous}
use Rattle.incoming.proofs.SlotLaws.{count_most}
use Rattle.fragments.specs.Slots.{stretch, bytes_of, is_handed_up, handed_up}
use Rattle.fragments.specs.Joined.{part_of, parts_below, parts}
use Rattle.record_bytes.proofs.Keeping.{choice_keeps}
use Rattle.client.specs.records.Rules.{sound as client_sound}
use Rattle.client.specs.HandUp.{hands_up as client_hands_up}
use Rattle.client.specs.Machine.{handed_up_of as client_handed_up}
use Rattle.client_bytes.specs.Layout.{client_in}
use Rattle.client_bytes.proofs.RoundTrip.{client_fits}
use Rattle.server.specs.records.Rules.{sound as server_sound}
use Rattle.server.specs.HandUp.{hands_up as server_hands_up}
use Rattle.server.specs.Machine.{handed_up_of as server_handed_up}
use Rattle.server_bytes.specs.Layout.{server_in}
use Rattle.server_bytes.proofs.RoundTrip.{server_fits}
use Rattle.morphelai.specs.Export.{sized}
use Rattle.morphelai.specs.ClientDoor.{client_part}
use Rattle.morphelai.specs.ServerDoor.{server_part}
use Rattle.host_history.specs.Hosts.{HostWorld, world_of}
use Rattle.host_history.specs.Meaning.{Keeps}
use Rattle.host_history.specs.HandedUp.{read_below, client_parts, server_parts}

-- A run of bytes is as many of them as it has.
take_own : (n : ℕ) (s : List ℕ) → take (length (take n s)) s ≡ take n s
take_own zero s = refl
take_own (suc n) [] = refl
take_own (suc n) (b ∷ bs) = ap (λ (rest : List ℕ). b ∷ rest) (take_own n bs)

-- The part told of is the part handed back.
part-read : (kept : Bool) (m : Incoming) (f : ℕ) (slots : List ℕ)
    → stretch (length (part_of kept m f slots)) (body_size * f) slots ≡ part_of kept m f slots
unfolding part_of handed_up
part-read kept m f slots =
    choice_keeps (λ (part : List ℕ). stretch (length part) (body_size * f) slots ≡ part) kept _ []
    (choice_keeps (λ (part : List ℕ). stretch (length part) (body_size * f) slots ≡ part) (is_handed_up m f (length slots)) _
    []
    (take_own (get_or m.slots f missing).length (drop (body_size * f) slots)) refl)
    refl

parts-read : (kept : Bool) (m : Incoming) (slots : List ℕ) (n : ℕ)
    → read_below (λ (f : ℕ). length (part_of kept m f slots)) slots n ≡ parts_below kept m slots n
unfolding read_below parts_below
parts-read kept m slots zero = refl
parts-read kept m slots (suc n) = λ i. parts-read kept m slots n i ++ part-read kept m n slots i

-- There is none from the contiguous count on,
module _ (kept : Bool) (m : Incoming) (slots : List ℕ) where
  none_above : (f : ℕ) → contiguous m ≤ f → part_of kept m f slots ≡ []
  unfolding part_of handed_up is_handed_up both
  none_above f above =
      let low : ltb f (contiguous m) ≡ false = le-ltb f (contiguous m) above in
      let unheld : is_handed_up m f (length slots) ≡ false =
      choice_keeps (λ (t : Bool). t ≡ false) (eqb (length slots) slots_size) _ false
      (choice_keeps (λ (t : Bool). t ≡ false) (sound m) _ false low refl) refl in
      choice_keeps (λ (part : List ℕ). part ≡ []) kept _ []
      (choose_false (is_handed_up m f (length slots)) (bytes_of m.slots f slots) [] unheld) refl

  -- so further numbers add nothing.
  one_more_lem : (n : ℕ) (t : Bool) → leb (contiguous m) n ≡ t → contiguous m ≤ suc n
      → (contiguous m ≤ n → parts_below kept m slots n ≡ parts kept m slots)
      → parts_below kept m slots (suc n) ≡ parts kept m slots
  unfolding parts_below parts
  one_more_lem n true e most before =
      let least = leb-true (contiguous m) n e in
      ap (λ (part : List ℕ). parts_below kept m slots n ++ part) (none_above n least)
      ∙ append-nil (parts_below kept m slots n)
      ∙ before least
  one_more_lem n false e most before =
      let count : suc n ≡ contiguous m = omega (arith, leb-false (contiguous m) n e) in
      ap (parts_below kept m slots) count

  all_below : (n : ℕ) → contiguous m ≤ n → parts_below kept m slots n ≡ parts kept m slots
  unfolding parts
  all_below zero most =
      let none : 0 ≡ contiguous m = omega arith in
      ap (parts_below kept m slots) none
  all_below (suc n) most = one_more_lem n (leb (contiguous m) n) refl most (all_below n)

-- What is read of all 32 numbers is what is handed up.
handed : (kept : Bool) (m : Incoming) (slots : List ℕ) → length m.slots ≡ window_size
    → read_below (λ (f : ℕ). length (part_of kept m f slots)) slots window_size ≡ parts kept m slots
unfolding contiguous
handed kept m slots size =
    parts-read kept m slots window_size ∙ all_below kept m slots window_size (omega (arith, count_most m.slots))

-- What a host reads of either side's parts is what that side hands up in the theorem's world.
sized_told : (bytes : List ℕ) (n : ℕ) → length bytes ≡ 272 → choose (sized bytes) n 0 ≡ n
unfolding sized
sized_told bytes n size = choose_true (eqb (length bytes) 272) n 0 (eq-eqb _ _ size)

module _ (h : HostWorld) (keeps : Keeps h) where
  pub client-parts : client_parts h.client ≡ client_hands_up (world_of h).client.machine h.client.slots
  unfolding client_parts client_part client_handed_up client_hands_up
  client-parts =
      let bytes = h.client.machine in
      let slots = h.client.slots in
      let known = keeps.client in
      ap (λ (told : ℕ → ℕ). read_below told slots window_size)
      (λ i (f : ℕ). sized_told bytes (length (client_handed_up (client_in bytes) f slots)) known.size i)
      ∙ handed (client_sound (client_in bytes)) (client_in bytes).incoming slots
      (client_fits bytes known.size known.octets known.readable).incoming.size

  pub server-parts : server_parts h.server ≡ server_hands_up (world_of h).server.machine h.server.slots
  unfolding server_parts server_part server_handed_up server_hands_up
  server-parts =
      let bytes = h.server.machine in
      let slots = h.server.slots in
      let known = keeps.server in
      ap (λ (told : ℕ → ℕ). read_below told slots window_size)
      (λ i (f : ℕ). sized_told bytes (length (server_handed_up (server_in bytes) f slots)) known.size i)
      ∙ handed (server_sound (server_in bytes)) (server_in bytes).incoming slots
      (server_fits bytes known.size known.octets known.readable).incoming.size
