-- A message of n bytes, put fragment by fragment.
use Prim.Native.Nat.{ℕ, ◌+◌, ◌-◌, ◌*◌, ◌%◌, ◌<◌, min}
use mathlib.Core.Bool.{true}
use mathlib.Core.List.{List}
use mathlib.Core.Path.{◌≡◌, refl, ap, subst}
use lib.Dec.{eqb}
use lib.ListN.{length, length-take, length-drop}
use Rattle.words.specs.Sizes.{body_size}
use Rattle.incoming.specs.declared.Incoming.{Incoming}
use Rattle.incoming.specs.Slots.{sound, stored}
use Rattle.fragments.specs.Slots.{filled}
use Rattle.fragments.proofs.PutLaws.{CanPut}
use Rattle.outgoing.specs.Message.{fragments, fragment_of}
use Rattle.fragments.specs.Fragment.{is_last}
use Rattle.history.proofs.Holding.{Holding, put-holding}

module _ (message : List ℕ) (n f : ℕ) (size : length message ≡ n) where
  -- How long fragment f is, and as a record keeps it.
  pub cut : length (fragment_of message f) ≡ min body_size (n - body_size * f)
  unfolding fragment_of
  cut = simp (length-take, length-drop) (rw size)

  pub kept : length (fragment_of message f) % 65536 ≡ min body_size (n - body_size * f) % 65536
  kept = ap (λ (k : ℕ). k % 65536) cut

  -- Where all that is held is of the message, it is so when fragment f is put.
  pub put : (m : Incoming) (slots : List ℕ) (flags1 : ℕ) → Holding m slots message → sound m ≡ true
      → CanPut m f (is_last flags1) → f < fragments n → is_last flags1 ≡ eqb (f + 1) (fragments n)
      → Holding (stored m f (min body_size (n - body_size * f)) (is_last flags1)) (filled f (fragment_of message f) slots) message
  put m slots flags1 holds rules can below ends =
      subst (λ (k : ℕ). Holding (stored m f k (is_last flags1)) (filled f (fragment_of message f) slots) message) cut
      (put-holding m slots message flags1 f (fragment_of message f) holds rules
      (record { below = rw size below; last = rw size ends; bytes = refl }) can)
