-- The server's state as a number and a status, and back.
use Prim.Native.Nat.{ℕ, zero, suc, ◌≤◌, ◌<◌}
use mathlib.Core.Bool.{false, true≢false}
use mathlib.Core.Path.{◌≡◌, refl, sym}
use native.Mathlib.Omega.{arith}
use lib.Dec.{eqb}
use Rattle.words.specs.Choice.{choose}
use Rattle.record_bytes.proofs.Keeping.{choice_keeps}
use Rattle.server.specs.declared.records.Idle.TheVariants.{Fresh, Spent, Repeatable}
use Rattle.server.specs.declared.records.Reply.TheVariants.{Data, Fault}
use Rattle.server.specs.declared.records.State.{State}
use Rattle.server.specs.declared.records.State.TheVariants.{Idle as IdleState, Collect, Running, Replying, Held}
use Rattle.server_bytes.specs.Fits.{FitsState}
use Rattle.server_bytes.specs.Layout.{state_of, state_number, status_of}

pub state_back : (s : State) → state_of (state_number s) (status_of s) ≡ s
unfolding state_of choose
state_back (IdleState Fresh) = refl
state_back (IdleState Spent) = refl
state_back (IdleState Repeatable) = refl
state_back Collect = refl
state_back Running = refl
state_back Replying = refl
state_back (Held Data) = refl
state_back (Held (Fault status)) = refl

pub state_small : (s : State) → state_number s ≤ 7
state_small (IdleState Fresh) = omega arith
state_small (IdleState Spent) = omega arith
state_small (IdleState Repeatable) = omega arith
state_small Collect = omega arith
state_small Running = omega arith
state_small Replying = omega arith
state_small (Held Data) = omega arith
state_small (Held (Fault status)) = omega arith

pub status_small : (s : State) → FitsState s → status_of s < 4294967296
status_small (IdleState idle) fits = omega arith
status_small Collect fits = omega arith
status_small Running fits = omega arith
status_small Replying fits = omega arith
status_small (Held Data) fits = omega arith
status_small (Held (Fault status)) fits = fits

pub no_status : (s : State) → eqb (state_number s) 7 ≡ false → status_of s ≡ 0
no_status (IdleState idle) e = refl
no_status Collect e = refl
no_status Running e = refl
no_status Replying e = refl
no_status (Held Data) e = refl
no_status (Held (Fault status)) e = absurd (true≢false e)

-- A number up to 7 is that of its state; and its status is 0 where it is not 7.
pub state_again : (n status : ℕ) → n ≤ 7 → state_number (state_of n status) ≡ n
unfolding state_of choose
state_again zero status h = refl
state_again (suc zero) status h = refl
state_again (suc (suc zero)) status h = refl
state_again (suc (suc (suc zero))) status h = refl
state_again (suc (suc (suc (suc zero)))) status h = refl
state_again (suc (suc (suc (suc (suc zero))))) status h = refl
state_again (suc (suc (suc (suc (suc (suc zero)))))) status h = refl
state_again (suc (suc (suc (suc (suc (suc (suc zero))))))) status h = refl
state_again (suc (suc (suc (suc (suc (suc (suc (suc n)))))))) status h = absurd (omega arith)

pub status_again : (n status : ℕ) → n ≤ 7 → (eqb n 7 ≡ false → status ≡ 0) → status_of (state_of n status) ≡ status
unfolding state_of choose
status_again zero status h none = sym (none refl)
status_again (suc zero) status h none = sym (none refl)
status_again (suc (suc zero)) status h none = sym (none refl)
status_again (suc (suc (suc zero))) status h none = sym (none refl)
status_again (suc (suc (suc (suc zero)))) status h none = sym (none refl)
status_again (suc (suc (suc (suc (suc zero))))) status h none = sym (none refl)
status_again (suc (suc (suc (suc (suc (suc zero)))))) status h none = sym (none refl)
status_again (suc (suc (suc (suc (suc (suc (suc zero))))))) status h none = refl
status_again (suc (suc (suc (suc (suc (suc (suc (suc n)))))))) status h none = absurd (omega arith)

pub state_fits : (n status : ℕ) → status < 4294967296 → FitsState (state_of n status)
unfolding state_of
state_fits n status h =
    choice_keeps FitsState (eqb n 1) _ _ tt
    (choice_keeps FitsState (eqb n 2) _ _ tt
    (choice_keeps FitsState (eqb n 3) _ _ tt
    (choice_keeps FitsState (eqb n 4) _ _ tt
    (choice_keeps FitsState (eqb n 5) _ _ tt
    (choice_keeps FitsState (eqb n 6) _ _ tt
    (choice_keeps FitsState (eqb n 7) _ _ h tt))))))
