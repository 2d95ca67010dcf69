-- The client's state as a number and back.
use Prim.Native.Nat.{ℕ, zero, suc, ◌≤◌}
use mathlib.Core.Path.{◌≡◌, refl}
use native.Mathlib.Omega.{arith}
use Rattle.words.specs.Choice.{choose}
use Rattle.client.specs.declared.records.State.{State}
use Rattle.client.specs.declared.records.State.TheVariants.{Queued, SendFrags, Dispatched, ReceiveFrags, AckPending}
use Rattle.client.specs.declared.records.State.TheVariants.{Complete, Fault}
use Rattle.client_bytes.specs.Layout.{state_of, state_number}

pub state_back : (s : State) → state_of (state_number s) ≡ s
unfolding state_of choose
state_back Queued = refl
state_back SendFrags = refl
state_back Dispatched = refl
state_back ReceiveFrags = refl
state_back AckPending = refl
state_back Complete = refl
state_back Fault = refl

pub state_small : (s : State) → state_number s ≤ 6
state_small Queued = omega arith
state_small SendFrags = omega arith
state_small Dispatched = omega arith
state_small ReceiveFrags = omega arith
state_small AckPending = omega arith
state_small Complete = omega arith
state_small Fault = omega arith

-- A number up to 6 is that of its state.
pub state_again : (n : ℕ) → n ≤ 6 → state_number (state_of n) ≡ n
unfolding state_of choose
state_again zero h = refl
state_again (suc zero) h = refl
state_again (suc (suc zero)) h = refl
state_again (suc (suc (suc zero))) h = refl
state_again (suc (suc (suc (suc zero)))) h = refl
state_again (suc (suc (suc (suc (suc zero))))) h = refl
state_again (suc (suc (suc (suc (suc (suc zero)))))) h = refl
state_again (suc (suc (suc (suc (suc (suc (suc n))))))) h = absurd (omega arith)
