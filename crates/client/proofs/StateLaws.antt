-- What the tests of a state tell of it.
use Rattle.std.proofs.Common.{◌≡◌, true, false, refl}
use mathlib.Core.Bool.{false≢true}
use Rattle.client.specs.declared.records.State.{State}
use Rattle.client.specs.declared.records.State.TheVariants.{Queued, SendFrags, Dispatched, ReceiveFrags, AckPending, Complete, Fault}
use Rattle.client.specs.records.States.{is_queued, is_sending, is_active, is_dispatched, is_waiting, is_ack_pending}

-- Transmit's state is SEND_FRAGS.
pub sending_state : (state : State) → is_sending state ≡ true → state ≡ SendFrags
unfolding is_sending
sending_state Queued e = absurd (false≢true e)
sending_state SendFrags e = refl
sending_state Dispatched e = absurd (false≢true e)
sending_state ReceiveFrags e = absurd (false≢true e)
sending_state AckPending e = absurd (false≢true e)
sending_state Complete e = absurd (false≢true e)
sending_state Fault e = absurd (false≢true e)

-- Working's and nocall's is DISPATCHED.
pub dispatched_state : (state : State) → is_dispatched state ≡ true → state ≡ Dispatched
unfolding is_dispatched
dispatched_state Queued e = absurd (false≢true e)
dispatched_state SendFrags e = absurd (false≢true e)
dispatched_state Dispatched e = refl
dispatched_state ReceiveFrags e = absurd (false≢true e)
dispatched_state AckPending e = absurd (false≢true e)
dispatched_state Complete e = absurd (false≢true e)
dispatched_state Fault e = absurd (false≢true e)

-- ACK's is ACK_PENDING.
pub ack_pending_state : (state : State) → is_ack_pending state ≡ true → state ≡ AckPending
unfolding is_ack_pending
ack_pending_state Queued e = absurd (false≢true e)
ack_pending_state SendFrags e = absurd (false≢true e)
ack_pending_state Dispatched e = absurd (false≢true e)
ack_pending_state ReceiveFrags e = absurd (false≢true e)
ack_pending_state AckPending e = refl
ack_pending_state Complete e = absurd (false≢true e)
ack_pending_state Fault e = absurd (false≢true e)

-- The three active states are not QUEUED.
pub active_state : (state : State) → is_active state ≡ true → is_queued state ≡ false
unfolding is_active is_queued
active_state Queued e = absurd (false≢true e)
active_state SendFrags e = refl
active_state Dispatched e = refl
active_state ReceiveFrags e = refl
active_state AckPending e = absurd (false≢true e)
active_state Complete e = absurd (false≢true e)
active_state Fault e = absurd (false≢true e)

-- A state that names WAIT is neither QUEUED nor SEND_FRAGS.
pub waiting_state : (state : State) → is_waiting state ≡ true → (is_queued state ≡ false) × (is_sending state ≡ false)
unfolding is_waiting is_queued is_sending
waiting_state Queued e = absurd (false≢true e)
waiting_state SendFrags e = absurd (false≢true e)
waiting_state Dispatched e = (refl, refl)
waiting_state ReceiveFrags e = (refl, refl)
waiting_state AckPending e = absurd (false≢true e)
waiting_state Complete e = absurd (false≢true e)
waiting_state Fault e = absurd (false≢true e)

-- It waits in an active call.
pub waiting_active : (state : State) → is_waiting state ≡ true → is_active state ≡ true
unfolding is_waiting is_active
waiting_active Queued e = absurd (false≢true e)
waiting_active SendFrags e = absurd (false≢true e)
waiting_active Dispatched e = refl
waiting_active ReceiveFrags e = refl
waiting_active AckPending e = absurd (false≢true e)
waiting_active Complete e = absurd (false≢true e)
waiting_active Fault e = absurd (false≢true e)
