-- What document 01's sentences call the client's states by.
use Rattle.std.specs.Prelude.{Bool, true, false}
use Rattle.client.specs.declared.records.State.{State}
use Rattle.client.specs.declared.records.State.TheVariants.{Queued, SendFrags, Dispatched, ReceiveFrags, AckPending, Complete, Fault}

-- Start has a row in QUEUED, ACK_PENDING, COMPLETE and FAULT.
unfoldable pub may_start : State → Bool
may_start Queued = true
may_start SendFrags = false
may_start Dispatched = false
may_start ReceiveFrags = false
may_start AckPending = true
may_start Complete = true
may_start Fault = true

-- In QUEUED no call was started: the record has no number and no message.
unfoldable pub is_queued : State → Bool
is_queued Queued = true
is_queued SendFrags = false
is_queued Dispatched = false
is_queued ReceiveFrags = false
is_queued AckPending = false
is_queued Complete = false
is_queued Fault = false

-- Transmit has a row in SEND_FRAGS.
unfoldable pub is_sending : State → Bool
is_sending Queued = false
is_sending SendFrags = true
is_sending Dispatched = false
is_sending ReceiveFrags = false
is_sending AckPending = false
is_sending Complete = false
is_sending Fault = false

-- "Those three", the active states: SEND_FRAGS, DISPATCHED, RECEIVE_FRAGS. They name CANCEL.
unfoldable pub is_active : State → Bool
is_active Queued = false
is_active SendFrags = true
is_active Dispatched = true
is_active ReceiveFrags = true
is_active AckPending = false
is_active Complete = false
is_active Fault = false

-- Working and nocall have a row in DISPATCHED.
unfoldable pub is_dispatched : State → Bool
is_dispatched Queued = false
is_dispatched SendFrags = false
is_dispatched Dispatched = true
is_dispatched ReceiveFrags = false
is_dispatched AckPending = false
is_dispatched Complete = false
is_dispatched Fault = false

-- DISPATCHED and RECEIVE_FRAGS name WAIT.
unfoldable pub is_waiting : State → Bool
is_waiting Queued = false
is_waiting SendFrags = false
is_waiting Dispatched = true
is_waiting ReceiveFrags = true
is_waiting AckPending = false
is_waiting Complete = false
is_waiting Fault = false

-- ACK_PENDING names ACK.
unfoldable pub is_ack_pending : State → Bool
is_ack_pending Queued = false
is_ack_pending SendFrags = false
is_ack_pending Dispatched = false
is_ack_pending ReceiveFrags = false
is_ack_pending AckPending = true
is_ack_pending Complete = false
is_ack_pending Fault = false
