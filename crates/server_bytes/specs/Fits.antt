-- What fits the widths in which the server's record is kept as bytes.
use Rattle.std.specs.Prelude.{◌<◌}
use Rattle.server.specs.declared.records.Reply.{Reply}
use Rattle.server.specs.declared.records.Reply.TheVariants.{Data, Fault}
use Rattle.server.specs.declared.records.State.{State}
use Rattle.server.specs.declared.records.State.TheVariants.{Idle as IdleState, Collect, Running, Replying, Held}
use Rattle.server.specs.declared.records.Server.{Server}
use Rattle.record_bytes.specs.Fits.{Uuid, FitsCall, FitsOutgoing, FitsIncoming, FitsTimer}

-- A fault's status is kept in 4 bytes.
abbrev pub FitsReply : Reply → Type 0
FitsReply Data = Unit {0}
FitsReply (Fault status) = status < 4294967296

abbrev pub FitsState : State → Type 0
FitsState (IdleState idle) = Unit {0}
FitsState Collect = Unit {0}
FitsState Running = Unit {0}
FitsState Replying = Unit {0}
FitsState (Held reply) = FitsReply reply

pub record FitsServer (s : Server) : Type 0 where
  pub activity : Uuid s.activity
  pub boot : s.boot < 4294967296
  pub number : s.number < 4294967296
  pub call : FitsCall s.call
  pub outgoing : FitsOutgoing s.outgoing
  pub incoming : FitsIncoming s.incoming
  pub resends : s.resends < 256
  pub seen : s.seen < 4294967296
  pub tickets : s.tickets < 18446744073709551616
  pub resend : FitsTimer s.resend
  pub state : FitsState s.state
