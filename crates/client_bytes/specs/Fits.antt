-- What fits the widths in which the client's record is kept as bytes.
use Rattle.std.specs.Prelude.{◌<◌}
use Rattle.client.specs.declared.records.Client.{Client}
use Rattle.record_bytes.specs.Fits.{Uuid, FitsCall, FitsOutgoing, FitsIncoming, FitsTimer}

pub record FitsClient (c : Client) : Type 0 where
  pub activity : Uuid c.activity
  pub number : c.number < 4294967296
  pub call : FitsCall c.call
  pub outgoing : FitsOutgoing c.outgoing
  pub incoming : FitsIncoming c.incoming
  pub waits : c.waits < 256
  pub resends : c.resends < 256
  pub cancels : c.cancels < 4294967296
  pub tickets : c.tickets < 18446744073709551616
  pub wait : FitsTimer c.wait
  pub ack : FitsTimer c.ack
  pub cancel : FitsTimer c.cancel
