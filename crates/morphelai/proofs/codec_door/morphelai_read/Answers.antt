-- `morphelai::codec_door::morphelai_read` meets its contract.
use Rattle.std.proofs.Common.{rules, ap}
use lib.ListN.{length}
use Rattle.morphelai.proofs.CodecReturns.{read-refused, read_laid, read_not}
use Rattle.morphelai.proofs.codec_door.morphelai_read.Goals as goal

pub returns-then-out-ne-HEADER_SIZE : goal.returns-then-out-ne-HEADER_SIZE
returns-then-out-ne-HEADER_SIZE c = read-refused _ _ c.if-out-ne-HEADER_SIZE.true

pub returns-in-Ok : goal.returns-in-Ok
returns-in-Ok c =
    read_laid _ _ c.if-out-ne-HEADER_SIZE.false _ _ _ c.in-Ok.ensures (ap length c.body-length.ensures) c.lay.ensures

pub returns-in-Err : goal.returns-in-Err
returns-in-Err c =
    let told = read_not _ _ c.if-out-ne-HEADER_SIZE.false _ _ c.in-Err.ensures c.number.ensures in
    search rules
