-- `morphelai::codec_door::morphelai_write` meets its contract.
use Rattle.morphelai.proofs.CodecReturns.{write-refused, write_left}
use Rattle.morphelai.proofs.codec_door.morphelai_write.Goals as goal

pub returns-then-header-ne-HEADER_SIZE : goal.returns-then-header-ne-HEADER_SIZE
returns-then-header-ne-HEADER_SIZE c = write-refused _ _ _ c.if-header-ne-HEADER_SIZE.true

pub returns : goal.returns
returns c = write_left _ _ _ _ _ _ _ c.if-header-ne-HEADER_SIZE.false c.fields.ensures c.write.ensures c.written.ensures
