-- `reader::read` meets its contract.
use Rattle.std.proofs.Common.{rules}
use Rattle.reader.proofs.Returns.{read_accepted, read-refused}
use Rattle.reader.proofs.read.Goals as goal

pub returns-in_err-judge : goal.returns-in_err-judge
returns-in_err-judge c =
    let refused = read-refused _ _ _ _ c.judge.ensures c.order_is-little.ensures c.order_is-big.ensures _ c.in_err-judge.was in
    search rules

pub returns : goal.returns
returns c =
    read_accepted _ _ _ _ c.judge.ensures c.order_is-little.ensures c.order_is-big.ensures _ c.in_ok-judge.was c.fields.ensures
