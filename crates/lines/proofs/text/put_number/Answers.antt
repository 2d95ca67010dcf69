-- `lines::text::put_number` meets its contract: the digits that `io::decimal` gives are the number's decimal text.
use native.Mathlib.Omega.{arith}
use Rattle.lines.proofs.TextLaws.{decimal_text}
use Rattle.lines.proofs.text.put_number.Goals as goal

pub returns : goal.returns
returns c =
    let a = c.args in
    let e = c.decimal-count.ensures in
    rw (decimal_text a.number c.decimal-count.result _ (omega arith) e.len e.digits) at c.put_text.ensures
