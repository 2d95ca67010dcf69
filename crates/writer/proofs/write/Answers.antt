-- `writer::write` meets its contract. Nothing is laid down before all is judged.
use Rattle.std.proofs.Common.{rules, refl, arith}
use Rattle.writer.proofs.Returns.{writable_here, write_accepted, write-refused}
use Rattle.writer.proofs.write.Goals as goal

pub returns-in_err-judge : goal.returns-in_err-judge
returns-in_err-judge c =
    let a = c.args in
    let refused = write-refused a.h a.body.now a.out.now _ _ c.judge.ensures _ c.in_err-judge.was refl in
    search rules

pub overflow_cast-body : goal.overflow_cast-body
overflow_cast-body c =
    let a = c.args in
    omega (arith, writable_here a.h a.body.now a.out.now a.out.now _ c.judge.ensures c.in_ok-judge.was)

pub returns : goal.returns
returns c =
    let a = c.args in
    write_accepted a.h a.body.now a.out.now _ _ c.judge.ensures c.in_ok-judge.was (record { object = search rules; interface = search rules; activity = search rules })
    (rw (c.put.ensures, c.write_header.ensures))
