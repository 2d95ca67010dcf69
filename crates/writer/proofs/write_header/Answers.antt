-- `writer::write_header` meets its contract: the pieces lie one behind the other.
use native.Mathlib.Omega.{arith}
use Rattle.words.proofs.Place.{placed_none}
use borrow.Author.Rules.{rules}
use Rattle.words.proofs.Number.{to_le-digits}
use Rattle.writer.proofs.Returns.{Sized, length-header, header-laid_at}
use Rattle.writer.proofs.write_header.Goals as goal

pub returns-then-out-lt-HEADER_SIZE : goal.returns-then-out-lt-HEADER_SIZE
returns-then-out-lt-HEADER_SIZE c =
    let a = c.args in
    let sized : Sized a.h = record { object = search rules; interface = search rules; activity = search rules } in
    placed_none _ _ _ (omega (arith, length-header a.h a.body sized))

pub returns : goal.returns
returns c =
    let a = c.args in
    let sized : Sized a.h = record { object = search rules; interface = search rules; activity = search rules } in
    let laid = header-laid_at a.h a.body a.out.now sized (omega arith) in
    rw (
      c.put-13.ensures,
      c.put-12.ensures,
      c.to_le_bytes-8.ensures,
      c.put-11.ensures,
      c.to_le_bytes-7.ensures,
      c.put-10.ensures,
      c.to_le_bytes-6.ensures,
      c.put-9.ensures,
      c.to_le_bytes-5.ensures,
      c.put-8.ensures,
      c.to_le_bytes-4.ensures,
      c.put-7.ensures,
      c.to_le_bytes-3.ensures,
      c.put-6.ensures,
      c.to_le_bytes-2.ensures,
      c.put-5.ensures,
      c.to_le_bytes.ensures,
      c.put-4.ensures,
      c.put-3.ensures,
      c.put-2.ensures,
      c.put.ensures,
      c.to_be_bytes.ensures,
      to_le-digits 4 a.h.number,
      to_le-digits 4 a.h.version,
      to_le-digits 4 a.h.boot,
    ) laid
