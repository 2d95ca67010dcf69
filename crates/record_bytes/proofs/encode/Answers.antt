-- `record_bytes::encode` meets its contract.
use mathlib.Core.Path.{ap, ◌∙◌}
use native.Mathlib.Omega.{arith}
use Rattle.words.specs.Number.{digits}
use Rattle.record_bytes.proofs.Laying.{encoded, encoded_none}
use Rattle.record_bytes.proofs.NumberBytes.{digits_eight}
use Rattle.record_bytes.proofs.encode.Goals as goal

pub returns-then-out-lt-SIZE : goal.returns-then-out-lt-SIZE
returns-then-out-lt-SIZE c =
    let f = c.args.f in
    encoded_none f c.args.out.now
    (omega (arith, c.well_formed)) (omega (arith, c.well_formed)) (omega (arith, c.well_formed)) (omega (arith, c.well_formed))
    c.if-out-lt-SIZE.true

pub returns : goal.returns
returns c =
    let f = c.args.f in
    rw (
      c.put-10.ensures,
      c.put-9.ensures,
      c.put-8.ensures,
      c.put-7.ensures,
      c.put-6.ensures,
      c.put-5.ensures,
      c.put-4.ensures,
      c.put-3.ensures,
      c.put-2.ensures,
      c.put.ensures,
      c.slots_bytes.ensures,
      c.back.ensures,
      c.to_le_bytes-3.ensures ∙ digits_eight _,
      c.to_le_bytes-2.ensures ∙ digits_eight _ ∙ ap (digits 8) c.timer_ticket.ensures,
      c.to_le_bytes.ensures ∙ digits_eight _,
      c.numbers.ensures,
      c.front.ensures,
    )
    (encoded f c.args.out.now
    (omega (arith, c.well_formed)) (omega (arith, c.well_formed)) (omega (arith, c.well_formed)) (omega (arith, c.well_formed))
    c.if-out-lt-SIZE.false)
