-- `record_bytes::numbers` meets its contract.
use mathlib.Core.Path.{◌∙◌}
use Rattle.record_bytes.proofs.NumberBytes.{digits_four}
use Rattle.record_bytes.proofs.numbers.Goals as goal

pub returns : goal.returns
returns c =
    rw (
      c.copy_from_slice.ensures.after ∙ c.to_le_bytes.ensures ∙ digits_four _,
      c.copy_from_slice-2.ensures.after ∙ c.to_le_bytes-2.ensures ∙ digits_four _,
      c.copy_from_slice-3.ensures.after ∙ c.to_le_bytes-3.ensures ∙ digits_four _,
      c.copy_from_slice-4.ensures.after ∙ c.to_le_bytes-4.ensures ∙ digits_four _,
    )
