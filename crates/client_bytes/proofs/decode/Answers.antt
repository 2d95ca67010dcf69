-- `client_bytes::decode` meets its contract.
use mathlib.Core.Bool.{Bool}
use mathlib.Core.List.{List}
use mathlib.Core.Path.{◌≡◌, ap, ◌∙◌}
use Prim.Native.Nat.{ℕ}
use Rattle.record_bytes.specs.declared.Decoded.{Decoded}
use Rattle.record_bytes.specs.Layout.{fields_in, decoded_in}
use Rattle.record_bytes.proofs.NumberLaws.{clear_number}
use Rattle.client_bytes.specs.Layout.{readable, readable_by, client_of, client_in}
use Rattle.client_bytes.proofs.decode.Goals as goal

by_decoded : (s : List ℕ) (d : Decoded) → d ≡ decoded_in s → client_of (readable_by d) d.fields ≡ client_in s
unfolding client_in readable readable_by decoded_in fields_in
by_decoded s d e =
    ap (λ (x : Decoded). client_of (readable_by x) x.fields) e
    ∙ ap (λ (r : Bool). client_of r (fields_in s)) (rw (clear_number 4 s 28))

pub returns : goal.returns
returns c = rw (c.client_of.ensures, c.is_readable.ensures) (by_decoded _ _ c.decode-d.ensures)
