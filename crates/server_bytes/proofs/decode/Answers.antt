-- `server_bytes::decode` meets its contract.
use Prim.Native.Nat.{ℕ, ◌+◌, ◌*◌, ◌%◌, ◌<◌}
use mathlib.Core.Bool.{Bool, true, false}
use mathlib.Core.List.{List}
use mathlib.Core.Path.{◌≡◌, refl, sym, ap, ◌∙◌}
use native.Mathlib.Omega.{arith}
use lib.Dec.{eqb, ltb}
use lib.ListN.{get_or, drop}
use borrow.Author.Tests.{eqb-true, eqb-false, lt-ltb, le-ltb}
use Rattle.words.specs.Number.{number}
use Rattle.record_bytes.specs.declared.Decoded.{Decoded}
use Rattle.record_bytes.specs.Parts.{clear}
use Rattle.record_bytes.specs.Layout.{fields_in, decoded_in}
use Rattle.record_bytes.proofs.NumberLaws.{number_four, number_halves, clear_number, clear_joined}
use Rattle.server_bytes.specs.Layout.{readable, readable_by, server_of, server_in}
use Rattle.server_bytes.proofs.decode.Goals as goal

module _ (s : List ℕ) (octets : (i : ℕ) → get_or s i 0 < 256) where
  halves : number 8 true s 48 ≡ number 4 true s 48 + 4294967296 * number 4 true s 52
  halves = sym (number_halves s 48 _ _ _ refl refl refl)

  low_small : number 4 true s 48 < 4294967296
  low_small = omega (arith, number_four s 48, octets 48, octets 49, octets 50, octets 51)

  -- The status is the low half of the word at 48,
  status_low : number 8 true s 48 % 4294967296 ≡ number 4 true s 48
  status_low = omega (arith, halves, low_small)

  -- whose high half is 0 where the word is small.
  high_clear : ltb (number 8 true s 48) 4294967296 ≡ clear 4 (drop 52 s)
  high_clear = by_test (eqb (number 4 true s 52) 0) refl ∙ sym (clear_number 4 s 52)
    where
      by_test : (test : Bool) → eqb (number 4 true s 52) 0 ≡ test → ltb (number 8 true s 48) 4294967296 ≡ test
      by_test true e =
          lt-ltb (number 8 true s 48) 4294967296
          (omega (arith, halves, low_small, eqb-true (number 4 true s 52) 0 e))
      by_test false e =
          le-ltb (number 8 true s 48) 4294967296 (omega (arith, halves, eqb-false (number 4 true s 52) 0 e))

  -- So what is decoded tells whether bytes are readable,
  decoded-readable : readable_by (decoded_in s) ≡ readable s
  unfolding readable readable_by decoded_in fields_in
  decoded-readable = rw (high_clear, ← clear_number 8 s 56, ← clear_joined 4 8 s 52)

  -- and the record.
  by_decoded : (d : Decoded) → d ≡ decoded_in s
      → server_of (readable_by d) (d.fields.word % 4294967296) d.fields ≡ server_in s
  unfolding server_in decoded_in fields_in
  by_decoded d e =
      ap (λ (x : Decoded). server_of (readable_by x) (x.fields.word % 4294967296) x.fields) e
      ∙ (λ i. server_of (decoded-readable i) (status_low i) (fields_in s))

pub returns : goal.returns
returns c =
    let s = c.args.s.now in
    let octets : (i : ℕ) → get_or s i 0 < 256 =
    λ (i : ℕ). omega (arith, c.type_inv.s i) in
    rw (c.server_of.ensures, c.is_readable.ensures) (by_decoded s octets _ c.decode-d.ensures)
