-- The length of a PDU written is told whole: 16 bits cut nothing off.
use Prim.Native.Nat.{ℕ, ◌%◌, ◌≤◌}
use mathlib.Core.List.{List}
use mathlib.Core.Path.{◌≡◌, refl}
use native.Mathlib.Omega.{arith}
use lib.ListN.{length}
use Rattle.words.specs.Sizes.{body_size, pdu_size}
use Rattle.answers.specs.Answer.{Answer, Done, Refused, Ok}
use Rattle.answers.specs.Table.{answer_of}
use Rattle.answers.proofs.TableLaws.{answer_done}
use Rattle.pdu.specs.declared.Header.{Header}
use Rattle.writer.specs.Writing.{write_refusals, write_by, writing}
use Rattle.writer.proofs.Returns.{writable}

-- The writer gives 0, or 80 and a body of at most 1,392.
short_by : (a : Answer) (h : Header) (body out : List ℕ) → (a ≡ Done → length body ≤ body_size)
    → (write_by a h body out).result.length ≤ pdu_size
unfolding write_by
short_by (Ok tt) h body out short = omega (arith, short refl)
short_by (Refused r) h body out short = omega arith

pub written_short : (h : Header) (body out : List ℕ) → (writing h body out).result.length ≤ pdu_size
unfolding writing
written_short h body out =
    let table = write_refusals (length out) h.kind h.authentication (length body) in
    short_by (answer_of table) h body out (λ (pass : answer_of table ≡ Done). (writable _ _ _ _ (answer_done table pass)).short)

pub written_exact : (h : Header) (body out : List ℕ)
    → (writing h body out).result.length % 65536 ≡ (writing h body out).result.length
written_exact h body out = omega (arith, written_short h body out)
