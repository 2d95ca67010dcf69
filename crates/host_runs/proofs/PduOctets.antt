-- The PDUs of the runs are bytes.
use Prim.Native.Nat.{ℕ, zero, suc, ◌*◌, ◌%◌, ◌<◌}
use mathlib.Core.List.{List, [], ◌∷◌, ◌++◌}
use native.Mathlib.Omega.{arith}
use lib.ListN.{length, take, drop, replicate}
use Rattle.words.specs.Number.{digits}
use Rattle.words.specs.Sizes.{body_size}
use Rattle.pdu.specs.Header.{front_bytes, number_bytes, hint_bytes, back_bytes, header_bytes, datagram}
use Rattle.calls.specs.declared.Call.{Call}
use Rattle.calls.specs.Sent.{sent_header}
use Rattle.outgoing.specs.Message.{fragment_of}
use Rattle.record_bytes.specs.Fits.{Octets, FitsCall}
use Rattle.record_bytes.proofs.ByteLaws.{octets_joined, octets_three, octets_four, octets_drop, octets_digits}

-- A part of bytes, and the same byte over and over.
octets_take : (n : ℕ) (s : List ℕ) → Octets s → Octets (take n s)
octets_take zero s octets = tt
octets_take (suc n) [] octets = tt
octets_take (suc n) (b ∷ bs) octets = (octets.0, octets_take n bs octets.1)

pub octets_same : (n b : ℕ) → b < 256 → Octets (replicate n b)
octets_same zero b small = tt
octets_same (suc n) b small = (small, octets_same n b small)

-- A fragment of a message of bytes.
pub fragment_octets : (message : List ℕ) (f : ℕ) → Octets message → Octets (fragment_of message f)
unfolding fragment_of
fragment_octets message f octets = octets_take body_size (drop (body_size * f) message) (octets_drop (body_size * f) message octets)

-- A PDU as a side sends it.
pub pdu_octets : (kind flags1 serial : ℕ) (activity : List ℕ) (boot number : ℕ) (call : Call) (fragment : ℕ)
    (body : List ℕ) → kind < 256 → flags1 < 256 → Octets activity → FitsCall call → Octets body
    → Octets (datagram (sent_header kind flags1 serial activity boot number call fragment) body)
unfolding datagram header_bytes sent_header
pdu_octets kind flags1 serial activity boot number call fragment body named marked own fits octets =
    let front : Octets (front_bytes kind flags1 0 serial) =
    (omega arith, (named, (marked, (omega arith, (omega arith, (omega arith, (omega arith, (omega arith, tt)))))))) in
    let uuids =
    octets_three call.object call.interface activity fits.object.octets fits.interface.octets own in
    let numbers =
    octets_three (digits 4 boot) (digits 4 call.version) (digits 4 number) (octets_digits 4 boot)
    (octets_digits 4 call.version) (octets_digits 4 number) in
    let hints =
    octets_four (digits 2 call.operation) (digits 2 65535) (digits 2 65535) (digits 2 (length body))
    (octets_digits 2 call.operation) (octets_digits 2 65535) (octets_digits 2 65535)
    (octets_digits 2 (length body)) in
    let back : Octets (back_bytes fragment 0 serial) =
    octets_joined (digits 2 fragment) (0 ∷ (serial % 256 ∷ [])) (octets_digits 2 fragment)
    (omega arith, (omega arith, tt)) in
    octets_joined (header_bytes (sent_header kind flags1 serial activity boot number call fragment) (length body)) body
    (octets_four (front_bytes kind flags1 0 serial) (call.object ++ (call.interface ++ activity))
    (number_bytes boot call.version number)
    (hint_bytes call.operation 65535 65535 (length body) ++ back_bytes fragment 0 serial) front uuids numbers
    (octets_joined (hint_bytes call.operation 65535 65535 (length body)) (back_bytes fragment 0 serial) hints back))
    octets
