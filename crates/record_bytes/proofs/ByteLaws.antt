-- Laws of bytes: what is cut out of bytes and turned round is bytes, and a number of n bytes is below 256 ^ n.
use Prim.Native.Nat.{ℕ, zero, suc, ◌^◌, ◌<◌}
use mathlib.Core.Bool.{Bool, true, false}
use mathlib.Core.List.{List, [], ◌∷◌, ◌++◌}
use mathlib.Core.Path.{◌≡◌, refl}
use native.Mathlib.Omega.{arith}
use native.Mathlib.Nat.{pow-suc}
use lib.ListN.{length, get_or, drop, replicate, length-reverse}
use Rattle.words.specs.Number.{le, digits, turned, part, number}
use Rattle.words.proofs.Number.{All, all_turned, all_part, length_part}
use Rattle.record_bytes.specs.Fits.{Octets}

-- "Every element is below 256", in both ways of saying it.
pub octets_all : (l : List ℕ) → Octets l → All (λ (b : ℕ). b < 256) l
octets_all [] h = tt
octets_all (b ∷ bs) h = (h.0, octets_all bs h.1)

pub all_octets : (l : List ℕ) → All (λ (b : ℕ). b < 256) l → Octets l
all_octets [] h = tt
all_octets (b ∷ bs) h = (h.0, all_octets bs h.1)

-- Every place of a run of bytes has a byte, those past its end too.
pub octet_at : (s : List ℕ) → Octets s → (i : ℕ) → get_or s i 0 < 256
octet_at [] h i = omega arith
octet_at (b ∷ bs) h zero = h.0
octet_at (b ∷ bs) h (suc i) = octet_at bs h.1 i

-- Bytes turned round, bytes joined, and parts and what is left of bytes are bytes.
pub octets_turned : (little : Bool) (l : List ℕ) → Octets l → Octets (turned little l)
octets_turned little l h = all_octets (turned little l) (all_turned (λ (b : ℕ). b < 256) little l (octets_all l h))

pub octets_joined : (a b : List ℕ) → Octets a → Octets b → Octets (a ++ b)
octets_joined [] b h k = k
octets_joined (x ∷ xs) b h k = (h.0, octets_joined xs b h.1 k)

pub octets_three : (a b c : List ℕ) → Octets a → Octets b → Octets c → Octets (a ++ (b ++ c))
octets_three a b c h k l = octets_joined a (b ++ c) h (octets_joined b c k l)

pub octets_four : (a b c d : List ℕ) → Octets a → Octets b → Octets c → Octets d → Octets (a ++ (b ++ (c ++ d)))
octets_four a b c d h k l m = octets_joined a (b ++ (c ++ d)) h (octets_three b c d k l m)

pub octets_drop : (n : ℕ) (s : List ℕ) → Octets s → Octets (drop n s)
octets_drop zero s h = h
octets_drop (suc n) [] h = tt
octets_drop (suc n) (b ∷ bs) h = octets_drop n bs h.1

pub octets_part : (n : ℕ) (s : List ℕ) (at : ℕ) → Octets s → Octets (part n s at)
octets_part n s at h = all_octets (part n s at) (all_part (λ (b : ℕ). b < 256) n s at (octet_at s h))

-- The bytes of a number are bytes; and so are zeros.
pub octets_digits : (n v : ℕ) → Octets (digits n v)
octets_digits zero v = tt
octets_digits (suc n) v = (omega arith, octets_digits n _)

pub octets_zeros : (n : ℕ) → Octets (replicate n 0)
octets_zeros zero = tt
octets_zeros (suc n) = (omega arith, octets_zeros n)

pub length-turned : (little : Bool) (l : List ℕ) → length (turned little l) ≡ length l
length-turned true l = refl
length-turned false l = length-reverse l

-- A number of n bytes is below 256 ^ n.
le_below : (n : ℕ) (l : List ℕ) → length l ≡ n → Octets l → le l < 256 ^ n
le_below zero [] e h = omega arith
le_below zero (b ∷ bs) e h = absurd (omega arith)
le_below (suc n) [] e h = absurd (omega arith)
le_below (suc n) (b ∷ bs) e h =
    let rest = le_below n bs (omega arith) h.1 in
    omega (arith, pow-suc 256 n, h.0)

pub number_below : (n : ℕ) (little : Bool) (s : List ℕ) (at : ℕ) → Octets s → number n little s at < 256 ^ n
unfolding number
number_below n little s at h =
    let size : length (turned little (part n s at)) ≡ n =
    rw (length-turned little (part n s at)) (length_part n s at) in
    le_below n (turned little (part n s at)) size (octets_turned little (part n s at) (octets_part n s at h))
