-- Sums over numbers, lists and bits, for the counts of words (docs/PROTOCOL.md, "Words of the tracker").
use Rattle.std.specs.Prelude.{ℕ, zero, suc, ◌+◌, ◌-◌, ◌/◌, ◌%◌, ◌^◌, List, [], ◌∷◌, slice_index, slice_set, bit_and, bit_or, bit_xor}
use Rattle.std.specs.Int.{bit_at}

-- f 0 + .. + f (n - 1)
abbrev pub below : (ℕ → ℕ) → ℕ → ℕ
below f zero = 0
below f (suc n) = below f n + f n

-- the sum of f over a list
abbrev pub total : {A : Type 0} → (A → ℕ) → List A → ℕ
total f [] = 0
total f (x ∷ xs) = f x + total f xs

-- numbers by credit type, one more at type t; a number that is missing is 0
abbrev pub one_more : List ℕ → ℕ → List ℕ
one_more [] zero = 1 ∷ []
one_more [] (suc t) = 0 ∷ one_more [] t
one_more (n ∷ ns) zero = (n + 1) ∷ ns
one_more (n ∷ ns) (suc t) = n ∷ one_more ns t

-- a set of numbers as the bits of one number of any size: e put in, and e taken out
abbrev pub with_bit : ℕ → ℕ → ℕ
with_bit m e = bit_or m (2 ^ e)

abbrev pub without_bit : ℕ → ℕ → ℕ
without_bit m e = bit_xor m (bit_and m (2 ^ e))

-- the word in which all bits but k are set
abbrev pub all_but : ℕ → ℕ
all_but k = 2 ^ 64 - 1 - 2 ^ k

-- a set of entries as words of 64 bits: whether e is in it, and the set without e
abbrev pub set_at : List ℕ → ℕ → ℕ
set_at words e = bit_at (slice_index words (e / 64)) (e % 64)

abbrev pub take_out : List ℕ → ℕ → List ℕ
take_out words e = slice_set words (e / 64) (bit_and (slice_index words (e / 64)) (all_but (e % 64)))
