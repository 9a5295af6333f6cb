-- The words of the tracker (docs/PROTOCOL.md, "Words of the tracker"): C in the words 0 to 3, and of
-- requester n P[n] in the words 4 + 5 n to 7 + 5 n and O[n] in the word 8 + 5 n.
use Rattle.std.specs.Prelude.{ℕ, ◌+◌, ◌*◌, ◌/◌, ◌%◌, List, slice_index}
use Rattle.std.specs.Int.{bit_at}

abbrev pub word_count : ℕ
word_count = 44

-- part i of P[n], and O[n]
abbrev pub promise_word : ℕ → ℕ → ℕ
promise_word n i = 4 + 5 * n + i

abbrev pub owed_word : ℕ → ℕ
owed_word n = 8 + 5 * n

-- entry e is claimed
abbrev pub c_of : List ℕ → ℕ → ℕ
c_of ws e = bit_at (slice_index ws (e / 64)) (e % 64)

-- entry e is promised to n
abbrev pub p_of : List ℕ → ℕ → ℕ → ℕ
p_of ws n e = bit_at (slice_index ws (promise_word n (e / 64))) (e % 64)

-- the word of the credits owed to n
abbrev pub o_of : List ℕ → ℕ → ℕ
o_of ws n = slice_index ws (owed_word n)
