-- Entries by credit type, numbered by rising type (docs/PROTOCOL.md, "Limits").
use Rattle.std.specs.Prelude.{◌≡◌, ℕ, ◌+◌, ◌*◌, ◌<◌, ◌≤◌, length, slice_index}
use Rattle.std.specs.Int.{bit_at}
use Rattle.chi_tracker.specs.declared.shape.Shape.{Shape}
use Rattle.chi_tracker.specs.Sums.{below}

-- how many entries type t has, and the lowest of them: `low s 4` is the number of all entries
abbrev pub size : Shape → ℕ → ℕ
size s t = slice_index s.sizes t

abbrev pub low : Shape → ℕ → ℕ
low s t = below (λ u. size s u) t

-- entry e is of type t
abbrev pub IsOf : Shape → ℕ → ℕ → Type 0
IsOf s t e = (low s t ≤ e) × (e < low s t + size s t)

-- at most 256 entries over four types, and 1 to 8 requesters
abbrev pub IsShape : Shape → Type 0
IsShape s = (length s.sizes ≡ 4) × (low s 4 ≤ 256) × (0 < s.agents) × (s.agents ≤ 8)

-- how many entries of type t have f
abbrev pub count_of : Shape → ℕ → (ℕ → ℕ) → ℕ
count_of s t f = below (λ i. f (low s t + i)) (size s t)

-- how many places of type t are set in a word of owed credits
abbrev pub owed_in : ℕ → ℕ → ℕ
owed_in t word = below (λ i. bit_at word (8 * t + i)) 8
