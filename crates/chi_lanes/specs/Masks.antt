-- Which bytes of a text a mask tells of (docs/TRACES.md, "Traces").
use Rattle.std.specs.Prelude.{ℕ, ◌≡◌, ◌==◌, ◌||◌, Bool, false, List, map, take, drop, slice_index_or, if◌then◌else◌}
use Rattle.std.specs.Int.{bit_at}

-- a space, a tab, or the carriage return before a line end (`is_blank` of chi_trace)
abbrev pub is_blank : ℕ → Bool
is_blank b = (b == 32 || b == 9) || b == 13

-- so many bytes from a place on
abbrev pub bytes_at : List ℕ → ℕ → ℕ → List ℕ
bytes_at bytes at count = take count (drop at bytes)

-- bit k of the mask is set exactly if there is a byte k, and it passes the test
abbrev pub Marks : ℕ → (ℕ → Bool) → List ℕ → Type 0
Marks mask test bytes = (k : ℕ) → bit_at mask k ≡ (if slice_index_or (map test bytes) k false then 1 else 0)
