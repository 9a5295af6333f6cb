-- The columns of a line: what stands between blanks (docs/TRACES.md, "Traces").
use Rattle.std.specs.Prelude.{ℕ, zero, suc, ◌≡◌, ◌+◌, ◌%◌, ◌<◌, Bool, true, false, List, [], ◌∷◌, filter, slice_index_or, if◌then◌else◌}
use Rattle.std.specs.Int.{bit_at}
use Rattle.std.specs.List.{slice_split}
use Rattle.chi_lanes.specs.Masks.{is_blank}

abbrev pub has_bytes : List ℕ → Bool
has_bytes [] = false
has_bytes (b ∷ bs) = true

-- what stands between blanks, one or more of them (`blank_words` of chi_trace)
unfoldable pub columns_of : List ℕ → List (List ℕ)
columns_of line = filter has_bytes (slice_split is_blank line)

-- a byte behind the end of a line counts as a blank
abbrev pub blank_at : List ℕ → ℕ → Bool
blank_at line k = is_blank (slice_index_or line k 32)

-- bit k of the mask is set exactly if byte k of the line is a blank
abbrev pub MarksBlanks : ℕ → List ℕ → Type 0
MarksBlanks mask line = (k : ℕ) → k < 64 → bit_at mask k ≡ (if blank_at line k then 1 else 0)

-- whether a bit isn't the one below it; below the lowest counts as set
abbrev pub changes_at : ℕ → ℕ → ℕ
changes_at mask zero = (bit_at mask 0 + 1) % 2
changes_at mask (suc k) = (bit_at mask (suc k) + bit_at mask k) % 2
