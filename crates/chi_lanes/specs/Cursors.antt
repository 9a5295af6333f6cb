-- Where the columns of a line begin and end.
use Rattle.std.specs.Prelude.{ℕ, zero, suc, ◌≡◌, ◌≢◌, ◌+◌, ◌<◌, ◌≤◌, ◌&&◌, nat_le, Bool, true, false, not, List, ◌∷◌, drop, take, length, slice_range, if◌then◌else◌}
use Rattle.std.specs.Int.{bit_at}
use Rattle.chi_lanes.specs.Columns.{blank_at, columns_of}
use Rattle.chi_lanes.specs.Masks.{bytes_at}
use Rattle.chi_lanes.specs.Numbers.{IsOf}
use Rattle.chi_lanes.specs.declared.columns.TheConstants.{WINDOW}
use Rattle.chi_lanes.specs.declared.digits.Digits.{Digits}
use Rattle.chi_lanes.specs.declared.places.Next.{Next}

-- whether a blank stands before a place, or nothing
abbrev pub blank_before : List ℕ → ℕ → Bool
blank_before line zero = true
blank_before line (suc k) = blank_at line k

-- whether a column begins or ends at a place
abbrev pub is_edge : List ℕ → ℕ → Bool
is_edge line k = if blank_at line k then not (blank_before line k) else blank_before line k

-- the edges from a place on, which stands behind a blank, among the first 64 places
pub record HasEdges (line : List ℕ) (at edges : ℕ) : Type 0 where
  pub begins : blank_before line at ≡ true
  pub marks : (k : ℕ) → k < 64 → bit_at edges k ≡ (if nat_le at k && is_edge line k then 1 else 0)

-- what is known of sixteen bytes, where there are so many from the place on
abbrev pub IsWindow : Digits → List ℕ → Type 0
IsWindow window bytes = WINDOW + 16 ≤ length bytes → IsOf window (bytes_at bytes WINDOW 16)

-- where some edges are known of the first bytes, they are all that there are
pub record IsCursor (bytes : List ℕ) (size at edges : ℕ) (window : Digits) : Type 0 where
  pub within : size ≤ length bytes
  pub known : edges ≢ 0 → HasEdges (take size bytes) at edges
  pub digits : IsWindow window bytes

-- a text of one byte or more among so many
abbrev pub IsPlace : ℕ → ℕ → ℕ → Type 0
IsPlace start end size = (start < end) × (end ≤ size)

-- from a place on the next column begins at start, or there is none, and start is the line's end
pub record IsStart (line : List ℕ) (at start : ℕ) : Type 0 where
  pub within : start ≤ length line
  pub blanks : (k : ℕ) → at ≤ k → k < start → blank_at line k ≡ true
  pub found : start < length line → (at ≤ start) × (blank_at line start ≡ false)

-- no blank stands from start up to end, where one stands, or the line ends
pub record IsEnd (line : List ℕ) (start end : ℕ) : Type 0 where
  pub from : start ≤ end
  pub within : end ≤ length line
  pub column : (k : ℕ) → start ≤ k → k < end → blank_at line k ≡ false
  pub ends : blank_at line end ≡ true

-- the next column of a line from a place on
pub record IsNext (line : List ℕ) (at : ℕ) (next : Next) : Type 0 where
  pub some : next.start < next.end
  pub within : next.end ≤ length line
  pub parted : columns_of (drop at line) ≡ slice_range line next.start next.end ∷ columns_of (drop (next.end + 1) line)
  pub known : next.edges ≢ 0 → HasEdges line (next.end + 1) next.edges
