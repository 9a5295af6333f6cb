-- What a copy of a slice, or of an observer, leaves, and what a comparison of two of them tells, by C's numbers
-- (docs/LIBRARY.md, "Snapshots").
use Rattle.std.specs.Prelude.{◌≡◌, ◌≢◌, ◌⊎◌, ℕ, Option, Some, None}
use Rattle.chi_slice.specs.Slice.{SliceState}
use Rattle.chi_node.specs.Home.{slice_of}
use Rattle.chi_node.specs.System.{SystemState}
use Rattle.chi_library.specs.Calls.{closed_number}

-- a copy: what is held there, what the handle that is to have it held, the answer, and what that handle holds then: the
-- same, or what it held where memory runs out or nothing is there
abbrev pub IsCopied : {X : Type 0} → Option X → Option X → ℕ → Option X → Type 0
IsCopied None held answer new = (answer ≡ closed_number) × (new ≡ held)
IsCopied (Some s) held answer new = ((answer ≡ 0) × (new ≡ Some s)) ⊎ ((answer ≡ 8) × (new ≡ held))

-- a comparison: what is held there and there, the answer, and what is told: 1 where the two are the same, and 0 where they
-- differ or one isn't there
abbrev pub IsCompared : {X : Type 0} → Option X → Option X → ℕ → ℕ → Type 0
IsCompared None other answer equal = (answer ≡ closed_number) × (equal ≡ 0)
IsCompared (Some s) None answer equal = (answer ≡ closed_number) × (equal ≡ 0)
IsCompared (Some s) (Some t) answer equal = (answer ≡ 0) × (((equal ≡ 1) × (s ≡ t)) ⊎ ((equal ≡ 0) × (s ≢ t)))

-- the slice of a line in a node that is held
abbrev pub node_slice : Option SystemState → ℕ → Option SliceState
node_slice None l = None
node_slice (Some y) l = Some (slice_of y.home l)
