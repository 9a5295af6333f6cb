-- What the bytes of a slice are told as, and what is made of bytes, by C's numbers (docs/LIBRARY.md, "Snapshots").
use Rattle.std.specs.Prelude.{◌≡◌, ◌⊎◌, ℕ, ◌<◌, List, ◌++◌, length, drop, Option, Some, None}
use Rattle.chi_slice.specs.Words.{Sizes}
use Rattle.chi_slice.specs.Slice.{SliceState}
use Rattle.chi_snapshot.specs.declared.faults.LoadFault.{LoadFault}
use Rattle.chi_snapshot.specs.declared.faults.LoadFault.TheVariants.{NoMemory, OtherVersion, OtherSize, Damaged}
use Rattle.chi_snapshot.specs.Faults.{IsFaultOf}
use Rattle.chi_snapshot.specs.Snapshot.{saved}
use Rattle.chi_library.specs.Calls.{already_open, closed_number}

-- bytes that a room is to hold: what it holds, the answer, what it holds then, and the number that is told. All of them, 0,
-- where they fit; else 1, with how many they are, or 8 where memory runs out
abbrev pub AreBytesTold : List ℕ → List ℕ → ℕ → List ℕ → ℕ → Type 0
AreBytesTold bytes room answer new told =
    ((answer ≡ 0) × (told ≡ length bytes) × (new ≡ bytes ++ drop (length bytes) room))
    ⊎ (((answer ≡ 1) × (told ≡ length bytes) × (new ≡ room) × (length room < length bytes))
    ⊎ ((answer ≡ 8) × (told ≡ 0) × (new ≡ room)))

-- a saving: what is held there
abbrev pub IsSaving : Option SliceState → List ℕ → ℕ → List ℕ → ℕ → Type 0
IsSaving None room answer new told = (answer ≡ closed_number) × (told ≡ 0) × (new ≡ room)
IsSaving (Some s) room answer new told = AreBytesTold (saved s) room answer new told

-- the slice of these sizes and this index that has these bytes
abbrev pub IsSavedAs : Sizes → ℕ → List ℕ → SliceState → Type 0
IsSavedAs config index bytes s = (bytes ≡ saved s) × (s.config ≡ config) × (s.index ≡ index)

-- the answers of bytes that are not made a slice: 8 where memory runs out, 249 of another version, 250 of another size, and 251
-- of damaged ones
abbrev pub load_fault_number : LoadFault → ℕ
load_fault_number NoMemory = 8
load_fault_number OtherVersion = 249
load_fault_number OtherSize = 250
load_fault_number Damaged = 251

-- the answer is the number of a fault of these bytes
abbrev pub IsLoadFault : Sizes → ℕ → List ℕ → ℕ → Type 0
IsLoadFault config index bytes answer = (fault : LoadFault) × (answer ≡ load_fault_number fault) × IsFaultOf config index bytes fault

-- a loading: the sizes, the index, the bytes, what the handle held, the answer, and what it holds then
abbrev pub IsLoading : Option Sizes → ℕ → List ℕ → Option SliceState → ℕ → Option SliceState → Type 0
IsLoading sizes index bytes (Some s) answer new = (answer ≡ already_open) × (new ≡ Some s)
IsLoading None index bytes None answer new = (answer ≡ 10) × (new ≡ None)
IsLoading (Some config) index bytes None answer None = IsLoadFault config index bytes answer
IsLoading (Some config) index bytes None answer (Some s) = (answer ≡ 0) × IsSavedAs config index bytes s
