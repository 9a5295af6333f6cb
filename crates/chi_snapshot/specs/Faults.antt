-- Why bytes are not made a slice, and what is printed of it (docs/SNAPSHOTS.md).
use Rattle.std.specs.Prelude.{◌≡◌, ℕ, List, ◌++◌, IsTrue, take, length, codes}
use Rattle.chi_flit.specs.Config.{Sizes}
use Rattle.chi_snapshot.specs.Bytes.{one_byte}
use Rattle.chi_snapshot.specs.Snapshot.{head_bytes, is_sealed, sizes_bytes}
use Rattle.chi_snapshot.specs.declared.faults.LoadFault.{LoadFault}
use Rattle.chi_snapshot.specs.declared.faults.LoadFault.TheVariants.{NoMemory, OtherVersion, OtherSize, Damaged}

abbrev pub load_fault_text : LoadFault → List ℕ
load_fault_text NoMemory = codes "NoMemory"
load_fault_text OtherVersion = codes "OtherVersion"
load_fault_text OtherSize = codes "OtherSize"
load_fault_text Damaged = codes "Damaged"

-- bytes begin with these
abbrev pub HasFront : List ℕ → List ℕ → Type 0
HasFront front bytes = front ≡ take (length front) bytes

-- what the bytes of a slice of these sizes and this index begin with
abbrev pub front_bytes : Sizes → ℕ → List ℕ
front_bytes config index = head_bytes ++ sizes_bytes config ++ one_byte index

-- bytes that begin with "CHIS", and not with the head
abbrev pub IsOfOtherVersion : List ℕ → Type 0
IsOfOtherVersion bytes = HasFront (take 4 head_bytes) bytes × (¬ HasFront head_bytes bytes)

-- bytes with the head and their digest, that don't begin as those of a slice of these sizes and this index do
abbrev pub IsOfOtherSize : Sizes → ℕ → List ℕ → Type 0
IsOfOtherSize config index bytes = HasFront head_bytes bytes × IsTrue (is_sealed bytes) × (¬ HasFront (front_bytes config index) bytes)

-- what a refusal says of the bytes: which of both they are, or that they are neither
abbrev pub IsFaultOf : Sizes → ℕ → List ℕ → LoadFault → Type 0
IsFaultOf config index bytes NoMemory = Unit {0}
IsFaultOf config index bytes OtherVersion = IsOfOtherVersion bytes
IsFaultOf config index bytes OtherSize = IsOfOtherSize config index bytes
IsFaultOf config index bytes Damaged = (¬ IsOfOtherVersion bytes) × (¬ IsOfOtherSize config index bytes)

-- bytes that begin with the head, and as those of a slice of these sizes and this index do
abbrev pub IsAtFront : Sizes → ℕ → List ℕ → Type 0
IsAtFront config index bytes = HasFront head_bytes bytes × HasFront (front_bytes config index) bytes

-- a refusal for what stands behind the front
abbrev pub IsBehindFront : LoadFault → Type 0
IsBehindFront NoMemory = Unit {0}
IsBehindFront OtherVersion = ⊥
IsBehindFront OtherSize = ⊥
IsBehindFront Damaged = Unit {0}
