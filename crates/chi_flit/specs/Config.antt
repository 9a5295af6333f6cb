-- The sizes of a node, and their limits (docs/PROTOCOL.md, "Limits").
use Rattle.std.specs.Prelude.{ℕ, ◌+◌, ◌/◌, ◌%◌, List, [], ◌∷◌, Bool, false, ◌&&◌, ◌||◌, ◌==◌, nat_le, nat_lt, Option, Some, None, if◌then◌else◌}
use Rattle.chi_flit.specs.declared.credit.Profile.{Profile}
use Rattle.chi_flit.specs.declared.credit.Profile.TheVariants.{Two, Four}

-- (a journal of 0 records keeps none, and has no end: "The journal and last values")
pub record Sizes : Type 0 where
  pub agents : ℕ
  pub lines : ℕ
  pub slices : ℕ
  pub entries : List ℕ
  pub journal : ℕ
  pub profile : Profile

-- the sizes of these numbers
abbrev pub sizes_of : ℕ → ℕ → ℕ → List ℕ → ℕ → Profile → Sizes
sizes_of agents lines slices entries journal profile =
    record { agents = agents; lines = lines; slices = slices; entries = entries; journal = journal; profile = profile }

abbrev pub two_types : ℕ → ℕ → ℕ → ℕ → ℕ → ℕ → Sizes
two_types agents lines slices t0 t1 journal = sizes_of agents lines slices (t0 ∷ t1 ∷ 0 ∷ 0 ∷ []) journal Two

abbrev pub four_types : ℕ → ℕ → ℕ → List ℕ → ℕ → Sizes
four_types agents lines slices entries journal = sizes_of agents lines slices entries journal Four

abbrev pub is_between : ℕ → ℕ → ℕ → Bool
is_between low high n = nat_le low n && nat_le n high

-- a node has one, two, four or eight slices; line l is in slice l mod slices
abbrev pub is_slice_count : ℕ → Bool
is_slice_count n = n == 1 || (n == 2 || (n == 4 || n == 8))

-- the row of a line in the slice of this index; none of a line outside the node or in another slice
abbrev pub row_in : Sizes → ℕ → ℕ → Option ℕ
row_in c index line = if nat_lt line c.lines && (line % c.slices == index) then Some (line / c.slices) else None

-- the entries of each type: each type of the profile has at least one, and no other has any
abbrev pub are_entries : Profile → List ℕ → Bool
are_entries Two (t0 ∷ t1 ∷ t2 ∷ t3 ∷ []) = nat_le 1 t0 && (nat_le 1 t1 && (nat_le (t0 + t1) 64 && (t2 == 0 && t3 == 0)))
are_entries Four (t0 ∷ t1 ∷ t2 ∷ t3 ∷ []) = nat_le 1 t0 && (nat_le 1 t1 && (nat_le 1 t2 && (nat_le 1 t3 && nat_le (t0 + (t1 + (t2 + t3))) 256)))
are_entries profile entries = false

-- the limits; a journal has up to 65,536 records, or keeps none
abbrev pub are_in_limits : Sizes → Bool
are_in_limits c =
    is_between 1 8 c.agents
    && (is_between 1 64 c.lines && (is_slice_count c.slices && (nat_le c.slices c.lines && (nat_le c.journal 65536 && are_entries c.profile c.entries))))

-- the sizes, where they are in the limits
abbrev pub sizes_if : Sizes → Option Sizes
sizes_if c = if are_in_limits c then Some c else None

-- the same, where the journal has a record or more
abbrev pub config_if : Sizes → Option Sizes
config_if c = if nat_le 1 c.journal && are_in_limits c then Some c else None
