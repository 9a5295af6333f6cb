-- The header of a replay file: the sizes of a node (docs/FORMATS.md, "Replay files", and docs/PROTOCOL.md, "Limits").
use Rattle.std.specs.Prelude.{ℕ, ◌&&◌, nat_le, Bool, List, [], ◌∷◌, Option, Some, None, if◌then◌else◌, codes}
use Rattle.chi_flit.specs.declared.credit.Profile.TheVariants.{Two, Four}
use Rattle.chi_flit.specs.Config.{Sizes, are_in_limits, config_if, sizes_of}
use Rattle.chi_script.specs.declared.headers.CreditTypes.{CreditTypes}
use Rattle.chi_script.specs.declared.headers.SizeFields.{SizeFields}
use Rattle.chi_script.specs.Words.{◌>>=◌, is_text, number_of, words_of}

-- the limits are those of a node whose journals keep records
abbrev pub is_in_limits : Sizes → Bool
is_in_limits header = nat_le 1 header.journal && are_in_limits header

-- the credit types: T0 T1 K, or T0 T1 T2 T3 K; a type that the profile lacks has no entries
abbrev pub types_of : List (List ℕ) → Option CreditTypes
types_of (t0 ∷ t1 ∷ k ∷ []) = do
  first ← number_of t0
  second ← number_of t1
  journal ← number_of k
  Some (record { entries = first ∷ second ∷ 0 ∷ 0 ∷ []; journal = journal; profile = Two })
types_of (t0 ∷ t1 ∷ t2 ∷ t3 ∷ k ∷ []) = do
  first ← number_of t0
  second ← number_of t1
  third ← number_of t2
  fourth ← number_of t3
  journal ← number_of k
  Some (record { entries = first ∷ second ∷ third ∷ fourth ∷ []; journal = journal; profile = Four })
types_of _ = None

-- the sizes that so many numbers write: A L S, and the credit types
abbrev pub header_sizes : List (List ℕ) → Option Sizes
header_sizes (a ∷ l ∷ s ∷ rest) = do
  agents ← number_of a
  lines ← number_of l
  slices ← number_of s
  types ← types_of rest
  Some (sizes_of agents lines slices types.entries types.journal types.profile)
header_sizes _ = None

-- node and the sizes, which are within the limits
abbrev pub header_of : List (List ℕ) → Option Sizes
header_of [] = None
header_of (verb ∷ numbers) = if is_text verb (codes "node") then (header_sizes numbers >>= config_if) else None

-- the header that a line is
abbrev pub line_header : List ℕ → Option Sizes
line_header line = header_of (words_of line)

-- the same sizes, read but not yet held against the limits
abbrev pub sizes_read : SizeFields → Sizes
sizes_read sizes = sizes_of sizes.agents sizes.lines sizes.slices sizes.entries sizes.journal sizes.profile
