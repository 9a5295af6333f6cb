-- The sizes of a node in C's numbers (docs/PROTOCOL.md, "Limits"; docs/LIBRARY.md, "Numbers").
use Rattle.std.specs.Prelude.{Option, Some, None}
use Rattle.chi_flit.specs.declared.credit.Profile.{Profile}
use Rattle.chi_slice.specs.Words.{sizes_if, sizes_of, Sizes}
use Rattle.chi_library.specs.declared.sizes.ChiConfig.{ChiConfig}
use Rattle.chi_library.specs.Numbers.{profile_of}

-- the sizes in a profile, where there is one; a journal of 0 records keeps none
abbrev pub sizes_in : ChiConfig → Option Profile → Option Sizes
sizes_in c None = None
sizes_in c (Some profile) = sizes_if (sizes_of c.agents c.lines c.slices c.entries c.journal profile)

-- the sizes that C's numbers name, where they are in the limits
abbrev pub config_of : ChiConfig → Option Sizes
config_of c = sizes_in c (profile_of c.profile)
