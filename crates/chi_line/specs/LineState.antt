-- One line of a slice by itself (docs/PROTOCOL.md, "One line"): each requester's copy and pending
-- request, what the home keeps, and what is in flight to and from each requester.
use Rattle.std.specs.Prelude.{ℕ, List, replicate}
use Rattle.std.specs.List.{slice_index_or}
use Rattle.chi_wires.specs.declared.cells.Cells.{Cells}
use Rattle.chi_wires.specs.Cell.{no_flits}
use Rattle.chi_rnline.specs.Rn.{Rn, no_line}
use Rattle.chi_homeline.specs.Home.{Home, idle_home}

pub record LineState : Type 0 where
  pub requesters : List Rn
  pub home : Home
  pub flits : List Cells

-- the line of these parts
abbrev pub line_of_parts : List Rn → Home → List Cells → LineState
line_of_parts requesters home flits = record { requesters = requesters; home = home; flits = flits }

-- what the agent n keeps of the line
abbrev pub rn_of : LineState → ℕ → Rn
rn_of s n = slice_index_or s.requesters n no_line

-- what is in flight to and from the agent n
abbrev pub cells_of : LineState → ℕ → Cells
cells_of s n = slice_index_or s.flits n no_flits

-- memory 0, no copies, nothing pending, waiting, served or in flight
abbrev pub opening_line : LineState
opening_line = record { requesters = replicate 8 no_line; home = idle_home; flits = replicate 8 no_flits }
