-- What is in flight at one line: the cells of each of the eight agents (docs/PROTOCOL.md, "Messages").
use Rattle.std.specs.Prelude.{ℕ, List, [], ◌∷◌, Bool, true, false, Option, Some, None, is_some, replicate, if◌then◌else◌}
use Rattle.std.specs.List.{slice_index_or}
use Rattle.chi_flit.specs.declared.numbers.Agent.{Agent}
use Rattle.chi_flit.specs.declared.snoop.Snoop.{Snoop}
use Rattle.chi_flit.specs.declared.message.Channel.{Channel}
use Rattle.chi_flit.specs.declared.refusal.Refusal.{Refusal}
use Rattle.chi_flit.specs.declared.refusal.Refusal.TheVariants.{NoFlit}
use Rattle.chi_wires.specs.declared.cells.Cells.{Cells}
use Rattle.chi_wires.specs.Cell.{cell_of, no_flits}

-- the cells of an agent; nothing outside
abbrev pub cells_at : List Cells → ℕ → Cells
cells_at flits agent = slice_index_or flits agent no_flits

-- nothing is in flight
abbrev pub no_wires : List Cells
no_wires = replicate 8 no_flits

-- a take is refused 7 where the cell is empty
abbrev pub take_refusal : List Cells → Agent → Channel → Option Refusal
take_refusal flits agent channel = if is_some (cell_of (cells_at flits agent.0) channel) then None else Some NoFlit

-- a snoop in flight to each marked agent
abbrev pub with_snoops : List Bool → Snoop → List Cells → List Cells
with_snoops [] snoop flits = flits
with_snoops (marked ∷ agents) snoop [] = []
with_snoops (true ∷ agents) snoop (cells ∷ flits) = record cells { snp = Some snoop } ∷ with_snoops agents snoop flits
with_snoops (false ∷ agents) snoop (cells ∷ flits) = cells ∷ with_snoops agents snoop flits
