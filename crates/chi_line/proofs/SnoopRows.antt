-- A row where snoops are in flight: what each agent's cells are.
use Rattle.std.proofs.Common.{◌≡◌, ℕ, ◌<◌, suc, zero, List, [], ◌∷◌, Bool, true, false, Some, length, get_or, refl, ap, arith}
use Rattle.chi_flit.specs.declared.snoop.Snoop.{Snoop}
use Rattle.chi_wires.specs.declared.cells.Cells.{Cells}
use Rattle.chi_wires.specs.Cell.{no_flits}
use Rattle.chi_wires.specs.Flits.{with_snoops}

-- the cells of an agent that is asked, or not
abbrev pub snooped_cells : Bool → Snoop → Cells → Cells
snooped_cells true snoop cells = record cells { snp = Some snoop }
snooped_cells false snoop cells = cells

pub snooped_at : (marks : List Bool) (snoop : Snoop) (row : List Cells) (m : ℕ) → m < length row
    → get_or (with_snoops marks snoop row) m no_flits ≡ snooped_cells (get_or marks m false) snoop (get_or row m no_flits)
snooped_at [] snoop row m low = refl
snooped_at (marked ∷ marks) snoop [] m low = absurd (omega (arith, low))
snooped_at (true ∷ marks) snoop (cells ∷ row) zero low = refl
snooped_at (false ∷ marks) snoop (cells ∷ row) zero low = refl
snooped_at (true ∷ marks) snoop (cells ∷ row) (suc m) low = snooped_at marks snoop row m (omega (arith, low))
snooped_at (false ∷ marks) snoop (cells ∷ row) (suc m) low = snooped_at marks snoop row m (omega (arith, low))

pub length-with_snoops : (marks : List Bool) (snoop : Snoop) (row : List Cells) → length (with_snoops marks snoop row) ≡ length row
length-with_snoops [] snoop row = refl
length-with_snoops (marked ∷ marks) snoop [] = refl
length-with_snoops (true ∷ marks) snoop (cells ∷ row) = ap suc (length-with_snoops marks snoop row)
length-with_snoops (false ∷ marks) snoop (cells ∷ row) = ap suc (length-with_snoops marks snoop row)
