-- Snoops to the first marked agents of a row, and to one more.
use Rattle.std.proofs.Common.{◌≡◌, ℕ, ◌+◌, ◌<◌, suc, zero, List, [], ◌∷◌, Bool, true, false, Some, length, get_or, take, set, add-one, sym, subst, arith}
use Rattle.chi_flit.specs.declared.snoop.Snoop.{Snoop}
use Rattle.chi_wires.specs.declared.cells.Cells.{Cells}
use Rattle.chi_wires.specs.Cell.{no_flits}
use Rattle.chi_wires.specs.Flits.{with_snoops}

-- the row where one more agent is looked at
abbrev pub with_one_more : Bool → Snoop → List Cells → ℕ → List Cells
with_one_more true snoop row i = set row i (record (get_or row i no_flits) { snp = Some snoop })
with_one_more false snoop row i = row

pub marked_more : (i : ℕ) (agents : List Bool) (snoop : Snoop) (row : List Cells) → i < length agents → i < length row
    → with_snoops (take (suc i) agents) snoop row ≡ with_one_more (get_or agents i false) snoop (with_snoops (take i agents) snoop row) i
marked_more i [] snoop row lt low = absurd (omega (arith, lt))
marked_more i (b ∷ agents) snoop [] lt low = absurd (omega (arith, low))
marked_more zero (true ∷ agents) snoop (c ∷ row) lt low = search arith
marked_more zero (false ∷ agents) snoop (c ∷ row) lt low = search arith
marked_more (suc i) (true ∷ agents) snoop (c ∷ row) lt low = grind (arith, marked_more i agents snoop row)
marked_more (suc i) (false ∷ agents) snoop (c ∷ row) lt low = grind (arith, marked_more i agents snoop row)

-- the loop's step, where it is known whether the agent is marked
pub looked_at : (i : ℕ) (agents : List Bool) (snoop : Snoop) (row now : List Cells) (marked : Bool)
    → now ≡ with_snoops (take i agents) snoop row → get_or agents i false ≡ marked
    → i < length agents → i < length row
    → with_one_more marked snoop now i ≡ with_snoops (take (i + 1) agents) snoop row
looked_at i agents snoop row now marked is known lt low =
    subst (λ k. with_one_more marked snoop now i ≡ with_snoops (take k agents) snoop row) (sym (add-one i))
    (subst (λ b. with_one_more b snoop now i ≡ with_snoops (take (suc i) agents) snoop row) known
    (subst (λ then. with_one_more (get_or agents i false) snoop then i ≡ with_snoops (take (suc i) agents) snoop row) (sym is)
    (sym (marked_more i agents snoop row lt low))))
