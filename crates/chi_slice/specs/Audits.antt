-- What is counted in the slices of a node, and the verdict on them (docs/PROTOCOL.md, "Coherence", and
-- docs/FORMATS.md, "Replay files").
use Rattle.std.specs.Prelude.{◌≡◌, ◌↔◌, ℕ, List, All, Bool, IsTrue, sum_by}
use Rattle.chi_journal.specs.Journal.{load_count, store_count}
use Rattle.chi_slice.specs.Slice.{SliceState}
use Rattle.chi_slice.specs.Coherence.{IsCoherentSlice}

-- the loads and the stores of slices, as their journals count them
abbrev pub loads_in : List SliceState → ℕ
loads_in slices = sum_by (λ s. load_count s.journal) slices

abbrev pub stores_in : List SliceState → ℕ
stores_in slices = sum_by (λ s. store_count s.journal) slices

-- the loads and the stores of slices, and whether each slice is coherent
pub record IsAudited (slices : List SliceState) (l s : ℕ) (verdict : Bool) : Type 0 where
  pub loads : l ≡ loads_in slices
  pub stores : s ≡ stores_in slices
  pub coherent : IsTrue verdict ↔ All IsCoherentSlice slices
