-- The rule of a cell with a tally (docs/FORMATS.md, "Reports and tallies").
use Rattle.std.specs.Prelude.{◌≡◌, ℕ, true, false, List, [], ◌∷◌, ◌++◌, slice_index}
use mathlib.Core.Option.{some}
use lib.ListN.{get_elem?}
use Rattle.chi_audit.specs.declared.tally.Tally.{Tally}
use Rattle.chi_audit.specs.declared.tally_view.TallyView.{TallyView}
use Rattle.chi_audit.specs.Tally.{last_tally, Rises, IsBeginning}

-- the three words of a cell as a tally
abbrev pub tally_of : List ℕ → Tally
tally_of words =
    record { turns = slice_index words 0; loads = slice_index words 1; stores = slice_index words 2 }

-- the pass that stores, and has stored these
abbrev pub writer_view : List Tally → TallyView
writer_view stored = record { writes = true; seen = stored }

-- a pass that reads, and knows that these were stored
abbrev pub watcher_view : List Tally → TallyView
watcher_view seen = record { writes = false; seen = seen }

-- There is one list of what was stored. No number goes back in it, its last tally is in the cell, the one pass
-- that stores knows it whole, and each pass knows a beginning of it.
pub record CellKept (words : List ℕ) (views : List TallyView) : Type 0 where
  pub log : List Tally
  pub seat : ℕ
  pub rising : Rises log
  pub last : tally_of words ≡ last_tally log
  pub writer : (pass : ℕ) (v : TallyView) → get_elem? views pass ≡ some v → v.writes ≡ true
      → (pass ≡ seat) × (v.seen ≡ log)
  pub known : (pass : ℕ) (v : TallyView) → get_elem? views pass ≡ some v → IsBeginning v.seen log

-- the tally was stored after those before
abbrev pub IsTold : TallyView → Tally → TallyView → Type 0
IsTold v tally w = w ≡ record v { seen = v.seen ++ tally ∷ [] }

-- these words were stored
abbrev pub IsStored : TallyView → List ℕ → TallyView → Type 0
IsStored v words w = IsTold v (tally_of words) w

-- the tally was read, and by then at least as much was stored as had been seen
pub record IsSeen (v : TallyView) (tally : Tally) (w : TallyView) : Type 0 where
  pub longer : IsBeginning v.seen w.seen
  pub rising : Rises w.seen
  pub last : tally ≡ last_tally w.seen

-- whoever stores is one pass; the cell shows the last that it stored, and what any pass knows is a beginning of
-- what it stored
pub record AreBeginnings (words : List ℕ) (views : List TallyView) : Type 0 where
  pub one : (a b : ℕ) (v w : TallyView) → get_elem? views a ≡ some v → get_elem? views b ≡ some w
      → v.writes ≡ true → w.writes ≡ true → a ≡ b
  pub shows : (a : ℕ) (v : TallyView) → get_elem? views a ≡ some v → v.writes ≡ true
      → tally_of words ≡ last_tally v.seen
  pub beginnings : (a b : ℕ) (v w : TallyView)
      → get_elem? views a ≡ some v → get_elem? views b ≡ some w
      → v.writes ≡ true → IsBeginning w.seen v.seen
