-- What contracts see of writers and readers (docs/FORMATS.md, "Reports and tallies").
use Rattle.std.specs.Prelude.{◌≡◌, ◌≢◌, ℕ, zero, suc, List, [], ◌∷◌, Some, map, slice_get}
use Rattle.atomic_table.specs.Seated.{TableId}
use Rattle.chi_audit.specs.declared.tally.Tally.{Tally}
use Rattle.chi_audit.specs.Tally.{last_tally, NotAbove, Rises, IsBeginning}

-- an agent, its cell, and the tallies stored there, the oldest first
pub record WriterState : Type 0 where
  pub agent : ℕ
  pub cell : TableId
  pub stored : List Tally

-- a cell, and the tallies known to have been stored there, the oldest first
pub record ReaderState : Type 0 where
  pub cell : TableId
  pub seen : List Tally

abbrev pub writer_agent : WriterState → ℕ
writer_agent w = w.agent

abbrev pub reader_cell : ReaderState → TableId
reader_cell r = r.cell

-- a reader of the cell, which read nothing
abbrev pub unread : TableId → ReaderState
unread cell = record { cell = cell; seen = [] }

-- what the readers know to have been stored in the n-th cell
abbrev pub tallies_seen : List ReaderState → ℕ → List Tally
tallies_seen [] n = []
tallies_seen (r ∷ rs) zero = r.seen
tallies_seen (r ∷ rs) (suc n) = tallies_seen rs n

-- a writer of its agent's cell, which stored nothing
pub record IsFresh (cells : List TableId) (w : WriterState) : Type 0 where
  pub own : slice_get cells w.agent ≡ Some w.cell
  pub unused : w.stored ≡ []

-- a reader read this tally
pub record IsReadBy (r r' : ReaderState) (tally : Tally) : Type 0 where
  pub same : r'.cell ≡ r.cell
  pub longer : IsBeginning r.seen r'.seen
  pub rising : Rises r'.seen
  pub last : tally ≡ last_tally r'.seen
  pub later : NotAbove (last_tally r.seen) tally

-- the n-th reader read this tally: it is the opening one or the last stored by then, no number of it is below
-- one read there before, and what the others know stays
pub record IsRead (rs rs' : List ReaderState) (n : ℕ) (tally : Tally) : Type 0 where
  pub last : tally ≡ last_tally (tallies_seen rs' n)
  pub longer : IsBeginning (tallies_seen rs n) (tallies_seen rs' n)
  pub rising : Rises (tallies_seen rs' n)
  pub later : NotAbove (last_tally (tallies_seen rs n)) tally
  pub others : (m : ℕ) → m ≢ n → slice_get rs' m ≡ slice_get rs m
  pub cells : map reader_cell rs' ≡ map reader_cell rs
