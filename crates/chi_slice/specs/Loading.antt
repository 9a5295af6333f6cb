-- Which parts make a slice: they keep what a slice keeps, and an index of their slots stands (docs/PROTOCOL.md, "One line",
-- "Agreement" and "The journal and last values").
use Rattle.std.specs.Prelude.{◌≡◌, ℕ, ◌<◌, List, length, Bool, true, Option, Some, None}
use Rattle.chi_flit.specs.declared.numbers.Slot.{Slot}
use Rattle.chi_flit.specs.Config.{Sizes, are_in_limits}
use Rattle.chi_journal.specs.Journal.{IsLegalLog, LogKept, opening_log}
use Rattle.chi_line.specs.LineState.{LineState}
use Rattle.chi_line.specs.Keeping.{HasLowSlots}
use Rattle.chi_line.specs.Kept.{Kept}
use Rattle.chi_line.specs.Places.{position_at}
use Rattle.chi_slice.specs.declared.places.RequestPlace.{RequestPlace}
use Rattle.chi_slice.specs.Index.{Indexed, IsInside, IsShown, at_line}
use Rattle.chi_slice.specs.Slice.{SliceKept, SliceState, is_line_in_range, last_of, line, row_count, slice_with}

-- parts that make a slice
pub record IsLoadable (s : SliceState) : Type 0 where
  pub kept : SliceKept s
  -- some index of the slots in use
  pub places : List (Option RequestPlace)
  pub indexed : Indexed s places

-- these lines, where the journal doesn't matter
abbrev pub lines_alone : Sizes → ℕ → List LineState → SliceState
lines_alone config index lines = slice_with config index lines (opening_log config.lines config.journal)

-- a node has such a slice, and the lines are as many as it has
pub record HasRows (s : SliceState) : Type 0 where
  pub config : are_in_limits s.config ≡ true
  pub index : s.index < s.config.slices
  pub rows : length s.lines ≡ row_count s.config s.index

-- the journal is of such a node, and legal
pub record JournalFits (s : SliceState) : Type 0 where
  pub lines : s.journal.lines ≡ s.config.lines
  pub limit : s.journal.limit ≡ s.config.journal
  pub kept : LogKept s.journal
  pub legal : IsLegalLog s.journal

-- of a line, if it is in the slice: it keeps what a line keeps, and it has no slot of a number above 7
abbrev pub IsKeptAt : SliceState → ℕ → Type 0
IsKeptAt s l = is_line_in_range s l ≡ true → Kept (last_of s l) (line s l)

abbrev pub AreLinesKept : SliceState → Type 0
AreLinesKept s = (l : ℕ) → IsKeptAt s l

abbrev pub IsLowAt : SliceState → ℕ → Type 0
IsLowAt s l = is_line_in_range s l ≡ true → HasLowSlots (line s l)

abbrev pub AreSlotsLow : SliceState → Type 0
AreSlotsLow s = (l : ℕ) → IsLowAt s l

-- it shows of a slot what the place says of it, or nothing
abbrev pub IsShownAt : SliceState → ℕ → Slot → Option RequestPlace → ℕ → Type 0
IsShownAt s n slot place l = is_line_in_range s l ≡ true → position_at (line s l) n slot ≡ at_line place l

abbrev pub IsHiddenAt : SliceState → ℕ → Slot → ℕ → Type 0
IsHiddenAt s n slot l = is_line_in_range s l ≡ true → position_at (line s l) n slot ≡ None

-- a place is at a line of the slice, which shows it
pub record IsFound (s : SliceState) (n : ℕ) (slot : Slot) (place : RequestPlace) : Type 0 where
  pub inside : is_line_in_range s place.line.0 ≡ true
  pub shown : position_at (line s place.line.0) n slot ≡ Some place.at

-- what was looked for: each line shows the slot as the place says exactly where it shows it as some place says
pub record IsLookedUp (s : SliceState) (n : ℕ) (slot : Slot) (place : Option RequestPlace) (single : Bool) : Type 0 where
  pub inside : IsInside s place
  pub shows : single ≡ true → IsShown s n slot place
  pub always : (some : Option RequestPlace) → IsShown s n slot some → single ≡ true
