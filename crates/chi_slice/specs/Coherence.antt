-- Coherence of a slice: of each of its lines, and of its journal (Arm IHI 0050 B, 4.1; docs/PROTOCOL.md,
-- "Coherence" and "The journal and last values").
use Rattle.std.specs.Prelude.{◌≡◌, ℕ, true}
use Rattle.chi_journal.specs.Journal.{IsLegalLog}
use Rattle.chi_line.specs.Coherence.{Coherent}
use Rattle.chi_line.specs.Meaning.{standing_of}
use Rattle.chi_slice.specs.Slice.{SliceState, is_line_in_range, last_of, line}

-- a line of the slice is coherent, with the values that the journal has as last stored to its words
abbrev pub IsLineCoherent : SliceState → ℕ → Type 0
IsLineCoherent s l = is_line_in_range s l ≡ true → Coherent (last_of s l) (standing_of (line s l))

abbrev pub AreLinesCoherent : SliceState → Type 0
AreLinesCoherent s = (l : ℕ) → IsLineCoherent s l

pub record IsCoherentSlice (s : SliceState) : Type 0 where
  pub lines : AreLinesCoherent s
  -- each load had the value that was stored last before it
  pub journal : IsLegalLog s.journal
