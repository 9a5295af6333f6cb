-- A table of the words of each line (docs/PROTOCOL.md, "The journal and last values").
use Rattle.std.specs.Prelude.{ℕ, List, [], get_or, slice_set}
use Rattle.chi_journal.specs.declared.record.Record.{Record}
use Rattle.chi_journal.specs.declared.record.Record.TheVariants.{Load, Store}

-- the words of a line
abbrev pub words_in_row : List (List ℕ) → ℕ → List ℕ
words_in_row rows line = get_or rows line []

-- the value of a word
abbrev pub value_at : List (List ℕ) → ℕ → ℕ → ℕ
value_at rows line word = get_or (words_in_row rows line) word 0

-- a store changes its word
abbrev pub rows_after : List (List ℕ) → Record → List (List ℕ)
rows_after rows (Load agent line word value) = rows
rows_after rows (Store agent line word value) = slice_set rows line.0 (slice_set (words_in_row rows line.0) word.0 value)
