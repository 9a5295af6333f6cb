-- The words of data that a flit has (docs/TRACES.md, "Traces").
use Rattle.std.specs.Prelude.{ℕ, ◌==◌, Bool, List, Option, Some, None, if◌then◌else◌}
use Rattle.std.specs.Int.{bit_at}
use Rattle.std.specs.List.{slice_index_or}
use Rattle.chi_issue_b.specs.declared.beat.Beat.{Beat}

-- the word of a number, where the beat has it
abbrev pub word_in : Beat → ℕ → Option ℕ
word_in beat number = if bit_at beat.given number == 1 then Some (slice_index_or beat.words number 0) else None

-- all words of a line
abbrev pub whole_beat : List ℕ → Beat
whole_beat words = record { words = words; given = 0xff }

abbrev pub is_whole : Beat → Bool
is_whole beat = beat.given == 0xff
