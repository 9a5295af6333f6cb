-- The lines of a trace that comes in pieces (docs/TRACES.md, "Traces").
use Rattle.std.specs.Prelude.{ℕ, ◌==◌, nat_lt, Bool, List, Option, Some, None, if◌then◌else◌, length}
use Rattle.chi_log.specs.declared.lines.Malformed.{Malformed}
use Rattle.chi_log.specs.declared.lines.Malformed.TheVariants.{Gzip, LongLine}
use Rattle.chi_log.specs.Lines.{is_gzip}

-- LF ends a line
abbrev pub is_line_end : ℕ → Bool
is_line_end byte = byte == 10

-- the beginning of a line that is none, whatever follows
abbrev pub cut_fault : List ℕ → Option Malformed
cut_fault bytes = if is_gzip bytes then Some Gzip else (if nat_lt 4096 (length bytes) then Some LongLine else None)
