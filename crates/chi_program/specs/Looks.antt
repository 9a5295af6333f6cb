-- Whether an answer is wanted in a check file, and whether it has a line (docs/FORMATS.md, "Check files").
use Rattle.std.specs.Prelude.{ℕ, nat_le, nat_lt, Bool, false, List, Result, Ok, Err, is_some, length}
use Rattle.std.specs.List.{list_any}
use Rattle.chi_flit.specs.declared.numbers.Line.{Line}
use Rattle.chi_script.specs.declared.faults.Fault.{Fault}
use Rattle.chi_flit.specs.Config.{Sizes}
use Rattle.chi_script.specs.Checks.{CheckLine}

abbrev pub is_wanted : CheckLine → Bool
is_wanted check = is_some check.wanted

abbrev pub any_wanted : List CheckLine → Bool
any_wanted checks = list_any is_wanted checks

-- of a good file's commands
abbrev pub wants_in : Result (Sizes × List CheckLine) Fault → Bool
wants_in (Ok (header, checks)) = any_wanted checks
wants_in (Err fault) = false

-- the header of a good file has no such line
abbrev pub lacks_line : Line → Result (Sizes × List CheckLine) Fault → Bool
lacks_line line (Ok (header, checks)) = nat_le header.lines line.0
lacks_line line (Err fault) = false

-- a good file has fewer commands
abbrev pub lacks_rows : ℕ → Result (Sizes × List CheckLine) Fault → Bool
lacks_rows first (Ok (header, checks)) = nat_lt (length checks) first
lacks_rows first (Err fault) = false
