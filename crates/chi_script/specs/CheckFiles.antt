-- A check file is a header and commands with comments between them, or faulty: then its first faulty line
-- is told (docs/FORMATS.md, "Check files").
use Rattle.std.specs.Prelude.{ℕ, ◌+◌, ◌==◌, nat_lt, List, [], ◌∷◌, ◌++◌, Result, Ok, Err, length, if◌then◌else◌, ok_or}
use Rattle.chi_flit.specs.Config.{Sizes}
use Rattle.chi_script.specs.declared.faults.Fault.{Fault}
use Rattle.chi_script.specs.declared.faults.Fault.TheVariants.{BadHeader, BadCommand, MissingNewline, TooLarge}
use Rattle.chi_script.specs.Files.{◌>>=◌, lines_of, header_at}
use Rattle.chi_script.specs.Checks.{CheckLine, check_of, is_comment}

-- the most bytes that a check file may have
abbrev pub most_check_bytes : ℕ
most_check_bytes = 16777216

-- the check that line n is
abbrev pub check_at : ℕ → List ℕ → Result CheckLine Fault
check_at n line = ok_or (check_of n line) (BadCommand n)

-- the same as a list, which has none where the line is a comment
abbrev pub checks_at : ℕ → List ℕ → Result (List CheckLine) Fault
checks_at n line = if is_comment line then Ok [] else (check_at n line >>= λ check. Ok (check ∷ []))

-- the checks so far, and that of line n behind them
abbrev pub with_check_line : List CheckLine → ℕ → List ℕ → Result (List CheckLine) Fault
with_check_line before n line = checks_at n line >>= λ here. Ok (before ++ here)

-- the checks of the lines from line n on
unfoldable pub checks_of : ℕ → List (List ℕ) → Result (List CheckLine) Fault
checks_of n [] = Ok []
checks_of n (last ∷ []) = if length last == 0 then Ok [] else Err (MissingNewline n)
checks_of n (line ∷ next ∷ rest) = do
  here ← checks_at n line
  later ← checks_of (n + 1) (next ∷ rest)
  Ok (here ++ later)

-- the header and the checks of the lines from line n on
unfoldable pub check_script_of : ℕ → List (List ℕ) → Result (Sizes × List CheckLine) Fault
check_script_of n [] = Err (BadHeader n)
check_script_of n (last ∷ []) = if length last == 0 then Err (BadHeader n) else Err (MissingNewline n)
check_script_of n (line ∷ next ∷ rest) =
    if is_comment line then check_script_of (n + 1) (next ∷ rest)
    else (header_at n line >>= λ header. checks_of (n + 1) (next ∷ rest) >>= λ checks. Ok (header, checks))

-- a file's header and checks, or its first fault
unfoldable pub check_file_of : List ℕ → Result (Sizes × List CheckLine) Fault
check_file_of file = if nat_lt most_check_bytes (length file) then Err TooLarge else check_script_of 1 (lines_of file)
