-- A storm file is a header and operations, or faulty: then its first faulty line is told
-- (docs/FORMATS.md, "Storm files").
use Rattle.std.specs.Prelude.{ℕ, ◌+◌, ◌==◌, nat_lt, List, [], ◌∷◌, Result, Ok, Err, length, if◌then◌else◌, ok_or}
use Rattle.chi_flit.specs.Config.{Sizes}
use Rattle.chi_script.specs.declared.faults.Fault.{Fault}
use Rattle.chi_script.specs.declared.faults.Fault.TheVariants.{BadHeader, BadCommand, MissingNewline, TooLarge}
use Rattle.chi_script.specs.Words.{words_of}
use Rattle.chi_script.specs.Files.{◌>>=◌, lines_of, header_at}
use Rattle.chi_script.specs.declared.operations.AgentOperation.{AgentOperation}
use Rattle.chi_script.specs.Operations.{operation_of}

-- the operation that line n is
abbrev pub operation_at : Sizes → ℕ → List ℕ → Result AgentOperation Fault
operation_at header n line = ok_or (operation_of header (words_of line)) (BadCommand n)

-- the lines from line n on
unfoldable pub operations_from : Sizes → ℕ → List (List ℕ) → Result (List AgentOperation) Fault
operations_from header n [] = Ok []
operations_from header n (last ∷ []) = if length last == 0 then Ok [] else Err (MissingNewline n)
operations_from header n (line ∷ next ∷ rest) = do
  operation ← operation_at header n line
  operations ← operations_from header (n + 1) (next ∷ rest)
  Ok (operation ∷ operations)

abbrev pub storm_in : List (List ℕ) → Result (Sizes × List AgentOperation) Fault
storm_in [] = Err (BadHeader 1)
storm_in (last ∷ []) = if length last == 0 then Err (BadHeader 1) else Err (MissingNewline 1)
storm_in (line ∷ next ∷ rest) = do
  header ← header_at 1 line
  operations ← operations_from header 2 (next ∷ rest)
  Ok (header, operations)

-- a file's header and operations, or its first fault
unfoldable pub storm_of : List ℕ → Result (Sizes × List AgentOperation) Fault
storm_of file = if nat_lt 1048576 (length file) then Err TooLarge else storm_in (lines_of file)
