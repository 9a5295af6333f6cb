-- A replay file is a header and commands, or faulty: then its first faulty line is told (docs/FORMATS.md,
-- "Replay files").
use Rattle.std.specs.Prelude.{◌≡◌, ℕ, ◌+◌, ◌==◌, nat_lt, List, [], ◌∷◌, Result, Ok, Err, length, if◌then◌else◌, ok_or}
use Rattle.std.specs.List.{slice_split}
use Rattle.chi_flit.specs.Config.{Sizes}
use Rattle.chi_script.specs.declared.commands.Command.{Command}
use Rattle.chi_script.specs.declared.faults.Fault.{Fault}
use Rattle.chi_script.specs.declared.faults.Fault.TheVariants.{BadHeader, BadCommand, MissingNewline, TooLarge}
use Rattle.chi_script.specs.Words.{words_of}
use Rattle.chi_script.specs.Headers.{header_of}
use Rattle.chi_script.specs.Commands.{command_of}

infixl 10 ◌>>=◌
abbrev pub ◌>>=◌ : {A B : Type 0} → Result A Fault → (A → Result B Fault) → Result B Fault
(Ok x) >>= next = next x
(Err fault) >>= next = Err fault

-- the lines, and last what no line end closes
abbrev pub lines_of : List ℕ → List (List ℕ)
lines_of file = slice_split (λ b. b == 10) file

-- a text that is one line, without its line end
abbrev pub IsOneLine : List ℕ → Type 0
IsOneLine text = lines_of text ≡ text ∷ []

-- the header that line n is
abbrev pub header_at : ℕ → List ℕ → Result Sizes Fault
header_at n line = ok_or (header_of (words_of line)) (BadHeader n)

-- the command that line n is
abbrev pub command_at : ℕ → List ℕ → Result Command Fault
command_at n line = ok_or (command_of (words_of line)) (BadCommand n)

-- the lines from line n on
unfoldable pub commands_of : ℕ → List (List ℕ) → Result (List Command) Fault
commands_of n [] = Ok []
commands_of n (last ∷ []) = if length last == 0 then Ok [] else Err (MissingNewline n)
commands_of n (line ∷ next ∷ rest) = do
  command ← command_at n line
  commands ← commands_of (n + 1) (next ∷ rest)
  Ok (command ∷ commands)

abbrev pub script_of : List (List ℕ) → Result (Sizes × List Command) Fault
script_of [] = Err (BadHeader 1)
script_of (last ∷ []) = if length last == 0 then Err (BadHeader 1) else Err (MissingNewline 1)
script_of (line ∷ next ∷ rest) = do
  header ← header_at 1 line
  commands ← commands_of 2 (next ∷ rest)
  Ok (header, commands)

-- a header that was read, and what is read behind it
abbrev pub with_header : Sizes → Result (List Command) Fault → Result (Sizes × List Command) Fault
with_header header read = read >>= λ commands. Ok (header, commands)

-- a file's header and commands, or its first fault
unfoldable pub file_of : List ℕ → Result (Sizes × List Command) Fault
file_of file = if nat_lt 1048576 (length file) then Err TooLarge else script_of (lines_of file)

-- the lines behind a header are all commands
abbrev pub AreCommands : List ℕ → Type 0
AreCommands lines = (commands : List Command) × (commands_of 2 (lines_of lines) ≡ Ok commands)
