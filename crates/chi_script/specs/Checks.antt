-- The lines of a check file: a comment, or a command that may carry the answer that is wanted of it
-- (docs/FORMATS.md, "Check files").
use Rattle.std.specs.Prelude.{ℕ, ◌==◌, Bool, true, List, [], ◌∷◌, Option, Some, None, drop, length, take, if◌then◌else◌, codes}
use Rattle.std.specs.Option.{option_map}
use Rattle.std.specs.Str.{bytes_eq}
use Rattle.chi_script.specs.declared.commands.Command.{Command}
use Rattle.chi_script.specs.Words.{◌>>=◌, words_of}
use Rattle.chi_script.specs.Commands.{command_of}
use Rattle.chi_script.specs.declared.checks.Check.{Check}

-- a command, the number of its line, and the answer that is wanted of it, where one is
pub record CheckLine : Type 0 where
  pub line : ℕ
  pub command : Command
  pub wanted : Option (List ℕ)

-- a line without bytes, or one that begins with #
abbrev pub is_comment : List ℕ → Bool
is_comment [] = true
is_comment (b ∷ bs) = b == 35

-- what parts a command from the answer that is wanted of it
abbrev pub arrow : List ℕ
arrow = codes " -> "

abbrev pub begins_with : List ℕ → List ℕ → Bool
begins_with text front = bytes_eq front (take (length front) text)

-- what stands before a line's first arrow, and what behind it, where there is one
unfoldable pub parts_of : List ℕ → List ℕ × Option (List ℕ)
parts_of [] = ([], None)
parts_of (b ∷ bs) =
    if begins_with (b ∷ bs) arrow then ([], Some (drop (length arrow) (b ∷ bs)))
    else (b ∷ (parts_of bs).0, (parts_of bs).1)

-- what line n is, where it is no comment
abbrev pub check_of : ℕ → List ℕ → Option CheckLine
check_of n line = command_of (words_of (parts_of line).0) >>= λ command. Some (record { line = n; command = command; wanted = (parts_of line).1 })

-- the same of a check that was read
abbrev pub line_of_check : Check → CheckLine
line_of_check check = record { line = check.line; command = check.command; wanted = option_map (λ text. text.now) check.wanted }
