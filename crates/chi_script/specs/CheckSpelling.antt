-- How check files are written (docs/FORMATS.md, "Check files"): apart from how they are read.
use Rattle.std.specs.Prelude.{◌≡◌, ◌⊎◌, ℕ, ◌+◌, ◌≤◌, List, [], ◌∷◌, ◌++◌, Option, Some, None, Result, Ok, length, map}
use Rattle.std.specs.List.{All}
use Rattle.chi_script.specs.declared.commands.Command.{Command}
use Rattle.chi_script.specs.declared.faults.Fault.{Fault}
use Rattle.chi_flit.specs.Config.{Sizes}
use Rattle.chi_script.specs.Files.{lines_of}
use Rattle.chi_script.specs.Spelling.{IsHeaderLine, IsLine}
use Rattle.chi_script.specs.Checks.{CheckLine, arrow}
use Rattle.chi_script.specs.CheckFiles.{most_check_bytes}

-- a line without bytes, or one that begins with #
abbrev pub IsComment : List ℕ → Type 0
IsComment [] = Unit {0}
IsComment (b ∷ bs) = b ≡ 35

-- a text, with an arrow and the answer that is wanted behind it, where one is
abbrev pub with_answer : List ℕ → Option (List ℕ) → List ℕ
with_answer front None = front
with_answer front (Some answer) = front ++ (arrow ++ answer)

-- line n, which is this check: a line of its command as in a replay file, and the wanted answer
pub record IsCheckLine (n : ℕ) (check : CheckLine) (line : List ℕ) : Type 0 where
  pub number : check.line ≡ n
  pub front : List ℕ
  pub command : IsLine check.command front
  pub text : line ≡ with_answer front check.wanted

-- the lines from line n on are comments and these checks, in their order
abbrev pub AreChecks : ℕ → List CheckLine → List (List ℕ) → Type 0
AreChecks n checks [] = checks ≡ []
AreChecks n checks (line ∷ lines) =
    (IsComment line × AreChecks (n + 1) checks lines)
    ⊎ ((check : CheckLine) × (later : List CheckLine) × (checks ≡ check ∷ later) × IsCheckLine n check line × AreChecks (n + 1) later lines)

-- the lines from line n on are comments, this header, and then comments and these checks
abbrev pub AreHeaderAndChecks : ℕ → Sizes → List CheckLine → List (List ℕ) → Type 0
AreHeaderAndChecks n header checks [] = ⊥
AreHeaderAndChecks n header checks (line ∷ lines) =
    (IsComment line × AreHeaderAndChecks (n + 1) header checks lines)
    ⊎ (IsHeaderLine header line × AreChecks (n + 1) checks lines)

-- a file that is this header and these checks: lines with a line end behind each, and no more bytes than a
-- check file may have
pub record IsCheckFile (header : Sizes) (checks : List CheckLine) (file : List ℕ) : Type 0 where
  pub size : length file ≤ most_check_bytes
  pub lines : List (List ℕ)
  pub closed : lines_of file ≡ lines ++ [] ∷ []
  pub text : AreHeaderAndChecks 1 header checks lines

-- this header and checks of these commands were read, and no answer is wanted of any
pub record IsReplayed (header : Sizes) (commands : List Command) (read : Result (Sizes × List CheckLine) Fault) : Type 0 where
  pub checks : List CheckLine
  pub good : read ≡ Ok (header, checks)
  pub same : map (λ check. check.command) checks ≡ commands
  pub unwanted : All (λ check. check.wanted ≡ None) checks
