-- What the check of a file writes (docs/FORMATS.md, "Check files" and "The program").
use Rattle.std.specs.Prelude.{◌≡◌, ◌↔◌, ℕ, List, [], Bool, IfSome, IsTrue, Option, Ok, length, map}
use Rattle.std.specs.Io.KnownBytes.{Appends}
use Rattle.chi_script.specs.Devices.{AppendsFront}
use Rattle.chi_script.specs.declared.commands.Command.{Command}
use Rattle.chi_flit.specs.Config.{Sizes}
use Rattle.chi_replay.specs.Texts.{IsText}
use Rattle.chi_replay.specs.Turns.{TurnAnswer, machine_at_start}
use Rattle.chi_script.specs.Checks.{CheckLine}
use Rattle.chi_script.specs.CheckFiles.{check_file_of}
use Rattle.chi_replay.specs.Answers.{answers_of}
use Rattle.chi_replay.specs.Reports.{differing, differing_text, report_text, wanted_in}

abbrev pub commands_in : List CheckLine → List Command
commands_in checks = map (λ check. check.command) checks

-- the answers of the commands on a new node of the header's size, where the tracker answers so
abbrev pub answers_in : Sizes → List CheckLine → List TurnAnswer → List (List ℕ)
answers_in header checks tracked = answers_of (machine_at_start header) (commands_in checks) tracked

-- the commands of a good file were replayed under answers that the tracker may give, and these are the lines of that
-- replay, one for each check
pub record IsAnswered (file : List ℕ) (checks : List CheckLine) (answers : List (List ℕ)) : Type 0 where
  pub header : Sizes
  pub good : check_file_of file ≡ Ok (header, checks)
  pub text : List ℕ
  pub replayed : IsText header (commands_in checks) text
  pub lines : answers ≡ answers_in header checks replayed.answers

-- the report on a good file: all hold exactly where none of the answers differs from the one that is wanted
pub record IsCheckReport (file : List ℕ) (hold : Bool) (bytes : List ℕ) : Type 0 where
  pub checks : List CheckLine
  pub answers : List (List ℕ)
  pub answered : IsAnswered file checks answers
  pub report : bytes ≡ report_text checks answers
  pub verdict : IsTrue hold ↔ (differing checks answers ≡ [])

-- the commands of these checks were replayed under answers that the tracker may give, and compared: the lines on the
-- answers that differ, each behind this front, how many answers are wanted, and how many of them differ
pub record ComparesChecks (header : Sizes) (checks : List CheckLine) (front lines : List ℕ) (wanted differ : ℕ) : Type 0 where
  pub text : List ℕ
  pub replayed : IsText header (commands_in checks) text
  pub told : lines ≡ differing_text front checks (answers_in header checks replayed.answers)
  pub all : wanted ≡ length (wanted_in checks)
  pub some : differ ≡ length (differing checks (answers_in header checks replayed.answers))

-- a good file's answers beside the wanted ones: the lines on those that differ, each behind this front, how many are
-- wanted, and how many of them differ
pub record IsComparison (file front lines : List ℕ) (wanted differ : ℕ) : Type 0 where
  pub checks : List CheckLine
  pub answers : List (List ℕ)
  pub answered : IsAnswered file checks answers
  pub told : lines ≡ differing_text front checks answers
  pub all : wanted ≡ length (wanted_in checks)
  pub some : differ ≡ length (differing checks answers)

-- of the file that the input has, where its bytes are known: one such report was written, no more
abbrev pub WritesReport : Option (List ℕ) → Option (List ℕ) → Option (List ℕ) → Bool → Type 0
WritesReport input old new hold = IfSome input (λ file. (bytes : List ℕ) × IsCheckReport file hold bytes × Appends old new bytes)

-- of that file: a beginning of one such report was written
abbrev pub WritesReportFront : Option (List ℕ) → Option (List ℕ) → Option (List ℕ) → Type 0
WritesReportFront input old new = IfSome input (λ file. (hold : Bool) × (bytes : List ℕ) × IsCheckReport file hold bytes × AppendsFront old new bytes)
