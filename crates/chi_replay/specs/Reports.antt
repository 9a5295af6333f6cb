-- What comes of the answers beside those that are wanted, and what is printed of it (docs/FORMATS.md,
-- "Check files").
use Rattle.std.specs.Prelude.{ℕ, ◌==◌, List, [], ◌∷◌, ◌++◌, Bool, false, not, Option, Some, None, is_some, length, if◌then◌else◌, codes}
use Rattle.std.specs.Fmt.{decimal}
use Rattle.std.specs.List.{filter, flat_map}
use Rattle.std.specs.Str.{bytes_eq}
use Rattle.chi_script.specs.Checks.{CheckLine}

-- a check, and the answer that its command gave
pub record CheckedAnswer : Type 0 where
  pub check : CheckLine
  pub answer : List ℕ

-- each check with the answer of its own command
abbrev pub checked_answers : List CheckLine → List (List ℕ) → List CheckedAnswer
checked_answers [] answers = []
checked_answers (check ∷ checks) [] = []
checked_answers (check ∷ checks) (answer ∷ answers) = record { check = check; answer = answer } ∷ checked_answers checks answers

-- the checks of which an answer is wanted
abbrev pub wanted_in : List CheckLine → List CheckLine
wanted_in checks = filter (λ check. is_some check.wanted) checks

-- where no answer is wanted any will do
abbrev pub differs_from : Option (List ℕ) → List ℕ → Bool
differs_from None answer = false
differs_from (Some wanted) answer = not (bytes_eq answer wanted)

abbrev pub differs : CheckedAnswer → Bool
differs checked = differs_from checked.check.wanted checked.answer

-- the checks whose answers differ from those that are wanted, in order
abbrev pub differing : List CheckLine → List (List ℕ) → List CheckedAnswer
differing checks answers = filter differs (checked_answers checks answers)

-- the line that says what was wanted and what is
abbrev pub difference_line : ℕ → List ℕ → List ℕ → List ℕ
difference_line line wanted answer = codes "line " ++ (decimal line ++ (codes ": wanted " ++ (wanted ++ (codes ", is " ++ (answer ++ (10 ∷ []))))))

abbrev pub difference_from : ℕ → Option (List ℕ) → List ℕ → List ℕ
difference_from line None answer = []
difference_from line (Some wanted) answer = difference_line line wanted answer

abbrev pub difference : CheckedAnswer → List ℕ
difference checked = difference_from checked.check.line checked.check.wanted checked.answer

-- a line for each answer that differs, each behind this front
abbrev pub differing_text : List ℕ → List CheckLine → List (List ℕ) → List ℕ
differing_text front checks answers = flat_map (λ checked. front ++ difference checked) (differing checks answers)

-- the last line: how many answers are wanted, and how many of them differ
abbrev pub check_summary : ℕ → ℕ → List ℕ
check_summary wanted found =
    if found == 0 then codes "checked " ++ (decimal wanted ++ (codes " answers" ++ (10 ∷ [])))
    else decimal found ++ (codes " of " ++ (decimal wanted ++ (codes " answers differ" ++ (10 ∷ []))))

-- the whole text
abbrev pub report_text : List CheckLine → List (List ℕ) → List ℕ
report_text checks answers = differing_text [] checks answers ++ check_summary (length (wanted_in checks)) (length (differing checks answers))
