-- From the text of a replay to the report on its answers, and from what was read to the input's file.
use Rattle.std.proofs.Common.{◌≡◌, ◌↔◌, ℕ, ◌+◌, ◌<◌, Bool, IsTrue, List, [], ◌∷◌, ◌++◌, Option, Some, None, Result, Ok, Err, IfOk, IfSome, length, map, refl, sym, ap, subst, ◌∙◌, take, arith, length-append}
use Rattle.std.proofs.lemmas.List.{length-map, nil_from_length}
use Rattle.std.specs.List.{flat_map}
use Rattle.chi_script.specs.declared.commands.Command.{Command}
use Rattle.chi_slice.specs.Words.{Sizes}
use Rattle.chi_script.specs.declared.faults.Fault.{Fault}
use Rattle.chi_script.specs.Files.{lines_of}
use Rattle.chi_replay.specs.Texts.{IsText, text}
use Rattle.chi_replay.specs.Turns.{machine_at_start}
use Rattle.chi_script.specs.declared.checks.Check.{Check}
use Rattle.chi_script.specs.Checks.{CheckLine, line_of_check}
use Rattle.chi_script.specs.CheckFiles.{check_file_of, most_check_bytes}
use Rattle.chi_script.proofs.CheckFileLemmas.{front_enough}
use Rattle.chi_replay.specs.Checks.{ComparesChecks, IsCheckReport, IsComparison, answers_in, commands_in}
use Rattle.chi_replay.specs.Reports.{check_summary, difference, differing, differing_text, wanted_in}
use Rattle.chi_replay.proofs.AnswerLines.{are_lines, one_each}
use Rattle.chi_replay.proofs.ReportLemmas.{same_differing}

pub same_commands : (checks : List Check) → map (λ check. check.command) checks ≡ commands_in (map line_of_check checks)
same_commands [] = refl
same_commands (check ∷ checks) = ap (λ (cs : List Command). check.command ∷ cs) (same_commands checks)

lines_are : (header : Sizes) (checks : List CheckLine) (bytes : List ℕ) (is : IsText header (commands_in checks) bytes) → lines_of bytes ≡ answers_in header checks is.answers ++ [] ∷ []
lines_are header checks bytes is = ap lines_of is.same ∙ are_lines (machine_at_start header) (commands_in checks) is.answers

as_many : (header : Sizes) (checks : List CheckLine) (bytes : List ℕ) (is : IsText header (commands_in checks) bytes) → length (answers_in header checks is.answers) ≡ length checks
as_many header checks bytes is = one_each (machine_at_start header) (commands_in checks) is.answers ∙ length-map checks (λ (check : CheckLine). check.command)

-- the text of a run of these commands
pub of_run : (header : Sizes) (checks : List CheckLine) (commands lent : List Command) (bytes : List ℕ) → commands ≡ commands_in checks → lent ≡ commands → IsText header lent bytes → IsText header (commands_in checks) bytes
of_run header checks commands lent bytes are same is = subst (λ (cs : List Command). IsText header cs bytes) (same ∙ are) is

-- a text has a line for each check, and one behind them
pub lines_enough : (header : Sizes) (checks : List CheckLine) (bytes : List ℕ) → IsText header (commands_in checks) bytes → length checks < length (lines_of bytes)
lines_enough header checks bytes is =
    let count : length (lines_of bytes) ≡ length (answers_in header checks is.answers) + 1 = ap length (lines_are header checks bytes is) ∙ length-append (answers_in header checks is.answers) ([] ∷ []) in
    omega (arith, count, as_many header checks bytes is)

-- what was found of its lines is what the answers are beside the wanted ones
reported : (header : Sizes) (checks : List CheckLine) (bytes front lines : List ℕ) (wanted differ : ℕ) → IsText header (commands_in checks) bytes
    → lines ≡ differing_text front checks (lines_of bytes) → wanted ≡ length (wanted_in checks) → differ ≡ length (differing checks (lines_of bytes)) → ComparesChecks header checks front lines wanted differ
reported header checks bytes front lines wanted differ is found all some =
    let answers = answers_in header checks is.answers in
    let count = as_many header checks bytes is in
    let same : differing checks (lines_of bytes) ≡ differing checks answers = ap (differing checks) (lines_are header checks bytes is) ∙ same_differing checks answers ([] ∷ []) count in
    record {
      text = bytes;
      replayed = is;
      told = found ∙ ap (flat_map (λ checked. front ++ difference checked)) same;
      all = all;
      some = some ∙ ap length same;
    }

-- the same of checks and a text that were lent
pub lent_enough : (lent checks : List Check) (bytes text : List ℕ) → lent ≡ checks → bytes ≡ text → length (map line_of_check checks) < length (lines_of text) → length lent < length (lines_of bytes)
lent_enough lent checks bytes text same is enough = omega (arith, ap length same, length-map checks line_of_check, ap (λ (l : List ℕ). length (lines_of l)) is, enough)

pub lent_reported : {T E : Type 0} (lines_in : T → List ℕ) (wanted_by differ_by : T → ℕ) (result : Result T E) (header : Sizes) (front : List ℕ) (lent checks : List Check) (bytes text : List ℕ) → lent ≡ checks → bytes ≡ text
    → IsText header (commands_in (map line_of_check checks)) text
    → IfOk result (λ found. lines_in found ≡ differing_text front (map line_of_check lent) (lines_of bytes)) → IfOk result (λ found. wanted_by found ≡ length (wanted_in (map line_of_check lent)))
    → IfOk result (λ found. differ_by found ≡ length (differing (map line_of_check lent) (lines_of bytes)))
    → IfOk result (λ found. ComparesChecks header (map line_of_check checks) front (lines_in found) (wanted_by found) (differ_by found))
lent_reported lines_in wanted_by differ_by (Ok found) header front lent checks bytes text same is replayed lines wanted differ =
    let all : lines_in found ≡ differing_text front (map line_of_check checks) (lines_of text) = lines ∙ (ap (λ (cs : List Check). differing_text front (map line_of_check cs) (lines_of bytes)) same ∙ ap (λ (l : List ℕ). differing_text front (map line_of_check checks) (lines_of l)) is) in
    let some : differ_by found ≡ length (differing (map line_of_check checks) (lines_of text)) = differ ∙ (ap (λ (cs : List Check). length (differing (map line_of_check cs) (lines_of bytes))) same ∙ ap (λ (l : List ℕ). length (differing (map line_of_check checks) (lines_of l))) is) in
    reported header (map line_of_check checks) text front (lines_in found) (wanted_by found) (differ_by found) replayed all (wanted ∙ ap (λ (cs : List Check). length (wanted_in (map line_of_check cs))) same) some
lent_reported lines_in wanted_by differ_by (Err lack) header front lent checks bytes text same is replayed lines wanted differ = lines

-- what was found of a good file's checks is what was found of the file
pub of_file : (file front lines : List ℕ) (header : Sizes) (checks : List CheckLine) (wanted differ : ℕ) → check_file_of file ≡ Ok (header, checks) → ComparesChecks header checks front lines wanted differ → IsComparison file front lines wanted differ
of_file file front lines header checks wanted differ good found = record {
  checks = checks;
  answers = answers_in header checks found.replayed.answers;
  answered = record { header = header; good = good; text = found.text; replayed = found.replayed; lines = refl };
  told = found.told;
  all = found.all;
  some = found.some;
}

-- the report on what was found
pub on_file : (file lines bytes : List ℕ) (wanted differ : ℕ) (hold : Bool) → IsComparison file [] lines wanted differ → bytes ≡ lines ++ check_summary wanted differ → IsTrue hold ↔ (differ ≡ 0) → IsCheckReport file hold bytes
on_file file lines bytes wanted differ hold found printed verdict = record {
  checks = found.checks;
  answers = found.answers;
  answered = found.answered;
  report = printed ∙ (ap (λ (l : List ℕ). l ++ check_summary wanted differ) found.told ∙ (ap (λ (n : ℕ). differing_text [] found.checks found.answers ++ check_summary n differ) found.all ∙ ap (λ (n : ℕ). differing_text [] found.checks found.answers ++ check_summary (length (wanted_in found.checks)) n) found.some));
  verdict = (λ holds. nil_from_length (differing found.checks found.answers) (sym found.some ∙ verdict.0 holds), λ none. verdict.1 (found.some ∙ ap length none));
}

-- the report on what was read is that on the input's file
pub report_of_known : {T : Type 0} (left : Option (List ℕ)) (bytes : List ℕ) (hold_of : T → Bool) (bytes_of : T → List ℕ) (result : Result T Fault) → IfSome left (λ file. bytes ≡ take (1 + most_check_bytes) file)
    → IfOk result (λ report. IsCheckReport bytes (hold_of report) (bytes_of report)) → IfOk result (λ report. IfSome left (λ file. IsCheckReport file (hold_of report) (bytes_of report)))
report_of_known None bytes hold_of bytes_of (Ok report) front ok = tt
report_of_known (Some file) bytes hold_of bytes_of (Ok report) front ok = record {
  checks = ok.checks;
  answers = ok.answers;
  answered = record { header = ok.answered.header; good = sym (front_enough file) ∙ (sym (ap check_file_of front) ∙ ok.answered.good); text = ok.answered.text; replayed = ok.answered.replayed; lines = ok.answered.lines };
  report = ok.report;
  verdict = ok.verdict;
}
report_of_known left bytes hold_of bytes_of (Err fault) front ok = ok
