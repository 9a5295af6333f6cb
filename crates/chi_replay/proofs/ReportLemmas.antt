-- Lines behind those of the checks change nothing of a report.
use Rattle.std.proofs.Common.{◌≡◌, ℕ, List, [], ◌∷◌, ◌++◌, length, refl, ap, arith}
use Rattle.std.specs.List.{filter}
use Rattle.chi_script.specs.Checks.{CheckLine}
use Rattle.chi_replay.specs.Reports.{CheckedAnswer, differing, differs, checked_answers}

abbrev checked : CheckLine → List ℕ → CheckedAnswer
checked check answer = record { check = check; answer = answer }

more_lines : (checks : List CheckLine) (answers more : List (List ℕ)) → length answers ≡ length checks → checked_answers checks (answers ++ more) ≡ checked_answers checks answers
more_lines [] answers more e = refl
more_lines (check ∷ checks) [] more e = absurd (omega (arith, e))
more_lines (check ∷ checks) (answer ∷ answers) more e = ap (λ (os : List CheckedAnswer). checked check answer ∷ os) (more_lines checks answers more (omega (arith, e)))

pub same_differing : (checks : List CheckLine) (answers more : List (List ℕ)) → length answers ≡ length checks → differing checks (answers ++ more) ≡ differing checks answers
same_differing checks answers more e = ap (filter differs) (more_lines checks answers more e)
