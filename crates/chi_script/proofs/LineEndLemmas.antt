-- Lines with a line end behind each are cut at their line ends again.
use Rattle.std.proofs.Common.{◌≡◌, ℕ, true, List, [], ◌∷◌, ◌++◌, refl, ap, ◌∙◌}
use Rattle.chi_script.specs.Files.{lines_of}
use Rattle.chi_script.proofs.LackLemmas.{lacks, all_lack, next_line}
use Rattle.chi_script.proofs.NumberLemmas.{both}
use Rattle.chi_script.specs.StormSpelling.{closed_lines}

pub closed_again : (lines : List (List ℕ)) → all_lack 10 lines ≡ true → lines_of (closed_lines lines) ≡ lines ++ [] ∷ []
closed_again [] e = refl
closed_again (line ∷ lines) e = let each = both (lacks 10 line) (all_lack 10 lines) e in next_line line (closed_lines lines) each.0 ∙ ap (λ ls. line ∷ ls) (closed_again lines each.1)
