use Rattle.std.specs.Prelude.{◌≡◌, ◌++◌, []}
use Rattle.std.proofs.Common.{◌∙◌, ap, rules, tests}
use Rattle.std.proofs.lemmas.Iterator.Splits.{YieldsList-from_slice_split}
use Rattle.chi_script.proofs.WordLemmas.{items_taken}
use Rattle.chi_script.proofs.words.read_words.Goals as goal

pub returns : goal.returns
returns g c =
    let cleared : c.clear.new.self.items ≡ [] = search rules in
    items_taken c.extend.new.self.items c.extend.result c.extend.ensures.ran (λ xs h. h.0 ∙ ap (λ before. before ++ xs) cleared) (YieldsList-from_slice_split _ _ c.args.line.now c.split.ensures.rest c.split.ensures.done c.split.ensures.closure (λ x r q k. search (rules, tests)))
