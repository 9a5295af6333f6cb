-- The line is the verb's word, a space, and the rest.
use Rattle.std.proofs.Common.{rules, ◌≡◌}
use Rattle.chi_script.specs.Verbs.{verb_text}
use Rattle.chi_script.proofs.UsualLemmas.{behind_verb}
use Rattle.chi_script.proofs.usual_lines.behind.Goals as goal

pub returns : goal.returns
returns c =
    let text = c.as_bytes-word.result.now in
    let is : text ≡ verb_text c.args.verb = search rules in
    behind_verb c.args.line.now text c.args.verb is (search rules) (search rules) (search rules)
