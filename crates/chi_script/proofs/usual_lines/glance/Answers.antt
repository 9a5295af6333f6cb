use Rattle.std.proofs.Common.{rules}
use Rattle.chi_script.proofs.UsualLemmas.{one_word}
use Rattle.chi_script.proofs.usual_lines.glance.Goals as goal

pub returns-then-is : goal.returns-then-is
returns-then-is c = one_word c.args.line.now c.word.result.now c.word.ensures (search rules)
