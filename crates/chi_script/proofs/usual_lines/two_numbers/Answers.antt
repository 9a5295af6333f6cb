use Rattle.std.proofs.Common.{sym}
use Rattle.chi_script.proofs.UsualLemmas.{two_behind}
use Rattle.chi_script.proofs.usual_lines.two_numbers.Goals as goal

pub returns : goal.returns
returns c =
    two_behind c.args.line.now c.in_ok-rest.rest.now c.in_ok-first.first.now c.in_ok-first.second.now c.args.verb c.in_ok-small.field-0 c.in_ok-small-2.field-0 c.with_two.result
    c.in_ok-rest.ensures c.in_ok-first.ensures.some (sym c.in_ok-small.ensures) (sym c.in_ok-small-2.ensures) c.with_two.ensures
