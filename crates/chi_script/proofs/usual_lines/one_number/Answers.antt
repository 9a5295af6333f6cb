use Rattle.std.proofs.Common.{sym}
use Rattle.chi_script.proofs.UsualLemmas.{one_behind}
use Rattle.chi_script.proofs.usual_lines.one_number.Goals as goal

pub returns : goal.returns
returns c = one_behind c.args.line.now c.in_ok-rest.rest.now c.args.verb c.in_ok-small.field-0 c.with_one.result c.in_ok-rest.ensures (sym c.in_ok-small.ensures) c.with_one.ensures
