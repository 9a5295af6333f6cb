-- One word is set.
use Rattle.std.proofs.Common.{rules, arith}
use Rattle.chi_copies.proofs.Lines.{with_known}
use Rattle.chi_copies.proofs.line.with_word.Goals as goal

pub returns : goal.returns
returns c = with_known c.args.known c.from-at.result c.args.word.place.0 c.args.word.value (search rules) (search (rules, arith))
