-- It is within.
use Rattle.std.proofs.Common.{rules, arith, ◌<◌, length}
use Rattle.chi_copies.specs.Lines.{nobody}
use Rattle.chi_copies.proofs.Lines.{same_or}
use Rattle.chi_copies.proofs.line.may_at.Goals as goal

pub returns : goal.returns
returns c = let low : c.args.agent < length c.args.may.now = search (rules, arith) in same_or c.args.may.now c.args.agent _ nobody low
