-- All are read.
use Rattle.std.proofs.Common.{rules, arith, ◌≡◌, length}
use Rattle.chi_copies.proofs.BegunLines.{sparing_is}
use Rattle.chi_copies.proofs.begun.Begun.is_none_overwriting.Goals as goal

pub returns : goal.returns
returns c = let dues : length c.args.self.now.due ≡ 32 = search (rules, arith) in sparing_is c.args.self.now.due c.args.agent c.is_none_overwriting.result dues c.is_none_overwriting.ensures
