-- All are read.
use Rattle.std.proofs.Common.{rules, arith, ◌≡◌, length}
use Rattle.chi_copies.proofs.BegunLines.{quiet_is}
use Rattle.chi_copies.proofs.begun.Begun.is_quiet.Goals as goal

pub returns : goal.returns
returns c = let dues : length c.args.self.now.due ≡ 32 = search (rules, arith) in quiet_is c.args.self.now.due c.is_quiet.result dues c.is_quiet.ensures
