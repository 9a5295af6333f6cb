use Rattle.std.proofs.Common.{rules}
use Rattle.chi_log.proofs.PartLemmas.{not_only, only}
use Rattle.chi_log.proofs.beats.only_word.Goals as goal

pub returns-in-Some : goal.returns-in-Some
returns-in-Some c = not_only c.args.list.now c.in-Some.field-0 c.in-Some.ensures

pub returns-in-None : goal.returns-in-None
returns-in-None c = let one = only c.args.list.now c.in-None.ensures in search (rules, one)
