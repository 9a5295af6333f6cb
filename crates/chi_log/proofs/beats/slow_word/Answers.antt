use Rattle.std.proofs.Common.{rules}
use Rattle.chi_log.proofs.PartLemmas.{bad_first, good_first, no_first}
use Rattle.chi_log.proofs.beats.slow_word.Goals as goal

pub returns-in_err-end : goal.returns-in_err-end
returns-in_err-end c = let none = no_first c.args.list.now c.in_err-end.ensures in search (rules, none)

pub returns-in_err-first : goal.returns-in_err-first
returns-in_err-first c = let none = bad_first c.args.list.now c.in_ok-end.end c.in_ok-end.ensures c.in_err-first.ensures in search (rules, none)

pub returns : goal.returns
returns c = good_first c.args.list.now c.in_ok-end.end c.in_ok-first.first c.in_ok-end.ensures c.in_ok-first.ensures
