use Rattle.std.proofs.Common.{rules}
use Rattle.chi_monitor.proofs.SearchLoop.{leads_on, told_fault}
use Rattle.chi_monitor.proofs.search.search_line.Goals as goal

pub returns-in-Err-taken : goal.returns-in-Err-taken
returns-in-Err-taken g c =
    told_fault c.args.config.now c.args.stores c.loop-at.search.profile c.loop-at.search.stores _ c.loop-at.search.turns c.loop-at.search.home c.args.seen.now c.loop-at.at _ c.in-Err-taken.fault c.told_at.result
    c.told_at.ensures c.loop-at.invariant.0 c.loop-at.invariant.1 (search rules) c.in-Err-taken.ensures.refused c.loop-at.invariant.2

pub loop-at-preserved : goal.loop-at-preserved
loop-at-preserved g c = (
  search rules,
  search rules,
  leads_on c.args.config.now.profile c.args.stores c.loop-at.search.profile c.loop-at.search.stores _ c.loop-at.search.turns c.take-taken.new.search.turns c.loop-at.search.home c.take-taken.new.search.home c.args.seen.now c.loop-at.at _ c.loop-at.invariant.0 c.loop-at.invariant.1 (search rules) c.in_default.ensures.taken c.in_default.ensures.home c.loop-at.invariant.2,
)
