-- After eight turns no mark but the agent's is gone.
use Rattle.std.proofs.Common.{rules, ◌≡◌, ◌≤◌, length, List, Bool, subst, arith}
use Rattle.chi_filter.specs.Filter.{only_set}
use Rattle.chi_filter.proofs.Without.{LeftBelow, all_left}
use Rattle.chi_filter.proofs.sets.others_than.Goals as goal

pub returns : goal.returns
returns c =
    let left : LeftBelow c.args.set (only_set c.args.agent.0) c.loop-n.others c.loop-n.n =
    subst (λ (alone : List Bool). LeftBelow c.args.set alone c.loop-n.others c.loop-n.n) c.only_set-alone.ensures c.loop-n.invariant in
    let eight : length c.args.set ≡ 8 = search (rules, c.well_formed) in
    let all : 8 ≤ c.loop-n.n = search (rules, arith, c.loop-n-test.false) in
    all_left c.args.set c.loop-n.others c.args.agent.0 c.loop-n.n c.requires eight all left
