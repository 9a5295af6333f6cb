use Rattle.std.proofs.Common.{not, rules}
use Rattle.chi_explain.proofs.Tests.{five_hold, two_hold}
use Rattle.chi_explain.proofs.openings.is_quiet.Goals as goal

pub returns : goal.returns
returns c = λ all.
    let hold = five_hold c.is_nothing_pending-pending.result c.does_nothing_wait-waiting.result c.is_nobody_named-named.result _ c.is_idle.result all in
    let nobody = two_hold (not c.args.view.now.unique) c.is_none.result hold.3 in
    let pending = hold.0 in
    let waiting = hold.1 in
    let named = hold.2 in
    let idle = hold.4 in
    record {
      pending = search rules;
      waiting = search rules;
      named = search rules;
      unique = search rules;
      owner = search rules;
      serving = search rules;
    }
