-- What is counted in the slices, and the verdict on them.
use Rattle.std.proofs.Common.{arith, rules}
use Rattle.chi_slice.proofs.Rows.{InLimits, in_limits}
use Rattle.chi_storm.proofs.Judged.{judged}
use Rattle.chi_storm.proofs.verdict.outcome_from.Goals as goal

pub audit_of-audit-requires : goal.audit_of-audit-requires
audit_of-audit-requires g c =
    let l : InLimits c.args.config.now = in_limits c.args.config.now c.agents-agents.ensures.limits in
    omega (arith, l.slices, l.lines, c.requires)

pub returns : goal.returns
returns g c =
    record {
      agents = c.agents-agents.ensures.value;
      finished = c.finished_in.ensures;
      loads = c.audit_of-audit.ensures.loads;
      stores = c.audit_of-audit.ensures.stores;
      holdings = search (rules, c.profile-profile.ensures);
      verdict = judged c.args.slices.now c.audit_of-audit.result.coherent c.args.agree c.args.all_open c.audit_of-audit.ensures.coherent;
    }
