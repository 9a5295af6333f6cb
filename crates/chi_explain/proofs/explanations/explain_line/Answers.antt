use Rattle.std.proofs.Common.{rules, subst}
use Rattle.chi_explain.specs.Opening.{IsOpenedIf}
use Rattle.chi_explain.proofs.Tests.{all_explained}
use Rattle.chi_explain.proofs.explanations.explain_line.Goals as goal

pub returns-in-Some-clause-explained : goal.returns-in-Some-clause-explained
returns-in-Some-clause-explained g c =
    all_explained c.args.config.now c.args.stores c.args.memory c.args.items.now c.args.seen.now c.in-Some.slice c.explain_from.result
    (subst (IsOpenedIf c.args.config.now c.args.memory) c.in-Some.is c.in_ok-slice.ensures) (search (rules, c.are_listed.ensures)) c.explain_from.ensures.explained
