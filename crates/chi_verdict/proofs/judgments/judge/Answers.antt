-- The items that are explained are those of the resolution, with words in place of those that lack.
use Rattle.std.proofs.Common.{List, rules, subst}
use Rattle.std.specs.Prelude.{IfSome}
use Rattle.chi_resolution.specs.declared.lines.Resolved.{Resolved}
use Rattle.chi_verdict.specs.Closing.{closed}
use Rattle.chi_verdict.specs.Unseen.{AreFilled}
use Rattle.chi_verdict.specs.Verdicts.{IsStopAmong, items_with}
use Rattle.chi_verdict.proofs.FaultLemmas.{judged_total}
use Rattle.chi_verdict.proofs.judgments.judge.Goals as goal

pub returns-in-Ok-clause-judged : goal.returns-in-Ok-clause-judged
returns-in-Ok-clause-judged g c =
    let whole : List Resolved = c.fill_data.new.items.items in
    let filled : AreFilled c.args.resolution.now.unfinished.items (closed c.args.resolution.now.flits.items c.args.resolution.now.waiting.items) whole = search rules in
    judged_total c.args.config.now c.args.stores c.args.counts c.args.resolution.now.fault (items_with c.args.resolution.now.flits.items c.args.resolution.now.unfinished.items c.args.resolution.now.waiting.items) whole
    c.in-Ok.totals.actions c.in-Ok.totals.lines c.total_of.result filled c.in-Ok.ensures.explained c.total_of.ensures.allowed c.total_of.ensures.flits c.total_of.ensures.accesses c.total_of.ensures.cut c.total_of.ensures.actions c.total_of.ensures.lines
    (c.total_of.ensures.err c.args.config.now c.args.stores whole)

pub returns-in-Some-clause-judged : goal.returns-in-Some-clause-judged
returns-in-Some-clause-judged g c =
    let whole : List Resolved = c.fill_data.new.items.items in
    let filled : AreFilled c.args.resolution.now.unfinished.items (closed c.args.resolution.now.flits.items c.args.resolution.now.waiting.items) whole = search rules in (
      whole,
      filled,
      subst (λ r. IfSome r (IsStopAmong c.args.config.now c.args.stores whole c.args.resolution.now.fault)) c.in-Some.is (c.first_stop.ensures c.args.config.now c.args.stores whole c.in-Err.ensures.told),
    )
