-- What the closed node gave, and what was seen of its slices before.
use Rattle.std.proofs.Common.{◌≡◌, ◌↔◌, length, map, subst, ◌∙◌, sym, rules}
use Rattle.std.specs.Prelude.{List, IsTrue}
use Rattle.chi_slice.specs.Words.{Sizes}
use Rattle.chi_node.specs.Requester.{RequesterState}
use Rattle.chi_agent.specs.declared.ended.AgentResult.{AgentResult}
use Rattle.chi_storm.specs.Verdicts.{AreAllOpen, IsOutcomeOf, SeenToAgree}
use Rattle.chi_storm.proofs.verdict.outcome_of.Goals as goal

pub returns : goal.returns
returns g c =
    let n = c.args.node in
    let slices = c.deref.result.now in
    let counts = c.close-slices.result.1.counts in
    let agree = c.all_agree-agree.result in
    let all_open = c.are_all_open-all_open.result in
    let reports = c.args.ended.gathered.reports in
    record {
      slices = slices;
      counts = counts;
      credits = c.close-slices.result.1.requesters.items;
      agree = agree;
      all_open = all_open;
      seen = subst (λ (xs : List RequesterState). SeenToAgree n.config.slices n.config xs agree) (c.as_slice-2.ensures.value ∙ c.requesters_of-requesters.ensures) c.all_agree-agree.ensures;
      opened = subst (λ (xs : List AgentResult). IsTrue all_open ↔ AreAllOpen xs) c.as_slice.ensures.value c.are_all_open-all_open.ensures;
      count = search (rules, c.deref.ensures.value, c.close-slices.ensures.slices);
      closed = search (rules, c.close-slices.ensures.closed);
      outcome = subst (λ (z : Sizes). IsOutcomeOf z slices counts agree all_open reports c.outcome_from.result) c.config.ensures.value c.outcome_from.ensures;
    }
