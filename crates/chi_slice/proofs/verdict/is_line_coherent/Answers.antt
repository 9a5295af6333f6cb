-- One agent after the other is looked at.
use Rattle.std.proofs.Common.{◌≡◌, ◌↔◌, ℕ, List, refl, sym, subst, arith, rules}
use Rattle.chi_line.specs.Clean.{CoherentParts}
use Rattle.chi_slice.specs.Verdict.{IsPassed}
use Rattle.chi_slice.proofs.Verdicts.{agents_of, both_ways, found_of, judged, next_walked, of_line}
use Rattle.chi_slice.proofs.verdict.is_line_coherent.Goals as goal

pub loop-agent-preserved : goal.loop-agent-preserved
loop-agent-preserved c =
    let line = c.args.line.now in
    let named : c.named-named.result ≡ line.home.filter.named = cc (c.named-named.ensures.value, c.filter.ensures, c.home-home.ensures) in
    next_walked (agents_of line) c.args.last c.loop-agent.states _ c.loop-agent.backed c.loop-agent.clean _ _ c.is_backed-backed.result c.is_clean-clean.result c.loop-agent.agent c.state-state.result c.loop-agent.invariant
    (found_of line c.args.last c.loop-agent.agent c.from-place.result c.copy-copy.result.now c.named-named.result c.flits.result.now c.words.result c.state-state.result c.is_backed-backed.result c.is_clean-clean.result
    c.loop-agent-test.true c.copy-copy.ensures named c.flits.ensures.cells c.from-place.ensures c.state-state.ensures c.words.ensures c.is_backed-backed.ensures c.is_clean-clean.ensures)
    (search (rules, c.from-place.ensures)) refl refl

pub returns : goal.returns
returns c =
    let line = c.args.line.now in
    let memory : c.memory.result ≡ line.home.memory = cc (c.memory.ensures, c.home-home.ensures) in
    both_ways _ _ _ c.is_passed.ensures
    (subst (λ (words : List ℕ). IsPassed c.loop-agent.backed c.loop-agent.clean words c.args.last c.loop-agent.states ↔ CoherentParts c.args.last line) (sym memory)
    (both_ways _ _ _ (judged (agents_of line) line.home.memory c.args.last c.loop-agent.states c.loop-agent.backed c.loop-agent.clean c.loop-agent.agent (omega (arith, c.loop-agent-test.false, c.loop-agent.auto.agent-end)) c.loop-agent.invariant) (of_line line c.args.last)))
