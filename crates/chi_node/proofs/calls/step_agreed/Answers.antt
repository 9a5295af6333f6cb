-- The step can be followed, and agreement is kept.
use Rattle.std.proofs.Common.{◌≡◌, List, Bool, Some, ◌∙◌, ap, rules, sym}
use Rattle.chi_slice.specs.Protocol.{refused_with}
use Rattle.chi_node.specs.Outstanding.{outstanding_of, step_refusal}
use Rattle.chi_node.proofs.RowCalls.{idle_refusal}
use Rattle.chi_node.proofs.Histories.{step_running, step_same}
use Rattle.chi_node.proofs.StepCalls.{StepKept, can_finish, can_step, place_is, step_kept}
use Rattle.chi_node.proofs.calls.step_agreed.Given as given
use Rattle.chi_node.proofs.calls.step_agreed.Goals as goal

pub finish-released-requires-clause-fits : goal.finish-released-requires-clause-fits
finish-released-requires-clause-fits g c =
    let can = can_step c.args.slice.now c.args.requester.now c.args.action c.credits_for-credits.result c.keeps.ensures c.requires.agrees c.requires.agent c.requires.step (sym c.if-is_taken.ensures) c.credits_for-credits.ensures c.in_ok-outcome.ensures.computed.refusal in
    let place = place_is c.args.slice.now c.act_in.new.self c.args.action c.in_ok-outcome.outcome.slot c.in_ok-outcome.ensures.computed.after c.in_ok-outcome.ensures.computed.slot in
    can_finish c.args.slice.now c.args.requester.now c.args.action _ c.in_ok-outcome.outcome.effect can c.in_ok-outcome.ensures.computed.effect place

pub returns-in_err-outcome-clause-refusal : goal.returns-in_err-outcome-clause-refusal
returns-in_err-outcome-clause-refusal g c =
    let told : Some c.in_err-outcome.field-0.0 ≡ step_refusal c.args.slice.now (outstanding_of c.args.requester.now) c.args.action =
    c.in_err-outcome.ensures.refused ∙ ap (λ (z : List Bool). refused_with z c.args.slice.now c.args.action) c.credits_for-credits.ensures
    ∙ sym (idle_refusal c.args.slice.now (outstanding_of c.args.requester.now) c.args.action (sym c.if-is_taken.ensures)) in
    search (rules, told)

pub returns-clause-refusal : goal.returns-clause-refusal
returns-clause-refusal g c = c.in_ok-outcome.ensures.refused ∙ ap (λ (z : List Bool). refused_with z c.args.slice.now c.args.action) c.credits_for-credits.ensures
    ∙ sym (idle_refusal c.args.slice.now (outstanding_of c.args.requester.now) c.args.action (sym c.if-is_taken.ensures))

kept : (g : given.Over) (c : goal.After-finish-released g) → StepKept c.args.slice.now c.act_in.new.self c.args.action c.args.requester.now c.finish-released.new.self
kept g c =
    let can = can_step c.args.slice.now c.args.requester.now c.args.action c.credits_for-credits.result c.keeps.ensures c.requires.agrees c.requires.agent c.requires.step (sym c.if-is_taken.ensures) c.credits_for-credits.ensures c.in_ok-outcome.ensures.computed.refusal in
    let place = place_is c.args.slice.now c.act_in.new.self c.args.action c.in_ok-outcome.outcome.slot c.in_ok-outcome.ensures.computed.after c.in_ok-outcome.ensures.computed.slot in
    step_kept c.args.slice.now _ c.args.requester.now _ c.args.action _ c.in_ok-outcome.outcome.effect c.finish-released.result can c.in_ok-outcome.ensures.computed.effect c.in_ok-outcome.ensures.computed.after place c.finish-released.ensures

pub returns-clause-call : goal.returns-clause-call
returns-clause-call g c = record {
  ok = record { protocol = c.in_ok-outcome.ensures.protocol.step; slice = c.in_ok-outcome.ensures.computed.after; effect = c.in_ok-outcome.ensures.computed.effect; requester = search (rules) };
  history = (kept g c).history;
  err = search (rules);
  kept = record { agreement = (kept g c).agreement; same = step_same _ c.args.action.step _ c.finish-released.result c.args.requester.now c.finish-released.new.self c.finish-released.ensures; slice = search (rules); running = step_running _ c.args.action.step _ c.finish-released.result c.args.requester.now c.finish-released.new.self c.finish-released.ensures };
}
