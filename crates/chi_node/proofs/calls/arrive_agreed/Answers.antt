-- The slot is as the arrival needs it, and agreement is kept.
use Rattle.std.proofs.Common.{◌≡◌, ℕ, ◌∙◌, ap, rules, subst, sym}
use Rattle.chi_flit.specs.declared.action.Step.{Step}
use Rattle.chi_slice.specs.Words.{is_step_in_range}
use Rattle.chi_flit.specs.declared.action.Action.{Action}
use Rattle.chi_flit.specs.declared.action.Effect.{Effect}
use Rattle.chi_slice.specs.Protocol.{SliceStep}
use Rattle.chi_slice.specs.Slice.{IsRowOf, slice_after}
use Rattle.chi_slice.proofs.AgentRows.{step_inside}
use Rattle.chi_node.specs.Calls.{arrival_action}
use Rattle.chi_node.proofs.Agreement.{action_of}
use Rattle.chi_node.proofs.Histories.{arrival_running, arrival_same}
use Rattle.chi_node.proofs.CallArrivals.{arrival_slot, arrives_as, can_arrive, keeps_arrival, step_fits}
use Rattle.chi_node.proofs.RowCalls.{arrival_there, refused_there}
use Rattle.chi_node.proofs.calls.arrive_agreed.Goals as goal

pub arrive-arrived-requires-clause-slot : goal.arrive-arrived-requires-clause-slot
arrive-arrived-requires-clause-slot g c =
    let can = arrival_there c.args.slice.now c.args.requester.now c.args.line c.args.row c.in_ok-request.request c.in_ok-request.ensures.kept c.requires.row c.in_ok-request.ensures.request in
    arrival_slot c.args.slice.now c.args.requester.now c.args.line c.in_ok-request.request can c.requires.agrees

pub arrive-arrived-requires-clause-fits : goal.arrive-arrived-requires-clause-fits
arrive-arrived-requires-clause-fits g c =
    let can = arrival_there c.args.slice.now c.args.requester.now c.args.line c.args.row c.in_ok-request.request c.in_ok-request.ensures.kept c.requires.row c.in_ok-request.ensures.request in
    can_arrive c.args.slice.now c.args.requester.now c.args.line c.in_ok-request.request can c.requires.agrees c.requires.types

pub act_in-requires-clause-inside : goal.act_in-requires-clause-inside
act_in-requires-clause-inside g c =
    let at = subst (λ (n : ℕ). IsRowOf c.args.slice.now n c.args.line.0 c.args.row) (sym c.number-agent.ensures.is) c.requires.row in
    step_inside c.args.slice.now (action_of c.number-agent.result c.args.line c.arrival_step-step.result) c.args.row at (ap is_step_in_range c.arrival_step-step.ensures ∙ step_fits c.arrive-arrived.result)

pub returns-in_err-request-clause-refusal : goal.returns-in_err-request-clause-refusal
returns-in_err-request-clause-refusal g c =
    let told = refused_there c.args.slice.now c.args.requester.now.number c.args.line.0 c.args.row c.requires.row in
    search (rules, told)

pub returns-clause-refusal : goal.returns-clause-refusal
returns-clause-refusal g c = c.in_ok-request.ensures.refusal ∙ sym (refused_there c.args.slice.now c.args.requester.now.number c.args.line.0 c.args.row c.requires.row)

pub returns-clause-call : goal.returns-clause-call
returns-clause-call g c =
    let can = arrival_there c.args.slice.now c.args.requester.now c.args.line c.args.row c.in_ok-request.request c.in_ok-request.ensures.kept c.requires.row c.in_ok-request.ensures.request in
    let after : c.act_in.new.self ≡ slice_after c.args.slice.now (arrival_action c.args.requester.now.number c.args.line c.arrive-arrived.result) =
    c.in-Ok.ensures.computed.after ∙ (ap (λ (n : ℕ). slice_after c.args.slice.now (record { agent = record { 0 = n }; line = c.args.line; step = c.arrival_step-step.result })) c.number-agent.ensures.is
    ∙ ap (λ (z : Step). slice_after c.args.slice.now (record { agent = record { 0 = c.args.requester.now.number }; line = c.args.line; step = z })) c.arrival_step-step.ensures) in
    let agreement = keeps_arrival c.args.slice.now c.act_in.new.self c.args.requester.now c.arrive-arrived.new.self c.args.line c.in_ok-request.request c.arrive-arrived.result can c.requires.agrees c.arrive-arrived.ensures after in
    let did = λ (P : Action → Effect → Type 0). arrives_as P c.args.slice.now c.number-agent.result c.args.line c.args.requester.now.number c.arrive-arrived.result c.arrival_step-step.result _ c.number-agent.ensures.is c.arrival_step-step.ensures c.in-Ok.ensures.computed.effect in
    record {
      ok = record { protocol = did (λ action effect. SliceStep c.args.slice.now action effect c.act_in.new.self) c.in-Ok.ensures.protocol.step; slice = after; requester = search (rules, can.flit) };
      err = search (rules);
      kept = record { agreement = agreement; same = arrival_same c.in_ok-request.request.allow_retry c.in_ok-request.request.slot.0 c.arrive-arrived.result c.args.requester.now c.arrive-arrived.new.self c.arrive-arrived.ensures; slice = search (rules); running = λ _. arrival_running c.in_ok-request.request.allow_retry c.in_ok-request.request.slot.0 c.arrive-arrived.result c.args.requester.now c.arrive-arrived.new.self c.arrive-arrived.ensures };
    }
