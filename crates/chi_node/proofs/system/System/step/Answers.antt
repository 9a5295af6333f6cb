-- The slice of the line and the agent's requester are lent, and come back changed.
use Rattle.std.proofs.Common.{◌≡◌, ◌<◌, rules, subst, sym}
use Rattle.chi_slice.specs.Slice.{IsRowOf, SliceState}
use Rattle.chi_node.specs.Home.{index_of, slice_of}
use Rattle.chi_node.specs.System.{SystemState, outstanding_at}
use Rattle.chi_node.proofs.Changed.{step_answered, called, can_call, still_system}
use Rattle.chi_node.proofs.RowCalls.{row_refused}
use Rattle.chi_node.proofs.system.System.step.Goals as goal

pub step_agreed-requires : goal.step_agreed-requires
step_agreed-requires g c =
    let y : SystemState = record { home = record { config = c.self.inside.config; slices = c.self.inside.slices.items }; requesters = c.self.inside.requesters.items } in
    let call = called y c.args.action.agent.0 c.args.action.line.0 c.in_ok-place.place c.from.result c.index_mut.result.now c.index_mut.result.now c.index-requesters-from.result c.index-requesters-from.result c.as_mut_slice-requesters.result.now c.self.invariant.system
    (subst (λ (z : SystemState). c.args.action.agent.0 < z.home.config.agents) (sym c.self.view_is) c.in_ok-place.ensures.near) (subst (λ (z : SystemState). c.in_ok-place.place ≡ index_of z.home c.args.action.line.0) (sym c.self.view_is) c.in_ok-place.ensures.place) c.index_mut.ensures.value c.as_mut_slice-requesters.ensures.value c.from.ensures in
    let can = can_call c.self.inside.tracker y _ c.args.action.agent.0 c.args.action.line.0 _ _ _ _ c.self.invariant call in
    let row = subst (λ (x : SliceState). IsRowOf x c.args.action.agent.0 c.args.action.line.0 c.in_ok-place.row) call.slice (subst (λ (z : SystemState). IsRowOf (slice_of z.home c.args.action.line.0) c.args.action.agent.0 c.args.action.line.0 c.in_ok-place.row) (sym c.self.view_is) c.in_ok-place.ensures.row) in
    record { table = can.of_table; agent = can.number; row = row; step = c.requires; agrees = can.agrees }

pub invariant_of-self : goal.invariant_of-self
invariant_of-self g c =
    let y : SystemState = record { home = record { config = c.self.inside.config; slices = c.self.inside.slices.items }; requesters = c.self.inside.requesters.items } in
    let call = called y c.args.action.agent.0 c.args.action.line.0 c.in_ok-place.place c.from.result c.index_mut.result.now c.step_agreed.new.slice c.index-requesters-from.result c.step_agreed.new.requester c.as_mut_slice-requesters.result.now c.self.invariant.system
    (subst (λ (z : SystemState). c.args.action.agent.0 < z.home.config.agents) (sym c.self.view_is) c.in_ok-place.ensures.near) (subst (λ (z : SystemState). c.in_ok-place.place ≡ index_of z.home c.args.action.line.0) (sym c.self.view_is) c.in_ok-place.ensures.place) c.index_mut.ensures.value c.as_mut_slice-requesters.ensures.value c.from.ensures in
    let e = c.step_agreed.ensures in
    still_system c.self.inside.tracker y _ c.args.action.agent.0 c.args.action.line.0 _ _ _ _ c.self.invariant call e.call.kept.slice e.call.kept.same e.call.kept.agreement e.call.kept.running

pub returns : goal.returns
returns g c =
    let y : SystemState = record { home = record { config = c.self.inside.config; slices = c.self.inside.slices.items }; requesters = c.self.inside.requesters.items } in
    let call = called y c.args.action.agent.0 c.args.action.line.0 c.in_ok-place.place c.from.result c.index_mut.result.now c.step_agreed.new.slice c.index-requesters-from.result c.step_agreed.new.requester c.as_mut_slice-requesters.result.now c.self.invariant.system
    (subst (λ (z : SystemState). c.args.action.agent.0 < z.home.config.agents) (sym c.self.view_is) c.in_ok-place.ensures.near) (subst (λ (z : SystemState). c.in_ok-place.place ≡ index_of z.home c.args.action.line.0) (sym c.self.view_is) c.in_ok-place.ensures.place) c.index_mut.ensures.value c.as_mut_slice-requesters.ensures.value c.from.ensures in
    let e = c.step_agreed.ensures in
    let said = step_answered y _ c.args.action _ _ _ _ c.step_agreed.result c.self.invariant.system call (e.refusal, e.call.ok, e.call.err) in
    rw (← c.self.view_is) (record { refusal = said.0; ok = said.1; err = said.2; kept = c.self.invariant.system })

pub returns-in_err-place-clause-refusal : goal.returns-in_err-place-clause-refusal
returns-in_err-place-clause-refusal g c =
    let told = row_refused (slice_of c.args.self.now.home c.args.action.line.0) (outstanding_at c.args.self.now c.args.action.agent.0) c.args.action c.in_err-place.field-0.0 c.in_err-place.ensures.refusal in
    search (rules, told)
