-- Each requester agrees still.
use Rattle.std.proofs.Common.{◌<◌, subst, sym}
use Rattle.chi_flit.specs.Credit.{credit_number}
use Rattle.chi_node.specs.System.{SystemState}
use Rattle.chi_tracker.specs.declared.released.Released.{Released}
use Rattle.chi_node.specs.Credits.{GivesBack}
use Rattle.chi_node.specs.Outstanding.{give_back_refusal}
use Rattle.chi_node.proofs.Credits.{alone_answered, gave_back, still_alike}
use Rattle.chi_node.proofs.system.System.give_back.Goals as goal

pub invariant_of-self : goal.invariant_of-self
invariant_of-self g c =
    let y : SystemState = record { home = record { config = c.self.inside.config; slices = c.self.inside.slices.items }; requesters = c.self.inside.requesters.items } in
    let e = c.give_back_at.ensures in
    still_alike c.self.inside.tracker y c.args.agent.0 c.as_mut_slice-requesters.result.now c.give_back_at.new.requesters e.0 c.self.invariant
    (subst (λ (z : SystemState). c.args.agent.0 < z.home.config.agents) (sym c.self.view_is) c.in_ok-ty.ensures.agent) c.as_mut_slice-requesters.ensures.value e.1 (gave_back (credit_number c.in_ok-ty.ty) _ _ c.give_back_at.result e.2)

pub returns : goal.returns
returns g c =
    let y : SystemState = record { home = record { config = c.self.inside.config; slices = c.self.inside.slices.items }; requesters = c.self.inside.requesters.items } in
    let e = c.give_back_at.ensures in
    let said = alone_answered y c.args.agent c.args.credit c.in_ok-ty.ty c.as_mut_slice-requesters.result.now c.give_back_at.new.requesters e.0 c.give_back_at.result give_back_refusal (λ (released : Released) t. GivesBack t released) c.self.invariant.system
    (subst (λ (z : SystemState). c.args.agent.0 < z.home.config.agents) (sym c.self.view_is) c.in_ok-ty.ensures.agent) c.in_ok-ty.ensures.ok c.as_mut_slice-requesters.ensures.value e.1 e.2 in
    rw (← c.self.view_is) (record { refusal = said.0; ok = said.1; err = said.2; kept = c.self.invariant.system })
