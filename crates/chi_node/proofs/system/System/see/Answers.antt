-- Each requester agrees still.
use Rattle.std.proofs.Common.{◌<◌, arith, subst, sym}
use Rattle.chi_node.specs.System.{SystemState}
use Rattle.chi_node.proofs.Credits.{sees_alike, still_alike}
use Rattle.chi_node.proofs.system.System.see.Goals as goal

pub invariant_of-self : goal.invariant_of-self
invariant_of-self g c =
    let y : SystemState = record { home = record { config = c.self.inside.config; slices = c.self.inside.slices.items }; requesters = c.self.inside.requesters.items } in
    let near : c.args.agent.0 < c.args.self.now.home.config.agents = grind (arith, c.has_agent.ensures.is, c.if-not-has_agent.false) in
    let e = c.see_at.ensures in
    still_alike c.self.inside.tracker y c.args.agent.0 c.as_mut_slice-requesters.result.now c.see_at.new.requesters e.0 c.self.invariant
    (subst (λ (z : SystemState). c.args.agent.0 < z.home.config.agents) (sym c.self.view_is) near) c.as_mut_slice-requesters.ensures.value e.1 (sees_alike c.see_at.result _ _ e.2)
