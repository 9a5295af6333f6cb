-- A slot has a place exactly where the walk over the lines finds it.
use Rattle.std.proofs.Common.{◌∙◌}
use Rattle.chi_slice.proofs.Follows.{placed_uses}
use Rattle.chi_slice.proofs.slice.Slice.uses.Goals as goal

pub returns : goal.returns
returns g c = rw (← c.self.view_is) (c.is_used.ensures ∙ placed_uses _ c.self.inside.places c.args.agent.0 c.args.slot c.self.invariant.0 c.self.invariant.1 c.requires.agent c.requires.slot)
