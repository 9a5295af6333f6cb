-- The slice that was found is that of the line.
use Rattle.std.proofs.Common.{inl, subst}
use Rattle.chi_flit.specs.declared.numbers.Line.{Line}
use Rattle.chi_node.specs.Node.{IsSliceOf}
use Rattle.chi_agent.proofs.player.Player.visit_on.Goals as goal

pub returns-clause-visits : goal.returns-clause-visits
returns-clause-visits g c =
    inl (record {
      before = c.args.slice.now;
      after = c.turn_at.new.slice;
      own = subst (λ (l : Line). IsSliceOf c.args.node.now.config l.0 c.args.slice.now) c.requires.line c.requires.slice;
      turns = c.turn_at.ensures.turns;
      agreement = c.turn_at.ensures.agreement;
    })
