use Rattle.std.proofs.Common.{rules}
use Rattle.chi_explain.specs.Explained.{MayTake}
use Rattle.chi_explain.proofs.Elsewhere.{step_sends}
use Rattle.chi_explain.proofs.explanations.act.Goals as goal

pub returns-in-Some : goal.returns-in-Some
returns-in-Some g c =
    let may : MayTake c.args.shown.now c.args.agent c.args.step = search rules in
    record {
      done = c.in_ok-effect.ensures.act;
      answers = may;
      taken = c.answer.ensures;
      sent = step_sends c.args.slice.now c.do_step.new.slice c.args.agent c.flit_agent-whose.result c.args.step _ _ _ _ _ c.args.seen.now c.in-Some.rest.now
          c.in_ok-line.ensures c.flit_agent-whose.ensures.which c.flit_agent-whose.ensures.low c.flits.ensures.cells c.busy_in-before.ensures
          c.in_ok-effect.ensures.after c.in_ok-line_in.ensures c.flits-2.ensures.cells c.in-Some.ensures;
    }
