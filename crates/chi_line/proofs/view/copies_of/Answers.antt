-- After eight turns each place is shown.
use Rattle.chi_rnline.specs.Rn.{no_line}
use Rattle.chi_line.specs.View.{copy_shown}
use Rattle.chi_line.proofs.Views.{shows_all}
use Rattle.chi_line.proofs.view.copies_of.Goals as goal

pub returns : goal.returns
returns c = shows_all copy_shown no_line (copy_shown no_line) c.args.requesters.now c.loop-agent.copies c.loop-agent.agent c.loop-agent.invariant c.told-requesters c.loop-agent-test.false
