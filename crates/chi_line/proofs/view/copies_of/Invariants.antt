-- So far each place shows its agent's line.
use Rattle.chi_rnline.specs.Rn.{no_line}
use Rattle.chi_line.specs.View.{copy_shown}
use Rattle.chi_line.proofs.Views.{ShowsBelow}
use Rattle.chi_line.proofs.view.copies_of.Given as goal

abbrev pub invariant-loop-agent : goal.invariant-loop-agent
invariant-loop-agent l = ShowsBelow copy_shown no_line (copy_shown no_line) l.requesters l.copies l.agent
