-- So far each place shows its agent's line.
use Rattle.std.proofs.Common.{None}
use Rattle.chi_rnline.specs.Rn.{no_line}
use Rattle.chi_line.specs.View.{pending_shown}
use Rattle.chi_line.proofs.Views.{ShowsBelow}
use Rattle.chi_line.proofs.view.pending_of.Given as goal

abbrev pub invariant-loop-agent : goal.invariant-loop-agent
invariant-loop-agent l = ShowsBelow pending_shown no_line None l.requesters l.pending l.agent
