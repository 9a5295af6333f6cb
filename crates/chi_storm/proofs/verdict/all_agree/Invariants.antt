-- So far as many slices were looked at.
use Rattle.chi_storm.specs.Verdicts.{SeenToAgree}
use Rattle.chi_storm.proofs.verdict.all_agree.Given as goal

abbrev pub invariant-loop-index : goal.invariant-loop-index
invariant-loop-index g l = SeenToAgree l.index l.fn.node.config l.requesters l.agree
