use Rattle.std.proofs.Common.{length}
use Rattle.chi_issue_b.proofs.near.+is_one_off.Given as goal

abbrev pub decreases-is_one_off : goal.decreases-is_one_off
decreases-is_one_off l = length l.word.now
