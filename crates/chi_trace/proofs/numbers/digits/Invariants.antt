use Rattle.std.proofs.Common.{◌≡◌, ◌≤◌, length}
use Rattle.chi_trace.specs.Numbers.{digits_from}
use Rattle.chi_trace.proofs.numbers.digits.Given as goal

abbrev pub invariant-loop-left : goal.invariant-loop-left
invariant-loop-left l = record {
  so_far : digits_from l.most l.number l.left ≡ digits_from l.most 0 l.word;
  fits : l.number ≤ l.most;
}

abbrev pub decreases-loop-left : goal.decreases-loop-left
decreases-loop-left l = length l.left
