use Rattle.std.proofs.Common.{◌≡◌, ◌≤◌, drop}
use Rattle.chi_lanes.specs.Numbers.{digits_after, number_of}
use Rattle.chi_log.specs.Numbers.{at_most}
use Rattle.chi_log.proofs.NumberLemmas.{most}
use Rattle.chi_log.proofs.numbers.digits.Given as goal

-- the digits so far, and those that are left
abbrev pub invariant-loop-byte : goal.invariant-loop-byte
invariant-loop-byte l = record {
  so_far : at_most most (digits_after l.number (drop l.byte-index l.text)) ≡ at_most most (number_of l.text);
  fits : l.number ≤ most;
}
