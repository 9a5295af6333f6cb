-- Whether an answer is wanted by the checks that are left is whether one is wanted by some of all.
use Rattle.std.proofs.Common.{◌≡◌, drop, map}
use Rattle.chi_script.specs.Checks.{line_of_check}
use Rattle.chi_program.specs.Looks.{any_wanted}
use Rattle.chi_program.proofs.looks.any_wanted.Given as goal

abbrev pub invariant-loop-check : goal.invariant-loop-check
invariant-loop-check l = any_wanted (map line_of_check (drop l.check-index l.checks)) ≡ any_wanted (map line_of_check l.checks)
