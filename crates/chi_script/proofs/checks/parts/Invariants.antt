use Rattle.std.proofs.Common.{◌≡◌, drop, take}
use Rattle.chi_script.specs.Checks.{parts_of}
use Rattle.chi_script.proofs.PartLemmas.{behind}
use Rattle.chi_script.proofs.checks.parts.Given as goal

abbrev pub invariant-loop-at : goal.invariant-loop-at
invariant-loop-at l = behind (take l.at l.line) (parts_of (drop l.at l.line)) ≡ parts_of l.line
