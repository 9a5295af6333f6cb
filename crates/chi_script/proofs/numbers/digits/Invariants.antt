use Rattle.std.proofs.Common.{◌≡◌, drop}
use Rattle.chi_script.specs.Words.{digits_of}
use Rattle.chi_script.proofs.numbers.digits.Given as goal

abbrev pub invariant-loop-digit : goal.invariant-loop-digit
invariant-loop-digit l = digits_of l.number (drop l.digit-index l.word) ≡ digits_of l.high l.word
