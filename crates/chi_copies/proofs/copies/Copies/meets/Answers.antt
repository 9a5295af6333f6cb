-- Some bit is set in both.
use Rattle.std.proofs.Common.{◌∙◌}
use Rattle.chi_copies.proofs.Bits.{some_bit}
use Rattle.chi_copies.proofs.copies.Copies.meets.Goals as goal

pub returns : goal.returns
returns c = some_bit c.known.result.bits c.known.ensures.low _ (λ h. c.known.ensures.same h ∙ c.and.ensures h)
