use Rattle.std.proofs.Common.{w64}
use Rattle.std.proofs.lemmas.Nat.Bits.{bit_at_not}
use Rattle.chi_tracker.proofs.marks.inverse.Goals as goal

pub returns : goal.returns
returns c = λ i l. bit_at_not w64 c.args.word i c.ranges.word.fits l
