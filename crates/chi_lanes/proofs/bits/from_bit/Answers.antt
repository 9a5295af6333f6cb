use Rattle.chi_lanes.proofs.BitLemmas.{from_is}
use Rattle.chi_lanes.proofs.bits.from_bit.Goals as goal

pub returns-then-bit-lt64 : goal.returns-then-bit-lt64
returns-then-bit-lt64 c k low = from_is c.args.bit k c.if-bit-lt64.true low
