use Rattle.std.proofs.Common.{◌==◌, arith}
use Rattle.std.proofs.lemmas.Simd.{length-chunk}
use Rattle.chi_lanes.proofs.MaskLemmas.{marked}
use Rattle.chi_lanes.proofs.masks.equal_to.Goals as goal

pub returns : goal.returns
returns c = marked (λ a b. a == b) c.args.byte 64 _ (length-chunk c.args.at 64 c.args.bytes.now c.requires) (omega arith)
