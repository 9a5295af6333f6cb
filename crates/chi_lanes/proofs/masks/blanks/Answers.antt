use Rattle.std.proofs.lemmas.Simd.{length-chunk}
use Rattle.chi_lanes.proofs.MaskLemmas.{blanks_marked}
use Rattle.chi_lanes.specs.Masks.{bytes_at}
use Rattle.chi_lanes.proofs.masks.blanks.Goals as goal

pub returns : goal.returns
returns c = blanks_marked (bytes_at c.args.bytes.now c.args.at 64) (length-chunk c.args.at 64 c.args.bytes.now c.requires)
