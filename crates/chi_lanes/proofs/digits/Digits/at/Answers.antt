use Rattle.std.proofs.Common.{ap, ◌∙◌}
use Rattle.std.proofs.lemmas.Simd.{length-chunk}
use Rattle.chi_lanes.proofs.RunLemmas.{digit_marks}
use Rattle.chi_lanes.specs.Masks.{bytes_at}
use Rattle.chi_lanes.specs.Numbers.{packed_of}
use Rattle.chi_lanes.proofs.digits.Digits.at.Goals as goal

pub returns : goal.returns
returns c = record {
  long = length-chunk c.args.at 16 c.args.bytes.now c.requires;
  packed = c.packed.ensures ∙ ap packed_of c.worths-worths.ensures;
  marks = digit_marks c.small.result c.worths-worths.result (bytes_at c.args.bytes.now c.args.at 16) c.worths-worths.ensures c.small.ensures;
}
