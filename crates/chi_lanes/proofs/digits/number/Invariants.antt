use Rattle.std.proofs.Common.{◌≡◌, ◌*◌, ◌^◌, ◌<◌, drop}
use Rattle.chi_lanes.specs.Numbers.{digits_after}
use Rattle.chi_lanes.proofs.digits.number.Given as goal

abbrev pub invariant-loop-byte : goal.invariant-loop-byte
invariant-loop-byte l = record {
  so_far : digits_after l.number (drop l.byte-index l.text) ≡ digits_after 0 l.text;
  small : l.number < 2 ^ (4 * l.byte-index);
}
