-- The table has the worth of each byte.
use Rattle.std.proofs.Common.{◌≡◌, ℕ, ◌<◌, map, get_or, refl, ap, ◌∙◌, arith}
use Rattle.std.proofs.lemmas.List.FromFn.{get_or-map-range_with_len}
use Rattle.std.specs.List.{range_with_len}
use Rattle.std.specs.Option.{unwrap_or}
use Rattle.chi_lanes.specs.Numbers.{digit_of}
use Rattle.chi_log.specs.declared.numbers.TheConstants.{DIGITS}
use Rattle.chi_log.proofs.numbers.digit_number.Goals as goal

abbrev worth : ℕ → ℕ
worth byte = unwrap_or (digit_of byte) 16

table_is : DIGITS ≡ map worth (range_with_len 0 256)
table_is = refl

read : (byte : ℕ) → byte < 256 → get_or DIGITS byte 0 ≡ worth byte
read byte h = ap (λ t. get_or t byte 0) table_is ∙ get_or-map-range_with_len worth 0 256 byte byte 0 h (omega arith)

pub returns : goal.returns
returns c = rw c.from.ensures (read c.args.byte (omega arith))
