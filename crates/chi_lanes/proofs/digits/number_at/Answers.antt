use Rattle.std.proofs.Common.{◌≡◌, ◌-◌, ◌≤◌, length, take, drop, ap, ◌∙◌, arith}
use Rattle.std.proofs.lemmas.List.{length-drop}
use Rattle.chi_lanes.proofs.RunLemmas.{fewer}
use Rattle.chi_lanes.specs.Masks.{bytes_at}
use Rattle.chi_lanes.specs.Numbers.{number_of}
use Rattle.chi_lanes.proofs.digits.number_at.Goals as goal

pub returns-then-bytes-from-ge16 : goal.returns-then-bytes-from-ge16
returns-then-bytes-from-ge16 c =
    let bytes = c.args.bytes.now in
    let from = c.args.from in
    let size = c.args.to - from in
    let long : 16 ≤ length (drop from bytes) = omega (arith, length-drop from bytes) in
    let whole : size - 0 ≡ size = omega arith in
    c.number.ensures (bytes_at bytes from 16) c.at.ensures
    ∙ (ap (λ j. number_of (take j (bytes_at bytes from 16))) whole ∙ ap number_of (fewer (drop from bytes) size 16 (omega arith) long))
