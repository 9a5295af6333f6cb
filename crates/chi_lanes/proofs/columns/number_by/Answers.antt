use Rattle.std.proofs.Common.{◌≡◌, ℕ, ◌-◌, List, length, take, drop, ap, ◌∙◌, arith}
use Rattle.std.proofs.lemmas.Simd.{length-chunk}
use Rattle.chi_lanes.proofs.LineLemmas.{short_is, window_text}
use Rattle.chi_lanes.specs.Masks.{bytes_at}
use Rattle.chi_lanes.specs.Numbers.{number_of}
use Rattle.chi_lanes.proofs.columns.number_by.Goals as goal

pub returns-then-end : goal.returns-then-end
returns-then-end c =
    let bytes = c.args.bytes.now in
    let start = c.args.start in
    let end = c.args.end in
    let text : List ℕ = take (end - start) (drop start bytes) in
    let long : length text ≡ end - start = length-chunk start (end - start) bytes (omega arith) in
    c.number.ensures (bytes_at bytes 4 16) (c.requires.known (omega arith))
    ∙ (ap number_of (window_text bytes 4 start end (omega arith) (omega arith) (omega arith) (omega arith)) ∙ short_is text (omega arith))
