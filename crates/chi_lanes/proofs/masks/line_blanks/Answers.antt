use Rattle.std.proofs.Common.{◌≡◌, List, ◌++◌, length, drop, take, replicate, subst, sym, arith, ℕ}
use Rattle.std.proofs.lemmas.List.{length-take-le}
use Rattle.chi_lanes.proofs.PadLemmas.{padded_marks, within_marks}
use Rattle.chi_lanes.specs.Masks.{Marks, bytes_at, is_blank}
use Rattle.chi_lanes.proofs.masks.line_blanks.Goals as goal

pub returns-then-bytes-ge64 : goal.returns-then-bytes-ge64
returns-then-bytes-ge64 c =
    within_marks c.blanks.result c.from_bit.result 0 c.args.size c.args.bytes.now (omega arith) (omega arith) c.blanks.ensures c.from_bit.ensures

pub returns-else-bytes-ge64 : goal.returns-else-bytes-ge64
returns-else-bytes-ge64 c =
    let mask = c.blanks-else-bytes-ge64.result in
    let line = take c.args.size c.args.bytes.now in
    let copied : c.copy_from_slice.new.self ≡ line = c.copy_from_slice.ensures.after in
    let long : length line ≡ c.args.size = length-take-le c.args.size c.args.bytes.now c.requires in
    let marks = subst (λ (front : List ℕ). Marks mask is_blank (bytes_at (front ++ drop c.args.size (replicate 64 32)) 0 64)) copied c.blanks-else-bytes-ge64.ensures in
    padded_marks mask line (omega arith) (subst (λ n. Marks mask is_blank (bytes_at (line ++ drop n (replicate 64 32)) 0 64)) (sym long) marks)
