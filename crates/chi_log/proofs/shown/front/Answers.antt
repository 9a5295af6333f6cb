-- The first forty bytes, or all of a short word.
use Rattle.std.proofs.Common.{◌≤◌, length, sym, arith}
use Rattle.std.proofs.lemmas.List.{length-take-le, take_all}
use Rattle.chi_log.proofs.shown.front.Goals as goal

pub slice_bounds-result-end : goal.slice_bounds-result-end
slice_bounds-result-end c =
    let long : 40 ≤ length c.args.word.now = omega (arith, c.if-word-gt-SHOWN.true) in
    sym (length-take-le 40 c.args.word.now long)

pub returns-else-word-gt-SHOWN : goal.returns-else-word-gt-SHOWN
returns-else-word-gt-SHOWN c = sym (take_all 40 c.args.word.now c.if-word-gt-SHOWN.false)
