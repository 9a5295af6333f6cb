use Rattle.std.proofs.Common.{◌≡◌, ◌-◌, take, ap, arith}
use Rattle.chi_log.proofs.PartLemmas.{quick_first}
use Rattle.chi_log.proofs.beats.quick_word.Goals as goal

pub returns : goal.returns
returns c =
    let list = c.args.list.now in
    let run = c.trailing_ones-run.result in
    let same : run - 0 ≡ run = omega arith in
    quick_first list (take (run - 0) list) run c.in_ok-number_at.field-0 c.in_ok-number.number
    (omega arith) (search arith) (ap (λ k. take k list) same) c.in_ok-number_at.ensures c.in_ok-number.ensures
