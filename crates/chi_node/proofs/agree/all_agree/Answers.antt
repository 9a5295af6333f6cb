-- One slice after the other is asked.
use Rattle.std.proofs.Common.{◌≡◌, ◌<◌, All, get_or, length, arith, rules}
use Rattle.chi_node.specs.Agree.{Agree}
use Rattle.chi_slice.proofs.Meets.{all_meet, next_meets}
use Rattle.chi_node.proofs.agree.all_agree.Goals as goal

pub loop-slice-preserved : goal.loop-slice-preserved
loop-slice-preserved g c =
    let slices = c.args.slices.now in
    let n = c.loop-slice.slice-index in
    let one = c.slice-item.result in
    let low : n < length slices = omega arith in
    let here : one ≡ get_or slices n one = search (rules, c.slice-item.is) in
    next_meets (λ s. All (Agree s) c.args.requesters.now) slices n one c.loop-slice.found c.agree_with-found.result c.loop-slice.invariant low here c.agree_with-found.ensures

pub returns : goal.returns
returns g c = all_meet (λ s. All (Agree s) c.args.requesters.now) c.args.slices.now c.loop-slice.slice-index c.loop-slice.found c.loop-slice.invariant (omega arith)
