-- One requester after the other is asked.
use Rattle.std.proofs.Common.{◌≡◌, ◌<◌, get_or, length, arith, rules}
use Rattle.chi_node.specs.Agree.{Agree}
use Rattle.chi_slice.proofs.Meets.{all_meet, next_meets}
use Rattle.chi_node.proofs.agree.agree_with.Goals as goal

pub loop-requester-preserved : goal.loop-requester-preserved
loop-requester-preserved g c =
    let requesters = c.args.requesters.now in
    let n = c.loop-requester.requester-index in
    let one = c.requester-item.result in
    let low : n < length requesters = omega arith in
    let here : one ≡ get_or requesters n one = search (rules, c.requester-item.is) in
    next_meets (Agree c.args.slice.now) requesters n one c.loop-requester.found c.agrees-found.result c.loop-requester.invariant low here c.agrees-found.ensures.agree

pub returns : goal.returns
returns g c = all_meet (Agree c.args.slice.now) c.args.requesters.now c.loop-requester.requester-index c.loop-requester.found c.loop-requester.invariant (omega arith)
