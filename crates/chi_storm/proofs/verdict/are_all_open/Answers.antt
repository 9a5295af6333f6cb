-- One agent more is open, or not.
use Rattle.std.proofs.Common.{◌≡◌, ◌↔◌, ◌<◌, Bool, true, false, not, get_or, length, refl, arith, rules}
use Rattle.std.specs.Prelude.{IsTrue}
use Rattle.chi_agent.specs.declared.ended.AgentResult.{AgentResult}
use Rattle.chi_slice.proofs.Meets.{all_meet, next_meets}
use Rattle.chi_storm.proofs.verdict.are_all_open.Goals as goal

is_open : (b : Bool) → IsTrue (not b) ↔ (b ≡ false)
is_open true = (λ h. absurd (cc (h)), λ h. absurd (cc (h)))
is_open false = (λ h. refl, λ h. refl)

pub loop-left-preserved : goal.loop-left-preserved
loop-left-preserved c =
    let all = c.args.results.now in
    let n = c.loop-left.left-index in
    let one = c.left-item.result in
    let low : n < length all = omega arith in
    let here : one ≡ get_or all n one = search rules in
    next_meets (λ (left : AgentResult). left.not_open ≡ false) all n one c.loop-left.open (not one.not_open) c.loop-left.invariant low here (is_open one.not_open)

pub returns : goal.returns
returns c = all_meet (λ (left : AgentResult). left.not_open ≡ false) c.args.results.now c.loop-left.left-index c.loop-left.open c.loop-left.invariant (omega arith)
