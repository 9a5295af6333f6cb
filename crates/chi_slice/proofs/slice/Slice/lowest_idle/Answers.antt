-- The first slot that isn't in use is the lowest one.
use Rattle.std.proofs.Common.{rules, arith, ◌≡◌, true, false}
use Rattle.chi_flit.specs.Numbers.{slot_at}
use Rattle.chi_slice.specs.Slice.{uses}
use Rattle.chi_slice.proofs.Idle.{first_free, one_more}
use Rattle.chi_slice.proofs.slice.Slice.lowest_idle.Goals as goal

pub loop-number-init : goal.loop-number-init
loop-number-init g c = λ k below. absurd (omega (arith, below))

pub returns-then-not-uses : goal.returns-then-not-uses
returns-then-not-uses g c =
    let free : uses c.args.self.now c.args.agent.0 (slot_at c.loop-number.number) ≡ false = search (rules, c.uses.ensures) in
    first_free c.args.self.now c.args.agent.0 c.loop-number.number (omega (arith, c.loop-number-test.true)) c.loop-number.invariant (λ _. free)

pub loop-number-preserved : goal.loop-number-preserved
loop-number-preserved g c =
    let used : uses c.args.self.now c.args.agent.0 (slot_at c.loop-number.number) ≡ true = search (rules, c.uses.ensures) in
    one_more c.args.self.now c.args.agent.0 c.loop-number.number c.loop-number.invariant used

pub returns : goal.returns
returns g c =
    let all : c.loop-number.number ≡ 8 = omega (arith, c.loop-number-test.false, c.loop-number.auto.number-end) in
    first_free c.args.self.now c.args.agent.0 8 (omega arith) (λ k low. c.loop-number.invariant k (omega (arith, low, all))) (λ below. absurd (omega (arith, below)))
