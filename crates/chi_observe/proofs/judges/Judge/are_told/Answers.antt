-- All of them are asked.
use Rattle.std.proofs.Common.{arith, ◌≡◌, ℕ, subst}
use Rattle.chi_observer.specs.Worlds.{all_below}
use Rattle.chi_observe.specs.Beginnings.{is_told_at}
use Rattle.chi_observe.specs.Judges.{judged}
use Rattle.chi_observe.proofs.CountLemmas.{next_below}
use Rattle.chi_observe.proofs.judges.Judge.are_told.Goals as goal

pub returns : goal.returns
returns g c =
    let all : c.loop-n.n ≡ c.args.agents = omega (arith, c.loop-n-test.false, c.loop-n.auto.n-end) in
    subst (λ (k : ℕ). c.loop-n.told ≡ all_below k (is_told_at (judged c.args.self.now))) all c.loop-n.invariant

pub loop-n-preserved : goal.loop-n-preserved
loop-n-preserved g c = next_below c.loop-n.n (is_told_at (judged c.args.self.now)) c.loop-n.told c.is_told-told.result c.loop-n.invariant c.is_told-told.ensures
