-- All agents are tested.
use Rattle.std.proofs.Common.{arith, ◌≡◌, ℕ, subst}
use Rattle.std.specs.Prelude.{◌==◌}
use Rattle.chi_observer.specs.Worlds.{all_below}
use Rattle.chi_observer.specs.Arrivals.{arriving_of}
use Rattle.chi_observer.proofs.arrivals.is_acknowledged.Goals as goal

pub returns : goal.returns
returns c =
    let all : c.loop-n.n ≡ 32 = omega (arith, c.loop-n-test.false, c.loop-n.auto.n-end) in
    subst (λ (k : ℕ). c.loop-n.none ≡ all_below k (λ m. (arriving_of c.args.agents.now m).acks == 0)) all c.loop-n.invariant
