-- All agents are tested.
use Rattle.std.proofs.Common.{arith, ◌≡◌, ℕ, subst}
use Rattle.std.specs.Prelude.{◌||◌, ◌==◌, not}
use Rattle.chi_observer.specs.Rules.{overwrites}
use Rattle.chi_observer.specs.Worlds.{all_below}
use Rattle.chi_observer.specs.Lines.{agent_of}
use Rattle.chi_observer.proofs.observer.is_none_overwriting.Goals as goal

pub returns : goal.returns
returns c =
    let all : c.loop-n.n ≡ 32 = omega (arith, c.loop-n-test.false, c.loop-n.auto.n-end) in
    subst (λ (k : ℕ). c.loop-n.none ≡ all_below k (λ m. m == c.args.agent || not (overwrites (agent_of c.args.agents.now m).due))) all c.loop-n.invariant
