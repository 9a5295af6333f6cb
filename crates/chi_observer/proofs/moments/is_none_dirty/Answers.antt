-- All agents are tested.
use Rattle.std.proofs.Common.{arith, ◌≡◌, ℕ, subst}
use Rattle.chi_observer.proofs.Copies.{next_below}
use Rattle.std.specs.Prelude.{◌||◌, ◌==◌, not}
use Rattle.chi_observer.specs.Worlds.{all_below}
use Rattle.chi_observer.specs.Moments.{may_be_dirty, tells_of}
use Rattle.chi_observer.specs.Lines.{agent_of, known_of}
use Rattle.chi_observer.proofs.moments.is_none_dirty.Goals as goal

pub returns : goal.returns
returns c =
    let all : c.loop-n.n ≡ 32 = omega (arith, c.loop-n-test.false, c.loop-n.auto.n-end) in
    subst (λ (k : ℕ). c.loop-n.clean ≡ all_below k (λ m. m == c.args.agent || not (may_be_dirty c.args.stores (agent_of c.args.agents.now m).due (known_of (agent_of c.args.agents.now m)) (tells_of c.args.flit m)))) all c.loop-n.invariant

pub loop-n-preserved : goal.loop-n-preserved
loop-n-preserved c = next_below c.loop-n.n (λ m. m == c.args.agent || not (may_be_dirty c.args.stores (agent_of c.args.agents.now m).due (known_of (agent_of c.args.agents.now m)) (tells_of c.args.flit m))) c.loop-n.clean c.is_clean_beside-clean.result c.loop-n.invariant c.is_clean_beside-clean.ensures
