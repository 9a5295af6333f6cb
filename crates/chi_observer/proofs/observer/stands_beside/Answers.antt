-- All agents are tested.
use Rattle.std.proofs.Common.{arith, ◌≡◌, ℕ, subst}
use Rattle.std.specs.Prelude.{◌&&◌, ◌||◌, ◌==◌, not}
use Rattle.chi_observer.specs.Copies.{compatible, same}
use Rattle.chi_observer.specs.Copies.Copy.{Invalid}
use Rattle.chi_observer.specs.Tables.{strongest}
use Rattle.chi_observer.specs.Worlds.{all_below}
use Rattle.chi_observer.specs.Lines.{agent_of}
use Rattle.chi_observer.proofs.observer.stands_beside.Goals as goal

pub returns : goal.returns
returns c =
    let all : c.loop-n.n ≡ 32 = omega (arith, c.loop-n-test.false, c.loop-n.auto.n-end) in
    subst (λ (k : ℕ). c.loop-n.beside ≡ all_below k (λ m. m == c.args.agent || (compatible (strongest c.args.told) (strongest (agent_of c.args.agents.now m).told) && (not c.args.alone || same (strongest (agent_of c.args.agents.now m).told) Invalid)))) all c.loop-n.invariant
