-- All agents are asked.
use Rattle.std.proofs.Common.{arith, ◌≡◌, ℕ, subst}
use Rattle.std.specs.Prelude.{not}
use Rattle.chi_observer.specs.Worlds.{all_below}
use Rattle.chi_observer.specs.Lines.{agent_of}
use Rattle.chi_observer.specs.Arrivals.{arriving_of}
use Rattle.chi_observer.specs.Doubts.{may_tell_value}
use Rattle.chi_observer.proofs.doubts.is_no_value_told.Goals as goal

pub returns : goal.returns
returns c =
    let all : c.loop-n.n ≡ 32 = omega (arith, c.loop-n-test.false, c.loop-n.auto.n-end) in
    subst (λ (k : ℕ). c.loop-n.none ≡ all_below k (λ m. not (may_tell_value (arriving_of c.args.own.now m) (agent_of c.args.seen.now m).due))) all c.loop-n.invariant
