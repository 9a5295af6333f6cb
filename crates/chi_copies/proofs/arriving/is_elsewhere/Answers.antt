-- All are tested.
use Rattle.std.proofs.Common.{arith, ◌≡◌, ℕ, ap, ◌∙◌}
use Rattle.std.specs.Prelude.{◌||◌, ◌==◌, not}
use Rattle.chi_copies.specs.Worlds.{all_below}
use Rattle.chi_copies.specs.Arriving.{any_of, comes}
use Rattle.chi_copies.specs.ArrivingLines.{agent_at, may_of}
use Rattle.chi_copies.proofs.Sets.{next_all}
use Rattle.chi_copies.proofs.arriving.is_elsewhere.Goals as goal

pub returns : goal.returns
returns c =
    let all : c.loop-n.n ≡ 32 = omega (arith, c.loop-n-test.false, c.loop-n.auto.n-end) in
    ap not (c.loop-n.invariant ∙ ap (λ (k : ℕ). all_below k (λ m. m == c.args.agent || any_of (may_of (agent_at c.args.agents.now m)) (λ k. not (comes k)))) all)

pub loop-n-preserved : goal.loop-n-preserved
loop-n-preserved c = next_all c.loop-n.n (λ m. m == c.args.agent || any_of (may_of (agent_at c.args.agents.now m)) (λ k. not (comes k))) c.loop-n.all c.stays-all.result c.loop-n.invariant c.stays-all.ensures
