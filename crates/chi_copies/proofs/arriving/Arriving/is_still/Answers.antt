-- All are tested.
use Rattle.std.proofs.Common.{arith, ◌≡◌, ℕ, ap, ◌∙◌}
use Rattle.std.specs.Prelude.{not}
use Rattle.chi_copies.specs.Arriving.{any_of, comes}
use Rattle.chi_copies.specs.Worlds.{all_below}
use Rattle.chi_copies.specs.ArrivingLines.{received}
use Rattle.chi_copies.proofs.Sets.{next_all}
use Rattle.chi_copies.proofs.arriving.Arriving.is_still.Goals as goal

pub returns : goal.returns
returns c =
    let all : c.loop-n.n ≡ 32 = omega (arith, c.loop-n-test.false, c.loop-n.auto.n-end) in
    c.loop-n.invariant ∙ ap (λ (k : ℕ). all_below k (λ m. not (any_of ((received c.args.self.now).may m) comes))) all

pub loop-n-preserved : goal.loop-n-preserved
loop-n-preserved c = next_all c.loop-n.n (λ m. not (any_of ((received c.args.self.now).may m) comes)) c.loop-n.still c.is_still-still.result c.loop-n.invariant c.is_still-still.ensures
