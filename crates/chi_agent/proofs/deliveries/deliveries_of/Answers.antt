-- At the end all ten were looked at.
use Rattle.std.proofs.Common.{◌≡◌, ℕ, ◌∙◌, take, ap, arith}
use Rattle.std.specs.List.{filter}
use Rattle.chi_agent.specs.Choice.{deliveries}
use Rattle.chi_agent.proofs.deliveries.deliveries_of.Goals as goal

pub returns : goal.returns
returns c = λ f marks_are.
    let ten : c.loop-place.place ≡ 10 = omega (arith, c.loop-place.auto.place-end, c.loop-place-test.false) in
    c.loop-place.invariant.here f marks_are ∙ ap (λ (n : ℕ). filter f (take n deliveries)) ten
