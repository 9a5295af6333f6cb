-- All rows are followed.
use Rattle.std.proofs.Common.{arith, ◌≡◌, ℕ, length, subst, ap, ◌∙◌}
use Rattle.std.specs.Prelude.{◌||◌}
use Rattle.chi_copies.specs.Images.{led_by, row_at}
use Rattle.chi_copies.specs.Sets.{any_below, members}
use Rattle.chi_copies.proofs.Sets.{next_any}
use Rattle.chi_copies.proofs.copies.Copies.led.Goals as goal

pub loop-n-preserved : goal.loop-n-preserved
loop-n-preserved c = λ h. next_any c.loop-n.n (λ n. led_by (row_at c.args.rows.now n) (members c.args.self) h) (members c.loop-n.left h) (members c.or-left.result h) (c.loop-n.invariant h)
    (c.or-left.ensures h ∙ ap (λ b. members c.loop-n.left h || b) (c.led_by.ensures h))

pub returns : goal.returns
returns c =
    let all : c.loop-n.n ≡ length c.args.rows.now = omega (arith, c.loop-n-test.false, c.loop-n.auto.n-end) in
    λ h. subst (λ (k : ℕ). members c.loop-n.left h ≡ any_below k (λ n. led_by (row_at c.args.rows.now n) (members c.args.self) h)) all (c.loop-n.invariant h)
