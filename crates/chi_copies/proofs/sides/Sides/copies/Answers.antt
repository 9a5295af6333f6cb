-- One row after the other.
use Rattle.std.proofs.Common.{rules, arith, ◌≡◌, ℕ, length, ap, ◌∙◌}
use Rattle.std.specs.Prelude.{◌||◌}
use Rattle.chi_copies.specs.Sets.{any_below, members}
use Rattle.chi_copies.specs.ArrivingLines.{copies_at_row}
use Rattle.chi_copies.proofs.Sets.{next_any}
use Rattle.chi_copies.proofs.ArrivingSides.{rows_copies}
use Rattle.chi_copies.proofs.sides.Sides.copies.Goals as goal

pub loop-row-preserved : goal.loop-row-preserved
loop-row-preserved c = λ h. next_any c.loop-row.row (λ p. copies_at_row c.args.asked c.args.self.now p h) (members c.loop-row.copies h) (members c.or-copies.result h) (c.loop-row.invariant h)
    (c.or-copies.ensures h ∙ ap (λ b. members c.loop-row.copies h || b) (c.row_copies.ensures h))

pub returns : goal.returns
returns c = λ h. let all : c.loop-row.row ≡ 45 = omega (arith, c.loop-row-test.false, c.loop-row.auto.row-end) in
    let whole : length c.args.self.now.rows ≡ 45 = search (rules, arith) in
    c.loop-row.invariant h ∙ ap (λ (k : ℕ). any_below k (λ p. copies_at_row c.args.asked c.args.self.now p h)) all
    ∙ rows_copies c.args.asked c.args.self.now h whole
