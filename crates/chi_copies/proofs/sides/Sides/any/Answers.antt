-- One row after the other.
use Rattle.std.proofs.Common.{rules, arith, ◌≡◌, ℕ, length, ap, ◌∙◌}
use Rattle.std.specs.Prelude.{◌||◌}
use Rattle.chi_copies.specs.Sets.{any_below}
use Rattle.chi_copies.specs.ArrivingLines.{passes_at_row}
use Rattle.chi_copies.proofs.Sets.{next_any}
use Rattle.chi_copies.proofs.ArrivingSides.{rows_any}
use Rattle.chi_copies.proofs.sides.Sides.any.Goals as goal

pub loop-row-preserved : goal.loop-row-preserved
loop-row-preserved c = next_any c.loop-row.row (passes_at_row c.args.test c.args.of c.args.asked c.args.self.now) c.loop-row.found _ c.loop-row.invariant
    (ap (λ b. c.loop-row.found || b) c.row_any-found.ensures)

pub returns : goal.returns
returns c = let all : c.loop-row.row ≡ 45 = omega (arith, c.loop-row-test.false, c.loop-row.auto.row-end) in
    let whole : length c.args.self.now.rows ≡ 45 = search (rules, arith) in
    c.loop-row.invariant ∙ ap (λ (k : ℕ). any_below k (passes_at_row c.args.test c.args.of c.args.asked c.args.self.now)) all
    ∙ rows_any c.args.test c.args.of c.args.asked c.args.self.now whole
