-- One row after the other.
use Rattle.std.proofs.Common.{rules, arith, ◌≡◌, ℕ, length, ap, ◌∙◌}
use Rattle.std.specs.Prelude.{◌||◌}
use Rattle.chi_copies.specs.Sets.{any_below}
use Rattle.chi_copies.specs.ArrivingLines.{moves, of_row, sides_of}
use Rattle.chi_copies.proofs.ArrivingRows.{first_beside, next_beside}
use Rattle.chi_copies.proofs.ArrivingSides.{rows_image}
use Rattle.chi_copies.proofs.moves.Move.image.Goals as goal

pub loop-row-init : goal.loop-row-init
loop-row-init c = λ h s. first_beside (λ p. of_row (moves c.args.self c.args.asked) c.args.asked c.args.from.now p h s) (sides_of c.args.asked c.args.left.now h s)

pub loop-row-preserved : goal.loop-row-preserved
loop-row-preserved c = λ h s. next_beside c.loop-row.row (λ p. of_row (moves c.args.self c.args.asked) c.args.asked c.args.from.now p h s)
    (sides_of c.args.asked c.args.left.now h s) (sides_of c.args.asked c.loop-row.left h s) (sides_of c.args.asked c.add_row.new.left h s)
    (c.loop-row.invariant h s) (c.add_row.ensures h s)

pub returns : goal.returns
returns c = λ h s. let all : c.loop-row.row ≡ 45 = omega (arith, c.loop-row-test.false, c.loop-row.auto.row-end) in
    let whole : length c.args.from.now.rows ≡ 45 = search (rules, arith) in
    c.loop-row.invariant h s ∙ ap (λ (k : ℕ). sides_of c.args.asked c.args.left.now h s || any_below k (λ p. of_row (moves c.args.self c.args.asked) c.args.asked c.args.from.now p h s)) all
    ∙ ap (λ b. sides_of c.args.asked c.args.left.now h s || b) (rows_image (moves c.args.self c.args.asked) c.args.asked c.args.from.now whole h s)
