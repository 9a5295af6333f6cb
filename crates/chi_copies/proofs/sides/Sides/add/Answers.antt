-- One row has one copy more.
use Rattle.std.proofs.Common.{rules, arith, ◌≡◌, ◌<◌, ℕ, length, subst, sym}
use Rattle.chi_copies.specs.Sets.{held_is}
use Rattle.chi_copies.proofs.ArrivingRows.{row_low, row_put_at}
use Rattle.chi_copies.proofs.sides.Sides.add.Goals as goal

pub returns-then-row-lt45 : goal.returns-then-row-lt45
returns-then-row-lt45 c = let whole : length c.args.self.now.rows ≡ 45 = search (rules, arith) in
    λ h s. row_put_at c.row_of-row.result _ c.args.self.now.rows c.args.asked c.args.reply s c.with.result (held_is c.args.held) h c.row_of-row.ensures whole c.requires (c.with.ensures h)

pub returns-else-row-lt45 : goal.returns-else-row-lt45
returns-else-row-lt45 c = let low : c.row_of-row.result < 45 = subst (λ (n : ℕ). n < 45) (sym c.row_of-row.ensures) (row_low c.args.asked c.args.reply c.requires) in
    absurd (search (rules, arith, low, c.if-row-lt45.false))
