-- One more is there.
use Rattle.std.proofs.Common.{arith, ◌≡◌, ℕ, sym, subst, ap, ◌∙◌}
use Rattle.std.specs.Prelude.{true, ◌||◌}
use Rattle.chi_copies.specs.Sets.{any_below, held_is}
use Rattle.chi_copies.specs.ArrivingLines.{act_at, fits_reply, replies_by, sides_of}
use Rattle.chi_copies.proofs.ArrivingRows.{act_fits, first_beside, next_beside}
use Rattle.chi_copies.proofs.moves.send_each.Goals as goal

pub loop-number-init : goal.loop-number-init
loop-number-init c = λ h s. first_beside (λ n. replies_by c.args.asked c.args.due (act_at c.args.asked n) (held_is c.args.held) h s) (sides_of c.args.asked c.args.left.now h s)

pub send-requires : goal.send-requires
send-requires c = subst (λ a. fits_reply c.args.asked a ≡ true) (sym c.act_at.ensures) (act_fits c.args.asked c.loop-number.number c.requires)

pub loop-number-preserved : goal.loop-number-preserved
loop-number-preserved c = λ h s. next_beside c.loop-number.number (λ n. replies_by c.args.asked c.args.due (act_at c.args.asked n) (held_is c.args.held) h s)
    (sides_of c.args.asked c.args.left.now h s) (sides_of c.args.asked c.loop-number.left h s) (sides_of c.args.asked c.send.new.left h s)
    (c.loop-number.invariant h s)
    (c.send.ensures h s ∙ ap (λ a. sides_of c.args.asked c.loop-number.left h s || replies_by c.args.asked c.args.due a (held_is c.args.held) h s) c.act_at.ensures)

pub returns : goal.returns
returns c = λ h s. let all : c.loop-number.number ≡ 11 = omega (arith, c.loop-number-test.false, c.loop-number.auto.number-end) in
    c.loop-number.invariant h s ∙ ap (λ (k : ℕ). sides_of c.args.asked c.args.left.now h s || any_below k (λ n. replies_by c.args.asked c.args.due (act_at c.args.asked n) (held_is c.args.held) h s)) all
