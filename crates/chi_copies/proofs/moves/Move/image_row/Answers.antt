-- One copy after the other.
use Rattle.std.proofs.Common.{rules, arith, ◌≡◌, ap, ◌∙◌}
use Rattle.std.specs.Prelude.{◌||◌}
use Rattle.std.proofs.Math.Path.{fun_ext}
use Rattle.chi_copies.specs.Copies.{Copies}
use Rattle.chi_copies.specs.Sets.{held_at, members}
use Rattle.chi_copies.specs.ArrivingLines.{moves, row_image, sides_of}
use Rattle.chi_copies.proofs.Bits.{follow_next, follow_last}
use Rattle.chi_copies.proofs.moves.Move.image_row.Goals as goal

pub loop-rest-init : goal.loop-rest-init
loop-rest-init c = (
  c.known-rest.ensures.low,
  λ h s. ap (λ (S : Copies). sides_of c.args.asked c.args.left.now h s || row_image (moves c.args.self c.args.asked) S c.args.reply h s) (fun_ext c.known-rest.ensures.same),
)

pub first-place-requires-clause-low : goal.first-place-requires-clause-low
first-place-requires-clause-low c = c.loop-rest.invariant.0

pub loop-rest-preserved : goal.loop-rest-preserved
loop-rest-preserved c = (
  omega (arith, c.without-rest.ensures.fewer, c.loop-rest.invariant.0),
  λ h s. follow_next (λ g _. moves c.args.self c.args.asked g c.args.reply h s) (members c.loop-rest.rest) (members c.without-rest.result) (held_at c.first-place.result) h
      (sides_of c.args.asked c.loop-rest.left h s) (sides_of c.args.asked c.leads.new.left h s)
      (sides_of c.args.asked c.args.left.now h s || row_image (moves c.args.self c.args.asked) (members c.args.copies) c.args.reply h s)
      c.first-place.ensures.first
      c.without-rest.ensures.others
      (c.leads.ensures h s ∙ ap (λ x. sides_of c.args.asked c.loop-rest.left h s || moves c.args.self c.args.asked x c.args.reply h s) c.held_at.ensures)
      (c.loop-rest.invariant.1 h s),
)

pub returns : goal.returns
returns c =
    let none : c.loop-rest.rest.bits ≡ 0 = search (rules, arith, c.loop-rest-test.false) in
    λ h s. follow_last (λ g _. moves c.args.self c.args.asked g c.args.reply h s) c.loop-rest.rest.bits h (sides_of c.args.asked c.loop-rest.left h s)
    (sides_of c.args.asked c.args.left.now h s || row_image (moves c.args.self c.args.asked) (members c.args.copies) c.args.reply h s) none (c.loop-rest.invariant.1 h s)
