-- One copy after the other.
use Rattle.std.proofs.Common.{rules, arith, ◌≡◌, ap, ◌∙◌}
use Rattle.std.specs.Prelude.{◌||◌}
use Rattle.chi_copies.specs.Copies.{image}
use Rattle.chi_copies.specs.Sets.{held_at, members}
use Rattle.chi_copies.specs.Lines.{leads_by}
use Rattle.chi_copies.proofs.Bits.{follow_first, follow_next, follow_last}
use Rattle.chi_copies.proofs.steps.Step.image.Goals as goal

pub loop-rest-init : goal.loop-rest-init
loop-rest-init c = (
  c.known-rest.ensures.low,
  λ h. ap (λ a. a || image (leads_by c.args.self) (members c.known-rest.result) h) (c.empty-left.ensures h) ∙ follow_first (leads_by c.args.self) (members c.args.set) (members c.known-rest.result) h c.known-rest.ensures.same,
)

pub first-place-requires-clause-low : goal.first-place-requires-clause-low
first-place-requires-clause-low c = c.loop-rest.invariant.0

pub loop-rest-preserved : goal.loop-rest-preserved
loop-rest-preserved c = (
  omega (arith, c.without-rest.ensures.fewer, c.loop-rest.invariant.0),
  λ h. follow_next (leads_by c.args.self) (members c.loop-rest.rest) (members c.without-rest.result) (held_at c.first-place.result) h (members c.loop-rest.left h) (members c.leads-left.result h) (image (leads_by c.args.self) (members c.args.set) h)
      c.first-place.ensures.first
      c.without-rest.ensures.others
      (c.leads-left.ensures h ∙ ap (λ x. members c.loop-rest.left h || leads_by c.args.self x h) c.held_at.ensures)
      (c.loop-rest.invariant.1 h),
)

pub returns : goal.returns
returns c =
    let none : c.loop-rest.rest.bits ≡ 0 = search (rules, arith, c.loop-rest-test.false) in
    λ h. follow_last (leads_by c.args.self) c.loop-rest.rest.bits h (members c.loop-rest.left h) (image (leads_by c.args.self) (members c.args.set) h) none (c.loop-rest.invariant.1 h)
