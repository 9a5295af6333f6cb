-- None at all is left.
use Rattle.std.proofs.Common.{sym, ap, ◌∙◌}
use Rattle.std.specs.Prelude.{Bool, ◌&&◌, ◌||◌, not}
use Rattle.chi_observer.specs.Copies.{same}
use Rattle.chi_observer.specs.Copies.Copy.{Invalid}
use Rattle.chi_copies.specs.declared.steps.Step.TheVariants.{Apart}
use Rattle.chi_copies.specs.Copies.{image}
use Rattle.chi_copies.specs.Sets.{members}
use Rattle.chi_copies.specs.Lines.{leads_by}
use Rattle.chi_copies.proofs.Bits.{left_is}
use Rattle.chi_copies.proofs.Images.{apart_all, not_alone}
use Rattle.chi_copies.proofs.tests.apart_by.Goals as goal

pub returns-then-alone : goal.returns-then-alone
returns-then-alone c = λ h. c.or.ensures h ∙ (λ i. (c.led-apart.ensures h ∙ apart_all (members c.args.set) h) i || left_is h i)
    ∙ ap (λ (b : Bool). image (leads_by Apart) (members c.args.set) h || (b && not (same h.copy Invalid))) (sym c.if-alone.true)

pub returns-else-alone : goal.returns-else-alone
returns-else-alone c = λ h. c.led-apart.ensures h ∙ apart_all (members c.args.set) h ∙ not_alone (image (leads_by Apart) (members c.args.set) h) (not (same h.copy Invalid))
    ∙ ap (λ (b : Bool). image (leads_by Apart) (members c.args.set) h || (b && not (same h.copy Invalid))) (sym c.if-alone.false)
