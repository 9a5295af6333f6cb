-- Those are left out whose words are others.
use Rattle.std.proofs.Common.{ap, ◌∙◌}
use Rattle.std.specs.Prelude.{◌&&◌, ◌||◌, not}
use Rattle.chi_copies.specs.Sets.{members}
use Rattle.chi_copies.specs.declared.tests.TheConstants.{NEWER}
use Rattle.chi_copies.proofs.Images.{fitting_is}
use Rattle.chi_copies.proofs.sends.fitting.Goals as goal

pub returns : goal.returns
returns c = λ h. c.others-2.ensures h
    ∙ ap not (c.or.ensures h ∙ (λ i. c.waiting-fresh.ensures h i || (c.waiting-newer.ensures h ∙ ap (λ b. not c.args.news && b) (c.and-known.ensures h ∙ ap (λ b. b && members NEWER h) (c.others.ensures h ∙ ap not (c.hideable.ensures h)))) i))
    ∙ fitting_is c.args.stores c.args.due c.args.home c.args.news h
