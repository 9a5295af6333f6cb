-- Nothing is left where its data are others.
use Rattle.std.proofs.Common.{rules, ◌≡◌, sym, ap, ◌∙◌}
use Rattle.std.specs.Prelude.{false}
use Rattle.chi_copies.specs.Sets.{held_is, members}
use Rattle.chi_copies.specs.Lines.{fits_of}
use Rattle.chi_copies.proofs.Lines.{no_more}
use Rattle.chi_copies.proofs.sends.Sent.leads.Goals as goal

pub returns-then-not-fits : goal.returns-then-not-fits
returns-then-not-fits c =
    let none : c.fits-fits.result.shown ≡ false = search rules in
    let is : (fits_of c.args.self (held_is c.args.held)).shown ≡ false = ap (λ x. x.shown) (sym c.fits-fits.ensures) ∙ none in
    λ h. no_more (members c.args.left h) _ _ is
