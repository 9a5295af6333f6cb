-- All of them, if the flit has no data.
use Rattle.std.proofs.Common.{rules, arith, ◌≡◌, sym, ap, ◌∙◌}
use Rattle.std.specs.Prelude.{true, false, ◌&&◌}
use Rattle.chi_copies.specs.Sets.{members}
use Rattle.chi_copies.proofs.Plain.{fits_all, fits_some}
use Rattle.chi_copies.proofs.line.Line.fitting.Goals as goal

pub returns-then-not-has_data : goal.returns-then-not-has_data
returns-then-not-has_data c =
    let none : c.has_data.result ≡ false = search (rules, arith, c.if-not-has_data) in
    λ h. fits_all c.args.self.now c.args.flit.now (members c.args.may) h (sym c.has_data.ensures ∙ none)

pub returns : goal.returns
returns c =
    let some : c.has_data.result ≡ true = search (rules, arith, c.if-not-has_data) in
    λ h. c.and.ensures h ∙ ap (λ b. members c.args.may h && b) (c.fitting.ensures h)
    ∙ fits_some c.args.self.now c.args.flit.now c.args.due c.home_fits-home.result c.fits_each-news.result (members c.args.may) h (sym c.has_data.ensures ∙ some) c.requires c.home_fits-home.ensures c.fits_each-news.ensures
