-- A flit whose words don't fit isn't taken.
use Rattle.std.proofs.Common.{rules, ◌≡◌, sym, ◌∙◌}
use Rattle.std.specs.Prelude.{false}
use Rattle.chi_observer.specs.Lines.{is_taken, watched}
use Rattle.chi_observer.specs.declared.flits.Flit.TheVariants.{Up}
use Rattle.chi_observer.proofs.WordedLines.{unfit}
use Rattle.chi_observer.proofs.worded.WordedObserver.take_sent.Goals as goal

pub returns-then-not-fits-clause-taken : goal.returns-then-not-fits-clause-taken
returns-then-not-fits-clause-taken c =
    let none : c.fits.result ≡ false = search rules in
    unfit (is_taken (watched c.args.self.now.seen) (Up c.args.sent)) _ (sym c.fits.ensures ∙ none)
