-- So far each word may be what is known of it.
use Rattle.std.proofs.Common.{◌≡◌}
use Rattle.chi_observer.specs.Rules.{word_at}
use Rattle.chi_copies.specs.Worlds.{all_below}
use Rattle.chi_copies.specs.Observed.{fits_at}
use Rattle.chi_copies.specs.Lines.{known_at}
use Rattle.chi_copies.proofs.sends.fits_each.Given as goal

abbrev pub invariant-loop-n : goal.invariant-loop-n
invariant-loop-n l = l.fits ≡ all_below l.n (λ p. fits_at (known_at l.known p) (word_at l.words p))
