-- So far each word may be what is known of it.
use Rattle.std.proofs.Common.{◌≡◌}
use Rattle.chi_observer.specs.Rules.{word_at}
use Rattle.chi_observer.specs.Worlds.{all_below}
use Rattle.chi_observer.specs.Worded.{fits_known}
use Rattle.chi_observer.specs.WordedLines.{words_of}
use Rattle.chi_observer.proofs.worded.KnownWords.fits.Given as goal

abbrev pub invariant-loop-n : goal.invariant-loop-n
invariant-loop-n l = l.fits ≡ all_below l.n (λ p. fits_known (words_of l.self p) (word_at l.words p))
