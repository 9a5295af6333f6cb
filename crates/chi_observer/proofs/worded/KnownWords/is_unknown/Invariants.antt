-- So far no word is known.
use Rattle.std.proofs.Common.{◌≡◌}
use Rattle.std.specs.Prelude.{is_some, not}
use Rattle.chi_observer.specs.Worlds.{all_below}
use Rattle.chi_observer.specs.WordedLines.{words_of}
use Rattle.chi_observer.proofs.worded.KnownWords.is_unknown.Given as goal

abbrev pub invariant-loop-n : goal.invariant-loop-n
invariant-loop-n l = l.none ≡ all_below l.n (λ p. not (is_some (words_of l.self p)))
