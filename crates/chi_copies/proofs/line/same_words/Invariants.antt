-- So far each word is the same.
use Rattle.std.proofs.Common.{◌≡◌}
use Rattle.std.specs.Prelude.{◌==◌}
use Rattle.chi_observer.specs.Rules.{word_at}
use Rattle.chi_copies.specs.Worlds.{all_below}
use Rattle.chi_copies.proofs.line.same_words.Given as goal

abbrev pub invariant-loop-n : goal.invariant-loop-n
invariant-loop-n l = l.same ≡ all_below l.n (λ p. word_at l.known p == word_at l.words p)
