-- All words are tested.
use Rattle.std.proofs.Common.{arith, ◌≡◌, ℕ, subst}
use Rattle.std.specs.Prelude.{◌==◌}
use Rattle.chi_observer.specs.Rules.{word_at}
use Rattle.chi_copies.specs.Worlds.{all_below}
use Rattle.chi_copies.proofs.line.same_words.Goals as goal

pub returns : goal.returns
returns c =
    let all : c.loop-n.n ≡ 8 = omega (arith, c.loop-n-test.false, c.loop-n.auto.n-end) in
    subst (λ (k : ℕ). c.loop-n.same ≡ all_below k (λ p. word_at c.args.known.now p == word_at c.args.words.now p)) all c.loop-n.invariant
