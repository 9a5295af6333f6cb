-- All words are tested.
use Rattle.std.proofs.Common.{arith, ◌≡◌, ℕ, subst}
use Rattle.std.specs.Prelude.{is_some, not}
use Rattle.chi_observer.specs.Worlds.{all_below}
use Rattle.chi_observer.specs.WordedLines.{words_of}
use Rattle.chi_observer.proofs.worded.KnownWords.is_unknown.Goals as goal

pub returns : goal.returns
returns c =
    let all : c.loop-n.n ≡ 8 = omega (arith, c.loop-n-test.false, c.loop-n.auto.n-end) in
    subst (λ (k : ℕ). c.loop-n.none ≡ all_below k (λ p. not (is_some (words_of c.args.self.now p)))) all c.loop-n.invariant
