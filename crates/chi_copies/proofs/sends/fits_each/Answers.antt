-- All words are tested.
use Rattle.std.proofs.Common.{arith, ◌≡◌, ℕ, subst}
use Rattle.chi_observer.specs.Rules.{word_at}
use Rattle.chi_copies.specs.Worlds.{all_below}
use Rattle.chi_copies.specs.Observed.{fits_at}
use Rattle.chi_copies.specs.Lines.{known_at}
use Rattle.chi_copies.proofs.sends.fits_each.Goals as goal

pub returns : goal.returns
returns c =
    let all : c.loop-n.n ≡ 8 = omega (arith, c.loop-n-test.false, c.loop-n.auto.n-end) in
    subst (λ (k : ℕ). c.loop-n.fits ≡ all_below k (λ p. fits_at (known_at c.args.known.now p) (word_at c.args.words.now p))) all c.loop-n.invariant
