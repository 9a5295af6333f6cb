-- What is left to pass comes to the same as all did.
use Rattle.std.proofs.Common.{length}
use Rattle.chi_watch.specs.declared.judge.Verdict.TheVariants.{Unjudged}
use Rattle.chi_watch.specs.Held.{held_in}
use Rattle.chi_watch.specs.Lines.{counted, nothing_done, passed}
use Rattle.chi_watch.proofs.DrainLemmas.{Passing}
use Rattle.chi_watch.proofs.lines.pass_all.Given as goal

abbrev pub invariant-loop-passed : goal.invariant-loop-passed
invariant-loop-passed g l = Passing (passed (held_in l.initial.held) (counted Unjudged l.flit nothing_done)) (held_in l.held) l.done

abbrev pub decreases-loop-passed : goal.decreases-loop-passed
decreases-loop-passed g l = length (held_in l.held)
