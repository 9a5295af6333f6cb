use Rattle.std.proofs.Common.{drop, false}
use Rattle.std.specs.Prelude.{replicate}
use Rattle.chi_explain.specs.Explained.{Explained}
use Rattle.chi_explain.proofs.explanations.explain_from.Given as goal

abbrev pub invariant-loop-at : goal.invariant-loop-at
invariant-loop-at g l = Explained l.slice l.shown (drop l.at l.items) l.rest → Explained l.fn.slice (replicate 8 false) l.items l.seen
