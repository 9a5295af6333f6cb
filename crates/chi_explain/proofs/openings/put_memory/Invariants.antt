use Rattle.std.proofs.Common.{◌≡◌}
use Rattle.chi_explain.proofs.openings.put_memory.Given as goal

abbrev pub invariant-loop-word : goal.invariant-loop-word
invariant-loop-word g l = l.slice.config ≡ l.fn.slice.config
