use Rattle.std.proofs.Common.{◌≡◌}
use Rattle.chi_explain.proofs.openings.do_all.Given as goal

abbrev pub invariant-loop-step : goal.invariant-loop-step
invariant-loop-step g l = l.slice.config ≡ l.fn.slice.config
