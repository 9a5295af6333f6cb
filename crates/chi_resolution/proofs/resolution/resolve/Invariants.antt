use Rattle.std.proofs.Common.{◌≡◌, drop}
use Rattle.chi_resolution.specs.Resolution.{resolution_of, resolved_from}
use Rattle.chi_resolution.proofs.resolution.resolve.Given as goal

abbrev pub invariant-loop-at : goal.invariant-loop-at
invariant-loop-at g l = resolved_from l.options l.at l.state (drop l.at l.seen) ≡ resolution_of l.options l.seen
