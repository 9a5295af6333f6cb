use Rattle.std.proofs.Common.{◌≡◌, ◌++◌, drop}
use Rattle.std.specs.List.{filter}
use Rattle.chi_resolution.specs.Resolution.{is_released}
use Rattle.chi_resolution.proofs.resolution.release.Given as goal

abbrev pub invariant-loop-item : goal.invariant-loop-item
invariant-loop-item g l = l.flits.items ++ filter (is_released l.flit) (drop l.item-index l.waiting) ≡ l.initial.flits.items ++ filter (is_released l.flit) l.waiting
