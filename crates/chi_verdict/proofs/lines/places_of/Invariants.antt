use Rattle.std.proofs.Common.{◌≡◌, take}
use Rattle.std.specs.List.{All}
use Rattle.chi_verdict.specs.Lines.{in_order}
use Rattle.chi_verdict.proofs.SortLemmas.{IsAtItsLine}
use Rattle.chi_verdict.proofs.lines.places_of.Given as goal

abbrev pub invariant-loop-place : goal.invariant-loop-place
invariant-loop-place g l = (in_order l.items l.order.items ≡ take l.place l.items) × All (IsAtItsLine l.items) l.order.items
