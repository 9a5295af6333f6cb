use Rattle.std.proofs.Common.{◌≡◌, take}
use Rattle.chi_monitor.proofs.SearchLoop.{Leads}
use Rattle.chi_monitor.proofs.search.search_line.Given as goal

abbrev pub invariant-loop-at : goal.invariant-loop-at
invariant-loop-at g l = (l.search.profile ≡ l.config.profile) × (l.search.stores ≡ l.fn.stores) × Leads l.config.profile l.fn.stores l.search.turns l.search.home (take l.at l.seen)
