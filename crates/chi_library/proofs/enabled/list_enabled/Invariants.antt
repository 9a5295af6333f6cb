-- So far the actions that aren't refused are listed, and those of the steps that are left are to come.
use Rattle.std.proofs.Common.{drop}
use Rattle.chi_library.proofs.EnabledLists.{told_of}
use Rattle.chi_library.proofs.Listings.{IsListing}
use Rattle.chi_library.proofs.enabled.list_enabled.Given as goal

abbrev pub invariant-loop-step : goal.invariant-loop-step
invariant-loop-step l =
    IsListing 24 (told_of l.slice l.agent l.line l.steps) (told_of l.slice l.agent l.line (drop l.step-index l.steps)) l.fn.actions l.actions l.count
