-- How the program ends: its status, and the line on standard error without its line end
-- (docs/FORMATS.md, "The program").
use Rattle.std.specs.Prelude.{ℕ, nat_lt, Bool, true, false, List, ◌∷◌, [], Option, Some, None, Result, Ok, Err, if◌then◌else◌}
use Rattle.std.specs.declared.io.ErrorKind.{ErrorKind}
use Rattle.std.specs.declared.io.ErrorKind.TheVariants as kinds
use Rattle.chi_program.specs.declared.faults.ArgFault.{ArgFault}
use Rattle.chi_program.specs.declared.faults.ArgFault.TheVariants as faults
use Rattle.chi_program.specs.Faults as words
use Rattle.chi_script.specs.declared.faults.Fault.{Fault}
use Rattle.chi_script.specs.Faults as script
use Rattle.chi_program.specs.declared.stops.End.{End}
use Rattle.chi_program.specs.declared.stops.End.TheVariants as ends
use Rattle.chi_program.specs.declared.stops.Stop.{Stop}
use Rattle.chi_program.specs.declared.stops.Stop.TheVariants.{Arguments, Run}
use Rattle.chi_observe.specs.declared.reports.ObserveOutcome.{ObserveOutcome}
use Rattle.chi_observe.specs.declared.reports.ObserveOutcome.TheVariants as observed
use Rattle.chi_verdict.specs.declared.reports.TraceOutcome.{TraceOutcome}
use Rattle.chi_verdict.specs.declared.reports.TraceOutcome.TheVariants as outcomes

abbrev pub stop_status : Stop → ℕ
stop_status (Arguments fault) = words.argument_fault_status fault
stop_status (Run fault) = script.status_of fault

abbrev pub stop_text : Stop → List ℕ
stop_text (Arguments fault) = words.argument_fault_text fault
stop_text (Run fault) = script.fault_text fault

abbrev pub end_status : End → ℕ
end_status ends.Done = 0
end_status ends.Unfinished = 2
end_status ends.Differs = 5
end_status (ends.Faulty fault) = script.status_of fault
end_status ends.Malformed = 1
end_status ends.Unexplained = 6
end_status ends.Incomplete = 7
end_status ends.Nothing = 8
end_status ends.Few = 9

-- the end of a check of which all answers hold, or not
abbrev pub check_end : Bool → End
check_end true = ends.Done
check_end false = ends.Differs

-- the end of a check of which all answers hold, where some answer is wanted, or none
abbrev pub wanted_end : Bool → End
wanted_end true = ends.Done
wanted_end false = ends.Nothing

-- the end of a check of several files: the first fault comes before any answer that differs
abbrev pub suite_stop : Option Fault → Bool → End
suite_stop None hold = check_end hold
suite_stop (Some fault) hold = ends.Faulty fault

-- the end of a count of cells: the first fault comes before fewer cells than were asked for
abbrev pub cover_end : Option Fault → (reached least : ℕ) → End
cover_end None reached least = if nat_lt reached least then ends.Few else ends.Done
cover_end (Some fault) reached least = ends.Faulty fault

-- so of a sum of reports: one that is none comes first
abbrev pub merge_end : Bool → (reached least : ℕ) → End
merge_end true reached least = ends.Malformed
merge_end false reached least = cover_end None reached least

-- the end of an explanation of which this came
abbrev pub explain_end : TraceOutcome → End
explain_end (outcomes.Explained totals) = ends.Done
explain_end (outcomes.Incomplete totals) = ends.Incomplete
explain_end (outcomes.Partly totals) = ends.Few
explain_end outcomes.Nothing = ends.Nothing
explain_end (outcomes.Faulty stop) = ends.Unexplained
explain_end (outcomes.Malformed fault) = ends.Malformed

-- the end of a trace of which this came
abbrev pub observe_end : ObserveOutcome → End
observe_end (observed.Accepted counts) = ends.Done
observe_end (observed.Incomplete counts) = ends.Incomplete
observe_end (observed.Partly counts) = ends.Few
observe_end (observed.Unjudged counts) = ends.Nothing
observe_end observed.Nothing = ends.Nothing
observe_end (observed.Faulty line) = ends.Unexplained
observe_end (observed.Malformed fault) = ends.Malformed

-- the end of a storm of which all scripts finished, or not
abbrev pub storm_end : Bool → End
storm_end true = ends.Done
storm_end false = ends.Unfinished

-- the end of a file that was drawn, or not
abbrev pub draw_end : Bool → End
draw_end true = ends.Done
draw_end false = ends.Unfinished

-- the status of a run that came to an end, or was stopped
abbrev pub run_status : Result End Stop → ℕ
run_status (Ok end) = end_status end
run_status (Err stop) = stop_status stop

-- the statuses that the program can end with: all went well, a faulty file or a device that failed, a script that
-- didn't finish or a file that wasn't drawn, want of memory, bad arguments, an answer that differs, a flit that isn't
-- explained or taken, something open at the end of a trace, nothing that was compared or shown, and less than was asked for
abbrev pub statuses : List ℕ
statuses = 0 ∷ 1 ∷ 2 ∷ 3 ∷ 4 ∷ 5 ∷ 6 ∷ 7 ∷ 8 ∷ 9 ∷ []

-- why the words of the command line weren't had: every cause but want of memory is bad arguments
abbrev pub words_fault : ErrorKind → ArgFault
words_fault kinds.OutOfMemory = faults.NoMemory
words_fault _ = faults.Bad
