-- What is open where a trace ends, and what is told of one that is explained (docs/TRACES.md, "What is printed").
use Rattle.std.specs.Prelude.{ℕ, ◌||◌, ◌&&◌, ◌==◌, Bool, true, false, not, List, length, nat_lt, Option, Some, None, Result, Ok, Err, if◌then◌else◌, is_some}
use Rattle.std.specs.List.{list_any}
use Rattle.chi_trace.specs.declared.fields.Address.{Address}
use Rattle.chi_trace.specs.declared.flits.Seen.{Seen}
use Rattle.chi_resolution.specs.Ledger.{owed_of, unused_of}
use Rattle.chi_resolution.specs.Lines.{line_of}
use Rattle.chi_resolution.specs.declared.beats.OpenData.{OpenData}
use Rattle.chi_resolution.specs.declared.ids.OpenId.{OpenId}
use Rattle.chi_resolution.specs.declared.ledger.CreditLedger.{CreditLedger}
use Rattle.chi_resolution.specs.declared.lines.Resolved.{Resolved}
use Rattle.chi_verdict.specs.declared.asked.Asked.{Asked}
use Rattle.chi_verdict.specs.declared.asked.Ending.{Ending}
use Rattle.chi_verdict.specs.declared.asked.Ending.TheVariants.{Any, Complete}
use Rattle.chi_verdict.specs.declared.reports.TraceOutcome.{TraceOutcome}
use Rattle.chi_verdict.specs.declared.reports.TraceOutcome.TheVariants.{Explained, Incomplete, Partly, Nothing, Faulty}
use Rattle.chi_verdict.specs.declared.reports.TraceStop.{TraceStop}
use Rattle.chi_verdict.specs.declared.reports.TraceTotals.{TraceTotals}
use Rattle.chi_verdict.specs.Lines.{is_on_line}

-- credits are owed to the node, or it has some that it hasn't used
abbrev pub is_account_open : CreditLedger → Bool
is_account_open account = nat_lt 0 (owed_of account) || nat_lt 0 (unused_of account)

-- a request, a completion, a snoop, data that lacks words, a load or a store that waits, or a credit is open
abbrev pub is_anything_open : List OpenId → List OpenData → List Resolved → List CreditLedger → Bool
is_anything_open ids unfinished waiting accounts =
    nat_lt 0 (length ids) || (nat_lt 0 (length unfinished) || (nat_lt 0 (length waiting) || list_any is_account_open accounts))

-- the trace has no flit, load or store, or none of the line of an address
abbrev pub is_nothing_of : Option Address → ℕ → List Resolved → List Resolved → Bool
is_nothing_of None count flits waiting = count == 0
is_nothing_of (Some address) count flits waiting = not (list_any (is_on_line (line_of address)) flits || list_any (is_on_line (line_of address)) waiting)

abbrev pub is_nothing_there : Option Address → List Seen → List Resolved → List Resolved → Bool
is_nothing_there only seen flits waiting = is_nothing_of only (length seen) flits waiting

-- what is told of a trace each of whose lines is explained: by whether anything may be open, and whether it is; by whether all
-- of it is to be judged, and whether it was; and by whether nothing was seen of what is asked for
abbrev pub whole_outcome : Ending → Bool → TraceTotals → TraceOutcome
whole_outcome Any is_open totals = Explained totals
whole_outcome Complete true totals = Incomplete totals
whole_outcome Complete false totals = Explained totals

-- what isn't read comes before what is open
abbrev pub explained_outcome : Asked → Bool → Bool → TraceTotals → TraceOutcome
explained_outcome asked is_open true totals = Nothing
explained_outcome asked is_open false totals = if asked.judged && is_some totals.cut then Partly totals else whole_outcome asked.ending is_open totals

abbrev pub trace_outcome_of : Asked → Bool → Bool → Result TraceTotals TraceStop → TraceOutcome
trace_outcome_of asked is_open nothing (Ok totals) = explained_outcome asked is_open nothing totals
trace_outcome_of asked is_open nothing (Err stop) = Faulty stop
