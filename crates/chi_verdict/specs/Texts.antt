-- The text on a trace (docs/TRACES.md, "What is printed").
use Rattle.std.specs.Prelude.{◌≡◌, ℕ, ◌==◌, Bool, true, false, List, [], ◌∷◌, ◌++◌, Option, Some, None, codes, if◌then◌else◌}
use Rattle.std.specs.Fmt.{decimal}
use Rattle.std.specs.List.{slice_get}
use Rattle.chi_trace.specs.Malformed.{malformed_front}
use Rattle.chi_trace.specs.declared.faults.TraceFault.{TraceFault}
use Rattle.chi_trace.specs.declared.faults.TraceFault.TheVariants.{Gzip}
use Rattle.chi_trace.specs.declared.fields.Address.{Address}
use Rattle.chi_trace.specs.declared.flits.Seen.{Seen}
use Rattle.chi_verdict.specs.declared.reports.TraceOutcome.{TraceOutcome}
use Rattle.chi_verdict.specs.declared.reports.TraceOutcome.TheVariants.{Explained, Incomplete, Partly, Nothing, Faulty, Malformed}
use Rattle.chi_verdict.specs.declared.reports.TraceStop.{TraceStop}
use Rattle.chi_verdict.specs.declared.reports.TraceStop.TheVariants.{Ids, Flit, Undone}
use Rattle.chi_verdict.specs.declared.reports.TraceTotals.{TraceTotals}
use Rattle.chi_verdict.specs.Outstanding.{Outstanding, open_text}

abbrev pub BeginsWith : List ℕ → List ℕ → Type 0
BeginsWith front text = (rest : List ℕ) × (text ≡ front ++ rest)

-- what isn't read: a last line that no line end follows; in a check file that is a comment
abbrev pub cut_line : Option ℕ → List ℕ
cut_line None = []
cut_line (Some number) = codes "not judged: trace line " ++ (decimal number ++ (codes ", the last, which has no line end" ++ (10 ∷ [])))

abbrev pub cut_comment : Option ℕ → List ℕ
cut_comment None = []
cut_comment (Some number) = codes "# " ++ cut_line (Some number)

-- the line on a trace that is explained
abbrev pub access_text : ℕ → List ℕ
access_text accesses = if accesses == 0 then [] else codes " and " ++ (decimal accesses ++ codes " loads and stores")

abbrev pub explained_line : TraceTotals → List ℕ
explained_line totals =
    codes "explained "
    ++ (decimal totals.flits ++ (codes " flits" ++ (access_text totals.accesses ++ (codes " by " ++ (decimal totals.actions ++ (codes " actions on " ++ (decimal totals.lines ++ (codes " lines" ++ (10 ∷ [])))))))))

-- what isn't read, how much is explained, and what is outstanding
abbrev pub explained_text : TraceTotals → Outstanding → List ℕ
explained_text totals these = cut_line totals.cut ++ (explained_line totals ++ open_text these)

-- where the check file of a line is asked for, the text is that file
abbrev pub IsExplainedText : Option Address → TraceTotals → Outstanding → List ℕ → Type 0
IsExplainedText None totals these text = text ≡ explained_text totals these
IsExplainedText (Some address) totals these text = BeginsWith (cut_comment totals.cut) text

abbrev pub nothing_front : Option ℕ → List ℕ
nothing_front cut = cut_line cut ++ codes "no flit, load or store"

-- of a file that is no trace: a compressed one is told how it is read
abbrev pub is_compressed : TraceFault → Bool
is_compressed Gzip = true
is_compressed other = false

abbrev pub fault_front : TraceFault → List ℕ
fault_front fault = if is_compressed fault then codes "chihome: is gzip: zcat FILE | chihome explain -" else malformed_front fault

-- the number of a flit's line in the file
abbrev pub flit_number_of : Option Seen → ℕ
flit_number_of None = 0
flit_number_of (Some seen) = seen.line

abbrev pub numbered : ℕ → List ℕ
numbered line = codes "line " ++ (decimal line ++ codes ": ")

-- the line on a trace that isn't
abbrev pub stop_front : List Seen → TraceStop → List ℕ
stop_front seen (Ids fault) = numbered (flit_number_of (slice_get seen fault.at))
stop_front seen (Flit at fault) = numbered (flit_number_of (slice_get seen at))
stop_front seen (Undone line) = codes "no explanation of the cache line at "

-- where the check file of a line is asked for, the text is that file
abbrev pub IfWhole : Option Address → Type 0 → Type 0
IfWhole None holds = holds
IfWhole (Some address) holds = Unit {0}

-- what is told of flits, of a last line that is cut, and of what is outstanding
abbrev pub IsOutcomeText : List Seen → Option ℕ → Outstanding → Option Address → TraceOutcome → List ℕ → Type 0
IsOutcomeText seen cut these only (Explained totals) text = IsExplainedText only totals these text
IsOutcomeText seen cut these only (Incomplete totals) text = IsExplainedText only totals these text
IsOutcomeText seen cut these only (Partly totals) text = IsExplainedText only totals these text
IsOutcomeText seen cut these only Nothing text = BeginsWith (nothing_front cut) text
IsOutcomeText seen cut these only (Faulty stop) text = IfWhole only (BeginsWith (stop_front seen stop) text)
IsOutcomeText seen cut these only (Malformed fault) text = BeginsWith (fault_front fault) text
