-- What the calls on a monitor answer, leave and tell, by C's numbers (docs/LIBRARY.md, "A monitor").
use Rattle.std.specs.Prelude.{◌≡◌, ◌&&◌, ℕ, List, [], ◌∷◌, map, nat_le, Option, Some, None, replicate, Result, Ok, Err, slice_get, if◌then◌else◌}
use Rattle.chi_flit.specs.declared.credit.Profile.{Profile}
use Rattle.chi_flit.specs.declared.credit.Profile.TheVariants.{Two, Four}
use Rattle.chi_flit.specs.declared.refusal.Refusal.{Refusal}
use Rattle.chi_flit.specs.declared.refusal.Refusal.TheVariants as refusals
use Rattle.chi_explain.specs.declared.explanations.Unexplained.{Unexplained}
use Rattle.chi_explain.specs.declared.explanations.Unexplained.TheVariants as undone
use Rattle.chi_explain.specs.declared.sent.SentFlit.{SentFlit}
use Rattle.chi_monitor.specs.declared.explained.NoExplanation.{NoExplanation}
use Rattle.chi_monitor.specs.declared.explained.NoExplanation.TheVariants as causes
use Rattle.chi_monitor.specs.declared.faults.LineFault.{LineFault}
use Rattle.chi_monitor.specs.declared.faults.LineFault.TheVariants as faults
use Rattle.chi_monitor.specs.declared.monitor.FirstFault.{FirstFault}
use Rattle.chi_monitor.specs.declared.monitor.NotExplained.{NotExplained}
use Rattle.chi_monitor.specs.declared.monitor.NotExplained.TheVariants as unexplained
use Rattle.chi_monitor.specs.declared.monitor.NotTaken.{NotTaken}
use Rattle.chi_monitor.specs.declared.monitor.NotTaken.TheVariants.{OutOfRange, Faulty, Full}
use Rattle.chi_monitor.specs.declared.open_flits.OpenFlits.{OpenFlits}
use Rattle.chi_monitor.specs.Watched.{IsObserved, IsToldAt, MonitorState, flit_refusal, opening_monitor}
use Rattle.chi_slice.specs.Words.{four_types, is_between, sizes_if, two_types, Sizes}
use Rattle.chi_library.specs.declared.monitor_told.ChiFault.{ChiFault}
use Rattle.chi_library.specs.declared.monitor_told.ChiOpen.{ChiOpen}
use Rattle.chi_library.specs.Numbers.{flag_number, profile_of}
use Rattle.chi_library.specs.SavedSlices.{AreBytesTold}

-- a node of one line, whose journal keeps no records
abbrev pub config_in : Option Profile → ℕ → Option Sizes
config_in (Some Two) agents = sizes_if (two_types agents 1 1 1 1 0)
config_in (Some Four) agents = sizes_if (four_types agents 1 1 (1 ∷ 1 ∷ 1 ∷ 1 ∷ []) 0)
config_in None agents = None

-- the node by whose runs flits are explained, where the monitor's sizes are in their limits
abbrev pub monitor_config : ℕ → ℕ → ℕ → ℕ → Option Sizes
monitor_config profile agents lines kept =
    if is_between 1 64 lines && nat_le kept 65536 then config_in (profile_of profile) agents else None

-- the monitor of so many lines that keeps so many flits of each opens
abbrev pub IsMonitorOf : ℕ → ℕ → Sizes → MonitorState → Type 0
IsMonitorOf lines kept config m = m ≡ opening_monitor config lines kept

-- 253: no run of the model sends the flit; 252: no flits are kept
abbrev pub fault_number : LineFault → ℕ
fault_number faults.NoMemory = 8
fault_number other = 253

abbrev pub taken_number : Result (Unit {0}) NotTaken → ℕ
taken_number (Ok done) = 0
taken_number (Err OutOfRange) = 10
taken_number (Err Full) = 1
taken_number (Err (Faulty reason)) = fault_number reason

-- a flit that was named is judged by the monitor
abbrev pub IsTakenAs : MonitorState → ℕ → Option SentFlit → ℕ → MonitorState → Type 0
IsTakenAs m l None answer m' = (answer ≡ 10) × (m' ≡ m)
IsTakenAs m l (Some seen) answer m' =
    (taken : Result (Unit {0}) NotTaken) × (answer ≡ taken_number taken) × IsObserved (flit_refusal m seen.agent.0 l) m l seen taken m'

abbrev pub IsFlitAnswered : Option MonitorState → ℕ → Option SentFlit → ℕ → Option MonitorState → Type 0
IsFlitAnswered None l seen answer new = (answer ≡ 255) × (new ≡ None)
IsFlitAnswered (Some m) l seen answer None = ⊥
IsFlitAnswered (Some m) l seen answer (Some m') = IsTakenAs m l seen answer m'

-- the reasons of faults, in the order of docs/LIBRARY.md, "A monitor"
abbrev pub reason_number : LineFault → ℕ
reason_number faults.NoMemory = 1
reason_number faults.NoAgent = 2
reason_number (faults.Pending since) = 3
reason_number (faults.Needs kind reach) = 4
reason_number (faults.NotRetried kind) = 5
reason_number faults.NothingToRetry = 6
reason_number (faults.ServedRetry since) = 7
reason_number (faults.NobodyAsks snoop) = 8
reason_number (faults.EarlySnoop awaited) = 9
reason_number (faults.EarlyCompletion awaited) = 9
reason_number (faults.EarlyEvict awaited) = 9
reason_number (faults.EarlyCopyBack awaited) = 9
reason_number (faults.SnoopedTwice since) = 10
reason_number faults.NothingToAnswer = 11
reason_number (faults.Answer reach snoop basis) = 12
reason_number (faults.Words words) = 13
reason_number faults.NoRead = 14
reason_number faults.NoCleanUnique = 14
reason_number faults.NoEvict = 14
reason_number faults.NoCopyBack = 14
reason_number (faults.Snoops kind wrong) = 15
reason_number (faults.Form form) = 16
reason_number faults.NoAckAwaited = 17
reason_number faults.NoWriteDataAwaited = 17
reason_number (faults.WriteForm form reach) = 18
reason_number (faults.OtherCredit named wanted) = 20
reason_number other = 19

-- no fault, and the first
abbrev pub no_fault : ChiFault
no_fault = record { number = 0; reason = 0; agent = 0; line = 0; reserved = replicate 5 0 }

abbrev pub fault_told : Option FirstFault → ChiFault
fault_told None = no_fault
fault_told (Some first) = record {
  number = first.number;
  reason = reason_number first.reason;
  agent = first.flit.agent.0;
  line = first.line.0;
  reserved = replicate 5 0;
}

-- a text, whatever it is, of the monitor that is held
abbrev pub IsTextTold : Option MonitorState → List ℕ → ℕ → List ℕ → ℕ → Type 0
IsTextTold None room answer new told = (answer ≡ 255) × (told ≡ 0) × (new ≡ room)
IsTextTold (Some m) room answer new told = (text : List ℕ) × AreBytesTold text room answer new told

-- what is open of an agent, and of each agent at a line
abbrev pub open_told : OpenFlits → ChiOpen
open_told open_flits = record {
  request = flag_number open_flits.request;
  retried = flag_number open_flits.retried;
  snoop = flag_number open_flits.snoop;
  completion = flag_number open_flits.completion;
  write_data = flag_number open_flits.write_data;
}

abbrev pub none_open : ChiOpen
none_open = record { request = 0; retried = 0; snoop = 0; completion = 0; write_data = 0 }

abbrev pub all_open_told : Option (List OpenFlits) → List ChiOpen
all_open_told None = replicate 8 none_open
all_open_told (Some open_flits) = map open_told open_flits

-- a line outside the monitor
abbrev pub watched_refusal : {X : Type 0} → Option X → Option Refusal
watched_refusal None = Some refusals.OutOfRange
watched_refusal (Some x) = None

abbrev pub undone_number : Unexplained → ℕ
undone_number undone.NoMemory = 8
undone_number other = 253

abbrev pub cause_number : NoExplanation → ℕ
cause_number causes.NoMemory = 8
cause_number (causes.Fault at fault) = 253
cause_number (causes.Undone cause) = undone_number cause

abbrev pub explained_number : Result (Unit {0}) NotExplained → ℕ
explained_number (Ok done) = 0
explained_number (Err unexplained.OutOfRange) = 10
explained_number (Err unexplained.NotKept) = 252
explained_number (Err (unexplained.Not cause)) = cause_number cause

-- the flits that were kept of a line are explained, or aren't
abbrev pub IsExplainedAs : MonitorState → ℕ → ℕ → Type 0
IsExplainedAs m l answer =
    (told : Result (Unit {0}) NotExplained) × (answer ≡ explained_number told) × IsToldAt (slice_get m.lines l) m.config told

abbrev pub IsExplainedIf : Option MonitorState → ℕ → ℕ → Type 0
IsExplainedIf None l answer = answer ≡ 255
IsExplainedIf (Some m) l answer = IsExplainedAs m l answer
