-- What the calls on an observer are told and tell, by C's numbers (docs/LIBRARY.md, "An observer").
use Rattle.std.specs.Prelude.{ℕ, ◌*◌, ◌%◌, ◌==◌, ◌&&◌, Bool, true, false, min, nat_le, Option, Some, None, if◌then◌else◌, is_some, replicate}
use Rattle.chi_observer.specs.declared.flits.Stores.{Stores}
use Rattle.chi_observer.specs.declared.flits.Stores.TheVariants.{Hidden, Listed}
use Rattle.chi_observer.specs.declared.observer.Reason.{Reason}
use Rattle.chi_observer.specs.declared.observer.Reason.TheVariants as rules
use Rattle.chi_trace.specs.declared.forms.Listing.TheVariants as listings
use Rattle.chi_trace.specs.declared.forms.Opcodes.TheVariants.{IssueB}
use Rattle.chi_trace.specs.declared.forms.TraceForm.{TraceForm}
use Rattle.chi_observe.specs.declared.judges.Log.TheVariants.{Whole}
use Rattle.chi_observe.specs.declared.benches.Judged.{Judged}
use Rattle.chi_observe.specs.declared.benches.Judged.TheVariants as judged
use Rattle.chi_observe.specs.declared.bounded.Room.{Room}
use Rattle.chi_observe.specs.declared.credits.CreditTypes.{CreditTypes}
use Rattle.chi_observe.specs.declared.credits.CreditTypes.TheVariants.{Two, Four, Any}
use Rattle.chi_observe.specs.declared.facts.FaultFacts.{FaultFacts}
use Rattle.chi_ids.specs.declared.keys.CacheLine.{CacheLine}
use Rattle.chi_observe.specs.declared.reasons.IdReason.{IdReason}
use Rattle.chi_observe.specs.declared.reasons.IdReason.TheVariants as ids
use Rattle.chi_observe.specs.declared.reasons.LineReason.{LineReason}
use Rattle.chi_observe.specs.declared.reasons.LineReason.TheVariants as lines
use Rattle.chi_observe.specs.declared.tallies.Tally.{Tally}
use Rattle.chi_observe.specs.declared.watch.WatchFault.{WatchFault}
use Rattle.chi_observe.specs.declared.watch.WatchFault.TheVariants as faults
use Rattle.chi_observe.specs.declared.watch.Counts.{Counts}
use Rattle.chi_observe.specs.Told.{is_nothing_judged, is_unjudged}
use Rattle.chi_library.specs.Numbers.{flag_number}
use Rattle.chi_library.specs.declared.observer_told.ChiObserverConfig.{ChiObserverConfig}
use Rattle.chi_library.specs.declared.observer_told.ChiObserverCounts.{ChiObserverCounts}
use Rattle.chi_library.specs.declared.observer_told.ChiObserverFault.{ChiObserverFault}
use Rattle.chi_library.specs.declared.observer_told.ChiUnjudged.{ChiUnjudged}
use Rattle.chi_library.specs.declared.observer_told.Opening.{Opening}
use Rattle.chi_library.specs.declared.observer_told.TheConstants.ChiObserverCounts as blank

-- the sizes of an observer in their limits, its credit types, early grants, and whether stores may be hidden
abbrev pub is_size : ℕ → Bool
is_size n = nat_le 1 n && nat_le n 16777216

abbrev pub are_nodes : ChiObserverConfig → Bool
are_nodes config = nat_le 1 config.requesters && (nat_le config.requesters 32 && nat_le 1 config.homes)

abbrev pub are_sizes : ChiObserverConfig → Bool
are_sizes config = is_size config.lines && (is_size config.ids && is_size config.accounts)

abbrev pub room_of : ChiObserverConfig → Room
room_of config = record { requesters = config.requesters; homes = config.homes; lines = config.lines; ids = config.ids; accounts = config.accounts }

abbrev pub room_at : ChiObserverConfig → Option Room
room_at config = if are_sizes config && are_nodes config then Some (room_of config) else None

abbrev pub types_at : ℕ → Option CreditTypes
types_at n =
    if n == 0 then Some Any else (
    if n == 2 then Some Two else (
    if n == 4 then Some Four else None))

abbrev pub early_at : ℕ → Option Bool
early_at n =
    if n == 0 then Some false else (
    if n == 1 then Some true else None)

abbrev pub stores_at : ℕ → Option Stores
stores_at n =
    if n == 0 then Some Hidden else (
    if n == 1 then Some Listed else None)

-- the opcodes of Issue B, with their data
abbrev pub usual_form : TraceForm
usual_form = record { opcodes = IssueB; listing = listings.Listed }

abbrev pub opening_of : Option Room → Option CreditTypes → Option Bool → Option Stores → Option Opening
opening_of (Some room) (Some types) (Some early) (Some stores) = Some (record { options = record { types = types; early_grants = early; stores = stores; log = Whole; form = usual_form }; room = room })
opening_of room types early stores = None

abbrev pub opening_at : ChiObserverConfig → Option Opening
opening_at config = opening_of (room_at config) (types_at config.types) (early_at config.early_grants) (stores_at config.stores)

-- the answer to a flit
abbrev pub judged_number : Judged → ℕ
judged_number judged.Taken = 0
judged_number judged.SetAside = 248
judged_number judged.Full = 247
judged_number judged.Untaken = 253
judged_number judged.NoMemory = 8

-- reasons
abbrev pub id_reason_number : IdReason → ℕ
id_reason_number (ids.InUse key) = 1
id_reason_number (ids.NotOpen key) = 2
id_reason_number (ids.Unfinished key) = 3
id_reason_number (ids.WordAgain key) = 4
id_reason_number (ids.WrongAddress named line) = 5
id_reason_number (ids.NotRetryable key) = 6
id_reason_number (ids.OtherType named wanted) = 7
id_reason_number (ids.NothingRetried sides pcrd) = 8
id_reason_number (ids.NoCredit sides pcrd) = 9
id_reason_number (ids.NoDbid key) = 10
id_reason_number (ids.Form resp) = 11
id_reason_number (ids.OtherBeat key) = 25

abbrev pub rule_number : Reason → ℕ
rule_number rules.NotJudged = 13
rule_number rules.NoAgent = 14
rule_number rules.NotSent = 15
rule_number rules.NotDue = 16
rule_number rules.Busy = 17
rule_number rules.NoMoment = 18
rule_number rules.NoOverwriter = 19
rule_number rules.NoDuty = 20
rule_number rules.OtherWords = 21
rule_number rules.OtherCopy = 22
rule_number rules.Lost = 23

abbrev pub line_reason_number : LineReason → ℕ
line_reason_number (lines.OtherHome home) = 12
line_reason_number (lines.Rule reason) = rule_number reason

abbrev pub reason_number : WatchFault → ℕ
reason_number (faults.Ids reason) = id_reason_number reason
reason_number (faults.Line reason) = line_reason_number reason

-- lines by the addresses of their first bytes, below 2^64
abbrev pub line_address : CacheLine → ℕ
line_address line = line.0 % 0x400_0000_0000_0000 * 64

abbrev pub line_number : Option CacheLine → ℕ
line_number None = 0
line_number (Some line) = line_address line

-- no fault, and the first
abbrev pub no_fault : ChiObserverFault
no_fault = record { number = 0; line = 0; node = 0; reason = 0; has_line = 0; reserved = replicate 4 0 }

abbrev pub facts_told : FaultFacts → ChiObserverFault
facts_told facts = record {
  number = facts.number;
  line = line_number facts.line;
  node = facts.sides.requester.0;
  reason = reason_number facts.fault;
  has_line = flag_number (is_some facts.line);
  reserved = replicate 4 0;
}

abbrev pub fault_told : Option FaultFacts → ChiObserverFault
fault_told None = no_fault
fault_told (Some facts) = facts_told facts

-- counts; those of 32 and of 8 bits are told as the greatest such number where they are greater
abbrev pub least : ℕ → ℕ
least n = min n 0xffff_ffff

abbrev pub least_byte : ℕ → ℕ
least_byte n = min n 255

abbrev pub no_counts : ChiObserverCounts
no_counts = blank.NONE

abbrev pub counts_told : Tally → ChiObserverCounts
counts_told tally = record {
  flits = tally.counts.flits;
  accesses = tally.counts.accesses;
  lines = tally.counts.lines;
  aside = tally.counts.aside;
  ids = least tally.ids;
  accounts = least tally.accounts;
  requests = least tally.requests;
  completions = least tally.completions;
  snoops = least tally.snoops;
  retried = least tally.retried;
  unsettled = least tally.unsettled;
  requesters = least_byte tally.requesters;
  homes = least_byte tally.homes;
  reserved = replicate 2 0;
}

-- how much wasn't judged
abbrev pub nothing_unjudged : ChiUnjudged
nothing_unjudged = record { flits = 0; of_flits = 0; lines = 0; of_lines = 0; accesses = 0; of_accesses = 0 }

abbrev pub unjudged_told : Counts → ChiUnjudged
unjudged_told counts = record {
  flits = counts.unjudged;
  of_flits = counts.flits;
  lines = counts.aside;
  of_lines = counts.lines;
  accesses = counts.unseen;
  of_accesses = counts.accesses;
}

-- what a close answers: 245 where nothing was judged, and 246 where something wasn't
abbrev pub ended_number : Counts → ℕ
ended_number counts = if is_nothing_judged counts then 245 else (if is_unjudged counts then 246 else 0)
