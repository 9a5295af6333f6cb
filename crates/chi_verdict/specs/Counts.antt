-- How many flits, loads and stores a trace has (docs/TRACES.md, "What is printed").
use Rattle.std.specs.Prelude.{◌≡◌, ◌+◌, not, Bool, true, false, List, if◌then◌else◌, length}
use Rattle.std.specs.List.{count_by}
use Rattle.chi_trace.specs.declared.flits.Flit.{Flit}
use Rattle.chi_trace.specs.declared.flits.Flit.TheVariants as flits
use Rattle.chi_trace.specs.declared.flits.Seen.{Seen}
use Rattle.chi_verdict.specs.declared.readings.Counts.{Counts}

-- loads and stores are no flits
abbrev pub is_access : Flit → Bool
is_access (flits.Load address value) = true
is_access (flits.Store address value) = true
is_access other = false

abbrev pub is_seen_access : Seen → Bool
is_seen_access seen = is_access seen.flit

-- how many flits, loads and stores a trace has
pub record AreCounts (seen : List Seen) (counts : Counts) : Type 0 where
  pub all : counts.all ≡ length seen
  pub flits : counts.flits ≡ count_by (λ one. not (is_seen_access one)) seen
  pub accesses : counts.accesses ≡ count_by is_seen_access seen

-- one more is counted
abbrev pub counted : Flit → Counts → Counts
counted flit counts =
    if is_access flit then record { all = counts.all + 1; flits = counts.flits; accesses = counts.accesses + 1; cut = counts.cut }
    else record { all = counts.all + 1; flits = counts.flits + 1; accesses = counts.accesses; cut = counts.cut }
