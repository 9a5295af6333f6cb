-- What is counted of loads and stores, one more at a time (docs/PROTOCOL.md, "The journal and last values").
use Rattle.std.specs.Prelude.{ℕ, ◌+◌, ◌==◌, ◌&&◌, List, Bool, true, nat_le, nat_lt, replicate, get_or, slice_set, if◌then◌else◌}
use Rattle.chi_journal.specs.declared.record.Record.{Record}
use Rattle.chi_journal.specs.declared.record.Record.TheVariants.{Load, Store}
use Rattle.chi_journal.specs.declared.totals.JournalTotals.{JournalTotals}

-- the most that is counted, 2 ^ 58 - 1: the counts of 64 journals are together below 2 ^ 64
abbrev pub most_counted : ℕ
most_counted = 288230376151711743

-- one more, up to the most
abbrev pub counted : ℕ → ℕ
counted n = if nat_lt n most_counted then n + 1 else n

-- whether counts are no more than the most
abbrev pub are_counts : JournalTotals → Bool
are_counts totals = nat_le totals.loads most_counted && nat_le totals.stores most_counted

abbrev pub no_totals : JournalTotals
no_totals = record { loads = 0; stores = 0; parts = replicate 8 0; legal = true }

-- one record more of the agent
abbrev pub part_counted : List ℕ → ℕ → List ℕ
part_counted parts n = slice_set parts n (counted (get_or parts n 0))

-- one record more, before which its word had the value last
abbrev pub totals_with : JournalTotals → Record → ℕ → JournalTotals
totals_with totals (Load agent line word value) last = record totals {
  loads = counted totals.loads;
  parts = part_counted totals.parts agent.0;
  legal = totals.legal && value == last;
}
totals_with totals (Store agent line word value) last = record totals { stores = counted totals.stores; parts = part_counted totals.parts agent.0 }
