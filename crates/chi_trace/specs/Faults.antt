-- How the faults of reading a trace are told (docs/TRACES.md, "Traces").
use Rattle.std.specs.Prelude.{◌≡◌, Result, Ok, Err}
use Rattle.chi_trace.specs.declared.faults.TraceFault.{TraceFault}
use Rattle.chi_trace.specs.declared.faults.TraceFault.TheVariants.{NoMemory, TooLarge, Gzip, LongLine, MissingNewline, FewWords, BadWord}

-- a fault that reading answers is the one that the grammar names, but for want of memory
abbrev pub TraceFails : {Y : Type 0} → TraceFault → Result Y TraceFault → Type 0
TraceFails NoMemory read = Unit {0}
TraceFails TooLarge read = read ≡ Err TooLarge
TraceFails Gzip read = read ≡ Err Gzip
TraceFails (LongLine line) read = read ≡ Err (LongLine line)
TraceFails (MissingNewline line) read = read ≡ Err (MissingNewline line)
TraceFails (FewWords line) read = read ≡ Err (FewWords line)
TraceFails (BadWord line column) read = read ≡ Err (BadWord line column)

-- what a function returned, seen by view, is what the grammar reads, unless memory ran out
abbrev pub TraceGives : {X Y : Type 0} → (X → Y) → Result X TraceFault → Result Y TraceFault → Type 0
TraceGives view (Ok x) read = read ≡ Ok (view x)
TraceGives view (Err fault) read = TraceFails fault read
