-- How the text begins that is told of a trace's fault (docs/TRACES.md, "What is printed").
use Rattle.std.specs.Prelude.{ℕ, List, ◌++◌, codes}
use Rattle.std.specs.Fmt.{decimal}
use Rattle.chi_trace.specs.declared.faults.TraceFault.{TraceFault}
use Rattle.chi_trace.specs.declared.faults.TraceFault.TheVariants.{NoMemory, TooLarge, Gzip, LongLine, MissingNewline, FewWords, BadWord}

abbrev pub malformed_front : TraceFault → List ℕ
malformed_front NoMemory = codes "chihome: "
malformed_front TooLarge = codes "chihome: file too large"
malformed_front Gzip = codes "chihome: is gzip: zcat FILE | chihome observe -"
malformed_front (LongLine line) = codes "chihome: line " ++ (decimal line ++ codes ": longer than 4096 bytes")
malformed_front (MissingNewline line) = codes "chihome: line " ++ (decimal line ++ codes ": missing newline")
malformed_front (FewWords line) = codes "chihome: line " ++ (decimal line ++ codes ": fewer than eleven words")
malformed_front (BadWord line column) = codes "chihome: line " ++ (decimal line ++ codes ": ")
