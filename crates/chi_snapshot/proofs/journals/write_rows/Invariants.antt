-- The words of the lines so far are written.
use Rattle.std.proofs.Common.{◌≡◌, ◌++◌, take}
use Rattle.std.specs.List.{flat_map}
use Rattle.chi_snapshot.specs.Parts.{words_bytes}
use Rattle.chi_snapshot.proofs.journals.write_rows.Given as goal

abbrev pub invariant-loop-line : goal.invariant-loop-line
invariant-loop-line g l = l.out.items ≡ l.initial.out.items ++ flat_map words_bytes (take l.line l.journal.words)
