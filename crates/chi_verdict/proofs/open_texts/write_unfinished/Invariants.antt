use Rattle.std.proofs.Common.{◌≡◌, ◌++◌, take, string_bytes}
use Rattle.std.specs.List.{flat_map}
use Rattle.chi_verdict.specs.Outstanding.{data_line}
use Rattle.chi_verdict.proofs.open_texts.write_unfinished.Given as goal

abbrev pub invariant-loop-begun : goal.invariant-loop-begun
invariant-loop-begun g l = string_bytes l.text ≡ string_bytes l.initial.text ++ flat_map data_line (take l.begun-index l.unfinished)
