use Rattle.std.proofs.Common.{◌≡◌, ◌++◌, take, string_bytes}
use Rattle.std.specs.List.{flat_map}
use Rattle.chi_verdict.specs.Outstanding.{id_line}
use Rattle.chi_verdict.proofs.open_texts.write_ids.Given as goal

abbrev pub invariant-loop-id : goal.invariant-loop-id
invariant-loop-id g l = string_bytes l.text ≡ string_bytes l.initial.text ++ flat_map id_line (take l.id-index l.ids)
