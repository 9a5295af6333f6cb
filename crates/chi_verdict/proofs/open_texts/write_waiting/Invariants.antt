use Rattle.std.proofs.Common.{◌≡◌, ◌++◌, take, string_bytes}
use Rattle.std.specs.List.{flat_map}
use Rattle.chi_verdict.specs.Outstanding.{waiting_line}
use Rattle.chi_verdict.proofs.open_texts.write_waiting.Given as goal

abbrev pub invariant-loop-item : goal.invariant-loop-item
invariant-loop-item g l = string_bytes l.text ≡ string_bytes l.initial.text ++ flat_map (waiting_line l.requesters) (take l.item-index l.waiting)
