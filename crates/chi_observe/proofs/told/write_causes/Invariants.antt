use Rattle.std.proofs.Common.{◌≡◌, ◌++◌, take, string_bytes}
use Rattle.std.specs.List.{flat_map}
use Rattle.chi_observe.specs.Told.{cause_line}
use Rattle.chi_observe.proofs.told.write_causes.Given as goal

abbrev pub invariant-loop-row : goal.invariant-loop-row
invariant-loop-row g l =
    string_bytes l.text ≡ string_bytes l.initial.text ++ flat_map cause_line (take l.row-index l.rows)
