use Rattle.std.proofs.Common.{◌≡◌, ◌++◌, take, string_bytes}
use Rattle.std.specs.List.{flat_map}
use Rattle.chi_observe.specs.Outstanding.{open_id_line}
use Rattle.chi_observe.specs.Watched.{watched}
use Rattle.chi_observe.proofs.watch.Watch.write_ids.Given as goal

abbrev pub invariant-loop-id : goal.invariant-loop-id
invariant-loop-id g l =
    string_bytes l.text ≡ string_bytes l.initial.text ++ flat_map (open_id_line (watched l.self)) (take l.id-index l.ids)
