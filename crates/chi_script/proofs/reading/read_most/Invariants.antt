use Rattle.std.proofs.Common.{◌≡◌, ◌-◌, ◌≤◌, length}
use Rattle.std.specs.Io.KnownBytes.{Consumes}
use Rattle.chi_script.proofs.reading.read_most.Given as goal

abbrev pub invariant-pieces : goal.invariant-pieces
invariant-pieces g l = record {
  known : Consumes (g.I.Input.left l.fn.input) (g.I.Input.left l.input) l.bytes.items;
  count : g.I.Input.failures l.input ≡ g.I.Input.failures l.fn.input;
  bound : length l.bytes.items ≤ l.most;
}

abbrev pub decreases-pieces : goal.decreases-pieces
decreases-pieces g l = l.most - length l.bytes.items
