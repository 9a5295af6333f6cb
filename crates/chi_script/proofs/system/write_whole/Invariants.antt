use Rattle.std.proofs.Common.{◌≤◌, length, take}
use Rattle.std.specs.Io.KnownBytes.{Appends}
use Rattle.chi_script.proofs.system.write_whole.Given as goal

abbrev pub invariant-writes : goal.invariant-writes
invariant-writes g l = record {
  known : Appends (g.W.Write.contents l.fn.stream) (g.W.Write.contents l.stream) (take l.done l.bytes);
  bound : l.done ≤ length l.bytes;
}
