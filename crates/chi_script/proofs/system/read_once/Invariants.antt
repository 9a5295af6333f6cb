use Rattle.std.specs.Io.KnownBytes.{Keeps}
use Rattle.chi_script.proofs.system.read_once.Given as goal

abbrev pub invariant-reads : goal.invariant-reads
invariant-reads g l = Keeps (g.F.Read.remaining l.fn.file) (g.F.Read.remaining l.file)
