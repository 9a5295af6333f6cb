-- No line is in the table.
use Rattle.std.proofs.Common.{ap}
use Rattle.std.specs.Prelude.{replicate}
use Rattle.chi_watch.specs.Lines.{lines_by}
use Rattle.chi_watch.proofs.lines.Lines.new.Goals as goal

pub returns : goal.returns
returns g c = ap (λ es. lines_by (record { start = c.args.start; stores = c.args.stores; strays = replicate 32 0 }) es) c.new.ensures.empty
