use Rattle.chi_audit.proofs.Readers.{read_by}
use Rattle.chi_audit.proofs.watcher.Reader.read.Goals as goal

pub returns : goal.returns
returns g c =
    let seen = c.read.ensures.seen in
    read_by _ _ _ _ c.self.view_is c.read.ensures.cell seen.longer seen.rising seen.last
