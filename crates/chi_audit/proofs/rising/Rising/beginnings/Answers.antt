use Rattle.chi_audit.proofs.Stored.{begins_all}
use Rattle.chi_audit.proofs.rising.Rising.beginnings.Goals as goal

pub returns : goal.returns
returns c words views kept = begins_all words views kept
