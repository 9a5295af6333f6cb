-- So far the slices are audited.
use Rattle.chi_slice.proofs.Audited.{AuditedBelow}
use Rattle.chi_slice.proofs.audits.audit_of.Given as goal

abbrev pub invariant-loop-slice : goal.invariant-loop-slice
invariant-loop-slice g l = AuditedBelow l.slices l.slice-index l.loads l.stores l.coherent
