use Rattle.std.proofs.Common.{rules}
use Rattle.chi_audit.proofs.Firsts.{first}
use Rattle.chi_audit.proofs.gathered.keep.Goals as goal

pub returns-then-is_none : goal.returns-then-is_none
returns-then-is_none c got kept = first c.args.n got c.args.places.now c.args.report c.from-place.result (search rules) (search rules) (search rules) (search rules) (search rules) kept
