use Rattle.std.proofs.Common.{arith}
use Rattle.chi_slice.proofs.Rows.{in_limits}
use Rattle.chi_explain.proofs.openings.opened.Goals as goal

pub new-requires : goal.new-requires
new-requires g c = let low = (in_limits c.args.config.now c.slices-some.ensures.limits).some_slice in omega (arith, low)
