-- Each of the three is tested.
use Rattle.chi_line.proofs.Keeping.{none_high}
use Rattle.chi_line.proofs.position.are_low.Goals as goal

pub returns : goal.returns
returns c = none_high c.args.pending c.args.waiting c.args.served _ _ _ c.is_low.ensures c.is_low-2.ensures c.is_low-3.ensures
