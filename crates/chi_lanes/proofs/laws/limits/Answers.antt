use Rattle.chi_lanes.proofs.LimitLemmas.{sixteen, whole}
use Rattle.chi_lanes.proofs.laws.limits.Goals as goal

pub returns : goal.returns
returns c = record { whole = whole; sixteen = sixteen }
