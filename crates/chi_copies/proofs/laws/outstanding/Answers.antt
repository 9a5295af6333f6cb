use Rattle.chi_copies.proofs.Follow.{flits_counted}
use Rattle.chi_copies.proofs.Over.{over_leaves, over_begun_leaves}
use Rattle.chi_copies.proofs.laws.outstanding.Goals as goal

pub returns-clause-line : goal.returns-clause-line
returns-clause-line c = over_leaves

pub returns-clause-begun : goal.returns-clause-begun
returns-clause-begun c = over_begun_leaves

pub returns-clause-counted : goal.returns-clause-counted
returns-clause-counted c = flits_counted
