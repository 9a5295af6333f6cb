use Rattle.chi_copies.proofs.Kept.{home_kept}
use Rattle.chi_copies.proofs.Given.{home_safe, home_leads}
use Rattle.chi_copies.proofs.Safe.{home_possible, safe_taken}
use Rattle.chi_copies.proofs.Origin.{home_comes}
use Rattle.chi_copies.proofs.laws.home_flits.Goals as goal

pub returns-clause-sound : goal.returns-clause-sound
returns-clause-sound c = home_kept

pub returns-clause-safe : goal.returns-clause-safe
returns-clause-safe c = home_safe

pub returns-clause-leads : goal.returns-clause-leads
returns-clause-leads c = home_leads

pub returns-clause-possible : goal.returns-clause-possible
returns-clause-possible c = home_possible

pub returns-clause-taken : goal.returns-clause-taken
returns-clause-taken c = safe_taken

pub returns-clause-comes : goal.returns-clause-comes
returns-clause-comes c = home_comes
