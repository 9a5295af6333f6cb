use Rattle.chi_tracker.proofs.Outcomes.{claim_made, see_made, release_made, return_made, tend_made}
use Rattle.chi_tracker.proofs.law.Law.steps.Goals as goal

pub returns-clause-claim : goal.returns-clause-claim
returns-clause-claim c = claim_made

pub returns-clause-see : goal.returns-clause-see
returns-clause-see c = see_made

pub returns-clause-release : goal.returns-clause-release
returns-clause-release c = release_made

pub returns-clause-give_back : goal.returns-clause-give_back
returns-clause-give_back c = return_made

pub returns-clause-tend : goal.returns-clause-tend
returns-clause-tend c = tend_made
