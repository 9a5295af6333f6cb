-- What the acts of a requester's port made of its view.
use Rattle.std.proofs.Common.{◌≡◌, ℕ, List, Option, None}
use Rattle.chi_flit.specs.declared.numbers.Entry.{Entry}
use Rattle.chi_tracker.specs.declared.released.Released.{Released}
use Rattle.chi_tracker.specs.Steps.{returns_credit}
use Rattle.chi_tracker.specs.Calls.{saw_all, Claims, HasReturned, HasSameCredits, LeavesHandAsItsType, Tended}
use Rattle.chi_tracker.specs.Conduct.{ClaimActs, ReleaseActs}
use Rattle.chi_tracker.proofs.Outcomes.{claim_acted, release_acted, return_acted, see_acted, tend_acted}
use Rattle.chi_tracker.proofs.Sweeps.{ended_same}
use Rattle.chi_node.specs.Arrives.{Retries}
use Rattle.chi_node.specs.Credits.{GivesBack, Sees, Tends}
use Rattle.chi_node.specs.Requester.{Acted, RequesterState, owner}

pub claim_view : (r r' : RequesterState) (t : ℕ) (result : Option Entry) → Acted (ClaimActs r.port t result) r r' → Claims t result r.port r'.port
claim_view r r' t result acted = claim_acted (owner r) (owner r') t result acted

pub release_view : (r r' : RequesterState) (e : ℕ) (to : Released) → r'.port.shape ≡ r.port.shape → Acted (ReleaseActs r.port e to) r r' → LeavesHandAsItsType r.port e to r'.port
release_view r r' e to shape acted = release_acted (owner r) (owner r') e to shape acted

pub see_view : (r r' : RequesterState) (seen : List ℕ) → Sees seen r r' → r'.port ≡ saw_all r'.port.seen r.port
see_view r r' seen done = see_acted (owner r) (owner r') r'.port.seen done.acted

pub return_view : (r r' : RequesterState) (t : ℕ) (to : Released) → GivesBack t to r r' → HasReturned t r.port to r'.port
return_view r r' t to done = return_acted (owner r) (owner r') t to done.credits.1 done.acted

pub tend_view : (r r' : RequesterState) (t : ℕ) (to : Option Released) → Tends t to r r' → Tended r.port t to r'.port
tend_view r r' t to done = tend_acted (owner r) (owner r') t to done.credits.1 done.acted

-- the claim of a first attempt that was retried
pub retry_view : (r r' : RequesterState) (t : ℕ) (did : Retries t (owner r) (owner r')) → Claims t None r.port did.mid.port
retry_view r r' t did = claim_acted (owner r) did.mid t None did.claimed

-- the credits after a return
pub return_same : (r r' : RequesterState) (t : ℕ) (to : Released) (done : HasReturned t r.port to r'.port) → HasSameCredits (returns_credit t done.0 r.port) r'.port
return_same r r' t to done = ended_same (returns_credit t done.0 r.port) t done.0 to r'.port done.3
