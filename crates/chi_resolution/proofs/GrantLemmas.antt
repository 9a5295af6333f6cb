-- Each grant that is taken is due by the flits before it.
use Rattle.std.proofs.Common.{◌≡◌, ℕ, ◌+◌, ◌<◌, ◌≤◌, true, List, [], ◌∷◌, ◌++◌, Option, Result, Ok, Err, length, refl, sym, subst, arith}
use Rattle.std.specs.Prelude.{IfOk}
use Rattle.std.proofs.lemmas.Bool.Decides.{nat_tests}
use Rattle.chi_trace.specs.declared.fields.NodeId.{NodeId}
use Rattle.chi_trace.specs.declared.fields.PcrdType.{PcrdType}
use Rattle.chi_trace.specs.Flits.{flit_opcode}
use Rattle.chi_trace.specs.declared.flits.Flit.{Flit}
use Rattle.chi_trace.specs.declared.flits.Flit.TheVariants as flits
use Rattle.chi_trace.specs.declared.flits.Seen.{Seen}
use Rattle.chi_resolution.specs.declared.ledger.Booking.{Booking}
use Rattle.chi_resolution.specs.declared.ledger.CreditLedger.{CreditLedger}
use Rattle.chi_resolution.specs.declared.nodes.Ends.{Ends}
use Rattle.chi_resolution.specs.declared.reasons.IdFault.{IdFault}
use Rattle.chi_resolution.specs.declared.reasons.IdReason.{IdReason}
use Rattle.chi_resolution.specs.declared.resolution.Allowed.{Allowed}
use Rattle.chi_resolution.specs.declared.resolution.Options.{Options}
use Rattle.chi_resolution.specs.Changes.{change_by, change_of, credit_change, received}
use Rattle.chi_resolution.specs.Credits.{early_of, granted, may_grant}
use Rattle.chi_resolution.specs.Grants.{AreGrantsDue, IsGrantDue, IsFlitTaken, MayBeGranted}
use Rattle.chi_resolution.specs.Ledger.{held_of}
use Rattle.chi_resolution.specs.Nodes.{agent_of, ends_of, home_in, sides_of}
use Rattle.chi_resolution.specs.Resolution.{IdOutcome, IdProgress, allowed_of, ended, nothing, resolution_of, resolved_from, taken}
use Rattle.chi_resolution.specs.Tables.{Open}
use Rattle.chi_resolution.proofs.Balance.{each, each_of, if_so}

-- what holds anyway holds of a result
anyway : {A : Type 0} (result : Result A IdReason) (P : Type 0) → P → IfOk result (λ x. P)
anyway (Ok x) P is = is
anyway (Err reason) P is = tt

may_grant_more : (account : CreditLedger) (n : ℕ) → may_grant account n ≡ true → account.granted < account.retried + n
may_grant_more account n may = grind (arith, nat_tests)

-- a flit's requester is its target, where it is a grant
abbrev IsTarget : Flit → NodeId → Type 0
IsTarget (flits.PCrdGrant pcrd target) node = target ≡ node
IsTarget other node = Unit {0}

target_is : (source : NodeId) (flit : Flit) → IsTarget flit (sides_of source flit).requester
target_is source (flits.PCrdGrant pcrd target) = refl
target_is source other = tt

requester_is : (home : Option NodeId) (requesters : List NodeId) (seen : Seen) → IfOk (ends_of home requesters (sides_of seen.source seen.flit)) (λ ends. IsTarget seen.flit ends.requester)
unfolding ends_of
requester_is home requesters seen =
    each (agent_of home requesters (sides_of seen.source seen.flit).requester) _ (λ (ends : Ends). IsTarget seen.flit ends.requester) (λ agent.
    each (home_in home requesters (sides_of seen.source seen.flit).requester (sides_of seen.source seen.flit).home) _ (λ (ends : Ends). IsTarget seen.flit ends.requester) (λ node. target_is seen.source seen.flit))

-- a grant is booked only where its credit may be granted
grant_due : (options : Options) (table : Open) (ends : Ends) (target : NodeId) (pcrd : PcrdType) → target ≡ ends.requester → IfOk (granted options table ends pcrd) (λ booking. MayBeGranted options table target pcrd)
unfolding granted
grant_due options table ends target pcrd same =
    if_so _ _ _ (λ booking. MayBeGranted options table target pcrd) (λ may.
    subst (λ (n : NodeId). MayBeGranted options table n pcrd) (sym same) (may_grant_more (held_of ends.requester pcrd table.accounts).account (early_of options table ends.requester pcrd) may))

booked_due : (booking : Result Booking IdReason) (P : Type 0) → IfOk booking (λ b. P) → IfOk (credit_change booking) (λ c. P)
booked_due (Ok booking) P is = is
booked_due (Err reason) P is = tt

by_flit : (flit : Flit) (options : Options) (table : Open) (ends : Ends) → IsTarget flit ends.requester → IfOk (change_by flit options table ends) (λ change. IsGrantDue flit options table)
by_flit (flits.PCrdGrant pcrd target) options table ends is = booked_due (granted options table ends pcrd) (MayBeGranted options table target pcrd) (grant_due options table ends target pcrd is)
by_flit other options table ends is = anyway (change_by other options table ends) (Unit {0}) tt

change_due : (options : Options) (table : Open) (ends : Ends) (flit : Flit) → IsTarget flit ends.requester → IfOk (change_of options table ends flit) (λ change. IsGrantDue flit options table)
unfolding change_of
change_due options table ends flit is =
    each_of (change_by flit options table ends) _ (λ change. IsGrantDue flit options table) (λ change. IsGrantDue flit options table) (by_flit flit options table ends is)
    (λ change due. anyway (received table ends (flit_opcode flit) change) (IsGrantDue flit options table) due)

step_due : (options : Options) (progress : IdProgress) (seen : Seen) → IfOk (allowed_of options progress seen) (λ allowed. IsGrantDue seen.flit options progress.table)
unfolding allowed_of
step_due options progress seen =
    each_of (ends_of progress.home progress.requesters (sides_of seen.source seen.flit)) _ (λ ends. IsTarget seen.flit ends.requester) (λ (allowed : Allowed). IsGrantDue seen.flit options progress.table) (requester_is progress.home progress.requesters seen) (λ ends is.
    each_of (change_of options progress.table ends seen.flit) _ (λ change. IsGrantDue seen.flit options progress.table) (λ (allowed : Allowed). IsGrantDue seen.flit options progress.table) (change_due options progress.table ends seen.flit is) (λ change due. due))

-- the next flit is taken, or is the fault
now_due : (options : Options) (at number : ℕ) (progress : IdProgress) (seen : Seen) (next : Result Allowed IdReason) (rest : Allowed → IdOutcome) → number ≡ at
    → IfOk next (λ allowed. IsGrantDue seen.flit options progress.table) → IsFlitTaken number (ended at progress next rest).fault → IsGrantDue seen.flit options progress.table
now_due options at number progress seen (Ok allowed) rest same due is = due
now_due options at number progress seen (Err reason) rest same due is = absurd (omega (arith, is, same))

-- a later one
then_due : (at number : ℕ) (progress : IdProgress) (next : Result Allowed IdReason) (rest shorter : Allowed → IdOutcome) (P : IdProgress → Type 0) → at ≤ number
    → ((allowed : Allowed) → IsFlitTaken number (rest allowed).fault → P (shorter allowed).progress) → IsFlitTaken number (ended at progress next rest).fault → P (ended at progress next shorter).progress
then_due at number progress (Ok allowed) rest shorter P low h is = h allowed is
then_due at number progress (Err reason) rest shorter P low h is = absurd (omega (arith, is, low))

from_due : (options : Options) (at number : ℕ) (progress : IdProgress) (before : List Seen) (seen : Seen) (rest : List Seen) → number ≡ at + length before
    → IsFlitTaken number (resolved_from options at progress (before ++ (seen ∷ rest))).fault → IsGrantDue seen.flit options (resolved_from options at progress before).progress.table
unfolding resolved_from
from_due options at number progress [] seen rest same is =
    now_due options at number progress seen (allowed_of options progress seen) (λ allowed. resolved_from options (at + 1) (taken at allowed progress) rest) (omega (arith, same)) (step_due options progress seen) is
from_due options at number progress (first ∷ before) seen rest same is =
    then_due at number progress (allowed_of options progress first) (λ allowed. resolved_from options (at + 1) (taken at allowed progress) (before ++ (seen ∷ rest))) (λ allowed. resolved_from options (at + 1) (taken at allowed progress) before)
    (λ behind. IsGrantDue seen.flit options behind.table) (omega (arith, same))
    (λ allowed. from_due options (at + 1) number (taken at allowed progress) before seen rest (omega (arith, same))) is

-- all grants of a trace
pub trace_due : (options : Options) (trace : List Seen) → AreGrantsDue options trace (resolution_of options trace).fault
trace_due options trace before seen rest is at =
    from_due options 0 (length before) nothing before seen rest (omega arith) (subst (λ (t : List Seen). IsFlitTaken (length before) (resolution_of options t).fault) is at)

-- the fault is known to be this
pub due_where : {R E : Type 0} (options : Options) (trace : List Seen) (result : Result R E) (of : R → Option IdFault) (fault : Option IdFault) → IfOk result (λ r. of r ≡ fault) → AreGrantsDue options trace fault
    → IfOk result (λ r. AreGrantsDue options trace (of r))
due_where options trace (Ok r) of fault same all = subst (AreGrantsDue options trace) (sym same) all
due_where options trace (Err e) of fault same all = tt
