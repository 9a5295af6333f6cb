-- What each reason rests on: the standard, or a choice of this profile (docs/TRACES.md, "Reasons").
use Rattle.std.specs.Prelude.{◌&&◌, ◌||◌, Bool, true, false, not, Option, Some, None, if◌then◌else◌}
use Rattle.chi_flit.specs.Kind.{is_copy_back}
use Rattle.chi_flit.specs.State.{is_dirty, is_valid}
use Rattle.chi_flit.specs.declared.kind.Kind.{Kind}
use Rattle.chi_flit.specs.declared.kind.Kind.TheVariants.{Evict, ReadUnique, CleanUnique}
use Rattle.chi_flit.specs.declared.state.State.{State}
use Rattle.chi_flit.specs.declared.state.State.TheVariants.{I, SC}
use Rattle.chi_monitor.specs.declared.faults.Basis.{Basis}
use Rattle.chi_monitor.specs.declared.faults.Basis.TheVariants.{Standard, Profile}
use Rattle.chi_monitor.specs.declared.faults.LineFault.{LineFault}
use Rattle.chi_monitor.specs.declared.faults.LineFault.TheVariants as faults
use Rattle.chi_monitor.specs.declared.faults.SeenAt.{SeenAt}
use Rattle.chi_monitor.specs.declared.faults.WrongForm.{WrongForm}
use Rattle.chi_monitor.specs.declared.faults.WrongForm.TheVariants.{NotUnique, Alone, Shared}
use Rattle.chi_monitor.specs.declared.faults.WrongSnoops.{WrongSnoops}
use Rattle.chi_monitor.specs.declared.faults.WrongSnoops.TheVariants.{Unsnooped, Unanswered, OfAnother}

abbrev pub basis_if : Bool → Basis
basis_if true = Standard
basis_if false = Profile

-- a requester that never had a copy may have got it before the first flit, which this profile leaves out
abbrev pub told_basis : Option SeenAt → Basis
told_basis (Some since) = Standard
told_basis None = Profile

abbrev pub takes_all : Kind → Bool
takes_all ReadUnique = true
takes_all CleanUnique = true
takes_all other = false

-- whether a copy whose last known state is this has to be snooped for a request of the kind: it may be the only one that
-- has the value, or it may stay beside one that is to be unique
abbrev pub has_to_be_snooped : Kind → State → Bool
has_to_be_snooped kind I = false
has_to_be_snooped kind SC = takes_all kind
has_to_be_snooped kind other = true

abbrev pub snoop_basis : Kind → WrongSnoops → Basis
snoop_basis kind (Unsnooped agent reach) = basis_if (has_to_be_snooped kind reach.base)
snoop_basis kind (Unanswered agent since) = Standard
snoop_basis kind (OfAnother since) = Profile

abbrev pub form_basis : WrongForm → Basis
form_basis NotUnique = Standard
form_basis Alone = Profile
form_basis (Shared agent reach) = basis_if (is_valid reach.base)

-- a copy-back or an Evict of a copy that hasn't a state that the kind needs
abbrev pub gives_back : Kind → Bool
gives_back Evict = true
gives_back kind = is_copy_back kind

abbrev pub need_basis : Kind → Option SeenAt → Basis
need_basis kind since = if gives_back kind then told_basis since else Profile

-- write data says another state of the copy: dirty and clean aren't each other, and nothing is written of no copy
abbrev pub write_basis : State → State → Basis
write_basis form state = basis_if ((is_dirty form && not (is_dirty state)) || ((not (is_dirty form) && is_dirty state) || not (is_valid state)))

unfoldable pub basis_of : LineFault → Basis
basis_of faults.NoMemory = Profile
basis_of faults.NoAgent = Profile
basis_of (faults.Pending since) = Profile
basis_of (faults.Needs kind reach) = need_basis kind reach.since
basis_of (faults.NotRetried kind) = Standard
basis_of faults.NothingToRetry = Standard
basis_of (faults.OtherCredit named wanted) = Profile
basis_of (faults.ServedRetry since) = Profile
basis_of (faults.NobodyAsks snoop) = Profile
basis_of (faults.EarlySnoop awaited) = Standard
basis_of (faults.SnoopedTwice since) = Profile
basis_of faults.NothingToAnswer = Standard
basis_of (faults.Answer reach snoop basis) = basis
basis_of (faults.Words words) = Standard
basis_of faults.NoRead = Standard
basis_of faults.NoCleanUnique = Standard
basis_of faults.NoEvict = Standard
basis_of faults.NoCopyBack = Standard
basis_of (faults.EarlyCompletion awaited) = Profile
basis_of (faults.EarlyEvict awaited) = Profile
basis_of (faults.EarlyCopyBack awaited) = Profile
basis_of (faults.Snoops kind wrong) = snoop_basis kind wrong
basis_of (faults.Form form) = form_basis form
basis_of faults.NoAckAwaited = Standard
basis_of faults.NoWriteDataAwaited = Standard
basis_of (faults.WriteForm form reach) = write_basis form reach.base
basis_of (faults.NoCopy reach) = told_basis reach.since
basis_of (faults.Word word known basis) = basis
basis_of (faults.NoStore reach) = told_basis reach.since
