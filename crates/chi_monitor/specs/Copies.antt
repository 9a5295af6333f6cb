-- In which states an agent's copy may be by now, as its own flits, loads and stores tell, and what it may send from there
-- (docs/TRACES.md, "Rules").
use Rattle.std.specs.Prelude.{◌==◌, ◌&&◌, ◌||◌, Bool, true, false, not, Option, Some, None, is_some, if◌then◌else◌}
use Rattle.chi_flit.specs.Kind.{is_needed}
use Rattle.chi_flit.specs.Message.{no_words}
use Rattle.chi_flit.specs.Snoop.{answer_of}
use Rattle.chi_flit.specs.State.{is_dirty, is_valid, state_number}
use Rattle.chi_flit.specs.declared.kind.Kind.{Kind}
use Rattle.chi_flit.specs.declared.kind.Kind.TheVariants.{Evict}
use Rattle.chi_flit.specs.declared.message.DatUp.TheVariants.{SnpRespDataIPD, SnpRespDataSCPD, SnpRespDataSD}
use Rattle.chi_flit.specs.declared.message.Msg.{Msg}
use Rattle.chi_flit.specs.declared.message.Msg.TheVariants as messages
use Rattle.chi_flit.specs.declared.message.RspUp.TheVariants.{SnpRespI, SnpRespSC}
use Rattle.chi_flit.specs.declared.snoop.Snoop.{Snoop}
use Rattle.chi_flit.specs.declared.snoop.Snoop.TheVariants.{SnpUnique, SnpCleanInvalid}
use Rattle.chi_flit.specs.declared.state.State.{State}
use Rattle.chi_flit.specs.declared.state.State.TheVariants.{I, SC, UC, UD, SD}
use Rattle.chi_rnline.specs.Rn.{is_clean_copy, state_after_write}
use Rattle.chi_explain.specs.declared.observed.StoreListing.{StoreListing}
use Rattle.chi_explain.specs.declared.observed.StoreListing.TheVariants.{Partial}
use Rattle.chi_monitor.specs.Bases.{basis_if}
use Rattle.chi_monitor.specs.declared.copies.Given.{Given}
use Rattle.chi_monitor.specs.declared.copies.Given.TheVariants.{Nothing, Shared, Unique, Raised}
use Rattle.chi_monitor.specs.declared.copies.KnownCopy.{KnownCopy}
use Rattle.chi_monitor.specs.declared.faults.Basis.{Basis}
use Rattle.chi_monitor.specs.declared.faults.LineFault.{LineFault}
use Rattle.chi_monitor.specs.declared.faults.LineFault.TheVariants as faults
use Rattle.chi_monitor.specs.declared.faults.Reach.{Reach}
use Rattle.chi_monitor.specs.declared.faults.SeenAt.{SeenAt}

abbrev pub is_state : State → State → Bool
is_state one other = state_number one == state_number other

abbrev pub may_hide : StoreListing → Bool
may_hide Partial = true
may_hide other = false

abbrev pub is_unique_clean : State → Bool
is_unique_clean UC = true
is_unique_clean other = false

-- a clean copy may have been dropped, and one in UC stored to where stores may be hidden
abbrev pub is_dropped : Reach → Bool
is_dropped reach = not reach.pending && is_clean_copy reach.base

abbrev pub is_written : Reach → Bool
is_written reach = not reach.pending && (may_hide reach.stores && is_unique_clean reach.base)

-- the state from which a request of the kind is issued
abbrev pub issue_state : Reach → Kind → Option State
issue_state reach kind =
    if is_needed kind reach.base then Some reach.base else (
    if is_dropped reach && is_needed kind I then Some I else (
    if is_written reach && is_needed kind UD then Some UD else None))

-- the state in which an answer to a snoop leaves the copy
abbrev pub state_left : Msg → Option State
state_left (messages.RspUp SnpRespI) = Some I
state_left (messages.RspUp SnpRespSC) = Some SC
state_left (messages.DatUp (SnpRespDataIPD words)) = Some I
state_left (messages.DatUp (SnpRespDataSCPD words)) = Some SC
state_left (messages.DatUp (SnpRespDataSD words)) = Some SD
state_left other = None

abbrev pub has_data : Msg → Bool
has_data (messages.DatUp written) = true
has_data other = false

-- whether a copy in the state gives such an answer to the snoop, which leaves a copy in the state told; only dirty copies
-- give data
abbrev pub gives : State → Snoop → State → Bool → Bool
gives state snoop told dirty = is_state (answer_of state snoop no_words).0 told && (if dirty then is_dirty state else not (is_dirty state))

abbrev pub may_answer : Reach → Snoop → State → Bool → Bool
may_answer reach snoop told dirty =
    gives reach.base snoop told dirty || ((is_dropped reach && gives I snoop told dirty) || (is_written reach && gives UD snoop told dirty))

-- the standard has no such answer: a copy is left where none may be, or was none, or is said to have been dirty or clean
-- and can't have been
abbrev pub leaves_none : Snoop → Bool
leaves_none SnpUnique = true
leaves_none SnpCleanInvalid = true
leaves_none other = false

abbrev pub is_made_up : Reach → State → Bool → Bool
is_made_up reach told dirty = not (is_valid reach.base) && (is_some reach.since && (is_valid told || dirty))

abbrev pub is_dirtied : Reach → Bool → Bool
is_dirtied reach dirty =
    dirty && (is_valid reach.base && (not (is_dirty reach.base) && not (may_hide reach.stores && is_unique_clean reach.base)))

abbrev pub answer_basis : Reach → Snoop → State → Bool → Basis
answer_basis reach snoop told dirty =
    basis_if ((is_valid told && leaves_none snoop) || (is_made_up reach told dirty || ((is_dirty reach.base && not dirty) || is_dirtied reach dirty)))

abbrev pub answer_fault : Reach → Snoop → State → Bool → LineFault
answer_fault reach snoop told dirty = faults.Answer reach snoop (answer_basis reach snoop told dirty)

-- the copy behind what was seen: an Evict gives it up at its issue, a completion gives one at its CompAck
abbrev pub known_as : State → SeenAt → KnownCopy
known_as state at = record { base = state; since = Some at }

abbrev pub issued_copy : KnownCopy → Kind → State → SeenAt → KnownCopy
issued_copy copy Evict state at = known_as I at
issued_copy copy kind state at = if is_state copy.base state then copy else known_as state at

abbrev pub given_by : Bool → SeenAt → Given
given_by unique at = if unique then Unique at else Shared at

abbrev pub raised : KnownCopy → State → SeenAt → KnownCopy
raised copy SC at = known_as UC at
raised copy SD at = known_as UD at
raised copy other at = copy

abbrev pub given_copy : Given → KnownCopy → KnownCopy
given_copy Nothing copy = copy
given_copy (Shared at) copy = known_as SC at
given_copy (Unique at) copy = known_as UC at
given_copy (Raised at) copy = raised copy copy.base at

abbrev pub written_copy : KnownCopy → Kind → SeenAt → KnownCopy
written_copy copy kind at = known_as (state_after_write kind copy.base) at
