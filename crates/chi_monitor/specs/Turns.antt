-- Which flits of an agent may come next at a line, by how far its request has come, whether it has a snoop to answer, and
-- in which states its copy may be, whatever words are and other agents do (docs/TRACES.md, "Rules").
use Rattle.std.specs.Prelude.{◌==◌, ◌&&◌, ◌||◌, Bool, true, false, not, List, Option, Some, None, is_some, Result, Ok, Err, slice_set, if◌then◌else◌}
use Rattle.std.specs.List.{slice_index_or}
use Rattle.chi_flit.specs.Credit.{credit_number, credit_type_of}
use Rattle.chi_flit.specs.Kind.{is_copy_back, is_needed, kind_number}
use Rattle.chi_flit.specs.State.{is_unique, is_valid}
use Rattle.chi_flit.specs.declared.credit.CreditType.{CreditType}
use Rattle.chi_flit.specs.declared.credit.Profile.{Profile}
use Rattle.chi_flit.specs.declared.kind.Kind.{Kind}
use Rattle.chi_flit.specs.declared.kind.Kind.TheVariants.{ReadNotSharedDirty, ReadShared, ReadUnique, CleanUnique, Evict}
use Rattle.chi_flit.specs.declared.message.DatUp.TheVariants.{CopyBackWrData}
use Rattle.chi_flit.specs.declared.message.Msg.{Msg}
use Rattle.chi_flit.specs.declared.message.Msg.TheVariants as messages
use Rattle.chi_flit.specs.declared.message.Request.{Request}
use Rattle.chi_flit.specs.declared.message.RspDown.TheVariants.{RetryAck, CompUC, CompI, CompDBIDResp}
use Rattle.chi_flit.specs.declared.message.RspUp.TheVariants.{CompAck}
use Rattle.chi_flit.specs.declared.numbers.Agent.{Agent}
use Rattle.chi_flit.specs.declared.snoop.Snoop.{Snoop}
use Rattle.chi_flit.specs.declared.state.State.{State}
use Rattle.chi_flit.specs.declared.state.State.TheVariants.{I, UD}
use Rattle.chi_explain.specs.declared.observed.Observed.{Observed}
use Rattle.chi_explain.specs.declared.observed.Observed.TheVariants.{Flit, Load, Store}
use Rattle.chi_explain.specs.declared.observed.StoreListing.{StoreListing}
use Rattle.chi_monitor.specs.Copies.{answer_fault, given_by, given_copy, has_data, is_state, issue_state, issued_copy, known_as, may_answer, state_left, written_copy}
use Rattle.chi_monitor.specs.declared.copies.Given.{Given}
use Rattle.chi_monitor.specs.declared.copies.Given.TheVariants.{Nothing, Raised}
use Rattle.chi_monitor.specs.declared.copies.KnownCopy.{KnownCopy}
use Rattle.chi_monitor.specs.declared.faults.LineFault.{LineFault}
use Rattle.chi_monitor.specs.declared.faults.LineFault.TheVariants as faults
use Rattle.chi_monitor.specs.declared.faults.Reach.{Reach}
use Rattle.chi_monitor.specs.declared.faults.SeenAt.{SeenAt}
use Rattle.chi_monitor.specs.declared.turns.Asked.{Asked}
use Rattle.chi_monitor.specs.declared.turns.OpenSnoop.{OpenSnoop}
use Rattle.chi_monitor.specs.declared.turns.Stage.{Stage}
use Rattle.chi_monitor.specs.declared.turns.Stage.TheVariants.{First, Retried, Resent, Completed, Writing}
use Rattle.chi_monitor.specs.declared.turns.Turn.{Turn}
use Rattle.chi_monitor.specs.declared.turns.Turned.{Turned}

abbrev pub is_read : Kind → Bool
is_read ReadNotSharedDirty = true
is_read ReadShared = true
is_read ReadUnique = true
is_read other = false

-- a copy-back isn't resent from a copy in another state than it needs
abbrev pub is_left_fit : Kind → State → Bool
is_left_fit kind left = not (is_copy_back kind) || is_needed kind left

abbrev pub fitted : Option Asked → State → Option Asked
fitted None left = None
fitted (Some asked) left = Some (record asked { fits = is_left_fit asked.kind left })

abbrev pub is_first : Stage → Bool
is_first First = true
is_first other = false

abbrev pub is_retried : Stage → Bool
is_retried Retried = true
is_retried other = false

abbrev pub is_on_its_way : Stage → Bool
is_on_its_way First = true
is_on_its_way Resent = true
is_on_its_way other = false

abbrev pub is_completed : Stage → Bool
is_completed Completed = true
is_completed other = false

abbrev pub is_writing : Stage → Bool
is_writing Writing = true
is_writing other = false

abbrev pub is_stage : Stage → Stage → Bool
is_stage First stage = is_first stage
is_stage Retried stage = is_retried stage
is_stage Resent stage = is_on_its_way stage && not (is_first stage)
is_stage Completed stage = is_completed stage
is_stage Writing stage = is_writing stage

abbrev pub has_stage : Option Asked → Stage → Bool
has_stage None stage = false
has_stage (Some asked) stage = is_stage stage asked.stage

abbrev pub waiting_if : Bool → Asked → Option Asked
waiting_if true asked = Some asked
waiting_if false asked = None

abbrev pub waiting : Option Asked → Option Asked
waiting None = None
waiting (Some asked) = waiting_if (is_on_its_way asked.stage) asked

abbrev pub is_lost : Option Asked → Bool
is_lost None = false
is_lost (Some asked) = is_retried asked.stage && not asked.fits

abbrev pub plain : Turn → Turned
plain turn = record { turn = turn; cancels = false }

abbrev pub in_stage : Turn → Asked → Stage → Turned
in_stage turn asked stage = plain (record turn { asked = Some (record asked { stage = stage }) })

abbrev pub over : Turn → Turned
over turn = plain (record turn { asked = None })

-- a retried copy-back that the copy doesn't fit any more is given up
abbrev pub settled : Turn → Turned
settled turn = if is_lost turn.asked then record { turn = record turn { asked = None }; cancels = true } else plain turn

-- in which states the copy may be
abbrev pub reach_of : StoreListing → Turn → Reach
reach_of stores turn = record { base = turn.copy.base; stores = stores; pending = is_some turn.asked; since = turn.copy.since; loaded = false }

abbrev pub with_copy : Turn → KnownCopy → Turn
with_copy turn copy = record turn { copy = copy }

abbrev pub first_of : Turn → SeenAt → Request → State → Turn
first_of turn at request state = record turn {
  asked = Some (record { kind = request.kind; slot = request.slot; stage = First; since = at; fits = true });
  copy = issued_copy turn.copy request.kind state at;
}

abbrev pub issued_from : Turn → SeenAt → Request → Reach → Option State → Result Turned LineFault
issued_from turn at request reach None = Err (faults.Needs request.kind reach)
issued_from turn at request reach (Some state) = Ok (plain (first_of turn at request state))

abbrev pub issued_by : Turn → Reach → SeenAt → Request → Option Asked → Result Turned LineFault
issued_by turn reach at request (Some asked) = Err (faults.Pending asked.since)
issued_by turn reach at request None = issued_from turn at request reach (issue_state reach request.kind)

abbrev pub issued : Turn → Reach → SeenAt → Request → Result Turned LineFault
issued turn reach at request = issued_by turn reach at request turn.asked

abbrev pub is_asked_again : Asked → Request → Bool
is_asked_again asked request = is_retried asked.stage && (kind_number asked.kind == kind_number request.kind && asked.slot.0 == request.slot.0)

abbrev pub resent_by : Turn → Request → Option Asked → Result Turned LineFault
resent_by turn request None = Err (faults.NotRetried request.kind)
resent_by turn request (Some asked) = if is_asked_again asked request then Ok (in_stage turn asked Resent) else Err (faults.NotRetried request.kind)

abbrev pub resent : Turn → Request → Result Turned LineFault
resent turn request = resent_by turn request turn.asked

abbrev pub retried_as : Turn → Asked → CreditType → CreditType → Result Turned LineFault
retried_as turn asked named wanted = if credit_number named == credit_number wanted then Ok (settled (in_stage turn asked Retried).turn) else Err (faults.OtherCredit named wanted)

abbrev pub retried_by : Turn → Profile → CreditType → Option Asked → Result Turned LineFault
retried_by turn profile named None = Err faults.NothingToRetry
retried_by turn profile named (Some asked) = if is_first asked.stage then retried_as turn asked named (credit_type_of profile asked.kind) else Err faults.NothingToRetry

abbrev pub retried : Turn → Profile → CreditType → Result Turned LineFault
retried turn profile named = retried_by turn profile named turn.asked

abbrev pub is_clean_unique : Kind → Bool
is_clean_unique CleanUnique = true
is_clean_unique other = false

abbrev pub is_evict : Kind → Bool
is_evict Evict = true
is_evict other = false

-- a completion gives a copy, which its CompAck takes
abbrev pub with_given : Turn → Given → Turn
with_given turn given = record turn { given = given }

abbrev pub read_by : Turn → Given → Option Asked → Result Turned LineFault
read_by turn given None = Err faults.NoRead
read_by turn given (Some asked) = if is_read asked.kind then Ok (in_stage (with_given turn given) asked Completed) else Err faults.NoRead

abbrev pub read_completed : Turn → SeenAt → Bool → Result Turned LineFault
read_completed turn at unique = read_by turn (given_by unique at) (waiting turn.asked)

abbrev pub unique_by : Turn → Given → Option Asked → Result Turned LineFault
unique_by turn given None = Err faults.NoCleanUnique
unique_by turn given (Some asked) = if is_clean_unique asked.kind then Ok (in_stage (with_given turn given) asked Completed) else Err faults.NoCleanUnique

abbrev pub unique_completed : Turn → SeenAt → Result Turned LineFault
unique_completed turn at = unique_by turn (Raised at) (waiting turn.asked)

abbrev pub evict_by : Turn → Option Asked → Result Turned LineFault
evict_by turn None = Err faults.NoEvict
evict_by turn (Some asked) = if is_evict asked.kind then Ok (over turn) else Err faults.NoEvict

abbrev pub evict_completed : Turn → Result Turned LineFault
evict_completed turn = evict_by turn (waiting turn.asked)

abbrev pub write_by : Turn → Option Asked → Result Turned LineFault
write_by turn None = Err faults.NoCopyBack
write_by turn (Some asked) = if is_copy_back asked.kind then Ok (in_stage turn asked Writing) else Err faults.NoCopyBack

abbrev pub write_asked : Turn → Result Turned LineFault
write_asked turn = write_by turn (waiting turn.asked)

abbrev pub acknowledged : Turn → Result Turned LineFault
acknowledged turn = if has_stage turn.asked Completed then Ok (over (with_copy turn (given_copy turn.given turn.copy))) else Err faults.NoAckAwaited

-- write data has the form of the copy
abbrev pub written_as : Turn → Reach → SeenAt → State → Kind → Result Turned LineFault
written_as turn reach at form kind = if is_state form turn.copy.base then Ok (over (with_copy turn (written_copy turn.copy kind at))) else Err (faults.WriteForm form reach)

abbrev pub written_by : Turn → Reach → SeenAt → State → Option Asked → Result Turned LineFault
written_by turn reach at form None = Err faults.NoWriteDataAwaited
written_by turn reach at form (Some asked) = if is_writing asked.stage then written_as turn reach at form asked.kind else Err faults.NoWriteDataAwaited

abbrev pub written : Turn → Reach → SeenAt → State → Result Turned LineFault
written turn reach at form = written_by turn reach at form turn.asked

abbrev pub snooped : Turn → SeenAt → Snoop → Turned
snooped turn at snoop = plain (record turn { snoop = Some (record { snoop = snoop; since = at }) })

-- an answer is one that a copy in one of these states gives
abbrev pub left_behind : Turn → SeenAt → State → Turned
left_behind turn at left = settled (record turn { asked = fitted turn.asked left; snoop = None; copy = known_as left at })

abbrev pub answered_as : Turn → Reach → SeenAt → Snoop → State → Bool → Result Turned LineFault
answered_as turn reach at snoop left dirty = if may_answer reach snoop left dirty then Ok (left_behind turn at left) else Err (answer_fault reach snoop left dirty)

abbrev pub answered_by : Turn → Reach → SeenAt → Bool → Option OpenSnoop → Option State → Result Turned LineFault
answered_by turn reach at dirty (Some snoop) (Some left) = answered_as turn reach at snoop.snoop left dirty
answered_by turn reach at dirty (Some snoop) None = Err faults.NothingToAnswer
answered_by turn reach at dirty None left = Err faults.NothingToAnswer

abbrev pub answered : Turn → Reach → SeenAt → Msg → Result Turned LineFault
answered turn reach at message = answered_by turn reach at (has_data message) turn.snoop (state_left message)

-- what a flit of the agent leaves of its turn
abbrev pub turn_after : Profile → StoreListing → SeenAt → Turn → Msg → Result Turned LineFault
turn_after profile stores at turn (messages.Req request) = if request.allow_retry then issued turn (reach_of stores turn) at request else resent turn request
turn_after profile stores at turn (messages.Snp snoop) = Ok (snooped turn at snoop)
turn_after profile stores at turn (messages.RspDown (RetryAck named)) = retried turn profile named
turn_after profile stores at turn (messages.RspDown CompUC) = unique_completed turn at
turn_after profile stores at turn (messages.RspDown CompI) = evict_completed turn
turn_after profile stores at turn (messages.RspDown CompDBIDResp) = write_asked turn
turn_after profile stores at turn (messages.DatDown read) = read_completed turn at read.unique
turn_after profile stores at turn (messages.RspUp CompAck) = acknowledged turn
turn_after profile stores at turn (messages.DatUp (CopyBackWrData form words)) = written turn (reach_of stores turn) at form
turn_after profile stores at turn (messages.RspUp answer) = answered turn (reach_of stores turn) at (messages.RspUp answer)
turn_after profile stores at turn (messages.DatUp answer) = answered turn (reach_of stores turn) at (messages.DatUp answer)

-- the turns of all agents
abbrev pub no_turn : Turn
no_turn = record { asked = None; snoop = None; copy = record { base = I; since = None }; given = Nothing }

abbrev pub turn_of : List Turn → Agent → Turn
turn_of turns agent = slice_index_or turns agent.0 no_turn

abbrev pub with_turn : List Turn → Agent → Result Turned LineFault → Result (List Turn) LineFault
with_turn turns agent (Ok turned) = Ok (slice_set turns agent.0 turned.turn)
with_turn turns agent (Err fault) = Err fault

-- a load needs a copy, and a store a unique one, while no request is pending
abbrev pub loaded_by : List Turn → Reach → Result (List Turn) LineFault
loaded_by turns reach = if is_valid reach.base then Ok turns else Err (faults.NoCopy reach)

abbrev pub stored_to : Turn → Reach → SeenAt → Option Asked → Result Turned LineFault
stored_to turn reach at (Some asked) = Err (faults.Pending asked.since)
stored_to turn reach at None = if is_unique reach.base then Ok (plain (with_copy turn (known_as UD at))) else Err (faults.NoStore reach)

abbrev pub stored : Turn → Reach → SeenAt → Result Turned LineFault
stored turn reach at = stored_to turn reach at turn.asked

-- what was seen next
abbrev pub turns_after : Profile → StoreListing → SeenAt → List Turn → Observed → Result (List Turn) LineFault
turns_after profile stores at turns (Flit sent) = with_turn turns sent.agent (turn_after profile stores at (turn_of turns sent.agent) sent.message)
turns_after profile stores at turns (Load agent word value) = loaded_by turns (reach_of stores (turn_of turns agent))
turns_after profile stores at turns (Store agent word value) = with_turn turns agent (stored (turn_of turns agent) (reach_of stores (turn_of turns agent)) at)
