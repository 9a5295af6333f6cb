-- Which flits of the home may come next at a line, by what it does and whom it names, whatever copies and words are
-- (docs/TRACES.md, "Rules"). Its filter is what it has once all that was sent to it has come.
use Rattle.std.specs.Prelude.{◌==◌, ◌&&◌, ◌||◌, ℕ, Bool, true, false, not, List, [], ◌∷◌, Option, Some, None, slice_set, is_none, if◌then◌else◌}
use Rattle.std.specs.Bool.{beq}
use Rattle.std.specs.Result.{is_err}
use Rattle.chi_filter.specs.Filter.{FilterState, filter_without, has_any, is_in, nobody, only_set}
use Rattle.chi_flit.specs.Kind.{snoop_of}
use Rattle.chi_flit.specs.Numbers.{agent_at}
use Rattle.chi_flit.specs.Snoop.{snoop_number}
use Rattle.chi_flit.specs.declared.credit.Profile.{Profile}
use Rattle.chi_flit.specs.declared.kind.Kind.{Kind}
use Rattle.chi_flit.specs.declared.kind.Kind.TheVariants.{CleanUnique, Evict}
use Rattle.chi_flit.specs.declared.message.DatUp.TheVariants.{SnpRespDataIPD, SnpRespDataSCPD, SnpRespDataSD, CopyBackWrData}
use Rattle.chi_flit.specs.declared.message.Msg.{Msg}
use Rattle.chi_flit.specs.declared.message.Msg.TheVariants as messages
use Rattle.chi_flit.specs.declared.message.RspDown.TheVariants.{RetryAck, CompUC, CompI, CompDBIDResp}
use Rattle.chi_flit.specs.declared.message.RspUp.TheVariants.{SnpRespI, SnpRespSC, CompAck}
use Rattle.chi_flit.specs.declared.numbers.Agent.{Agent}
use Rattle.chi_flit.specs.declared.snoop.Snoop.{Snoop}
use Rattle.chi_flit.specs.declared.state.State.{State}
use Rattle.chi_homeline.specs.Home.{asks, completed_filter, completes_unique, leaves, left_owner, left_shared, written_filter}
use Rattle.chi_explain.specs.declared.observed.Observed.{Observed}
use Rattle.chi_explain.specs.declared.observed.Observed.TheVariants.{Flit}
use Rattle.chi_explain.specs.declared.observed.StoreListing.{StoreListing}
use Rattle.chi_monitor.specs.Turns.{turn_of, turns_after, waiting}
use Rattle.chi_monitor.specs.declared.faults.SeenAt.{SeenAt}
use Rattle.chi_monitor.specs.declared.filter.KnownFilter.{KnownFilter}
use Rattle.chi_monitor.specs.declared.home_turns.Group.{Group}
use Rattle.chi_monitor.specs.declared.home_turns.HomeTurn.{HomeTurn}
use Rattle.chi_monitor.specs.declared.home_turns.Service.{Service}
use Rattle.chi_monitor.specs.declared.home_turns.Service.TheVariants.{Idle, Snooping, AwaitingAck, AwaitingWriteData}
use Rattle.chi_monitor.specs.declared.turns.Asked.{Asked}
use Rattle.chi_monitor.specs.declared.turns.Turn.{Turn}

-- of the representation: a filter's parts
abbrev pub filter_of : KnownFilter → FilterState
filter_of f = record { named = f.named; unique = f.unique; owner = f.owner }

abbrev pub known_filter : FilterState → KnownFilter
known_filter f = record { named = f.named; unique = f.unique; owner = f.owner }

-- the set of those of whom something holds
abbrev pub set_of : (ℕ → Bool) → List Bool
set_of holds = holds 0 ∷ holds 1 ∷ holds 2 ∷ holds 3 ∷ holds 4 ∷ holds 5 ∷ holds 6 ∷ holds 7 ∷ []

-- those of one set that aren't in another one
abbrev pub is_beside : List Bool → List Bool → ℕ → Bool
is_beside set other n = is_in set n && not (is_in other n)

abbrev pub beside : List Bool → List Bool → List Bool
beside set other = set_of (is_beside set other)

abbrev pub everybody : List Bool
everybody = set_of (λ n. true)

-- whether a request of the kind is served by this snoop
abbrev pub is_that : Option Snoop → Snoop → Bool
is_that None snoop = false
is_that (Some own) snoop = snoop_number own == snoop_number snoop

abbrev pub is_for : Kind → Snoop → Bool
is_for kind snoop = is_that (snoop_of kind) snoop

-- whether a request of the agent waits that asks for this snoop of another one
abbrev pub asks_waiting : KnownFilter → Asked → Agent → Snoop → ℕ → Bool
asks_waiting f asked agent snoop other = is_for asked.kind snoop && is_in (asks asked.kind (filter_of f) agent.0) other

abbrev pub asks_if : KnownFilter → Option Asked → Agent → Snoop → ℕ → Bool
asks_if f None agent snoop other = false
asks_if f (Some asked) agent snoop other = asks_waiting f asked agent snoop other

abbrev pub asks_for : KnownFilter → List Turn → Agent → Snoop → ℕ → Bool
asks_for f turns agent snoop other = asks_if f (waiting (turn_of turns agent).asked) agent snoop other

abbrev pub askers : KnownFilter → List Turn → Snoop → ℕ → List Bool → List Bool
askers f turns snoop other among = set_of (λ n. is_in among n && asks_for f turns (agent_at n) snoop other)

-- a snoop is for a request that waits and asks for it, the same one as for those of its group
abbrev pub snooping_for : KnownFilter → Group → Option HomeTurn
snooping_for f group = if has_any group.may_be then Some (record { filter = f; service = Snooping group }) else None

abbrev pub first_group : KnownFilter → List Turn → SeenAt → Agent → Snoop → Group
first_group f turns at agent snoop = record { snoop = snoop; may_be = askers f turns snoop agent.0 everybody; snooped = only_set agent.0; answered = nobody; since = at }

abbrev pub larger_group : KnownFilter → List Turn → Group → Agent → Group
larger_group f turns group agent = record group { may_be = askers f turns group.snoop agent.0 group.may_be; snooped = slice_set group.snooped agent.0 true }

abbrev pub may_snoop : Group → Agent → Snoop → Bool
may_snoop group agent snoop = not (is_in group.snooped agent.0) && snoop_number group.snoop == snoop_number snoop

abbrev pub more_snooped : KnownFilter → List Turn → Group → Agent → Snoop → Option HomeTurn
more_snooped f turns group agent snoop = if may_snoop group agent snoop then snooping_for f (larger_group f turns group agent) else None

abbrev pub snooped_in : KnownFilter → List Turn → SeenAt → Agent → Snoop → Service → Option HomeTurn
snooped_in f turns at agent snoop Idle = snooping_for f (first_group f turns at agent snoop)
snooped_in f turns at agent snoop (Snooping group) = more_snooped f turns group agent snoop
snooped_in f turns at agent snoop other = None

abbrev pub snooped : HomeTurn → List Turn → SeenAt → Agent → Snoop → Option HomeTurn
snooped home turns at agent snoop = snooped_in home.filter turns at agent snoop home.service

-- the filter behind an answer to a snoop
abbrev pub answered_filter : Msg → FilterState → Agent → FilterState
answered_filter (messages.RspUp SnpRespI) f agent = filter_without f agent.0
answered_filter (messages.RspUp SnpRespSC) f agent = left_shared f agent.0
answered_filter (messages.DatUp (SnpRespDataIPD words)) f agent = filter_without f agent.0
answered_filter (messages.DatUp (SnpRespDataSCPD words)) f agent = left_shared f agent.0
answered_filter (messages.DatUp (SnpRespDataSD words)) f agent = left_owner f agent
answered_filter other f agent = f

abbrev pub answered_in : Agent → Service → Service
answered_in agent (Snooping group) = Snooping (record group { answered = slice_set group.answered agent.0 true })
answered_in agent other = other

abbrev pub answered : HomeTurn → Agent → Msg → HomeTurn
answered home agent message = record { filter = known_filter (answered_filter message (filter_of home.filter) agent); service = answered_in agent home.service }

-- a request is completed once just those whom it asks were snooped, and have answered
abbrev pub is_complete : Group → Agent → List Bool → Bool
is_complete group agent asked = is_in group.may_be agent.0 && (not (has_any (beside asked group.snooped)) && not (has_any (beside group.snooped group.answered)))

abbrev pub may_complete : KnownFilter → Agent → Kind → Service → Bool
may_complete f agent kind Idle = not (has_any (asks kind (filter_of f) agent.0))
may_complete f agent kind (Snooping group) = is_complete group agent (asks kind (filter_of f) agent.0)
may_complete f agent kind other = false

abbrev pub completes : HomeTurn → Agent → Kind → Bool
completes home agent kind = completes_unique kind (filter_of home.filter) agent.0

abbrev pub given : HomeTurn → SeenAt → Agent → Kind → HomeTurn
given home at agent kind = record { filter = known_filter (completed_filter (completes home agent kind) (filter_of home.filter) agent.0); service = AwaitingAck agent at }

abbrev pub completed : HomeTurn → SeenAt → Agent → Kind → Option HomeTurn
completed home at agent kind = if may_complete home.filter agent kind home.service then Some (given home at agent kind) else None

abbrev pub read_completed : HomeTurn → SeenAt → Agent → Kind → Bool → Option HomeTurn
read_completed home at agent kind unique = if beq unique (completes home agent kind) then completed home at agent kind else None

abbrev pub kind_of : Option Asked → Kind
kind_of None = Evict
kind_of (Some asked) = asked.kind

-- while the home serves no request it may answer an Evict, and ask for write data
abbrev pub is_idle : Service → Bool
is_idle Idle = true
is_idle other = false

abbrev pub evicted : HomeTurn → Agent → Option HomeTurn
evicted home agent = if is_idle home.service then Some (record home { filter = known_filter (filter_without (filter_of home.filter) agent.0) }) else None

abbrev pub write_asked : HomeTurn → SeenAt → Agent → Option HomeTurn
write_asked home at agent = if is_idle home.service then Some (record home { service = AwaitingWriteData agent at }) else None

abbrev pub acknowledged : HomeTurn → HomeTurn
acknowledged home = record home { service = Idle }

abbrev pub written : HomeTurn → Agent → Kind → State → HomeTurn
written home agent kind form = record { filter = known_filter (written_filter (leaves kind form) (filter_of home.filter) agent.0); service = Idle }

-- no request is sent back that the snoops of a group are for
abbrev pub retried_in : KnownFilter → Agent → Service → Option HomeTurn
retried_in f agent (Snooping group) = snooping_for f (record group { may_be = slice_set group.may_be agent.0 false })
retried_in f agent service = Some (record { filter = f; service = service })

abbrev pub retried : HomeTurn → Agent → Option HomeTurn
retried home agent = retried_in home.filter agent home.service

-- what a flit to the agent, or of it, leaves
abbrev pub home_after : List Turn → SeenAt → HomeTurn → Agent → Msg → Option HomeTurn
home_after turns at home agent (messages.Req request) = Some home
home_after turns at home agent (messages.Snp snoop) = snooped home turns at agent snoop
home_after turns at home agent (messages.RspDown (RetryAck named)) = retried home agent
home_after turns at home agent (messages.RspDown CompUC) = completed home at agent CleanUnique
home_after turns at home agent (messages.RspDown CompI) = evicted home agent
home_after turns at home agent (messages.RspDown CompDBIDResp) = write_asked home at agent
home_after turns at home agent (messages.DatDown read) = read_completed home at agent (kind_of (turn_of turns agent).asked) read.unique
home_after turns at home agent (messages.RspUp CompAck) = Some (acknowledged home)
home_after turns at home agent (messages.DatUp (CopyBackWrData form words)) = Some (written home agent (kind_of (turn_of turns agent).asked) form)
home_after turns at home agent (messages.RspUp answer) = Some (answered home agent (messages.RspUp answer))
home_after turns at home agent (messages.DatUp answer) = Some (answered home agent (messages.DatUp answer))

abbrev pub home_behind : List Turn → SeenAt → HomeTurn → Observed → Option HomeTurn
home_behind turns at home (Flit sent) = home_after turns at home sent.agent sent.message
home_behind turns at home other = Some home

-- what was seen isn't in the turn of its agent, or the home's
abbrev pub is_out_of_turn : Profile → StoreListing → SeenAt → List Turn → HomeTurn → Observed → Bool
is_out_of_turn profile stores at turns home seen = is_err (turns_after profile stores at turns seen) || is_none (home_behind turns at home seen)

abbrev pub no_home : HomeTurn
no_home = record { filter = record { named = nobody; unique = false; owner = None }; service = Idle }
