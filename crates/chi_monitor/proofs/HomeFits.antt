-- How a home's turn fits a line of the model: its filter is what the home's is once all answers and write data in flight
-- have come, and the snoops that were seen are those of what is served.
use Rattle.std.proofs.Common.{◌≡◌, ◌≢◌, ℕ, ◌<◌, Bool, true, false, List, length, get_or, Option, Some, None, is_some, refl}
use Rattle.chi_flit.specs.Kind.{snoop_of}
use Rattle.chi_flit.specs.Numbers.{agent_at}
use Rattle.chi_flit.specs.declared.kind.Kind.{Kind}
use Rattle.chi_flit.specs.declared.kind.Kind.TheVariants.{ReadNotSharedDirty, ReadShared, ReadUnique, CleanUnique}
use Rattle.chi_flit.specs.declared.message.DatUp.{DatUp}
use Rattle.chi_flit.specs.declared.message.DatUp.TheVariants.{CopyBackWrData}
use Rattle.chi_flit.specs.declared.message.Msg.{Msg}
use Rattle.chi_flit.specs.declared.message.RspUp.{RspUp}
use Rattle.chi_flit.specs.declared.numbers.Agent.{Agent}
use Rattle.chi_flit.specs.declared.snoop.Snoop.{Snoop}
use Rattle.chi_filter.specs.Filter.{FilterState, is_in, is_named}
use Rattle.chi_wires.specs.declared.cells.Cells.{Cells}
use Rattle.chi_homeline.specs.Home.{filter_after, leaves, written_filter}
use Rattle.chi_homeline.specs.declared.serving.Serving.{Serving}
use Rattle.chi_homeline.specs.declared.serving.Serving.TheVariants as servings
use Rattle.chi_homeline.specs.declared.serving.SnoopAnswer.{SnoopAnswer}
use Rattle.chi_line.specs.Kept.{invalidates, shares}
use Rattle.chi_line.specs.LineState.{LineState, cells_of}
use Rattle.chi_line.specs.Step.{data_answer, is_ack, is_write_data, response_answer}
use Rattle.chi_monitor.specs.HomeTurns.{filter_of, home_after}
use Rattle.chi_monitor.specs.declared.faults.SeenAt.{SeenAt}
use Rattle.chi_monitor.specs.declared.home_turns.Group.{Group}
use Rattle.chi_monitor.specs.declared.home_turns.HomeTurn.{HomeTurn}
use Rattle.chi_monitor.specs.declared.home_turns.Service.{Service}
use Rattle.chi_monitor.specs.declared.home_turns.Service.TheVariants as services
use Rattle.chi_monitor.specs.declared.turns.Turn.{Turn}

-- what is in flight of an agent's snoop, and from it
pub record Up : Type 0 where
  pub snp : Option Snoop
  pub rsp : Option RspUp
  pub dat : Option DatUp

abbrev pub up_of : Cells → Up
up_of c = record { snp = c.snp; rsp = c.rsp_up; dat = c.dat_up }

abbrev pub answer_up : Up → Option SnoopAnswer
answer_up u = response_answer u.rsp (data_answer u.dat)

-- of a line what a home's turn rests on
pub record HomeView : Type 0 where
  pub serving : Serving
  pub filter : FilterState
  pub awaited : List Bool
  pub up : ℕ → Up

abbrev pub home_view : LineState → HomeView
home_view s = record { serving = s.home.serving; filter = s.home.filter; awaited = s.home.awaited; up = λ m. up_of (cells_of s m) }

-- the filter once the answer that is in flight has come
abbrev pub with_answer : Option SnoopAnswer → FilterState → ℕ → FilterState
with_answer None g m = g
with_answer (Some answer) g m = filter_after answer g (agent_at m)

-- nothing of the snoops that are in flight was seen
pub record Unseen (f : FilterState) (shown : List Bool) (v : HomeView) : Type 0 where
  pub same : f ≡ v.filter
  pub hidden : (m : ℕ) → m < 8 → get_or shown m false ≡ false
  pub in_flight : (m : ℕ) → m < 8 → is_in v.awaited m ≡ true → is_some (v.up m).snp ≡ true

-- write data that is in flight
abbrev pub IsWriteSent : Option DatUp → Kind → ℕ → FilterState → FilterState → Type 0
IsWriteSent (Some (CopyBackWrData form words)) kind n f g = f ≡ written_filter (leaves kind form) g n
IsWriteSent other kind n f g = ⊥

abbrev pub IsQuiet : Serving → FilterState → List Bool → HomeView → Type 0
IsQuiet servings.Idle f shown v = f ≡ v.filter
IsQuiet (servings.Snooping served kind slot) f shown v = Unseen f shown v
IsQuiet (servings.AwaitingCompAck agent slot) f shown v = (f ≡ v.filter) × (is_ack (v.up agent.0).rsp ≡ true)
IsQuiet (servings.AwaitingWriteData agent kind slot) f shown v = IsWriteSent (v.up agent.0).dat kind agent.0 f v.filter

-- an agent's marks in a group: its snoop is in flight, or it has answered
abbrev pub IsMarked : Option Snoop → Bool → Bool → Bool → Bool → Type 0
IsMarked (Some snoop) snooped answered shown awaited = (answered ≡ false) × (snooped ≡ shown)
IsMarked None snooped answered shown awaited = (snooped ≡ answered) × (awaited ≡ true → answered ≡ true)

-- of a request that leaves no other copy the others that are named are those whose snoop is in flight; of a shared read the
-- one that is asked has answered, or not
abbrev pub IsNamedInFlight : ℕ → FilterState → HomeView → Type 0
IsNamedInFlight n f v = (m : ℕ) → m < 8 → m ≢ n → is_named f m ≡ is_some (v.up m).snp

abbrev pub IsAnswered : FilterState → HomeView → Type 0
IsAnswered f v = (m : ℕ) → m < 8 → is_in v.awaited m ≡ true → f ≡ with_answer (answer_up (v.up m)) v.filter m

abbrev pub IsGroupFilter : Kind → ℕ → FilterState → HomeView → Type 0
IsGroupFilter ReadUnique n f v = IsNamedInFlight n f v
IsGroupFilter CleanUnique n f v = IsNamedInFlight n f v
IsGroupFilter shared n f v = IsAnswered f v

-- the two sorts of a kind that a snoop serves
pub group_filter : (kind : Kind) (n : ℕ) (f f' : FilterState) (v v' : HomeView) → is_some (snoop_of kind) ≡ true
    → (invalidates (snoop_of kind) ≡ true → IsNamedInFlight n f v → IsNamedInFlight n f' v') → (shares (snoop_of kind) ≡ true → IsAnswered f v → IsAnswered f' v') → IsGroupFilter kind n f v → IsGroupFilter kind n f' v'
group_filter ReadNotSharedDirty n f f' v v' by named shared g = shared refl g
group_filter ReadShared n f f' v v' by named shared g = shared refl g
group_filter ReadUnique n f f' v v' by named shared g = named refl g
group_filter CleanUnique n f f' v v' by named shared g = named refl g
group_filter other n f f' v v' by named shared g = absurd (cc (by))

pub record Grouped (served : Agent) (kind : Kind) (f : FilterState) (group : Group) (shown : List Bool) (v : HomeView) : Type 0 where
  pub snoop : snoop_of kind ≡ Some group.snoop
  pub may_be : is_in group.may_be served.0 ≡ true
  pub snooped_long : length group.snooped ≡ 8
  pub answered_long : length group.answered ≡ 8
  pub marks : (m : ℕ) → m < 8 → IsMarked (v.up m).snp (is_in group.snooped m) (is_in group.answered m) (get_or shown m false) (is_in v.awaited m)
  pub filter : IsGroupFilter kind served.0 f v

abbrev pub IsGrouped : Serving → FilterState → Group → List Bool → HomeView → Type 0
IsGrouped (servings.Snooping served kind slot) f group shown v = Grouped served kind f group shown v
IsGrouped other f group shown v = ⊥

abbrev pub IsAcking : Serving → FilterState → HomeView → Type 0
IsAcking (servings.AwaitingCompAck agent slot) f v = (f ≡ v.filter) × (is_ack (v.up agent.0).rsp ≡ false)
IsAcking other f v = ⊥

abbrev pub IsWriting : Serving → FilterState → HomeView → Type 0
IsWriting (servings.AwaitingWriteData agent kind slot) f v = (f ≡ v.filter) × (is_write_data (v.up agent.0).dat ≡ false)
IsWriting other f v = ⊥

abbrev pub Does : Service → Serving → FilterState → List Bool → HomeView → Type 0
Does services.Idle serving f shown v = IsQuiet serving f shown v
Does (services.Snooping group) serving f shown v = IsGrouped serving f group shown v
Does (services.AwaitingAck agent at) serving f shown v = IsAcking serving f v
Does (services.AwaitingWriteData agent at) serving f shown v = IsWriting serving f v

pub record HomeFits (home : HomeTurn) (shown : List Bool) (v : HomeView) : Type 0 where
  pub long : length shown ≡ 8
  -- a snoop that was seen is in flight
  pub there : (m : ℕ) → m < 8 → get_or shown m false ≡ true → is_some (v.up m).snp ≡ true
  pub does : Does home.service v.serving (filter_of home.filter) shown v

-- what holds of the home's turn behind a flit, if there is one
abbrev pub HomeLeaves : List Turn → HomeTurn → Agent → Option Msg → List Bool → HomeView → Type 0
HomeLeaves turns home whose None shown v = HomeFits home shown v
HomeLeaves turns home whose (Some message) shown v = (at : SeenAt) → (home' : HomeTurn) × (home_after turns at home whose message ≡ Some home') × HomeFits home' shown v
