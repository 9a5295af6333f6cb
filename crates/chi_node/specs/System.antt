-- A node on one thread: its slices and its requesters (docs/PROTOCOL.md, "A requester and its calls" and
-- "Agreement").
use Rattle.std.specs.Prelude.{◌≡◌, ℕ, ◌<◌, List, All, Option, length, slice_set}
use Rattle.std.specs.List.{slice_index_or}
use Rattle.atomic_table.specs.Seated.{TableId}
use Rattle.chi_flit.specs.declared.action.Action.{Action}
use Rattle.chi_flit.specs.declared.credit.CreditType.{CreditType}
use Rattle.chi_flit.specs.declared.numbers.Agent.{Agent}
use Rattle.chi_flit.specs.declared.numbers.Line.{Line}
use Rattle.chi_flit.specs.declared.refusal.Refusal.{Refusal}
use Rattle.chi_tracker.specs.declared.totals.Counts.{Counts}
use Rattle.chi_tracker.specs.Calls.{TrackerState, shape_of}
use Rattle.chi_tracker.specs.Totals.{IsGlance}
use Rattle.chi_flit.specs.declared.action.Effect.TheVariants.{Nothing}
use Rattle.chi_slice.specs.Protocol.{SliceStep}
use Rattle.chi_slice.specs.Words.{cells_of, effect_of, Sizes}
use Rattle.chi_node.specs.declared.answers.Arrived.{Arrived}
use Rattle.chi_node.specs.declared.answers.Stepped.{Stepped}
use Rattle.chi_node.specs.Agree.{AllAgree}
use Rattle.chi_node.specs.Calls.{arrival_action, place_at, ArrivesAt}
use Rattle.chi_node.specs.AfterStep.{Finishes}
use Rattle.chi_node.specs.Parts.{opening_requesters}
use Rattle.chi_node.specs.Requester.{RequesterState, no_requester, IsRunning}
use Rattle.chi_node.specs.Outstanding.{Outstanding, arrival_refusal, give_back_refusal, outstanding_of, step_refusal, tend_refusal, typed_refusal}
use Rattle.chi_node.specs.Home.{HomeState, IsHome, slices_after, node_line, opening_home, slice_of}

-- the slices of a node, and its requesters in rising order
pub record SystemState : Type 0 where
  pub home : HomeState
  pub requesters : List RequesterState

abbrev pub requester_of : SystemState → ℕ → RequesterState
requester_of y n = slice_index_or y.requesters n no_requester

-- a new node, whose tracker's words are these
abbrev pub opening_system : Sizes → TableId → SystemState
opening_system config table = record { home = opening_home config; requesters = opening_requesters table (shape_of config.entries config.agents) config.agents }

-- why an agent's calls are refused: by what is outstanding at its requester
abbrev pub outstanding_at : SystemState → ℕ → Outstanding
outstanding_at y n = outstanding_of (requester_of y n)

abbrev pub arrive_refusal : SystemState → ℕ → ℕ → Option Refusal
arrive_refusal y n l = arrival_refusal (slice_of y.home l) n l

abbrev pub system_step_refusal : SystemState → Action → Option Refusal
system_step_refusal y action = step_refusal (slice_of y.home action.line.0) (outstanding_at y action.agent.0) action

abbrev pub give_back_refusal_in : SystemState → ℕ → Option CreditType → Option Refusal
give_back_refusal_in y n ty = typed_refusal y.home n (give_back_refusal (outstanding_at y n)) ty

abbrev pub tend_refusal_in : SystemState → ℕ → Option CreditType → Option Refusal
tend_refusal_in y n ty = typed_refusal y.home n (tend_refusal (outstanding_at y n)) ty

-- all requesters but the agent's are as they were
abbrev pub OthersStay : SystemState → SystemState → Agent → Type 0
OthersStay y y' agent = y'.requesters ≡ slice_set y.requesters agent.0 (requester_of y' agent.0)

-- an arrival was done: by the slice of its line, by its row of the protocol, and by the agent's requester
pub record ArrivesIn (y y' : SystemState) (agent : Agent) (l : Line) (arrived : Arrived) : Type 0 where
  pub protocol : SliceStep (slice_of y.home l.0) (arrival_action agent.0 l arrived) Nothing (slice_of y'.home l.0)
  pub home : y'.home ≡ slices_after y.home (arrival_action agent.0 l arrived)
  pub requester : ArrivesAt (cells_of (node_line y.home l.0) agent.0).req arrived (requester_of y agent.0) (requester_of y' agent.0)
  pub others : OthersStay y y' agent

-- a step was done: by the slice of its line, by its row of the protocol, and by the agent's requester
pub record StepsIn (y y' : SystemState) (action : Action) (stepped : Stepped) : Type 0 where
  pub protocol : SliceStep (slice_of y.home action.line.0) action stepped.effect (slice_of y'.home action.line.0)
  pub home : y'.home ≡ slices_after y.home action
  pub effect : stepped.effect ≡ effect_of (node_line y.home action.line.0) action
  pub requester : Finishes (place_at (slice_of y.home action.line.0) action) action.step stepped.effect stepped.released
      (requester_of y action.agent.0) (requester_of y' action.agent.0)
  pub others : OthersStay y y' action.agent

-- an agent's requester did a call of its own: the slices and the other requesters stay
pub record DoesAlone (y y' : SystemState) (agent : Agent) (Did : RequesterState → RequesterState → Type 0) : Type 0 where
  pub home : y'.home ≡ y.home
  pub requester : Did (requester_of y agent.0) (requester_of y' agent.0)
  pub others : OthersStay y y' agent

-- what a node keeps: there are as many requesters as agents, each with its place as its number and with a
-- port to a tracker of the node's entries, each agrees with each slice, and a legal history of the tracker
-- leaves each port as it is
pub record IsSystem (y : SystemState) : Type 0 where
  pub home : IsHome y.home
  pub count : length y.requesters ≡ y.home.config.agents
  pub numbers : (n : ℕ) → n < y.home.config.agents → (requester_of y n).number ≡ n
  pub shapes : All (λ r. r.port.shape ≡ shape_of y.home.config.entries y.home.config.agents) y.requesters
  pub agree : AllAgree y.home.slices y.requesters
  pub running : All IsRunning y.requesters

-- and all ports are those of one tracker, which has the node's entries and agents
pub record IsSystemOf (tracker : TrackerState) (y : SystemState) : Type 0 where
  pub system : IsSystem y
  pub tables : All (λ r. r.table ≡ tracker.table) y.requesters
  pub shape : tracker.shape ≡ shape_of y.home.config.entries y.home.config.agents

-- a glance at the node's tracker shows these counts: those of some words of a tracker of its entries and agents
abbrev pub Glances : SystemState → Counts → Type 0
Glances y counts = IsGlance (shape_of y.home.config.entries y.home.config.agents) counts
