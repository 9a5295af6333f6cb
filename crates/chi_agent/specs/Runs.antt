-- What comes of all agents, each with its own script (docs/FORMATS.md, "A turn").
use Rattle.std.specs.Prelude.{◌≡◌, ℕ, ◌≤◌, List, [], ◌∷◌, Option, None}
use Rattle.std.specs.List.{AllZip}
use Rattle.std.specs.declared.alloc.Global.{Global}
use Rattle.chi_flit.specs.declared.operation.Operation.{Operation}
use Rattle.chi_slice.specs.Words.{Sizes}
use Rattle.chi_node.specs.Calls.{IsSameRequester}
use Rattle.chi_node.specs.Requester.{RequesterState}
use Rattle.chi_audit.specs.declared.reports.Report.{Report}
use Rattle.chi_audit.specs.Gathered.{report_at, AreToldKept}
use Rattle.chi_agent.specs.declared.ended.AgentResult.{AgentResult}
use Rattle.chi_agent.specs.declared.player.Player.{Player}
use Rattle.chi_agent.specs.declared.threads.Back.{Back}
use Rattle.chi_agent.specs.Lives.{opening_player, IsReportOf, Lived}

-- how an agent of a node of that size begins: the seed, its turns at most, its requester and its script
pub record Start : Type 0 where
  pub config : Sizes
  pub seed : ℕ
  pub most : ℕ
  pub requester : RequesterState
  pub script : List Operation

abbrev pub start_of : Sizes → ℕ → ℕ → RequesterState → List Operation → Start
start_of config seed most r script = record { config = config; seed = seed; most = most; requester = r; script = script }

-- what is left of it: it played its own script, by its own draws
abbrev pub LivesTo : Start → Player Global → Type 0
LivesTo a p = Lived a.config a.seed a.most a.requester.number (opening_player a.requester a.script) p

-- the result is that of an agent that began so, and its requester still that of its number and its tracker
pub record LeavesRun (a : Start) (left : AgentResult) : Type 0 where
  pub last : Player Global
  pub lived : LivesTo a last
  pub requester : left.requester ≡ last.requester
  pub told : IsReportOf last left.report
  pub not_open : left.not_open ≡ last.not_open
  pub same : IsSameRequester a.requester left.requester

-- so of each agent, in their order
abbrev pub AllLeave : List Start → List AgentResult → Type 0
AllLeave starts results = AllZip LeavesRun starts results

-- each requester begins with the script in its place
abbrev pub starts : Sizes → ℕ → ℕ → List RequesterState → List (List Operation) → List Start
starts config seed most [] ss = []
starts config seed most (r ∷ rs) [] = []
starts config seed most (r ∷ rs) (s ∷ ss) = start_of config seed most r s ∷ starts config seed most rs ss

-- what was gathered in the place of each agent below n is the report that it told, and the other places are empty
pub record KeepsTold (n : ℕ) (told : List Report) (kept : List (Option Report)) : Type 0 where
  pub as_told : AreToldKept n told kept
  pub others : (a : ℕ) → n ≤ a → report_at kept a ≡ None

-- how the agent of a thread began
abbrev pub begun : Back → Start
begun b = start_of b.config.value b.plan.seed b.plan.turns b.seat.value.requester b.seat.value.script.operations
