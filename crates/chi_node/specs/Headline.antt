-- The headline of a node, of its lines and of its tracker's entries together (docs/PROMISES.md, "The headline").
use Rattle.std.specs.Prelude.{◌≡◌, ◌≢◌, ℕ, ◌<◌, List, All, map, false, Some, None}
use Rattle.chi_flit.specs.declared.message.Request.{Request}
use Rattle.chi_flit.specs.declared.numbers.Agent.{Agent}
use Rattle.chi_flit.specs.declared.numbers.Entry.{Entry}
use Rattle.chi_flit.specs.declared.numbers.Line.{Line}
use Rattle.chi_slice.specs.Words.{cells_of, standing_of, Coherent, IsLegalLog}
use Rattle.chi_tracker.specs.Views.{PortView, has}
use Rattle.chi_tracker.specs.Shape.{low}
use Rattle.chi_tracker.specs.Calls.{shape_of}
use Rattle.chi_tracker.specs.Witness.{AreAllPorts}
use Rattle.chi_node.specs.declared.answers.Arrived.{Arrived}
use Rattle.chi_node.specs.declared.answers.Arrived.TheVariants.{Admitted}
use Rattle.chi_node.specs.Home.{node_last, node_line}
use Rattle.chi_node.specs.Requester.{RequesterState}
use Rattle.chi_node.specs.System.{ArrivesIn, SystemState, arrive_refusal, requester_of}

-- the ports of requesters, as the tracker sees them
abbrev pub views_in : List RequesterState → List PortView
views_in rs = map (λ r. r.port) rs

-- an arrival of the agent at the line isn't refused, and ends with an entry
pub record IsAdmitted (y : SystemState) (agent : Agent) (l : Line) : Type 0 where
  pub allowed : arrive_refusal y agent.0 l.0 ≡ None
  pub entry : (y' : SystemState) (arrived : Arrived) → ArrivesIn y y' agent l arrived → (e : Entry) × (arrived ≡ Admitted e)

pub record Headline (y : SystemState) : Type 0 where
  -- each line has at most one unique holder and then no other, its filter names every holder, and each valid
  -- copy has the value last written
  pub lines : (l : ℕ) → l < y.home.config.lines → Coherent (node_last y.home l) (standing_of (node_line y.home l))
  -- each load had the value that was written last before it
  pub loads : All (λ s. IsLegalLog s.journal) y.home.slices
  -- there is one state of the tracker whose ports are those of all requesters, and in it each entry is free, in
  -- the hand of exactly one of them, or promised to exactly one requester, and the ledgers hold
  pub entries : AreAllPorts (shape_of y.home.config.entries y.home.config.agents) (views_in y.requesters)
  -- so no entry is in the hands of two requesters
  pub alone : (m n e : ℕ) → m ≢ n → e < low (shape_of y.home.config.entries y.home.config.agents) 4
      → has e (requester_of y m).port ≡ 1 → has e (requester_of y n).port ≡ 0
  -- a request that was resent with a credit is admitted
  pub resent : (agent : Agent) (l : Line) (request : Request) → agent.0 < y.home.config.agents → l.0 < y.home.config.lines
      → (cells_of (node_line y.home l.0) agent.0).req ≡ Some request → request.allow_retry ≡ false → IsAdmitted y agent l
