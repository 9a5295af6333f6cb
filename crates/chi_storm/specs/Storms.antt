-- What a storm writes (docs/FORMATS.md, "Storm files" and "The output of a storm").
use Rattle.std.specs.Prelude.{◌≡◌, ◌↔◌, ℕ, ◌+◌, List, map, Bool, IfSome, IsTrue, Option, Ok}
use Rattle.std.specs.Io.KnownBytes.{Appends, Keeps}
use Rattle.chi_audit.specs.declared.reports.Report.{Report}
use Rattle.chi_script.specs.Devices.{AppendsFront}
use Rattle.chi_script.specs.declared.faults.Fault.{Fault}
use Rattle.chi_script.specs.declared.faults.Fault.TheVariants.{NoMemory, Write}
use Rattle.chi_slice.specs.Words.{Sizes}
use Rattle.chi_node.specs.Parts.{opening_requesters}
use Rattle.chi_node.specs.Words.{shape_of}
use Rattle.chi_node.specs.Node.{AreOwn, NodeState}
use Rattle.chi_agent.specs.Ended.{report_of, requester_of}
use Rattle.chi_agent.specs.declared.ended.AgentResult.{AgentResult}
use Rattle.chi_agent.specs.Runs.{starts, AllLeave, KeepsTold, Start}
use Rattle.chi_script.specs.declared.operations.AgentOperation.{AgentOperation}
use Rattle.chi_script.specs.Storms.{storm_of}
use Rattle.chi_storm.specs.declared.outcome.Outcome.{Outcome}
use Rattle.chi_storm.specs.Outcomes.{outcome_text}
use Rattle.chi_storm.specs.Scripts.{scripts_below}
use Rattle.chi_storm.specs.Verdicts.{IsOutcome}

-- how the agents of a node begin: its requesters as they are at first, each with its lines of the file as its
-- script, with this seed, and so many turns at most
abbrev pub storm_starts : NodeState → List AgentOperation → ℕ → ℕ → List Start
storm_starts n deeds seed turns = starts n.config seed turns (opening_requesters n.tracker.table n.tracker.shape n.config.agents) (scripts_below n.config.agents deeds)

-- what came of a node of this size whose agents played these scripts: each agent's result, and the reports that
-- were kept, which are the agents' own
pub record ComesOf (config : Sizes) (deeds : List AgentOperation) (seed turns : ℕ) (o : Outcome) : Type 0 where
  pub node : NodeState
  pub results : List AgentResult
  pub kept : List (Option Report)
  pub sizes : node.config ≡ config
  pub shape : node.tracker.shape ≡ shape_of config.entries config.agents
  pub own : AreOwn node (map requester_of results)
  pub lives : AllLeave (storm_starts node deeds seed turns) results
  pub as_told : KeepsTold config.agents (map report_of results) kept
  pub outcome : IsOutcome node results kept o

-- a good file, and what came of its scripts on a node of its header's size
pub record IsStormOf (file : List ℕ) (seed turns : ℕ) (o : Outcome) : Type 0 where
  pub header : Sizes
  pub deeds : List AgentOperation
  pub good : storm_of file ≡ Ok (header, deeds)
  pub comes : ComesOf header deeds seed turns o

-- the four lines of such an outcome were written, no more; whether each agent's script finished
pub record IsWritten (file : List ℕ) (seed turns : ℕ) (all : Bool) (old new : Option (List ℕ)) : Type 0 where
  pub came : Outcome
  pub storm : IsStormOf file seed turns came
  pub finished : IsTrue all ↔ (came.finished ≡ came.agents)
  pub written : Appends old new (outcome_text came)

-- of the file that the input has, where its bytes are known: its four lines were written
abbrev pub WritesOutcome : Option (List ℕ) → ℕ → ℕ → Option (List ℕ) → Option (List ℕ) → Bool → Type 0
WritesOutcome input seed turns old new all = IfSome input (λ file. IsWritten file seed turns all old new)

-- of that file: a beginning of them was written
abbrev pub WritesStormFront : Option (List ℕ) → ℕ → ℕ → Option (List ℕ) → Option (List ℕ) → Type 0
WritesStormFront input seed turns old new = IfSome input (λ file. (o : Outcome) × IsStormOf file seed turns o × AppendsFront old new (outcome_text o))

-- why an outcome wasn't written: the output failed, and counted it, and a beginning was written; or memory ran
-- out, and nothing was
abbrev pub NotTold : Outcome → ℕ → ℕ → Option (List ℕ) → Option (List ℕ) → Fault → Type 0
NotTold o before after old new Write = (after ≡ before + 1) × AppendsFront old new (outcome_text o)
NotTold o before after old new NoMemory = Keeps old new
NotTold o before after old new _ = ⊥
