-- The agents of a storm begin with the file's scripts.
use Rattle.std.proofs.Common.{◌≡◌, ℕ, List, ◌∙◌, ap, subst, sym}
use Rattle.chi_flit.specs.declared.operation.Operation.{Operation}
use Rattle.chi_slice.specs.Words.{Sizes}
use Rattle.chi_node.specs.Requester.{RequesterState}
use Rattle.chi_node.specs.Parts.{opening_requesters}
use Rattle.chi_node.specs.Node.{NodeState}
use Rattle.chi_agent.specs.declared.ended.AgentResult.{AgentResult}
use Rattle.chi_script.specs.declared.operations.AgentOperation.{AgentOperation}
use Rattle.chi_agent.specs.Runs.{starts, AllLeave, Start}
use Rattle.chi_storm.specs.Scripts.{scripts_below}
use Rattle.chi_storm.specs.Storms.{storm_starts}

pub storm_lives : (n : NodeState) (size : Sizes) (deeds : List AgentOperation) (seed turns : ℕ) (rs : List RequesterState) (scripts : List (List Operation)) (results : List AgentResult) → n.config ≡ size
    → rs ≡ opening_requesters n.tracker.table n.tracker.shape size.agents → scripts ≡ scripts_below size.agents deeds → AllLeave (starts n.config seed turns rs scripts) results → AllLeave (storm_starts n deeds seed turns) results
storm_lives n size deeds seed turns rs scripts results same requesters own lives =
    let first : rs ≡ opening_requesters n.tracker.table n.tracker.shape n.config.agents = requesters ∙ ap (λ (z : Sizes). opening_requesters n.tracker.table n.tracker.shape z.agents) (sym same) in
    let second : scripts ≡ scripts_below n.config.agents deeds = own ∙ ap (λ (z : Sizes). scripts_below z.agents deeds) (sym same) in
    subst (λ (z : List (List Operation)). AllLeave (starts n.config seed turns (opening_requesters n.tracker.table n.tracker.shape n.config.agents) z) results) second
    (subst (λ (z : List RequesterState). AllLeave (starts n.config seed turns z scripts) results) first lives)
