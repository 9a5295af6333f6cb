-- The flits that a node's calls sent and took, by C's numbers (docs/LIBRARY.md, "A node"): those of their action at its
-- line (docs/PROTOCOL.md, "The actions" and "Messages").
use Rattle.std.specs.Prelude.{List, [], map, Option, Some, None, ◌==◌, if◌then◌else◌}
use Rattle.chi_flit.specs.declared.action.Action.{Action}
use Rattle.chi_flit.specs.declared.action.Step.{Step}
use Rattle.chi_flit.specs.declared.action.Step.TheVariants.{Admit, Retry}
use Rattle.chi_flit.specs.declared.numbers.Agent.{Agent}
use Rattle.chi_flit.specs.declared.numbers.Line.{Line}
use Rattle.chi_slice.specs.Words.{flit_taken, flits_sent}
use Rattle.chi_node.specs.Home.{node_line}
use Rattle.chi_node.specs.System.{SystemState, arrive_refusal, system_step_refusal}
use Rattle.chi_library.specs.declared.flits.ChiSent.{ChiSent}
use Rattle.chi_library.specs.declared.node_told.ChiArrival.{ChiArrival}
use Rattle.chi_library.specs.Calls.{told_unless}
use Rattle.chi_library.specs.Flits.{no_sent, sent_told, taken_told}

-- of an action that is done
abbrev pub node_sent_told : SystemState → Action → List ChiSent
node_sent_told y action = map sent_told (flits_sent y.home.config.profile (node_line y.home action.line.0) action.agent action.step)

abbrev pub node_taken_told : SystemState → Action → ChiSent
node_taken_told y action = taken_told (flit_taken (node_line y.home action.line.0) action.agent action.step)

-- of a step
abbrev pub node_sent_shown : Option Action → SystemState → List ChiSent
node_sent_shown None y = []
node_sent_shown (Some action) y = told_unless (system_step_refusal y action) [] (node_sent_told y action)

abbrev pub node_taken_shown : Option Action → SystemState → ChiSent
node_taken_shown None y = no_sent
node_taken_shown (Some action) y = told_unless (system_step_refusal y action) no_sent (node_taken_told y action)

-- of an arrival: an Admit, or a Retry, as it is told
abbrev pub arrived_step : ChiArrival → Step
arrived_step told = if told.arrival == 2 then Retry else Admit

abbrev pub arrived_action : Agent → Line → ChiArrival → Action
arrived_action agent l told = record { agent = agent; line = l; step = arrived_step told }

abbrev pub arrival_sent_shown : Agent → Line → ChiArrival → SystemState → List ChiSent
arrival_sent_shown agent l told y = told_unless (arrive_refusal y agent.0 l.0) [] (node_sent_told y (arrived_action agent l told))

abbrev pub arrival_taken_shown : Agent → Line → ChiArrival → SystemState → ChiSent
arrival_taken_shown agent l told y = told_unless (arrive_refusal y agent.0 l.0) no_sent (node_taken_told y (arrived_action agent l told))
