-- Loads and stores that wait for a CompAck where a trace ends (docs/TRACES.md, "Loads and stores").
use Rattle.std.specs.Prelude.{◌==◌, ◌&&◌, Bool, List, [], ◌∷◌, ◌++◌, if◌then◌else◌}
use Rattle.std.specs.List.{list_any}
use Rattle.chi_flit.specs.declared.message.Msg.TheVariants as messages
use Rattle.chi_flit.specs.declared.message.RspUp.TheVariants.{CompAck}
use Rattle.chi_flit.specs.declared.numbers.Agent.{Agent}
use Rattle.chi_explain.specs.declared.observed.Observed.{Observed}
use Rattle.chi_explain.specs.declared.observed.Observed.TheVariants.{Flit, Load, Store}
use Rattle.chi_resolution.specs.declared.lines.Resolved.{Resolved}

abbrev pub waiting_agent : Observed → Agent
waiting_agent (Flit sent) = sent.agent
waiting_agent (Load agent word value) = agent
waiting_agent (Store agent word value) = agent

-- the CompAck that a load or a store waits for
abbrev pub ack_for : Resolved → Resolved
ack_for item = record item { flit = Flit (record { agent = waiting_agent item.flit; message = messages.RspUp CompAck }) }

-- two wait for the same one
abbrev pub is_same_wait : Resolved → Resolved → Bool
is_same_wait one other = other.line.0 == one.line.0 && (waiting_agent other.flit).0 == (waiting_agent one.flit).0

-- the first that waits for a CompAck stands behind it
abbrev pub behind_ack : List Resolved → Resolved → List Resolved
behind_ack before item = if list_any (is_same_wait item) before then item ∷ [] else ack_for item ∷ item ∷ []

unfoldable pub closing : List Resolved → List Resolved → List Resolved
closing before [] = []
closing before (item ∷ more) = behind_ack before item ++ closing (before ++ item ∷ []) more

-- the items, and behind them those that wait, as if each CompAck that they wait for came next
abbrev pub closed : List Resolved → List Resolved → List Resolved
closed items waiting = items ++ closing [] waiting
