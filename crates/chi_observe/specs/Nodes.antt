-- The nodes of a trace: its requesters, in the order of their first flits, and its homes (docs/OBSERVER.md, "A trace of
-- many lines").
use Rattle.std.specs.Prelude.{ℕ, ◌==◌, ◌&&◌, not, nat_lt, Bool, List, [], ◌∷◌, ◌++◌, Option, Some, None, if◌then◌else◌, is_none, is_some, length}
use Rattle.std.specs.List.{position}
use Rattle.std.specs.Option.{unwrap_or}
use Rattle.chi_flit.specs.declared.numbers.Agent.{Agent}
use Rattle.chi_trace.specs.declared.fields.NodeId.{NodeId}
use Rattle.chi_ids.specs.declared.keys.Sides.{Sides}

abbrev pub is_node : NodeId → NodeId → Bool
is_node node other = other.0 == node.0

-- the requester is no home, and the home no requester
abbrev pub is_one_sided : List NodeId → List NodeId → Sides → Bool
is_one_sided requesters homes sides = not (is_node sides.requester sides.home) && (not (is_some (position (is_node sides.requester) homes)) && not (is_some (position (is_node sides.home) requesters)))

-- an observer has 32 agents
abbrev pub numbered : ℕ → Option Agent
numbered number = if nat_lt number 32 then Some (record { 0 = number }) else None

-- a requester's number is its place; a new one has the next
abbrev pub agent_of : List NodeId → List NodeId → Sides → Option Agent
agent_of requesters homes sides = if is_one_sided requesters homes sides then numbered (unwrap_or (position (is_node sides.requester) requesters) (length requesters)) else None

-- the nodes that are known behind a flit of an agent
abbrev pub with_requester : Option Agent → NodeId → List NodeId → List NodeId
with_requester None node requesters = requesters
with_requester (Some agent) node requesters = if agent.0 == length requesters then requesters ++ node ∷ [] else requesters

abbrev pub adds_home : Option Agent → NodeId → List NodeId → Bool
adds_home agent node homes = is_some agent && is_none (position (is_node node) homes)

abbrev pub with_home : Option Agent → NodeId → List NodeId → List NodeId
with_home agent node homes = if adds_home agent node homes then homes ++ node ∷ [] else homes
