-- The nodes of a trace: its requesters, in the order of their first flits, and its homes (docs/WATCH.md, "Nodes").
use Rattle.std.specs.Prelude.{ℕ, ◌==◌, Bool, true, false, List, [], ◌∷◌, ◌++◌, Option, Some, None, if◌then◌else◌, is_none, length, nat_eq, nat_lt}
use Rattle.std.specs.Map.{lookup}
use Rattle.chi_flit.specs.declared.numbers.Agent.{Agent}
use Rattle.chi_issue_b.specs.declared.ids.NodeId.{NodeId}
use Rattle.chi_watch.specs.declared.nodes.Nodes.{Nodes as NodesCode}
use Rattle.chi_watch.specs.declared.nodes.Side.{Side}
use Rattle.chi_watch.specs.declared.nodes.Side.TheVariants.{Requester, Home}

-- what each node is, by its number, and the requesters by their agents
pub record Nodes : Type 0 where
  pub side : ℕ → Option Side
  pub requesters : List NodeId

abbrev pub sides_in : List (ℕ × Side) → ℕ → Option Side
sides_in entries node = lookup (nat_eq node) entries

abbrev pub nodes : {A : Type 0} → NodesCode A → Nodes
nodes code = record { side = sides_in code.sides.entries; requesters = code.requesters.items }

abbrev pub no_nodes : Nodes
no_nodes = record { side = λ node. None; requesters = [] }

-- a line follows 32 agents
abbrev pub numbered : ℕ → Option Agent
numbered number = if nat_lt number 32 then Some (record { 0 = number }) else None

-- the agent that a node is as a requester: a new one has the next number; and whether it may be a home
abbrev pub agent_by : Option Side → ℕ → Option Agent
agent_by None count = numbered count
agent_by (Some (Requester agent)) count = Some agent
agent_by (Some Home) count = None

abbrev pub is_home_by : Option Side → Bool
is_home_by None = true
is_home_by (Some (Requester agent)) = false
is_home_by (Some Home) = true

-- THE AGENT of a requester's flit: no node is both requester and home
abbrev pub agent_of : Nodes → NodeId → NodeId → Option Agent
agent_of s requester home =
    if requester.0 == home.0 then None
    else (if is_home_by (s.side home.0) then agent_by (s.side requester.0) (length s.requesters) else None)

-- of both sides, where both are known already
abbrev pub settled_by : Option Side → Option Side → Option Agent
settled_by (Some (Requester agent)) (Some Home) = Some agent
settled_by requester home = None

-- both are known behind a flit of an agent
abbrev pub put_side : ℕ → Side → (ℕ → Option Side) → ℕ → Option Side
put_side node side sides n = if node == n then Some side else sides n

abbrev pub with_side : NodeId → Side → Nodes → Nodes
with_side node side s = record s { side = put_side node.0 side s.side }

abbrev pub with_requester : NodeId → Agent → Nodes → Nodes
with_requester node agent s = record {
  side = put_side node.0 (Requester agent) s.side;
  requesters = if is_none (s.side node.0) then s.requesters ++ node ∷ [] else s.requesters;
}

abbrev pub known_by : Option Agent → NodeId → NodeId → Nodes → Nodes
known_by None requester home s = s
known_by (Some agent) requester home s = with_side home Home (with_requester requester agent s)

abbrev pub known : NodeId → NodeId → Nodes → Nodes
known requester home s = known_by (agent_of s requester home) requester home s
