-- The nodes of a trace: its home, and its requesters in the order of their first flits (docs/TRACES.md,
-- "Nodes, ids and credits").
use Rattle.std.specs.Prelude.{ℕ, ◌==◌, ◌||◌, nat_lt, Bool, false, List, [], ◌∷◌, ◌++◌, Option, Some, None, Result, Ok, Err, if◌then◌else◌, length, is_some}
use Rattle.std.specs.List.{position}
use Rattle.std.specs.Option.{unwrap_or}
use Rattle.chi_flit.specs.declared.numbers.Agent.{Agent}
use Rattle.chi_trace.specs.declared.fields.NodeId.{NodeId}
use Rattle.chi_trace.specs.declared.flits.Flit.{Flit}
use Rattle.chi_trace.specs.declared.flits.Flit.TheVariants as flits
use Rattle.chi_resolution.specs.declared.nodes.Ends.{Ends}
use Rattle.chi_resolution.specs.declared.nodes.Sides.{Sides}
use Rattle.chi_resolution.specs.declared.reasons.IdReason.{IdReason}
use Rattle.chi_resolution.specs.declared.reasons.IdReason.TheVariants.{NinthRequester, BothSides, SecondHome}
use Rattle.chi_resolution.specs.Reasons.{◌>>=◌}

-- the requester and the home of a flit that goes up from a requester, or down to one
abbrev pub up : NodeId → NodeId → Sides
up source target = record { requester = source; home = Some target }

abbrev pub down : NodeId → NodeId → Sides
down source target = record { requester = target; home = Some source }

-- those of each flit; the target of a snoop is the requester that is snooped
abbrev pub sides_of : NodeId → Flit → Sides
sides_of source (flits.Request kind spends target txn address) = up source target
sides_of source (flits.PCrdReturn pcrd target) = up source target
sides_of source (flits.Snoop snoop target txn address) = down source target
sides_of source (flits.RetryAck pcrd transaction) = down source transaction.target
sides_of source (flits.CompUC dbid transaction) = down source transaction.target
sides_of source (flits.Comp resp transaction) = down source transaction.target
sides_of source (flits.CompDBIDResp dbid transaction) = down source transaction.target
sides_of source (flits.PCrdGrant pcrd target) = down source target
sides_of source (flits.SnpResp resp transaction) = up source transaction.target
sides_of source (flits.CompAck transaction) = up source transaction.target
sides_of source (flits.CompData resp dbid transaction beat) = down source transaction.target
sides_of source (flits.SnpRespData resp transaction beat) = up source transaction.target
sides_of source (flits.CopyBackWrData resp transaction beat) = up source transaction.target
sides_of source (flits.Load address value) = record { requester = source; home = None }
sides_of source (flits.Store address value) = record { requester = source; home = None }

abbrev pub is_node : NodeId → NodeId → Bool
is_node node other = other.0 == node.0

abbrev pub is_home : Option NodeId → NodeId → Bool
is_home None node = false
is_home (Some home) node = is_node node home

-- at most eight
abbrev pub numbered_requester : ℕ → NodeId → Result Agent IdReason
numbered_requester number node = if nat_lt number 8 then Ok (record { 0 = number }) else Err (NinthRequester node)

-- a requester's number is its place; a new one has the next
abbrev pub agent_of : Option NodeId → List NodeId → NodeId → Result Agent IdReason
agent_of home requesters node = if is_home home node then Err (BothSides node) else numbered_requester (unwrap_or (position (is_node node) requesters) (length requesters)) node

-- one home
abbrev pub same_home : Option NodeId → NodeId → Result (Option NodeId) IdReason
same_home None node = Ok (Some node)
same_home (Some home) node = if home.0 == node.0 then Ok (Some node) else Err (SecondHome home)

abbrev pub home_of : Option NodeId → List NodeId → NodeId → NodeId → Result (Option NodeId) IdReason
home_of home requesters requester node = if is_node node requester || is_some (position (is_node node) requesters) then Err (BothSides node) else same_home home node

abbrev pub home_in : Option NodeId → List NodeId → NodeId → Option NodeId → Result (Option NodeId) IdReason
home_in home requesters requester None = Ok None
home_in home requesters requester (Some node) = home_of home requesters requester node

-- the nodes of a flit, as those before it allow
unfoldable pub ends_of : Option NodeId → List NodeId → Sides → Result Ends IdReason
ends_of home requesters sides = do
  agent ← agent_of home requesters sides.requester
  node ← home_in home requesters sides.requester sides.home
  Ok (record { requester = sides.requester; agent = agent; home = node })

-- the nodes that are known from then on
abbrev pub with_requester : Ends → List NodeId → List NodeId
with_requester ends requesters = if ends.agent.0 == length requesters then requesters ++ ends.requester ∷ [] else requesters

abbrev pub home_or : Option NodeId → Option NodeId → Option NodeId
home_or None home = home
home_or (Some node) home = Some node

abbrev pub with_home : Ends → Option NodeId → Option NodeId
with_home ends home = home_or ends.home home
