-- A node whose slices are behind locks, and the requesters that are its own (docs/PROTOCOL.md, "A requester and
-- its calls").
use Rattle.std.specs.Prelude.{◌≡◌, ◌⊎◌, ℕ, ◌%◌, List, All, false, true, nat_lt, Option, Some, length, map}
use Rattle.chi_flit.specs.declared.refusal.Refusal.{Refusal}
use Rattle.chi_flit.specs.declared.refusal.Refusal.TheVariants.{NotOpen, OutOfRange}
use Rattle.chi_tracker.specs.Calls.{TrackerState, Owner}
use Rattle.chi_slice.specs.Words.{Sizes}
use Rattle.chi_slice.specs.Slice.{SliceState}
use Rattle.chi_node.specs.Requester.{RequesterState, owner}

-- the size of a node, and its tracker; what its slices hold is behind the locks
pub record NodeState : Type 0 where
  pub config : Sizes
  pub tracker : TrackerState

-- the slice of line l in a node of these sizes
pub record IsSliceOf (sizes : Sizes) (l : ℕ) (s : SliceState) : Type 0 where
  pub config : s.config ≡ sizes
  pub index : s.index ≡ l % sizes.slices

-- Another slice was found than the line's. No call puts one behind a lock, but no clause tells what a lock
-- holds.
pub record FoundAnother (sizes : Sizes) (l : ℕ) : Type 0 where
  pub slice : SliceState
  pub other : IsSliceOf sizes l slice → ⊥

-- why the slice of a line isn't lent: 10 outside the node, 11 where another slice was found
abbrev pub IsLockRefusal : NodeState → ℕ → Option Refusal → Type 0
IsLockRefusal n l (Some OutOfRange) = nat_lt l n.config.lines ≡ false
IsLockRefusal n l (Some NotOpen) = (nat_lt l n.config.lines ≡ true) × FoundAnother n.config l
IsLockRefusal n l other = ⊥

-- What a call under a lock did. Which state the slice had is known while the lock is held, and to no clause after it:
-- so there was some state of the line's slice in which this was done.
pub record OnSlice (sizes : Sizes) (l : ℕ) (Done : SliceState → SliceState → Type 0) : Type 0 where
  pub before : SliceState
  pub after : SliceState
  pub own : IsSliceOf sizes l before
  pub done : Done before after

-- a call under the lock of a line's slice: the lock was refused and the requester stays, or this was done
abbrev pub UnderLock : NodeState → ℕ → RequesterState → RequesterState → Option Refusal → (SliceState → SliceState → Type 0) → Type 0
UnderLock n l r r' answer Done = (IsLockRefusal n l answer × (r' ≡ r)) ⊎ OnSlice n.config l Done

-- a requester whose port is one of the node's tracker
pub record IsOwn (n : NodeState) (r : RequesterState) : Type 0 where
  pub table : r.table ≡ n.tracker.table
  pub shape : r.port.shape ≡ n.tracker.shape

-- all requesters of a node: as many as it has agents, each of them its own
pub record AreOwn (n : NodeState) (rs : List RequesterState) : Type 0 where
  pub count : length rs ≡ n.tracker.shape.agents
  pub own : All (IsOwn n) rs

-- the ports of requesters
abbrev pub owners_of : List RequesterState → List Owner
owners_of rs = map owner rs
