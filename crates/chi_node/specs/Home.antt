-- All slices of a node (docs/PROTOCOL.md, "Limits" and "The actions").
use Rattle.std.specs.Prelude.{◌≡◌, ℕ, ◌%◌, ◌<◌, ◌≤◌, List, All, true, Option, length, slice_set}
use Rattle.std.specs.List.{slice_index_or}
use Rattle.chi_flit.specs.declared.action.Action.{Action}
use Rattle.chi_flit.specs.declared.refusal.Refusal.{Refusal}
use Rattle.chi_slice.specs.Words.{are_in_limits, LineState, Sizes}
use Rattle.chi_slice.specs.Slice.{SliceState, opening_slice}
use Rattle.chi_slice.specs.Slice as slice
use Rattle.chi_node.specs.Parts.{opening_slices}

pub record HomeState : Type 0 where
  pub config : Sizes
  pub slices : List SliceState

abbrev pub opening_home : Sizes → HomeState
opening_home config = record { config = config; slices = opening_slices config config.slices }

abbrev pub slice_at : HomeState → ℕ → SliceState
slice_at h i = slice_index_or h.slices i (opening_slice h.config 0)

-- line l is in slice l mod slices
abbrev pub index_of : HomeState → ℕ → ℕ
index_of h l = l % h.config.slices

abbrev pub slice_of : HomeState → ℕ → SliceState
slice_of h l = slice_at h (index_of h l)

-- a line as the tables of its slice show it, and the values last stored to its words
abbrev pub node_line : HomeState → ℕ → LineState
node_line h l = slice.line (slice_of h l) l

abbrev pub node_last : HomeState → ℕ → List ℕ
node_last h l = slice.last_of (slice_of h l) l

-- what an action that is done leaves: its slice does it, and the others stay
abbrev pub with_slice : HomeState → ℕ → SliceState → HomeState
with_slice h l s = record h { slices = slice_set h.slices (index_of h l) s }

abbrev pub slices_after : HomeState → Action → HomeState
slices_after h action = with_slice h action.line.0 (slice.slice_after (slice_of h action.line.0) action)

-- why a line, and an agent's flits at it, can't be looked at
abbrev pub node_view_refusal : HomeState → ℕ → Option Refusal
node_view_refusal h l = slice.view_refusal (slice_of h l) l

abbrev pub node_flits_refusal : HomeState → ℕ → ℕ → Option Refusal
node_flits_refusal h n l = slice.flits_refusal (slice_of h l) n l

-- the sizes are in the limits, and there are as many slices as they say, at least one, each of a node of
-- these sizes and with its place as its index
pub record IsHome (h : HomeState) : Type 0 where
  pub limits : are_in_limits h.config ≡ true
  pub count : length h.slices ≡ h.config.slices
  pub some : 0 < h.config.slices
  pub few : h.config.slices ≤ 64
  pub sizes : All (λ s. s.config ≡ h.config) h.slices
  pub indexes : (i : ℕ) → i < h.config.slices → (slice_at h i).index ≡ i
