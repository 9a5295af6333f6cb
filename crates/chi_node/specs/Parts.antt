-- The parts of a node in its opening state (docs/PROTOCOL.md, "A requester and its calls").
use Rattle.std.specs.Prelude.{◌≡◌, ℕ, ◌<◌, List, Bool, map, nat_lt, true}
use Rattle.std.specs.List.{range_with_len}
use Rattle.atomic_table.specs.Seated.{TableId}
use Rattle.chi_flit.specs.declared.credit.Profile.{Profile}
use Rattle.chi_flit.specs.declared.credit.Profile.TheVariants.{Two, Four}
use Rattle.chi_tracker.specs.declared.shape.Shape.{Shape}
use Rattle.chi_tracker.specs.Shape.{size}
use Rattle.chi_slice.specs.Words.{Sizes}
use Rattle.chi_slice.specs.Slice.{SliceState, opening_slice}
use Rattle.chi_node.specs.Requester.{RequesterState, opening_requester}
use Rattle.chi_node.specs.Agree.{Agree}

-- the first n slices
abbrev pub opening_slices : Sizes → ℕ → List SliceState
opening_slices config n = map (opening_slice config) (range_with_len 0 n)

-- the first n requesters of a tracker
abbrev pub opening_requesters : TableId → Shape → ℕ → List RequesterState
opening_requesters table shape n = map (opening_requester table shape) (range_with_len 0 n)

-- whether a profile has the credit type t
abbrev pub is_of_profile : Profile → ℕ → Bool
is_of_profile Two t = nat_lt t 2
is_of_profile Four t = nat_lt t 4

-- a tracker of this shape has entries of each type of the node's profile
abbrev pub HasTypes : Sizes → Shape → Type 0
HasTypes config shape = (t : ℕ) → t < 4 → is_of_profile config.profile t ≡ true → 0 < size shape t

-- and of no other type
abbrev pub HasOwnTypes : Sizes → Shape → Type 0
HasOwnTypes config shape = (t : ℕ) → t < 4 → nat_lt 0 (size shape t) ≡ is_of_profile config.profile t

-- each requester of a node in its opening state agrees with each of its slices
pub record AgreeAtOpening (config : Sizes) (table : TableId) (shape : Shape) : Type 0 where
  pub agree : (index number : ℕ) → index < config.slices → number < config.agents → Agree (opening_slice config index) (opening_requester table shape number)
