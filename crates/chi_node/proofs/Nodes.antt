-- A new node has a slice for each lock, entries of each type of its profile, and all its requesters.
use Rattle.std.proofs.Common.{◌≡◌, ℕ, ◌<◌, List, All, true, nat_lt, length, refl, sym, ◌∙◌, ap, subst, arith}
use Rattle.std.proofs.lemmas.Bool.{ltb-true}
use Rattle.std.proofs.lemmas.List.FromFn.{get_or-map-range_with_len, length-map-range_with_len}
use Rattle.chi_tracker.specs.declared.shape.Shape.{Shape}
use Rattle.chi_tracker.specs.Shape.{size}
use Rattle.chi_tracker.specs.Calls.{shape_of}
use Rattle.chi_slice.specs.Words.{are_in_limits, Sizes}
use Rattle.chi_slice.specs.Slice.{SliceState, opening_slice}
use Rattle.chi_slice.proofs.Rows.{InLimits, in_limits}
use Rattle.chi_node.specs.Parts.{HasTypes, is_of_profile, opening_requesters, opening_slices}
use Rattle.chi_node.specs.Requester.{RequesterState, opening_requester}
use Rattle.chi_node.specs.Node.{AreOwn, IsOwn, NodeState}

-- as many slices as the size says, and at least one
pub as_many : (config : Sizes) (ss : List SliceState) (m : ℕ) → m ≡ length ss → ss ≡ opening_slices config config.slices → m ≡ config.slices
as_many config ss m long is = long ∙ (ap length is ∙ length-map-range_with_len (opening_slice config) 0 config.slices)

pub some_slice : (config : Sizes) → are_in_limits config ≡ true → 0 < config.slices
some_slice config limits = let l : InLimits config = in_limits config limits in omega (arith, l.some_slice)

pub has_types : (config : Sizes) (shape : Shape) → ((t : ℕ) → t < 4 → nat_lt 0 (size shape t) ≡ is_of_profile config.profile t) → HasTypes config shape
has_types config shape types = λ t low of_profile. ltb-true 0 (size shape t) (types t low ∙ of_profile)

each_own : (n : NodeState) (count : ℕ) → All (IsOwn n) (opening_requesters n.tracker.table n.tracker.shape count)
each_own n count = λ i d low.
    let new = opening_requester n.tracker.table n.tracker.shape in
    let is = get_or-map-range_with_len new 0 count i i d (subst (λ m. i < m) (length-map-range_with_len new 0 count) low) (omega arith) in
    subst (IsOwn n) (sym is) (record { table = refl; shape = refl })

-- the requesters of a new node are all its own
pub all_own : (n : NodeState) (rs : List RequesterState) → n.tracker.shape ≡ shape_of n.config.entries n.config.agents → rs ≡ opening_requesters n.tracker.table n.tracker.shape n.config.agents → AreOwn n rs
all_own n rs shaped is = record {
  count = ap length is ∙ (length-map-range_with_len (opening_requester n.tracker.table n.tracker.shape) 0 n.config.agents ∙ sym (ap (λ (z : Shape). z.agents) shaped));
  own = subst (All (IsOwn n)) (sym is) (each_own n n.config.agents);
}
