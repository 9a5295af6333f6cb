-- The slices of a node: each line has its slice, all slices have the node's sizes and their own index, and
-- what a call does to one keeps that.
use Rattle.std.proofs.Common.{◌≡◌, ℕ, ◌<◌, true, get_or, length, sym, ◌∙◌, ap, subst, arith, mod-lt, ⊎_elim, get_or-set_other}
use Rattle.std.proofs.Math.ListN.{length-set}
use Rattle.std.proofs.lemmas.Bool.{cases_eq}
use Rattle.std.proofs.lemmas.Grind.{get_or-set_at}
use Rattle.std.proofs.lemmas.List.{get_or_read}
use Rattle.std.proofs.lemmas.List.FromFn.{get_or-map-range_with_len, length-map-range_with_len}
use Rattle.std.proofs.lemmas.List.Elements.{All-set}
use Rattle.chi_slice.specs.Words.{are_in_limits, Sizes}
use Rattle.chi_slice.specs.Slice.{SliceState, opening_slice}
use Rattle.chi_slice.proofs.Rows.{InLimits, in_limits}
use Rattle.chi_node.specs.Calls.{IsSameSlice}
use Rattle.chi_node.specs.Parts.{opening_slices}
use Rattle.chi_node.specs.Home.{HomeState, IsHome, index_of, opening_home, slice_of, with_slice}

-- the place of a line's slice
pub is_low : (h : HomeState) (l : ℕ) → IsHome h → index_of h l < length h.slices
is_low h l k = subst (λ n. index_of h l < n) (sym k.count) (mod-lt l k.some)

-- and what stands there
pub slice_read : (h : HomeState) (l place : ℕ) (s : SliceState) → IsHome h → place ≡ index_of h l → s ≡ get_or h.slices place s → s ≡ slice_of h l
slice_read h l place s k is read =
    get_or_read h.slices place s (subst (λ i. i < length h.slices) (sym is) (is_low h l k)) read (opening_slice h.config 0)
    ∙ ap (λ i. get_or h.slices i (opening_slice h.config 0)) is

pub sizes_at : (h : HomeState) (l : ℕ) → IsHome h → (slice_of h l).config ≡ h.config
sizes_at h l k = k.sizes (index_of h l) (opening_slice h.config 0) (is_low h l k)

pub index_at : (h : HomeState) (l : ℕ) → IsHome h → (slice_of h l).index ≡ index_of h l
index_at h l k = k.indexes (index_of h l) (mod-lt l k.some)

-- another slice of the same node and index in place of one
pub still_home : (h : HomeState) (l : ℕ) (s : SliceState) → IsHome h → IsSameSlice (slice_of h l) s → IsHome (with_slice h l s)
still_home h l s k same = record {
  limits = k.limits;
  count = length-set h.slices (index_of h l) s ∙ k.count;
  some = k.some;
  few = k.few;
  sizes = All-set (λ (x : SliceState). x.config ≡ h.config) h.slices (index_of h l) s (same.config ∙ sizes_at h l k) k.sizes;
  indexes = λ j low. ⊎_elim
      (λ (e : j ≡ index_of h l). ap (λ (x : SliceState). x.index) (get_or-set_at h.slices (index_of h l) j s (opening_slice h.config 0) e (is_low h l k)) ∙ (same.index ∙ (index_at h l k ∙ sym e)))
      (λ apart. ap (λ (x : SliceState). x.index) (get_or-set_other h.slices (index_of h l) j s (opening_slice h.config 0) apart) ∙ k.indexes j low)
      (cases_eq j (index_of h l));
}

-- the slices of a new node
pub opening_at : (config : Sizes) (n i : ℕ) (d : SliceState) → i < n → get_or (opening_slices config n) i d ≡ opening_slice config i
opening_at config n i d low = get_or-map-range_with_len (opening_slice config) 0 n i i d low (omega arith)

pub opening_is_home : (config : Sizes) → are_in_limits config ≡ true → IsHome (opening_home config)
opening_is_home config h =
    let l : InLimits config = in_limits config h in
    let many = length-map-range_with_len (opening_slice config) 0 config.slices in
    record {
      limits = h;
      count = many;
      some = omega (arith, l.some_slice);
      few = omega (arith, l.slices, l.lines);
      sizes = λ i d low. ap (λ (s : SliceState). s.config) (opening_at config config.slices i d (subst (λ m. i < m) many low));
      indexes = λ i low. ap (λ (s : SliceState). s.index) (opening_at config config.slices i (opening_slice config 0) low);
    }
