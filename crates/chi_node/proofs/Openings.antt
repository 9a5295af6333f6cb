-- A new node: its sizes fit the tracker, and its ports are those of its requesters.
use Rattle.std.proofs.Common.{◌≡◌, ℕ, zero, suc, ◌+◌, ◌-◌, ◌<◌, ◌≤◌, List, [], ◌∷◌, nat_le, nat_lt, true, length, refl, ap, ◌∙◌, arith}
use Rattle.std.proofs.lemmas.Bool.Decides.{nat_tests}
use Rattle.std.specs.List.{remove, slice_index_or}
use Rattle.atomic_table.specs.Seated.{TableId}
use Rattle.chi_flit.specs.declared.credit.Profile.{Profile}
use Rattle.chi_flit.specs.declared.credit.Profile.TheVariants.{Two, Four}
use Rattle.chi_tracker.specs.declared.shape.Shape.{Shape}
use Rattle.chi_tracker.specs.Shape.{low, size, IsShape}
use Rattle.chi_tracker.specs.Views.{new_port, new_ports}
use Rattle.chi_tracker.specs.Calls.{Owner, owners, shape_of}
use Rattle.chi_slice.specs.Words.{are_entries, are_in_limits, is_between, is_slice_count, Sizes}
use Rattle.chi_node.specs.Parts.{is_of_profile}
use Rattle.chi_slice.proofs.Rows.{InLimits, both, in_limits}

-- what the limits say of the entries
limits_of : (config : Sizes) → are_in_limits config ≡ true → are_entries config.profile config.entries ≡ true
limits_of config h =
    (both (nat_le config.journal 65536) (are_entries config.profile config.entries) (both (nat_le config.slices config.lines) _ (both (is_slice_count config.slices) _ (both (is_between 1 64 config.lines) _ (both (is_between 1 8 config.agents) _ h).1).1).1).1).1

few : (profile : Profile) (entries : List ℕ) (agents : ℕ) → are_entries profile entries ≡ true → low (shape_of entries agents) 4 ≤ 256
few Two (t0 ∷ t1 ∷ t2 ∷ t3 ∷ []) agents h = grind (arith, nat_tests, h)
few Four (t0 ∷ t1 ∷ t2 ∷ t3 ∷ []) agents h = grind (arith, nat_tests, h)
few profile other agents h = absurd (cc (h))

types : (profile : Profile) (entries : List ℕ) (agents t : ℕ) → are_entries profile entries ≡ true → t < 4 → nat_lt 0 (size (shape_of entries agents) t) ≡ is_of_profile profile t
types Two (t0 ∷ t1 ∷ t2 ∷ t3 ∷ []) agents zero h l = grind (arith, nat_tests, h)
types Two (t0 ∷ t1 ∷ t2 ∷ t3 ∷ []) agents (suc zero) h l = grind (arith, nat_tests, h)
types Two (t0 ∷ t1 ∷ t2 ∷ t3 ∷ []) agents (suc (suc zero)) h l = grind (arith, nat_tests, h)
types Two (t0 ∷ t1 ∷ t2 ∷ t3 ∷ []) agents (suc (suc (suc zero))) h l = grind (arith, nat_tests, h)
types Four (t0 ∷ t1 ∷ t2 ∷ t3 ∷ []) agents zero h l = grind (arith, nat_tests, h)
types Four (t0 ∷ t1 ∷ t2 ∷ t3 ∷ []) agents (suc zero) h l = grind (arith, nat_tests, h)
types Four (t0 ∷ t1 ∷ t2 ∷ t3 ∷ []) agents (suc (suc zero)) h l = grind (arith, nat_tests, h)
types Four (t0 ∷ t1 ∷ t2 ∷ t3 ∷ []) agents (suc (suc (suc zero))) h l = grind (arith, nat_tests, h)
types profile (t0 ∷ t1 ∷ t2 ∷ t3 ∷ []) agents (suc (suc (suc (suc t)))) h l = absurd (omega arith)
types profile other agents t h l = absurd (cc (h))

-- at most 256 entries
pub few_entries : (config : Sizes) → are_in_limits config ≡ true → low (shape_of config.entries config.agents) 4 ≤ 256
few_entries config h = few config.profile config.entries config.agents (limits_of config h)

-- entries of exactly the profile's types
pub all_types : (config : Sizes) (s : Shape) → are_in_limits config ≡ true → s ≡ shape_of config.entries config.agents → (t : ℕ) → t < 4 → nat_lt 0 (size s t) ≡ is_of_profile config.profile t
all_types config s h is t l = ap (λ (z : Shape). nat_lt 0 (size z t)) is ∙ types config.profile config.entries config.agents t (limits_of config h) l

-- 1 to 8 requesters
pub few_agents : (config : Sizes) → are_in_limits config ≡ true → (0 < config.agents) × (config.agents ≤ 8)
few_agents config h = let l : InLimits config = in_limits config h in (omega (arith, l.some_agent), l.agents)

-- the first of the ports that are left
pub owners_next : (z : TableId) (s : Shape) (n a : ℕ) → n < a → owners z (new_ports s n (a - n)) ≡ record { table = z; port = new_port s n; history = [] } ∷ owners z (new_ports s (n + 1) (a - (n + 1)))
owners_next z s n a l = ap (λ k. owners z (new_ports s n k)) (let h : a - n ≡ suc (a - (n + 1)) = omega arith in h)

-- it is taken, and the others are left
pub first_port : (z : TableId) (s : Shape) (n a : ℕ) (os : List Owner) (o : Owner) → n < a → os ≡ owners z (new_ports s n (a - n)) → o ≡ slice_index_or os 0 o → o ≡ record { table = z; port = new_port s n; history = [] }
first_port z s n a os o l is first = first ∙ ap (λ (xs : List Owner). slice_index_or xs 0 o) (is ∙ owners_next z s n a l)

pub left_ports : (z : TableId) (s : Shape) (n a : ℕ) (os left : List Owner) → n < a → os ≡ owners z (new_ports s n (a - n)) → left ≡ remove os 0 → left ≡ owners z (new_ports s (n + 1) (a - (n + 1)))
left_ports z s n a os left l is cut = cut ∙ ap (λ (xs : List Owner). remove xs 0) (is ∙ owners_next z s n a l)

-- the tracker's shape
four : (profile : Profile) (entries : List ℕ) → are_entries profile entries ≡ true → length entries ≡ 4
four Two (t0 ∷ t1 ∷ t2 ∷ t3 ∷ []) h = refl
four Four (t0 ∷ t1 ∷ t2 ∷ t3 ∷ []) h = refl
four profile other h = absurd (cc (h))

pub opening_shaped : (config : Sizes) → are_in_limits config ≡ true → IsShape (shape_of config.entries config.agents)
opening_shaped config h = let agents = few_agents config h in (four config.profile config.entries (limits_of config h), few_entries config h, agents.0, agents.1)
