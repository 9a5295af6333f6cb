-- What the limits say of each number of a header, for whoever is given one.
use Rattle.std.proofs.Common.{◌≡◌, ℕ, ◌+◌, ◌≤◌, Bool, true, false, ◌&&◌, nat_le, List, [], ◌∷◌, slice_index, sum, length, arith, refl, ⊎_elim, get_or}
use Rattle.std.proofs.lemmas.Bool.{cases_lt}
use Rattle.std.proofs.lemmas.Bool.Decides.{nat_tests}
use Rattle.std.proofs.lemmas.List.{get_or_past}
use Rattle.std.proofs.lemmas.List.Sums.{get_or-le-sum_by}
use Rattle.chi_flit.specs.declared.credit.Profile.{Profile}
use Rattle.chi_flit.specs.declared.credit.Profile.TheVariants.{Two, Four}
use Rattle.chi_flit.specs.Config.{Sizes, are_entries, is_between, is_slice_count}
use Rattle.chi_script.specs.Headers.{is_in_limits}

-- what the limits say of each number
pub record IsInLimits (header : Sizes) : Type 0 where
  pub agents : (1 ≤ header.agents) × (header.agents ≤ 8)
  pub lines : (1 ≤ header.lines) × (header.lines ≤ 64)
  pub slices : (1 ≤ header.slices) × (header.slices ≤ 8) × (header.slices ≤ header.lines)
  pub entries : (1 ≤ slice_index header.entries 0) × (1 ≤ slice_index header.entries 1)
  pub total : sum header.entries ≤ 256
  pub journal : (1 ≤ header.journal) × (header.journal ≤ 65536)

from_to : (least most n : ℕ) → is_between least most n ≡ true → (least ≤ n) × (n ≤ most)
from_to least most n e = (grind (arith, nat_tests), grind (arith, nat_tests))

slice_count : (n : ℕ) → is_slice_count n ≡ true → (1 ≤ n) × (n ≤ 8)
slice_count n e = (grind (arith, nat_tests), grind (arith, nat_tests))

no_more : (n lines : ℕ) → nat_le n lines ≡ true → n ≤ lines
no_more n lines e = grind (arith, nat_tests)

two_types : (t0 t1 t2 t3 : ℕ) → are_entries Two (t0 ∷ t1 ∷ t2 ∷ t3 ∷ []) ≡ true → (1 ≤ t0) × (1 ≤ t1) × (t0 + t1 + t2 + t3 ≤ 256)
two_types t0 t1 t2 t3 e = (grind (arith, nat_tests), grind (arith, nat_tests), grind (arith, nat_tests))

four_types : (t0 t1 t2 t3 : ℕ) → are_entries Four (t0 ∷ t1 ∷ t2 ∷ t3 ∷ []) ≡ true → (1 ≤ t0) × (1 ≤ t1) × (t0 + t1 + t2 + t3 ≤ 256)
four_types t0 t1 t2 t3 e = (grind (arith, nat_tests), grind (arith, nat_tests), grind (arith, nat_tests))

-- the two types of either profile, and all types together
record AreCounted (entries : List ℕ) : Type 0 where
  some : (1 ≤ slice_index entries 0) × (1 ≤ slice_index entries 1)
  total : sum entries ≤ 256

counted : (profile : Profile) (entries : List ℕ) → are_entries profile entries ≡ true → AreCounted entries
counted Two [] e = cc
counted Four [] e = cc
counted Two (t0 ∷ []) e = cc
counted Four (t0 ∷ []) e = cc
counted Two (t0 ∷ t1 ∷ []) e = cc
counted Four (t0 ∷ t1 ∷ []) e = cc
counted Two (t0 ∷ t1 ∷ t2 ∷ []) e = cc
counted Four (t0 ∷ t1 ∷ t2 ∷ []) e = cc
counted Two (t0 ∷ t1 ∷ t2 ∷ t3 ∷ []) e = let n = two_types t0 t1 t2 t3 e in record { some = (n.0, n.1); total = omega (arith, n.2) }
counted Four (t0 ∷ t1 ∷ t2 ∷ t3 ∷ []) e = let n = four_types t0 t1 t2 t3 e in record { some = (n.0, n.1); total = omega (arith, n.2) }
counted Two (t0 ∷ t1 ∷ t2 ∷ t3 ∷ t4 ∷ more) e = cc
counted Four (t0 ∷ t1 ∷ t2 ∷ t3 ∷ t4 ∷ more) e = cc

both : (a b : Bool) → (a && b) ≡ true → (a ≡ true) × (b ≡ true)
both true b e = (refl, e)
both false b e = cc

pub limits_of : (header : Sizes) → is_in_limits header ≡ true → IsInLimits header
limits_of header e =
    let kept = both (nat_le 1 header.journal) _ e in
    let agents = both (is_between 1 8 header.agents) _ kept.1 in
    let lines = both (is_between 1 64 header.lines) _ agents.1 in
    let slices = both (is_slice_count header.slices) _ lines.1 in
    let few = both (nat_le header.slices header.lines) _ slices.1 in
    let journal = both (nat_le header.journal 65536) _ few.1 in
    let types = counted header.profile header.entries journal.1 in
    let count = slice_count header.slices slices.0 in
    record {
      agents = from_to 1 8 header.agents agents.0;
      lines = from_to 1 64 header.lines lines.0;
      slices = (count.0, count.1, no_more header.slices header.lines few.0);
      entries = types.some;
      total = types.total;
      journal = (no_more 1 header.journal kept.0, no_more header.journal 65536 journal.0);
    }

-- the entries are those of the profile
pub entries_fit : (header : Sizes) → is_in_limits header ≡ true → are_entries header.profile header.entries ≡ true
entries_fit header e =
    let kept = both (nat_le 1 header.journal) _ e in
    let agents = both (is_between 1 8 header.agents) _ kept.1 in
    let lines = both (is_between 1 64 header.lines) _ agents.1 in
    let slices = both (is_slice_count header.slices) _ lines.1 in
    let few = both (nat_le header.slices header.lines) _ slices.1 in
    (both (nat_le header.journal 65536) _ few.1).1

-- a profile of two types has entries of these alone
pub none_left : (t0 t1 t2 t3 : ℕ) → are_entries Two (t0 ∷ t1 ∷ t2 ∷ t3 ∷ []) ≡ true → (t2 ≡ 0) × (t3 ≡ 0)
none_left t0 t1 t2 t3 e = (grind (arith, nat_tests), grind (arith, nat_tests))

-- each type has at most as many entries as all types together
pub each_few : (header : Sizes) → is_in_limits header ≡ true → (i : ℕ) → get_or header.entries i 0 ≤ 256
each_few header e i =
    let l : IsInLimits header = limits_of header e in
    ⊎_elim
    (λ low. omega (arith, get_or-le-sum_by (λ (n : ℕ). n) header.entries i 0 low, l.total))
    (λ past. let none = get_or_past header.entries i 0 past in omega (arith, none))
    (cases_lt i (length header.entries))
