-- The next column, by the edges that a mask has.
use Rattle.std.proofs.Common.{◌≡◌, ◌≢◌, ℕ, zero, suc, ◌+◌, ◌-◌, ◌<◌, ◌≤◌, ◌==◌, ◌&&◌, List, Bool, true, false, not, cond, length, nat_le, refl, sym, ap, ◌∙◌, arith, w64, ⊎_elim}
use Rattle.std.specs.Int.{bit_at, trailing_zeros}
use Rattle.std.proofs.lemmas.Bool.{cases_lt}
use Rattle.std.proofs.lemmas.Bool.Decides.{nat_tests}
use Rattle.chi_lanes.proofs.PadLemmas.{past}
use Rattle.chi_lanes.specs.Columns.{blank_at}
use Rattle.chi_lanes.specs.Cursors.{HasEdges, IsEnd, IsStart, blank_before, is_edge}
use Rattle.chi_lanes.specs.Masks.{is_blank}

-- what an edge says of the bytes on both sides
edge_false : (blank before : Bool) → cond blank (not before) before ≡ false → blank ≡ before
edge_false true true e = refl
edge_false true false e = absurd (cc e)
edge_false false true e = absurd (cc e)
edge_false false false e = refl

edge_true : (blank before : Bool) → cond blank (not before) before ≡ true → blank ≡ not before
edge_true true true e = absurd (cc e)
edge_true true false e = refl
edge_true false true e = refl
edge_true false false e = absurd (cc e)

-- bytes without an edge between them
abbrev NoEdges : List ℕ → ℕ → ℕ → Type 0
NoEdges line from n = (k : ℕ) → k < n → is_edge line (from + k) ≡ false

same_through : (line : List ℕ) (from n : ℕ) (b : Bool) → blank_before line from ≡ b → NoEdges line from n → blank_before line (from + n) ≡ b
same_through line from zero b begins none = (let e : from + 0 ≡ from = omega arith in ap (blank_before line) e) ∙ begins
same_through line from (suc n) b begins none =
    let e : from + suc n ≡ suc (from + n) = omega arith in
    ap (blank_before line) e
    ∙ (edge_false (blank_at line (from + n)) (blank_before line (from + n)) (none n (omega arith))
    ∙ same_through line from n b begins (λ k low. none k (omega arith)))

all_same : (line : List ℕ) (from n : ℕ) (b : Bool) → blank_before line from ≡ b → NoEdges line from n → (k : ℕ) → k < n → blank_at line (from + k) ≡ b
all_same line from n b begins none k low =
    edge_false (blank_at line (from + k)) (blank_before line (from + k)) (none k low) ∙ same_through line from k b begins (λ j under. none j (omega arith))

-- bits that are set, and bits that aren't
set_parts : (p q : Bool) → cond {A = ℕ} (p && q) 1 0 ≡ 1 → (p ≡ true) × (q ≡ true)
set_parts true true e = (refl, refl)
set_parts true false e = absurd (omega (arith, e))
set_parts false q e = absurd (omega (arith, e))

clear_parts : (p q : Bool) → p ≡ true → cond {A = ℕ} (p && q) 1 0 ≡ 0 → q ≡ false
clear_parts true true t e = absurd (omega (arith, e))
clear_parts true false t e = refl
clear_parts false q t e = absurd (cc t)

le_true : (a b : ℕ) → a ≤ b → nat_le a b ≡ true
le_true a b h = grind (arith, nat_tests)

le_false : (a b : ℕ) → b < a → nat_le a b ≡ false
le_false a b h = grind (arith, nat_tests)

le_is : (a b : ℕ) → nat_le a b ≡ true → a ≤ b
le_is a b e = grind (arith, nat_tests)

edge_at : (line : List ℕ) (at edges : ℕ) → HasEdges line at edges → (k : ℕ) → k < 64 → bit_at edges k ≡ 1 → (at ≤ k) × (is_edge line k ≡ true)
edge_at line at edges has k low set =
    let parts = set_parts (nat_le at k) (is_edge line k) (sym (has.marks k low) ∙ set) in
    (le_is at k parts.0, parts.1)

no_edge_at : (line : List ℕ) (at edges : ℕ) → HasEdges line at edges → (k : ℕ) → k < 64 → at ≤ k → bit_at edges k ≡ 0 → is_edge line k ≡ false
no_edge_at line at edges has k low from clear = clear_parts (nat_le at k) (is_edge line k) (le_true at k from) (sym (has.marks k low) ∙ clear)

-- the two lowest edges: where a column begins, and where it ends
pub record AreEdges (edges start end : ℕ) : Type 0 where
  pub start_low : start < 64
  pub start_set : bit_at edges start ≡ 1
  pub start_first : (k : ℕ) → k < start → bit_at edges k ≡ 0
  pub ordered : start < end
  pub end_low : end < 64
  pub end_set : bit_at edges end ≡ 1
  pub end_first : (k : ℕ) → start < k → k < end → bit_at edges k ≡ 0

-- what the lowest edge says, and the one behind it
record IsFirstEdge (edges start : ℕ) : Type 0 where
  low : start < 64
  set : bit_at edges start ≡ 1
  first : (k : ℕ) → k < start → bit_at edges k ≡ 0

bare_inside : (line : List ℕ) (k : ℕ) → blank_at line k ≡ false → k < length line
bare_inside line k bare =
    ⊎_elim (λ low. low) (λ high.
    let e : true ≡ false = sym (ap is_blank (past line k high)) ∙ bare in
    absurd (cc e)) (cases_lt k (length line))

start_of : (line : List ℕ) (at edges start : ℕ) → HasEdges line at edges → IsFirstEdge edges start → (at ≤ start) × IsStart line at start × (start < length line) × (blank_at line start ≡ false)
start_of line at edges start has is =
    let here = edge_at line at edges has start is.low is.set in
    let low : start < 64 = is.low in
    let from : at ≤ start = here.0 in
    let there : at + (start - at) ≡ start = omega arith in
    let none : NoEdges line at (start - at) = λ k l. no_edge_at line at edges has (at + k) (omega arith) (omega arith) (is.first (at + k) (omega arith)) in
    let before : blank_before line start ≡ true = ap (blank_before line) (sym there) ∙ same_through line at (start - at) true has.begins none in
    let bare : blank_at line start ≡ false = edge_true (blank_at line start) (blank_before line start) here.1 ∙ ap not before in
    let inside : start < length line = bare_inside line start bare in (
      from,
      record {
        within = omega arith;
        blanks = λ k first under. ap (blank_at line) (let e : k ≡ at + (k - at) = omega arith in e) ∙ all_same line at (start - at) true has.begins none (k - at) (omega arith);
        found = λ any. (from, bare);
      },
      inside,
      bare,
    )

pub begins_at : (line : List ℕ) (at edges start : ℕ) → HasEdges line at edges → start < 64 → bit_at edges start ≡ 1 → ((k : ℕ) → k < start → bit_at edges k ≡ 0) → IsStart line at start
begins_at line at edges start has low set first = (start_of line at edges start has (record { low = low; set = set; first = first })).1

first_edge : (edges start end : ℕ) → AreEdges edges start end → IsFirstEdge edges start
first_edge edges start end are = record { low = are.start_low; set = are.start_set; first = are.start_first }

pub start_by : (line : List ℕ) (at edges start end : ℕ) → HasEdges line at edges → AreEdges edges start end → IsStart line at start × (start < length line)
start_by line at edges start end has are = let of = start_of line at edges start has (first_edge edges start end are) in (of.1, of.2)

pub end_by : (line : List ℕ) (at edges start end : ℕ) → HasEdges line at edges → AreEdges edges start end → IsEnd line start end
end_by line at edges start end has are =
    let of = start_of line at edges start has (first_edge edges start end are) in
    let last = edge_at line at edges has end are.end_low are.end_set in
    let from : at ≤ start = of.0 in
    let ordered : start < end = are.ordered in
    let low : end < 64 = are.end_low in
    let next : suc start + (end - suc start) ≡ end = omega arith in
    let none : NoEdges line (suc start) (end - suc start) = λ k l. no_edge_at line at edges has (suc start + k) (omega arith) (omega arith) (are.end_first (suc start + k) (omega arith) (omega arith)) in
    let before : blank_before line end ≡ false = ap (blank_before line) (sym next) ∙ same_through line (suc start) (end - suc start) false of.3 none in
    let column : (k : ℕ) → start ≤ k → k < end → blank_at line k ≡ false = λ k first under. ⊎_elim (λ above.
    ap (blank_at line) (let e : k ≡ suc start + (k - suc start) = omega arith in e) ∙ all_same line (suc start) (end - suc start) false of.3 none (k - suc start) (omega arith)) (λ same.
    ap (blank_at line) (let e : k ≡ start = omega arith in e) ∙ of.3) (cases_lt start k) in
    let back : suc (end - 1) ≡ end = omega arith in
    record {
      from = omega arith;
      within = (let inside = bare_inside line (end - 1) (column (end - 1) (omega arith) (omega arith)) in omega (arith, inside));
      column = column;
      ends = edge_true (blank_at line end) (blank_before line end) last.1 ∙ ap not before;
    }

-- the edges that are left
bit_left : (edges start end k : ℕ) → AreEdges edges start end → k ≤ end → cond {A = ℕ} (k == end) 0 (cond (k == start) 0 (bit_at edges k)) ≡ 0
bit_left edges start end k are low =
    ⊎_elim (λ before.
    let clear : bit_at edges k ≡ 0 = are.start_first k before in
    rw clear (two_zeros (k == end) (k == start))) (λ from. at_start from) (cases_lt k start)
  where
    two_zeros : (p q : Bool) → cond {A = ℕ} p 0 (cond q 0 0) ≡ 0
    two_zeros true q = refl
    two_zeros false true = refl
    two_zeros false false = refl

    equal : (a b : ℕ) → a ≡ b → (a == b) ≡ true
    equal a b h = grind (arith, nat_tests)

    at_end : start < k → cond {A = ℕ} (k == end) 0 (cond (k == start) 0 (bit_at edges k)) ≡ 0
    at_end more =
        ⊎_elim (λ before.
        let clear : bit_at edges k ≡ 0 = are.end_first k more before in
        rw clear (two_zeros (k == end) (k == start))) (λ from. rw (equal k end (omega arith)) refl) (cases_lt k end)

    at_start : start ≤ k → cond {A = ℕ} (k == end) 0 (cond (k == start) 0 (bit_at edges k)) ≡ 0
    at_start from = ⊎_elim (λ more. at_end more) (λ same. rw (equal k start (omega arith)) (two_zeros (k == end) true)) (cases_lt start k)

bit_kept : (edges start end k : ℕ) → start < end → end < k → cond {A = ℕ} (k == end) 0 (cond (k == start) 0 (bit_at edges k)) ≡ bit_at edges k
bit_kept edges start end k ordered above = rw (apart k end (omega arith), apart k start (omega arith)) refl
  where
    apart : (a b : ℕ) → b < a → (a == b) ≡ false
    apart a b h = grind (arith, nat_tests)

pub edges_left : (line : List ℕ) (at edges left start end : ℕ) → HasEdges line at edges → AreEdges edges start end
    → ((k : ℕ) → k < 64 → bit_at left k ≡ cond (k == end) 0 (cond (k == start) 0 (bit_at edges k))) → HasEdges line (end + 1) left
edges_left line at edges left start end has are bits =
    let is = end_by line at edges start end has are in
    let next : end + 1 ≡ suc end = omega arith in
    let from : at ≤ start = (edge_at line at edges has start are.start_low are.start_set).0 in
    let ordered : start < end = are.ordered in
    record {
      begins = ap (blank_before line) next ∙ is.ends;
      marks = λ k low. bits k low ∙ ⊎_elim (λ under.
          bit_left edges start end k are (omega arith)
          ∙ ap (λ b. cond (b && is_edge line k) 1 0) (sym (le_false (end + 1) k under))) (λ above.
          bit_kept edges start end k ordered (omega arith)
          ∙ (has.marks k low ∙ ap (λ b. cond (b && is_edge line k) 1 0) (le_true at k (omega arith) ∙ sym (le_true (end + 1) k above)))) (cases_lt k (end + 1));
    }

-- the two lowest bits, as they are found one after the other
pub are_edges : (edges behind start end : ℕ) → start < 64 → bit_at edges start ≡ 1 → ((k : ℕ) → k < start → bit_at edges k ≡ 0) → ((k : ℕ) → k < 64 → bit_at behind k ≡ cond (k == start) 0 (bit_at edges k))
    → end < 64 → bit_at behind end ≡ 1 → ((k : ℕ) → k < end → bit_at behind k ≡ 0) → AreEdges edges start end
are_edges edges behind start end start_low start_set start_first bits end_low end_set end_first =
    let other : end ≢ start = λ e. zero_not_one (sym (ap (λ b. cond b 0 (bit_at edges end)) (equal end start e)) ∙ (sym (bits end end_low) ∙ end_set)) in
    let set : bit_at edges end ≡ 1 = sym (ap (λ b. cond b 0 (bit_at edges end)) (apart end start other)) ∙ (sym (bits end end_low) ∙ end_set) in
    let ordered : start < end = ⊎_elim (λ before. absurd (zero_not_one (sym (start_first end before) ∙ set))) (λ from. omega (arith, other)) (cases_lt end start) in
    record {
      start_low = start_low;
      start_set = start_set;
      start_first = start_first;
      ordered = ordered;
      end_low = end_low;
      end_set = set;
      end_first = λ k above below. sym (ap (λ b. cond b 0 (bit_at edges k)) (apart k start (λ e. more start k above (sym e)))) ∙ (sym (bits k (omega arith)) ∙ end_first k below);
    }
  where
    zero_not_one : ◌≡◌ {A = ℕ} 0 1 → ⊥
    zero_not_one e = omega (arith, e)

    equal : (a b : ℕ) → a ≡ b → (a == b) ≡ true
    equal a b h = grind (arith, nat_tests)

    apart : (a b : ℕ) → a ≢ b → (a == b) ≡ false
    apart a b h = grind (arith, nat_tests)

    more : (a b : ℕ) → a < b → a ≡ b → ⊥
    more a b l e = omega (arith, l, e)

-- the same, where a lowest bit is named as it is counted
pub by_value : (mask less low : ℕ) → low ≡ trailing_zeros w64 mask → ((k : ℕ) → k < 64 → bit_at less k ≡ cond (k == trailing_zeros w64 mask) 0 (bit_at mask k)) → (k : ℕ) → k < 64 → bit_at less k ≡ cond (k == low) 0 (bit_at mask k)
by_value mask less low e bits k under = bits k under ∙ ap (λ t. cond (k == t) 0 (bit_at mask k)) (sym e)
