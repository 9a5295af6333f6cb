-- Items in another order, in which those of each line stand as before.
use Rattle.std.proofs.Common.{◌≡◌, ◌==◌, ◌&&◌, not, nat_lt, cond, ℕ, Bool, true, false, List, [], ◌∷◌, refl, sym, ap, subst, ◌∙◌, arith}
use Rattle.std.specs.List.{All, filter}
use Rattle.std.specs.List.Sorted.{IsPermutation, IsStableByKey, ties}
use Rattle.std.specs.Ordering.{is_lt, nat_cmp}
use Rattle.std.specs.declared.cmp.Ordering.TheVariants.{Less, Equal, Greater}
use Rattle.std.proofs.lemmas.List.Elements.{All-head, All-tail, All-weaker, filter_agree}
use Rattle.std.proofs.lemmas.List.Sorted.{All-permutation, IsPermutation-map, IsPermutation-refl, IsPermutation-sym}
use Rattle.chi_slice.specs.Words.{Sizes}
use Rattle.chi_explain.specs.declared.observed.StoreListing.{StoreListing}
use Rattle.chi_resolution.specs.declared.lines.Resolved.{Resolved}
use Rattle.chi_resolution.specs.declared.lines.CacheLine.{CacheLine}
use Rattle.chi_verdict.specs.declared.lines.Placed.{Placed}
use Rattle.chi_verdict.specs.Lines.{AreLinesExplained, IsOneLineExplained, IsReordered, any_item, in_order, is_explained_by, is_on_line, item_in, items_of}

abbrev pub line_number : Resolved → ℕ
line_number item = item.line.0

abbrev by_line : Resolved → Resolved → Bool
by_line one other = is_lt (nat_cmp (line_number one) (line_number other))

less : (lt eq : Bool) → is_lt (cond lt Less (cond eq Equal Greater)) ≡ lt
less true eq = refl
less false true = refl
less false false = refl

tie : (a b : ℕ) → (not (nat_lt a b) && not (nat_lt b a)) ≡ (b == a)
tie a b = grind arith

ties_are : (one other : Resolved) → ties by_line one other ≡ is_on_line one.line other
ties_are one other =
    let first : is_lt (nat_cmp one.line.0 other.line.0) ≡ nat_lt one.line.0 other.line.0 = less (nat_lt one.line.0 other.line.0) (one.line.0 == other.line.0) in
    let second : is_lt (nat_cmp other.line.0 one.line.0) ≡ nat_lt other.line.0 one.line.0 = less (nat_lt other.line.0 one.line.0) (other.line.0 == one.line.0) in
    rw (first, second) (tie one.line.0 other.line.0)

same_items : (items sorted : List Resolved) → IsStableByKey line_number nat_cmp items sorted → (one : Resolved) → items_of one.line sorted ≡ items_of one.line items
same_items items sorted stable one =
    sym (filter_agree (ties by_line one) (is_on_line one.line) (ties_are one) sorted) ∙ stable one ∙ filter_agree (ties by_line one) (is_on_line one.line) (ties_are one) items

pub reordered : (items sorted : List Resolved) → IsPermutation items sorted → IsStableByKey line_number nat_cmp items sorted → IsReordered items sorted
reordered items sorted moved stable = record { moved = moved; kept = λ line. same_items items sorted stable (any_item line) }

-- the same of an order of places
abbrev pub place_line : Placed → ℕ
place_line placed = placed.line.0

abbrev places_by_line : Placed → Placed → Bool
places_by_line one other = is_lt (nat_cmp (place_line one) (place_line other))

abbrev is_at_line : CacheLine → Placed → Bool
is_at_line line placed = placed.line.0 == line.0

place_ties_are : (one other : Placed) → ties places_by_line one other ≡ is_at_line one.line other
place_ties_are one other =
    let first : is_lt (nat_cmp one.line.0 other.line.0) ≡ nat_lt one.line.0 other.line.0 = less (nat_lt one.line.0 other.line.0) (one.line.0 == other.line.0) in
    let second : is_lt (nat_cmp other.line.0 one.line.0) ≡ nat_lt other.line.0 one.line.0 = less (nat_lt other.line.0 one.line.0) (other.line.0 == one.line.0) in
    rw (first, second) (tie one.line.0 other.line.0)

abbrev pub IsAtItsLine : List Resolved → Placed → Type 0
IsAtItsLine items placed = (item_in items placed).line ≡ placed.line

one_placed : (items : List Resolved) (line : CacheLine) (placed : Placed) (order : List Placed) (is : Bool) → is_on_line line (item_in items placed) ≡ is → is_at_line line placed ≡ is
    → items_of line (in_order items order) ≡ in_order items (filter (is_at_line line) order) → items_of line (in_order items (placed ∷ order)) ≡ in_order items (filter (is_at_line line) (placed ∷ order))
one_placed items line placed order true item at rest = rw (item, at) (ap (λ (l : List Resolved). item_in items placed ∷ l) rest)
one_placed items line placed order false item at rest = rw (item, at) rest

placed_of : (items : List Resolved) (line : CacheLine) (order : List Placed) → All (IsAtItsLine items) order → items_of line (in_order items order) ≡ in_order items (filter (is_at_line line) order)
placed_of items line [] all = refl
placed_of items line (placed ∷ order) all =
    let head : (item_in items placed).line ≡ placed.line = All-head (IsAtItsLine items) placed order all in
    one_placed items line placed order (is_at_line line placed) (ap (λ (l : CacheLine). l.0 == line.0) head) refl
    (placed_of items line order (All-tail (IsAtItsLine items) placed order all))

same_places : (order sorted : List Placed) → IsStableByKey place_line nat_cmp order sorted → (one : Placed) → filter (is_at_line one.line) sorted ≡ filter (is_at_line one.line) order
same_places order sorted stable one =
    sym (filter_agree (ties places_by_line one) (is_at_line one.line) (place_ties_are one) sorted) ∙ stable one ∙ filter_agree (ties places_by_line one) (is_at_line one.line) (place_ties_are one) order

pub places_reordered : (items : List Resolved) (order sorted : List Placed) → in_order items order ≡ items → All (IsAtItsLine items) order → IsPermutation order sorted → IsStableByKey place_line nat_cmp order sorted
    → IsReordered items (in_order items sorted)
places_reordered items order sorted same all moved stable = record {
  moved = subst (λ (l : List Resolved). IsPermutation l (in_order items sorted)) same (IsPermutation-map (item_in items) order sorted moved);
  kept = λ line.
      placed_of items line sorted (All-permutation (IsAtItsLine items) order sorted moved all)
      ∙ ap (in_order items) (same_places order sorted stable (record { line = line; place = 0 }))
      ∙ sym (placed_of items line order all)
      ∙ ap (items_of line) same;
}

pub unmoved : (items : List Resolved) → IsReordered items items
unmoved items = record { moved = IsPermutation-refl items; kept = λ line. refl }

-- what is explained in one order is in the other
pub unsorted : (config : Sizes) (stores : StoreListing) (items sorted : List Resolved) (actions lines : ℕ) → IsReordered items sorted → AreLinesExplained config stores sorted actions lines → AreLinesExplained config stores items actions lines
unsorted config stores items sorted actions lines order known = record {
  explanations = known.explanations;
  each = All-weaker (λ one. IsOneLineExplained config stores (items_of one.line sorted) one) (λ one. IsOneLineExplained config stores (items_of one.line items) one) (λ one is. subst (λ (mine : List Resolved). IsOneLineExplained config stores mine one) (order.kept one.line) is) known.explanations known.each;
  all = All-permutation (λ item. is_explained_by known.explanations item ≡ true) sorted items (IsPermutation-sym items sorted order.moved) known.all;
  once = known.once;
  actions_are = known.actions_are;
  lines_are = known.lines_are;
}
