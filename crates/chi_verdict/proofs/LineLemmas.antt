-- Items of cache lines, one line behind the other.
use Rattle.std.proofs.Common.{◌≡◌, ◌<◌, ◌≤◌, ◌+◌, ◌||◌, ℕ, suc, Bool, true, false, List, [], ◌∷◌, ◌++◌, length, get_or, take, drop, refl, sym, ap, subst, ◌∙◌, arith}
use Rattle.std.proofs.lemmas.List.{append-nil, drop-map, drop-take, get_or-map, get_or_default, length-drop, length-map, length-take, map-append, map_more, take-append-drop, take-take, take_more}
use Rattle.std.proofs.lemmas.List.Elements.{All-append, All-cons, All-head, All-more, All-nil, All-tail, All-weaker, filter-append}
use Rattle.std.proofs.lemmas.List.Sums.{sum_by-cons}
use Rattle.std.specs.List.{All, sum_by}
use Rattle.chi_slice.specs.Words.{Sizes}
use Rattle.chi_resolution.specs.declared.lines.CacheLine.{CacheLine}
use Rattle.chi_explain.specs.declared.observed.Observed.{Observed}
use Rattle.chi_explain.specs.declared.observed.StoreListing.{StoreListing}
use Rattle.chi_resolution.specs.declared.lines.Resolved.{Resolved}
use Rattle.chi_verdict.specs.declared.lines.Placed.{Placed}
use Rattle.chi_verdict.specs.Lines.{AreItemsExplained, AreLinesExplained, IsOneLineExplained, LineExplanation, action_count, any_item, in_order, is_explained_by, is_on_line, item_in, items_of, said_by}
use Rattle.chi_verdict.proofs.SortLemmas.{IsAtItsLine}

-- of a line are all, or none
pub all_of : (line : CacheLine) (items : List Resolved) → All (λ item. is_on_line line item ≡ true) items → items_of line items ≡ items
all_of line [] all = refl
all_of line (item ∷ items) all =
    let head : is_on_line line item ≡ true = All-head (λ other. is_on_line line other ≡ true) item items all in
    rw head (ap (λ (l : List Resolved). item ∷ l) (all_of line items (All-tail (λ other. is_on_line line other ≡ true) item items all)))

pub none_of : (line : CacheLine) (items : List Resolved) → All (λ item. is_on_line line item ≡ false) items → items_of line items ≡ []
none_of line [] all = refl
none_of line (item ∷ items) all =
    let head : is_on_line line item ≡ false = All-head (λ other. is_on_line line other ≡ false) item items all in
    rw head (none_of line items (All-tail (λ other. is_on_line line other ≡ false) item items all))

-- two items of one line
same_line : (line : CacheLine) (item : Resolved) → is_on_line line item ≡ true → item.line.0 ≡ line.0
same_line line item is = grind arith

apart : (floor : ℕ) (line one : CacheLine) (other : Resolved) → one.0 < floor → floor ≤ line.0 → is_on_line line other ≡ true → is_on_line one other ≡ false
apart floor line one other lt le is = grind arith

lower_item : (floor : ℕ) (line : CacheLine) (other : Resolved) → floor ≤ line.0 → other.line.0 < floor → is_on_line line other ≡ false
lower_item floor line other le lt = grind arith

-- what explains a line before them does still
still : (config : Sizes) (stores : StoreListing) (floor : ℕ) (line : CacheLine) (before mine : List Resolved) → floor ≤ line.0 → All (λ item. is_on_line line item ≡ true) mine
    → (one : LineExplanation) → one.line.0 < floor → IsOneLineExplained config stores (items_of one.line before) one → IsOneLineExplained config stores (items_of one.line (before ++ mine)) one
still config stores floor line before mine le all one lt is =
    let none : items_of one.line mine ≡ [] = none_of one.line mine (All-weaker (λ other. is_on_line line other ≡ true) (λ other. is_on_line one.line other ≡ false) (λ other same. apart floor line one.line other lt le same) mine all) in
    let whole : items_of one.line (before ++ mine) ≡ items_of one.line before = filter-append (is_on_line one.line) before mine ∙ ap (λ (l : List Resolved). items_of one.line before ++ l) none ∙ append-nil (items_of one.line before) in
    subst (λ (l : List Resolved). IsOneLineExplained config stores l one) (sym whole) is

-- the line behind them has its own items alone
only_mine : (floor : ℕ) (line : CacheLine) (before mine : List Resolved) → floor ≤ line.0 → All (λ item. is_on_line line item ≡ true) mine → All (λ item. item.line.0 < floor) before → items_of line (before ++ mine) ≡ mine
only_mine floor line before mine le all lower =
    let none : items_of line before ≡ [] = none_of line before (All-weaker (λ other. other.line.0 < floor) (λ other. is_on_line line other ≡ false) (λ other lt. lower_item floor line other le lt) before lower) in
    filter-append (is_on_line line) before mine ∙ ap (λ (l : List Resolved). l ++ items_of line mine) none ∙ all_of line mine all

either : (a b : Bool) → b ≡ true → (a || b) ≡ true
either true b e = refl
either false b e = e

first : (a b : Bool) → a ≡ true → (a || b) ≡ true
first true b e = refl
first false b e = absurd (cc e)

summed : (a m s t u : ℕ) → a ≡ s → m ≡ t → u ≡ t + s → a + m ≡ u
summed a m s t u is more sum = omega arith

one_more : (n m : ℕ) → n ≡ m → n + 1 ≡ suc m
one_more n m e = omega arith

-- the items of lines below a floor are explained
pub record LowerLines (floor : ℕ) (config : Sizes) (stores : StoreListing) (items : List Resolved) (actions lines : ℕ) : Type 0 where
  pub known : AreLinesExplained config stores items actions lines
  pub done_below : All (λ one. one.line.0 < floor) known.explanations
  pub below : All (λ item. item.line.0 < floor) items

pub no_lines : (config : Sizes) (stores : StoreListing) → LowerLines 0 config stores [] 0 0
no_lines config stores = record {
  known = record {
    explanations = [];
    each = All-nil (λ one. IsOneLineExplained config stores (items_of one.line []) one);
    all = All-nil (λ item. is_explained_by [] item ≡ true);
    once = tt;
    actions_are = refl;
    lines_are = refl;
  };
  done_below = All-nil (λ one. one.line.0 < 0);
  below = All-nil (λ item. item.line.0 < 0);
}

-- one line more
joined : (config : Sizes) (stores : StoreListing) (floor next : ℕ) (line : CacheLine) (before mine : List Resolved) (actions lines more : ℕ) → floor ≤ line.0 → next ≡ line.0 + 1 → 1 ≤ length mine → All (λ item. is_on_line line item ≡ true) mine
    → LowerLines floor config stores before actions lines → AreItemsExplained config stores mine more → LowerLines next config stores (before ++ mine) (actions + more) (lines + 1)
joined config stores floor next line before mine actions lines more le is some all lower done =
    let known = lower.known in
    let es : List LineExplanation = known.explanations in
    let one : LineExplanation = record { line = line; memory = done.memory; witness = done.witness } in
    record {
      known = record {
        explanations = one ∷ es;
        each = All-cons (λ other. IsOneLineExplained config stores (items_of other.line (before ++ mine)) other) one es
            (subst (λ (l : List Resolved). IsOneLineExplained config stores l one) (sym (only_mine floor line before mine le all lower.below)) (record { some = some; explained = done.explained }))
            (λ k d lt. still config stores floor line before mine le all (get_or es k d) (lower.done_below k d lt) (known.each k d lt));
        all = All-append (λ item. is_explained_by (one ∷ es) item ≡ true) before mine
            (All-weaker (λ item. is_explained_by es item ≡ true) (λ item. is_explained_by (one ∷ es) item ≡ true) (λ item has. either (is_on_line line item) (is_explained_by es item) has) before known.all)
            (All-weaker (λ item. is_on_line line item ≡ true) (λ item. is_explained_by (one ∷ es) item ≡ true) (λ item same. first (is_on_line line item) (is_explained_by es item) same) mine all);
        once = (All-weaker (λ other. other.line.0 < floor) (λ other. other.line.0 < line.0) (λ other lt. omega arith) es lower.done_below, known.once);
        actions_are = summed actions more (sum_by action_count es) (action_count one) (sum_by action_count (one ∷ es)) known.actions_are done.counted (sum_by-cons action_count one es);
        lines_are = one_more lines (length es) known.lines_are;
      };
      done_below = All-cons (λ other. other.line.0 < next) one es (omega arith) (All-weaker (λ other. other.line.0 < floor) (λ other. other.line.0 < next) (λ other lt. omega arith) es lower.done_below);
      below = All-append (λ item. item.line.0 < next) before mine
          (All-weaker (λ item. item.line.0 < floor) (λ item. item.line.0 < next) (λ item lt. omega arith) before lower.below)
          (All-weaker (λ item. is_on_line line item ≡ true) (λ item. item.line.0 < next) (λ item same. let e = same_line line item same in omega arith) mine all);
    }

-- what is taken further
pub taken_further : (n m : ℕ) (items : List Resolved) → take (n + m) items ≡ take n items ++ take m (drop n items)
taken_further n m items =
    sym (ap (λ (l : List Resolved). l ++ take m (drop n items)) (sym (take-take n (n + m) items (omega arith))) ∙ ap (λ (l : List Resolved). take n (take (n + m) items) ++ l) (sym (drop-take n m items)) ∙ take-append-drop n (take (n + m) items))

long_rest : (n : ℕ) (items : List Resolved) → n ≤ length items → length (drop n items) + n ≡ length items
long_rest n items within = let long = length-drop n items in omega arith

some_taken : (m : ℕ) (rest : List Resolved) → 1 ≤ m → m ≤ length rest → 1 ≤ length (take m rest)
some_taken m rest some within = omega (arith, length-take m rest)

-- all that is known once the items of one more line are taken
pub front_step : (config : Sizes) (stores : StoreListing) (floor n m next actions lines more : ℕ) (line : CacheLine) (items rest : List Resolved) → rest ≡ drop n items → n ≤ length items → m ≤ length rest → 1 ≤ m → next ≡ line.0 + 1 → floor ≤ line.0
    → LowerLines floor config stores (take n items) actions lines → All (λ item. is_on_line line item ≡ true) (take m rest) → AreItemsExplained config stores (take m rest) more
    → (n + m ≤ length items) × LowerLines next config stores (take (n + m) items) (actions + more) (lines + 1)
front_step config stores floor n m next actions lines more line items rest same within fits some is le lower all done =
    let long : length rest + n ≡ length items = ap (λ (l : List Resolved). length l + n) same ∙ long_rest n items within in
    let further : take (n + m) items ≡ take n items ++ take m rest = taken_further n m items ∙ ap (λ (l : List Resolved). take n items ++ take m l) (sym same) in (
      omega arith,
      subst (λ (l : List Resolved). LowerLines next config stores l (actions + more) (lines + 1)) (sym further)
          (joined config stores floor next line (take n items) (take m rest) actions lines more le is (some_taken m rest some fits) all lower done),
    )

same_number : (line : CacheLine) (item : Resolved) → item.line.0 ≡ line.0 → is_on_line line item ≡ true
same_number line item is = grind arith

-- one more item of the line in front
pub gathered : (line : CacheLine) (items : List Resolved) (count : ℕ) (d : Resolved) (seen now : List Observed) → count < length items → All (λ item. is_on_line line item ≡ true) (take count items)
    → seen ≡ said_by (take count items) → (get_or items count d).line.0 ≡ line.0 → now ≡ seen ++ (get_or items count d).flit ∷ []
    → All (λ item. is_on_line line item ≡ true) (take (count + 1) items) × (now ≡ said_by (take (count + 1) items))
gathered line items count d seen now lt all same number put =
    let more : said_by (take (count + 1) items) ≡ said_by (take count items) ++ (get_or items count d).flit ∷ [] = map_more (λ item. item.flit) items count d lt in (
      All-more (λ item. is_on_line line item ≡ true) items count d lt all (same_number line (get_or items count d) number),
      put ∙ ap (λ (l : List Observed). l ++ (get_or items count d).flit ∷ []) same ∙ sym more,
    )

-- the same of an item in an order
pub gathered_in : (line : CacheLine) (items : List Resolved) (order : List Placed) (count : ℕ) (d : Placed) (item : Resolved) (seen now : List Observed) → count < length order → item ≡ item_in items (get_or order count d)
    → All (λ other. is_on_line line other ≡ true) (take count (in_order items order)) → seen ≡ said_by (take count (in_order items order)) → item.line.0 ≡ line.0 → now ≡ seen ++ item.flit ∷ []
    → All (λ other. is_on_line line other ≡ true) (take (count + 1) (in_order items order)) × (now ≡ said_by (take (count + 1) (in_order items order)))
gathered_in line items order count d item seen now lt found all same number put =
    let is : get_or (in_order items order) count (item_in items d) ≡ item =
    get_or-map (item_in items) order count d (item_in items d) lt ∙ sym found in
    gathered line (in_order items order) count (item_in items d) seen now (subst (λ (n : ℕ). count < n) (sym (length-map order (item_in items))) lt) all same
    (subst (λ (one : Resolved). one.line.0 ≡ line.0) (sym is) number) (subst (λ (one : Resolved). now ≡ seen ++ one.flit ∷ []) (sym is) put)

-- what is left of an order
pub rest_in : (items : List Resolved) (order rest : List Placed) (n : ℕ) → rest ≡ drop n order → in_order items rest ≡ drop n (in_order items order)
rest_in items order rest n is = ap (in_order items) is ∙ sym (drop-map (item_in items) n order)

pub order_length : (items : List Resolved) (order : List Placed) → length (in_order items order) ≡ length order
order_length items order = length-map order (item_in items)

-- one more place
pub placed_more : (items : List Resolved) (order now : List Placed) (placed : Placed) (d : Resolved) → length order < length items → placed.place ≡ length order → placed.line ≡ (get_or items (length order) d).line
    → in_order items order ≡ take (length order) items → All (IsAtItsLine items) order → now ≡ order ++ placed ∷ []
    → (in_order items now ≡ take (length order + 1) items) × All (IsAtItsLine items) now
placed_more items order now placed d lt at line same all put =
    let is : item_in items placed ≡ get_or items (length order) d =
    ap (λ (n : ℕ). get_or items n (any_item placed.line)) at ∙ get_or_default items (length order) (any_item placed.line) d lt in (
      ap (in_order items) put ∙ map-append (item_in items) order (placed ∷ []) ∙ ap (λ (l : List Resolved). l ++ item_in items placed ∷ []) same
          ∙ ap (λ (one : Resolved). take (length order) items ++ one ∷ []) is ∙ sym (take_more items (length order) d lt),
      subst (λ (l : List Placed). All (IsAtItsLine items) l) (sym put)
          (All-append (IsAtItsLine items) order (placed ∷ []) all (All-cons (IsAtItsLine items) placed [] (ap (λ (one : Resolved). one.line) is ∙ sym line) (All-nil (IsAtItsLine items)))),
    )
