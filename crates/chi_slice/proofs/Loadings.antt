-- What a walk over the lines of a slice that is to be made finds.
use Rattle.std.proofs.Common.{◌≡◌, ◌↔◌, ℕ, ◌+◌, ◌/◌, ◌%◌, ◌<◌, ◌==◌, List, Bool, true, false, ◌&&◌, Option, Some, None, is_some, length, get_or, refl, sym, ◌∙◌, ap, subst, if◌then◌else◌, rules, arith}
use Rattle.std.specs.Prelude.{IsTrue, IfSome, IfNone}
use Rattle.std.specs.Bool.{Decides}
use Rattle.std.proofs.Math.ListN.{length-replicate}
use Rattle.std.proofs.lemmas.Bool.{and_from, and_parts, eqb-true, eq-eqb}
use Rattle.std.proofs.lemmas.List.{get_or_read}
use Rattle.chi_flit.specs.declared.numbers.Slot.{Slot}
use Rattle.chi_flit.specs.Config.{Sizes}
use Rattle.chi_journal.specs.Journal.{Log}
use Rattle.chi_line.specs.LineState.{LineState, opening_line}
use Rattle.chi_line.specs.declared.position.Position.{Position}
use Rattle.chi_line.specs.contracts.position.PositionPartialEq.TheImpl as positions
use Rattle.chi_line.proofs.EqualSlots.{same_slot}
use Rattle.chi_slice.specs.declared.places.RequestPlace.{RequestPlace}
use Rattle.chi_slice.specs.Index.{Indexed, IsInside, IsSliceIndexed, IsShown, at_line, no_places, place_number, place_of, with_place}
use Rattle.chi_slice.specs.Loading.{AreSlotsLow, HasRows, IsFound, IsHiddenAt, IsLoadable, IsLookedUp, lines_alone}
use Rattle.chi_slice.specs.Slice.{SliceKept, SliceState, is_line_in_range, line, line_in_row, slice_with}
use Rattle.chi_slice.proofs.Below.{AllBelow}
use Rattle.chi_slice.proofs.Indexes.{with_other, with_same, with_wide}
use Rattle.chi_slice.proofs.LineReads.{IsRow}
use Rattle.chi_slice.proofs.Rows.{inside, row_in_range}

pub same_position : (a b : Position) → Decides (positions.eq-value.it a b) (a ≡ b)
same_position a b = search (rules, arith)

-- all lines of the slice are below the number of lines
pub lines_below : (s : SliceState) (P : ℕ → Type 0) (n : ℕ) (found : Bool) → n ≡ s.config.lines
    → IsTrue found ↔ AllBelow (λ l. is_line_in_range s l ≡ true → P l) n → IsTrue found ↔ ((l : ℕ) → is_line_in_range s l ≡ true → P l)
lines_below s P n found all so_far = (
  λ t l here. so_far.0 t l (subst (λ (m : ℕ). l < m) (sym all) (inside s l here).low) here,
  λ lines. so_far.1 (λ l low here. lines l here),
)

-- the line of a row
pub row_below : (s : SliceState) (l row : ℕ) → HasRows s → IsRow s l row → row < length s.lines
row_below s l row k r = omega (arith, row_in_range s l k.config k.index r.here, k.rows, r.row_is)

pub line_in : {at : LineState} (s : SliceState) (l row : ℕ) → HasRows s → IsRow s l row → at ≡ get_or s.lines row at → at ≡ line s l
line_in {at} s l row k r read = get_or_read _ _ _ (row_below s l row k r) read opening_line ∙ ap (line_in_row s) r.row_is

-- nothing is shown so far
pub hidden_more : (s : SliceState) (n : ℕ) (slot : Slot) (l : ℕ) → AllBelow (IsHiddenAt s n slot) l → IsHiddenAt s n slot l → AllBelow (IsHiddenAt s n slot) (l + 1)
hidden_more s n slot l below here = λ k low. go k low (k == l) refl
  where
    go : (k : ℕ) → k < l + 1 → (b : Bool) → (k == l) ≡ b → IsHiddenAt s n slot k
    go k low true same = subst (IsHiddenAt s n slot) (sym (eqb-true k l same)) here
    go k low false apart = below k (grind (arith, low, apart))

pub when_none : {A : Type 0} (o : Option A) (P : Type 0) → is_some o ≡ false → IfNone o P → P
when_none None P e h = h
when_none (Some x) P e h = absurd (cc (e))

pub all_hidden : (s : SliceState) (n : ℕ) (slot : Slot) (m : ℕ) → m ≡ s.config.lines → AllBelow (IsHiddenAt s n slot) m → (l : ℕ) → IsHiddenAt s n slot l
all_hidden s n slot m all below l here = below l (subst (λ (k : ℕ). l < k) (sym all) (inside s l here).low) here

-- what some line shows as one place says, all lines show as the place says that one line shows
same_at : (some : Option RequestPlace) (place : RequestPlace) (l : ℕ) → at_line some place.line.0 ≡ Some place.at → at_line some l ≡ at_line (Some place) l
same_at None place l e = absurd cc
same_at (Some other) place l e = go (other.line.0 == place.line.0) refl e
  where
    go : (b : Bool) → (other.line.0 == place.line.0) ≡ b → (if b then Some other.at else None) ≡ Some place.at
        → (if other.line.0 == l then Some other.at else None) ≡ (if place.line.0 == l then Some place.at else None)
    go true same e = ap (λ (n : ℕ). if n == l then Some other.at else None) (eqb-true other.line.0 place.line.0 same) ∙ ap (λ (at : Option Position). if place.line.0 == l then at else None) e
    go false apart e = absurd (cc (e))

inside_found : (s : SliceState) (n : ℕ) (slot : Slot) (place : RequestPlace) → IsFound s n slot place → IsInside s (Some place)
inside_found s n slot place found other e =
    let same : place ≡ other = cc (e) in
    subst (λ (p : RequestPlace). is_line_in_range s p.line.0 ≡ true) same found.inside

pub looked_up : (s : SliceState) (n : ℕ) (slot : Slot) (place : Option RequestPlace) (single : Bool) → IfSome place (IsFound s n slot) → IfNone place ((l : ℕ) → IsHiddenAt s n slot l)
    → IsTrue single ↔ IsShown s n slot place → IsLookedUp s n slot place single
looked_up s n slot None single found none shown = record { inside = λ place e. absurd (cc (e)); shows = shown.0; always = λ some is. shown.1 none }
looked_up s n slot (Some place) single found none shown = record {
  inside = inside_found s n slot place found;
  shows = shown.0;
  always = λ some is. shown.1 (λ l here. is l here ∙ same_at some place l (sym (is place.line.0 found.inside) ∙ found.shown));
}

-- what is found of the slots of the first k numbers
pub record IndexedBelow (s : SliceState) (places : List (Option RequestPlace)) (single : Bool) (k : ℕ) : Type 0 where
  pub wide : length places ≡ 64
  pub low : single ≡ true → AreSlotsLow s
  pub shows : single ≡ true → (n : ℕ) (slot : Slot) → n < 8 → slot.0 < 8 → place_number n slot < k → IsShown s n slot (place_of places n slot)
  pub in_range : (n : ℕ) (slot : Slot) → n < 8 → slot.0 < 8 → place_number n slot < k → IsInside s (place_of places n slot)
  pub always : (some : List (Option RequestPlace)) → Indexed s some → single ≡ true

abbrev no_place : Option RequestPlace
no_place = None

pub none_indexed : (s : SliceState) (single : Bool) → IsTrue single ↔ AreSlotsLow s → IndexedBelow s no_places single 0
none_indexed s single low = record {
  wide = length-replicate 64 no_place;
  low = low.0;
  shows = λ t n slot agent number below. absurd (omega (arith, below));
  in_range = λ n slot agent number below. absurd (omega (arith, below));
  always = λ some index. low.1 (λ l here n agent slot high. index.numbers.unused n slot l agent high here);
}

-- the slot of a number
pub record IsNumber (k n : ℕ) (slot : Slot) : Type 0 where
  pub agent : n < 8
  pub number : slot.0 < 8
  pub is : place_number n slot ≡ k

pub number_of : (k n : ℕ) (slot : Slot) → k < 64 → n ≡ k / 8 → slot.0 ≡ k % 8 → IsNumber k n slot
number_of k n slot low agent number = record { agent = omega (arith, low, agent); number = omega (arith, number); is = omega (arith, agent, number) }

-- of what was found, what holds of each slot of a lower number and of this one
one_more : (s : SliceState) (places : List (Option RequestPlace)) (k n : ℕ) (slot : Slot) (place : Option RequestPlace) (P : ℕ → Slot → Option RequestPlace → Type 0) → length places ≡ 64 → IsNumber k n slot
    → ((m : ℕ) (other : Slot) → m < 8 → other.0 < 8 → place_number m other < k → P m other (place_of places m other)) → P n slot place
    → (m : ℕ) (other : Slot) → m < 8 → other.0 < 8 → place_number m other < k + 1 → P m other (place_of (with_place places n slot place) m other)
one_more s places k n slot place P wide at below here m other agent number low = go (place_number m other == k) refl
  where
    go : (b : Bool) → (place_number m other == k) ≡ b → P m other (place_of (with_place places n slot place) m other)
    go true same =
        let is : place_number m other ≡ k = eqb-true (place_number m other) k same in
        let own : n ≡ m = omega (arith, is, at.is, at.number, number) in
        let slot_is : slot ≡ other = same_slot slot other (eq-eqb slot.0 other.0 (omega (arith, is, at.is, at.number, number))) in
        subst (λ (x : Slot). P m x (place_of (with_place places n slot place) m x)) slot_is
        (subst (λ (i : ℕ). P i slot (place_of (with_place places n slot place) i slot)) own
        (subst (P n slot) (sym (with_same places n slot place wide at.agent at.number)) here))
    go false apart =
        let below' : place_number m other < k = grind (arith, low, apart) in
        subst (P m other) (sym (with_other places n m slot other place (λ own same. absurd (omega (arith, below', at.is, own, same))))) (below m other agent number below')

pub next_indexed : (s : SliceState) (places after : List (Option RequestPlace)) (before here single : Bool) (k n : ℕ) (slot : Slot) (place : Option RequestPlace) → IsNumber k n slot → IndexedBelow s places before k
    → IsLookedUp s n slot place here → after ≡ with_place places n slot place → single ≡ (before && here) → IndexedBelow s after single (k + 1)
next_indexed s places after before here single k n slot place at so_far looked places_are single_is =
    subst (λ (xs : List (Option RequestPlace)). IndexedBelow s xs single (k + 1)) (sym places_are) (record {
      wide = with_wide places n slot place so_far.wide;
      low = λ t. so_far.low (parts t).0;
      shows = λ t. one_more s places k n slot place (λ m other found. IsShown s m other found) so_far.wide at (so_far.shows (parts t).0) (looked.shows (parts t).1);
      in_range = one_more s places k n slot place (λ m other found. IsInside s found) so_far.wide at so_far.in_range looked.inside;
      always = λ some index. single_is ∙ and_from before here (so_far.always some index) (looked.always (place_of some n slot) (index.shows n slot at.agent at.number));
    })
  where
    parts : single ≡ true → (before ≡ true) × (here ≡ true)
    parts t = and_parts before here (sym single_is ∙ t)

-- all slots were looked up
pub all_indexed : (s : SliceState) (places : List (Option RequestPlace)) (single : Bool) (k : ℕ) → 64 ≡ k → IndexedBelow s places single k → single ≡ true → Indexed s places
all_indexed s places single k all found t = record {
  wide = found.wide;
  shows = λ n slot agent number. found.shows t n slot agent number (omega (arith, all, agent, number));
  numbers = record { unused = λ n slot l agent high here. found.low t l here n agent slot high };
  in_range = λ n slot agent number. found.in_range n slot agent number (omega (arith, all, agent, number));
}

-- an index is one of lines, whatever the journal
pub indexed_with : (a b : SliceState) (places : List (Option RequestPlace)) → a ≡ record b { journal = a.journal } → Indexed b places → Indexed a places
indexed_with a b places same index = subst (λ (s : SliceState). Indexed s places) (sym same) (record {
  wide = index.wide;
  shows = index.shows;
  numbers = record { unused = index.numbers.unused };
  in_range = index.in_range;
})

-- what was tested makes a slice, and where no index stands there is none
pub loaded : (config : Sizes) (index : ℕ) (given one other : List LineState) (journal : Log) (places : List (Option RequestPlace)) (fits : Bool) → one ≡ given → other ≡ given
    → IsTrue fits ↔ SliceKept (slice_with config index one journal) → fits ≡ true → Indexed (lines_alone config index other) places → IsSliceIndexed config index given journal places
loaded config index given one other journal places fits one_is other_is tested t found = (
  subst (λ (lines : List LineState). SliceKept (slice_with config index lines journal)) one_is (tested.0 t),
  indexed_with (slice_with config index given journal) (lines_alone config index given) places refl (subst (λ (lines : List LineState). Indexed (lines_alone config index lines) places) other_is found),
)

pub not_loaded : (config : Sizes) (index : ℕ) (given other : List LineState) (journal : Log) → other ≡ given → ((places : List (Option RequestPlace)) → Indexed (lines_alone config index other) places → IsTrue false)
    → IsLoadable (slice_with config index given journal) → IsTrue false
not_loaded config index given other journal other_is none slice =
    none slice.places (subst (λ (lines : List LineState). Indexed (lines_alone config index lines) slice.places) (sym other_is)
    (indexed_with (lines_alone config index given) (slice_with config index given journal) slice.places refl slice.indexed))
