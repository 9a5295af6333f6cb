-- The index of a slice: in the opening state, after every action that isn't refused, and beside the walk over
-- the lines.
use Rattle.std.proofs.Common.{◌≡◌, ◌≢◌, ℕ, ◌<◌, ◌≤◌, nat_lt, List, Bool, true, false, ◌==◌, All, Option, Some, None, is_some, get_or, replicate, refl, sym, ◌∙◌, ap, subst, if◌then◌else◌, arith, ⊎_elim}
use Rattle.std.proofs.lemmas.List.{get_or-replicate, get_or_default}
use Rattle.std.proofs.lemmas.List.Folds.{list_any_at, list_any_none}
use Rattle.std.proofs.Math.ListN.{length-replicate}
use Rattle.std.proofs.lemmas.Bool.{cases_eq, eq-eqb, ne_eqb}
use Rattle.chi_flit.specs.declared.numbers.Line.{Line}
use Rattle.chi_flit.specs.declared.numbers.Slot.{Slot}
use Rattle.chi_flit.specs.declared.action.Action.{Action}
use Rattle.chi_flit.specs.declared.action.Step.{Step}
use Rattle.chi_flit.specs.declared.action.Step.TheVariants as steps
use Rattle.chi_journal.specs.Journal.{Log, opening_log}
use Rattle.chi_flit.specs.Config.{Sizes, are_in_limits}
use Rattle.chi_slice.specs.declared.places.RequestPlace.{RequestPlace}
use Rattle.chi_line.specs.declared.position.Position.{Position}
use Rattle.chi_line.specs.LineState.{LineState, opening_line}
use Rattle.chi_rnline.specs.Rn.{no_line}
use Rattle.chi_line.proofs.Frame.{nothing_waiting}
use Rattle.chi_line.specs.Step.{after, is_slot, is_step_in_range, line_uses, issued_slot}
use Rattle.chi_slice.specs.Slice.{SliceKept, SliceState, slice_after, is_line_in_range, last_of, line, line_in_row, opening_slice, row_count, row_of_line, slice_with, uses, uses_named}
use Rattle.chi_slice.specs.Index.{Indexed, IsInside, SlotsInRange, IsShown, at_line, moved_in, no_places, place_number, place_of, place_of_position}
use Rattle.chi_line.specs.Places.{position_at}
use Rattle.chi_line.specs.Moves.{moved_slot, moved_to}
use Rattle.chi_line.proofs.MoveLaw.{Moved}
use Rattle.chi_slice.proofs.Acts.{Allowed, kept_acted, named_idle, unused_at}
use Rattle.chi_line.proofs.RequestMoves.{was_there}
use Rattle.chi_slice.proofs.Indexes.{in_eight, moved_here, moved_other, moved_wide}
use Rattle.chi_line.proofs.EqualSlots.{same_slot}
use Rattle.chi_slice.proofs.Rows.{InRange, RowLine, in_range, row_in_slice, row_line}
use Rattle.chi_slice.proofs.Slices.{all_with, opening_at}
use Rattle.chi_slice.proofs.SliceMoves.{moved_at}
use Rattle.chi_line.proofs.Positions.{shows_unused, shows_used, unused_shows}
use Rattle.chi_slice.proofs.Refusing.{conditions_of}

-- the line of an action, before it and after
abbrev pub line_before : SliceState → Action → LineState
line_before s action = line s action.line.0

abbrev pub line_after : SliceState → Action → LineState
line_after s action = after s.config.profile (line_before s action) action

-- the place of what a line shows says the same of that line, and nothing of others
placed_here : (line : Line) (o : Option Position) → at_line (place_of_position line o) line.0 ≡ o
placed_here line None = refl
placed_here line (Some at) = ap (λ (b : Bool). if b then Some at else None) (eq-eqb line.0 line.0 refl)

placed_elsewhere : (line : Line) (o : Option Position) (l : ℕ) → l ≢ line.0 → at_line (place_of_position line o) l ≡ None
placed_elsewhere line None l apart = refl
placed_elsewhere line (Some at) l apart = ap (λ (b : Bool). if b then Some at else None) (ne_eqb line.0 l (λ same. apart (sym same)))

-- a place that says something of a line says nothing of others
one_line : (o : Option RequestPlace) (l other : ℕ) → (at_line o l ≡ None → ⊥) → other ≢ l → at_line o other ≡ None
one_line None l other shows apart = refl
one_line (Some place) l other shows apart = go (place.line.0 == l) refl shows
  where
    go : (b : Bool) → (place.line.0 == l) ≡ b → ((if b then Some place.at else None) ≡ None → ⊥) → (if place.line.0 == other then Some place.at else None) ≡ None
    go true same shows = ap (λ (b : Bool). if b then Some place.at else None) (differ (place.line.0) l other same apart)
      where
        differ : (p l other : ℕ) → (p == l) ≡ true → other ≢ l → (p == other) ≡ false
        differ p l other same apart = grind arith
    go false other_line shows = absurd (shows refl)

-- a slot that an Issue names is in use at no line
unused_line : (s : SliceState) (n l : ℕ) (slot : Slot) → SliceKept s → is_line_in_range s l ≡ true → uses s n slot ≡ false → line_uses (line s l) n slot ≡ false
unused_line s n l slot k here free = unused_at s n slot (row_of_line s l) free (subst (λ (m : ℕ). row_of_line s l < m) (sym k.rows) (row_in_slice s l k here))

named_unused : (s : SliceState) (n l : ℕ) (named : Option Slot) (slot : Slot) → SliceKept s → is_line_in_range s l ≡ true → uses_named s n named ≡ false → is_slot named slot ≡ true → line_uses (line s l) n slot ≡ false
named_unused s n l None slot k here idle is = absurd (cc (is))
named_unused s n l (Some own) slot k here idle is = unused_line s n l slot k here (subst (λ (x : Slot). uses s n x ≡ false) (same_slot own slot is) idle)

-- an index that follows an action on a line: the slot that its step moves has the place that it is moved to
abbrev pub followed_by : List (Option RequestPlace) → LineState → Action → List (Option RequestPlace)
followed_by places old action = moved_in places action.agent.0 action.line (moved_slot old action.agent action.step) (moved_to old action.agent action.step)

-- the index that followed an action
abbrev pub index_after : SliceState → List (Option RequestPlace) → Action → List (Option RequestPlace)
index_after s places action = followed_by places (line_before s action) action

-- the slot that an action moves, and where to
abbrev slot_moved : SliceState → Action → Option Slot
slot_moved s action = moved_slot (line_before s action) action.agent action.step

abbrev goes_to : SliceState → Action → Option Position
goes_to s action = moved_to (line_before s action) action.agent action.step

-- what an action that isn't refused finds
record Found (s : SliceState) (places : List (Option RequestPlace)) (action : Action) : Type 0 where
  inside : InRange s action
  slice : SliceKept s
  may : Allowed s action
  moved : Moved s.config.profile (line_before s action) action.agent action.step
  index : Indexed s places

-- all lines show of a slot what its place says, and that is at one of them
abbrev Placed : SliceState → ℕ → Slot → Option RequestPlace → Type 0
Placed s n slot place = IsShown s n slot place × IsInside s place

-- a place is at a line of the slice
placed_line : (line : Line) (o : Option Position) (place : RequestPlace) → place_of_position line o ≡ Some place → line ≡ place.line
placed_line line None place is = absurd (cc (is))
placed_line line (Some at) place is = cc (is)

-- where the line shows of a slot what it showed, the slot keeps its place
as_before : (s : SliceState) (action : Action) (n : ℕ) (slot : Slot) (place : Option RequestPlace) → SliceKept s → InRange s action → position_at (line_after s action) n slot ≡ position_at (line_before s action) n slot → Placed s n slot place
    → Placed (slice_after s action) n slot place
as_before s action n slot place k inside same had =
    (all_with s action.line.0 (line_after s action) (λ l x. position_at x n slot ≡ at_line place l) k inside.line (same ∙ had.0 action.line.0 inside.line) (λ other there apart. had.0 other there), had.1)

-- where no other line shows it, it has the place that the line shows
as_moved : (s : SliceState) (action : Action) (n : ℕ) (slot : Slot) (to : Option Position) → SliceKept s → InRange s action → position_at (line_after s action) n slot ≡ to
    → ((l : ℕ) → is_line_in_range s l ≡ true → l ≢ action.line.0 → position_at (line s l) n slot ≡ None) → Placed (slice_after s action) n slot (place_of_position action.line to)
as_moved s action n slot to k inside left nowhere = (
  all_with s action.line.0 (line_after s action) (λ l x. position_at x n slot ≡ at_line (place_of_position action.line to) l) k inside.line (left ∙ sym (placed_here action.line to))
      (λ other there apart. nowhere other there apart ∙ sym (placed_elsewhere action.line to other apart)),
  λ place is. subst (λ (x : Line). is_line_in_range s x.0 ≡ true) (placed_line action.line to place is) inside.line,
)

-- a slot that is moved, or that an Issue names, is in use at no other line
shows_not : (s : SliceState) (places : List (Option RequestPlace)) (action : Action) (slot : Slot) (l : ℕ) → Found s places action → slot.0 < 8 → is_line_in_range s l ≡ true → l ≢ action.line.0
    → is_slot (slot_moved s action) slot ≡ true → position_at (line s l) action.agent.0 slot ≡ None
shows_not s places action slot l f at there apart is = go (is_slot (issued_slot action.step) slot) refl
  where
    go : (b : Bool) → is_slot (issued_slot action.step) slot ≡ b → position_at (line s l) action.agent.0 slot ≡ None
    go true own = unused_shows (line s l) action.agent.0 slot (named_unused s action.agent.0 l (issued_slot action.step) slot f.slice there (named_idle s action f.may) own)
    go false none =
        f.index.shows action.agent.0 slot f.inside.agent at l there
        ∙ one_line (place_of places action.agent.0 slot) action.line.0 l
        (λ (nothing : at_line (place_of places action.agent.0 slot) action.line.0 ≡ None).
        was_there (conditions_of s action) (line_before s action) action.agent action.step slot f.may.by_line none is
        (sym (f.moved.found slot is) ∙ (f.index.shows action.agent.0 slot f.inside.agent at action.line.0 f.inside.line ∙ nothing)))
        apart

-- a slot that isn't moved
stays_placed : (s : SliceState) (places : List (Option RequestPlace)) (action : Action) (m : ℕ) (slot : Slot) → Found s places action → m < 8 → slot.0 < 8 → (m ≡ action.agent.0 → is_slot (slot_moved s action) slot ≡ true → ⊥)
    → position_at (line_after s action) m slot ≡ position_at (line_before s action) m slot → Placed (slice_after s action) m slot (place_of (index_after s places action) m slot)
stays_placed s places action m slot f low at apart same =
    subst (Placed (slice_after s action) m slot) (sym (moved_other places action.agent.0 m action.line (slot_moved s action) (goes_to s action) slot apart))
    (as_before s action m slot (place_of places m slot) f.slice f.inside same (f.index.shows m slot low at, f.index.in_range m slot low at))

-- one of the agent's own
own_placed : (s : SliceState) (places : List (Option RequestPlace)) (action : Action) (slot : Slot) → Found s places action → slot.0 < 8 → Placed (slice_after s action) action.agent.0 slot (place_of (index_after s places action) action.agent.0 slot)
own_placed s places action slot f at = go (is_slot (slot_moved s action) slot) refl
  where
    go : (b : Bool) → is_slot (slot_moved s action) slot ≡ b → Placed (slice_after s action) action.agent.0 slot (place_of (index_after s places action) action.agent.0 slot)
    go true is =
        subst (Placed (slice_after s action) action.agent.0 slot) (sym (moved_here places action.agent.0 action.line (slot_moved s action) (goes_to s action) slot f.index.wide f.inside.agent at is))
        (as_moved s action action.agent.0 slot (goes_to s action) f.slice f.inside (f.moved.left slot is) (λ l there apart. shows_not s places action slot l f at there apart is))
    go false is = stays_placed s places action action.agent.0 slot f f.inside.agent at (λ own same. cc (is, same)) (f.moved.stay slot is)

all_placed : (s : SliceState) (places : List (Option RequestPlace)) (action : Action) (m : ℕ) (slot : Slot) → Found s places action → m < 8 → slot.0 < 8 → Placed (slice_after s action) m slot (place_of (index_after s places action) m slot)
all_placed s places action m slot f low at = ⊎_elim
    (λ (own : m ≡ action.agent.0). subst (λ (n : ℕ). Placed (slice_after s action) n slot (place_of (index_after s places action) n slot)) (sym own) (own_placed s places action slot f at))
    (λ (apart : m ≢ action.agent.0). stays_placed s places action m slot f low at (λ own same. apart own) (f.moved.others m slot low apart))
    (cases_eq m action.agent.0)

-- a slot above 7 is moved by no step, and so it comes into use at no line
other_number : (own slot : Slot) → nat_lt own.0 8 ≡ true → 8 ≤ slot.0 → (own.0 == slot.0) ≡ false
other_number own slot low high = grind (arith, low, high)

named_low : (step : Step) (slot : Slot) → is_step_in_range step ≡ true → 8 ≤ slot.0 → is_slot (issued_slot step) slot ≡ false
named_low (steps.Issue kind own) slot inside high = other_number own slot inside high
named_low other slot inside high = refl

stays_high : (s : SliceState) (places : List (Option RequestPlace)) (action : Action) (m : ℕ) (slot : Slot) → Found s places action → m < 8 → 8 ≤ slot.0
    → position_at (line_before s action) m slot ≡ None → position_at (line_after s action) m slot ≡ None
stays_high s places action m slot f low high none = ⊎_elim
    (λ (own : m ≡ action.agent.0). subst (λ (n : ℕ). position_at (line_after s action) n slot ≡ None) (sym own) (go (is_slot (slot_moved s action) slot) refl (subst (λ (n : ℕ). position_at (line_before s action) n slot ≡ None) own none)))
    (λ (apart : m ≢ action.agent.0). f.moved.others m slot low apart ∙ none)
    (cases_eq m action.agent.0)
  where
    go : (b : Bool) → is_slot (slot_moved s action) slot ≡ b → position_at (line_before s action) action.agent.0 slot ≡ None → position_at (line_after s action) action.agent.0 slot ≡ None
    go true is here = absurd (was_there (conditions_of s action) (line_before s action) action.agent action.step slot f.may.by_line (named_low action.step slot f.inside.step high) is (sym (f.moved.found slot is) ∙ here))
    go false other here = f.moved.stay slot other ∙ here

slots_acted : (s : SliceState) (places : List (Option RequestPlace)) (action : Action) → Found s places action → SlotsInRange (slice_after s action)
slots_acted s places action f = record {
  unused = λ m slot l low high there. shows_unused (line (slice_after s action) l) (last_of (slice_after s action) l) m slot low ((kept_acted s action f.slice f.may).lines l there)
      (all_with s action.line.0 (line_after s action) (λ k x. position_at x m slot ≡ None) f.slice f.inside.line
      (stays_high s places action m slot f low high (unused_shows (line_before s action) m slot (f.index.numbers.unused m slot action.line.0 low high f.inside.line)))
      (λ other here apart. unused_shows (line s other) m slot (f.index.numbers.unused m slot other low high here)) l there);
}

pub indexed_acted : (s : SliceState) (places : List (Option RequestPlace)) (action : Action) → SliceKept s → Indexed s places → Allowed s action → Indexed (slice_after s action) (index_after s places action)
indexed_acted s places action k i may =
    let f : Found s places action = record { inside = in_range s action k may.inside; slice = k; may = may; moved = moved_at s action k may; index = i } in
    record {
      wide = moved_wide places action.agent.0 action.line (slot_moved s action) (goes_to s action) i.wide;
      shows = λ m slot low at. (all_placed s places action m slot f low at).0;
      numbers = slots_acted s places action f;
      in_range = λ m slot low at. (all_placed s places action m slot f low at).1;
    }

pub opening_unused : (n : ℕ) (slot : Slot) → n < 8 → line_uses opening_line n slot ≡ false
opening_unused n slot low = rw (get_or-replicate 8 n no_line no_line low, get_or-replicate 8 n nothing_waiting nothing_waiting low) refl

-- the index of an opening slice
abbrev no_place : Option RequestPlace
no_place = None

nothing_placed : (n : ℕ) (slot : Slot) → n < 8 → slot.0 < 8 → place_of no_places n slot ≡ None
nothing_placed n slot low at =
    ap (λ (b : Bool). if b then get_or no_places (place_number n slot) None else None) (in_eight n slot low at) ∙ get_or-replicate 64 (place_number n slot) no_place no_place (omega (arith, low, at))

opening_shows : (n : ℕ) (slot : Slot) → n < 8 → position_at opening_line n slot ≡ None
opening_shows n slot low = unused_shows opening_line n slot (opening_unused n slot low)

opening_of : (config : Sizes) (index : ℕ) → are_in_limits config ≡ true → index < config.slices → Indexed (opening_slice config index) no_places
opening_of config index limits inside = record {
  wide = length-replicate 64 no_place;
  shows = λ n slot low at l here.
      ap (λ (x : LineState). position_at x n slot) (opening_at config index l limits inside here) ∙ (opening_shows n slot low ∙ sym (ap (λ (p : Option RequestPlace). at_line p l) (nothing_placed n slot low at)));
  numbers = record { unused = λ n slot l low high here. ap (λ (x : LineState). line_uses x n slot) (opening_at config index l limits inside here) ∙ opening_unused n slot low };
  in_range = λ n slot low at place is. absurd (cc (is, nothing_placed n slot low at));
}

pub indexed_opening : (config : Sizes) (index : ℕ) (lines : List LineState) (journal : Log) (places : List (Option RequestPlace)) → are_in_limits config ≡ true → index < config.slices
    → lines ≡ replicate (row_count config index) opening_line → places ≡ no_places → journal ≡ opening_log config.lines config.journal → Indexed (slice_with config index lines journal) places
indexed_opening config index lines journal places limits inside ls p j =
    subst (λ (xs : List LineState). Indexed (slice_with config index xs journal) places) (sym ls)
    (subst (λ (log : Log). Indexed (record (opening_slice config index) { journal = log }) places) (sym j)
    (subst (Indexed (opening_slice config index)) (sym p) (opening_of config index limits inside)))

-- a slot has a place exactly where a line uses it
pub placed_uses : (s : SliceState) (places : List (Option RequestPlace)) (n : ℕ) (slot : Slot) → SliceKept s → Indexed s places → n < 8 → slot.0 < 8 → is_some (place_of places n slot) ≡ uses s n slot
placed_uses s places n slot k i low at = go (place_of places n slot) refl
  where
    nowhere : place_of places n slot ≡ None → All (λ l. line_uses l n slot ≡ false) s.lines
    nowhere none row d inside =
        let l : RowLine s row = row_line s row k (subst (λ (m : ℕ). row < m) k.rows inside) in
        subst (λ (x : LineState). line_uses x n slot ≡ false) (get_or_default s.lines row opening_line d inside)
        (subst (λ (r : ℕ). line_uses (line_in_row s r) n slot ≡ false) l.row_is
        (shows_unused (line s l.line) (last_of s l.line) n slot low (k.lines l.line l.here) (i.shows n slot low at l.line l.here ∙ ap (λ (p : Option RequestPlace). at_line p l.line) none)))

    go : (p : Option RequestPlace) → place_of places n slot ≡ p → is_some p ≡ uses s n slot
    go None is = sym (list_any_none (λ l. line_uses l n slot) s.lines (nowhere is))
    go (Some place) is =
        let here : is_line_in_range s place.line.0 ≡ true = i.in_range n slot low at place is in
        sym (list_any_at (λ l. line_uses l n slot) s.lines (row_of_line s place.line.0) opening_line (subst (λ (m : ℕ). row_of_line s place.line.0 < m) (sym k.rows) (row_in_slice s place.line.0 k here))
        (shows_used (line s place.line.0) n slot place.at (i.shows n slot low at place.line.0 here ∙ (ap (λ (p : Option RequestPlace). at_line p place.line.0) is ∙ placed_here place.line (Some place.at)))))
