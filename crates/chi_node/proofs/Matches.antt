-- What the place that a slice shows of a slot says of the slot at each of the slice's lines.
use Rattle.std.proofs.Common.{◌≡◌, ◌≢◌, ℕ, ◌<◌, ◌≤◌, ◌==◌, ◌&&◌, Bool, true, false, not, ◌↔◌, Option, Some, None, is_some, refl, sym, ◌∙◌, ap, if◌then◌else◌, arith}
use Rattle.std.proofs.lemmas.Bool.{and_from, and_parts}
use Rattle.std.specs.Prelude.{IsTrue}
use Rattle.chi_flit.specs.declared.numbers.Slot.{Slot}
use Rattle.chi_slice.specs.declared.places.RequestPlace.{RequestPlace}
use Rattle.chi_slice.specs.Words.{is_of_type, is_slice_count, position_at, Position}
use Rattle.chi_slice.specs.Index.{HasType, IsInside, IsShown, at_line, place_of_position}
use Rattle.chi_slice.specs.Slice.{SliceKept, SliceState, is_line_in_range, last_of, line}
use Rattle.chi_slice.proofs.Below.{AllBelow, all_below}
use Rattle.chi_slice.proofs.Rows.{InLimits, in_limits}
use Rattle.chi_slice.proofs.SlotTypes.{unused_type}
use Rattle.chi_credit.specs.declared.slot.SlotRecord.{SlotRecord}
use Rattle.chi_credit.specs.Account.{slot_record_at}
use Rattle.chi_node.specs.Requester.{RequesterState}
use Rattle.chi_node.specs.Agree.{MatchesRecord, is_said_in, said_place, position_of_record, position_of_state}

-- a number that isn't another
pub apart : (a b : ℕ) → a ≢ b → (a == b) ≡ false
apart a b h = grind arith

pub itself : (n : ℕ) → (n == n) ≡ true
itself n = grind arith

pub same_number : (a b : ℕ) → (a == b) ≡ true → a ≡ b
same_number a b h = grind (arith, h)

-- where something is at a line, and nowhere else
abbrev pub shown_at : ℕ → Option Position → ℕ → Option Position
shown_at own at l = if own == l then at else None

pub shown_here : (own : ℕ) (at : Option Position) → shown_at own at own ≡ at
shown_here own at = ap (λ (b : Bool). if b then at else None) (itself own)

abbrev nowhere : Option Position
nowhere = None

either_way : (b : Bool) → (if b then nowhere else nowhere) ≡ nowhere
either_way true = refl
either_way false = refl

pub shown_nothing : (own l : ℕ) → shown_at own None l ≡ None
shown_nothing own l = either_way (own == l)

pub shown_else : (own l : ℕ) (at : Option Position) → own ≢ l → shown_at own at l ≡ None
shown_else own l at other = ap (λ (b : Bool). if b then at else None) (apart own l other)

pub shown_some : (own l : ℕ) (at : Option Position) (found : Position) → shown_at own at l ≡ Some found → (own ≡ l) × (at ≡ Some found)
shown_some own l at found is = go (own == l) refl is
  where
    go : (b : Bool) → (own == l) ≡ b → (if b then at else None) ≡ Some found → (own ≡ l) × (at ≡ Some found)
    go true same is = (grind (arith, same), is)
    go false other is = absurd (cc (is))

-- where a record says that its request is, each line shows it
abbrev pub ShowsSaid : SliceState → ℕ → Slot → SlotRecord → Type 0
ShowsSaid s n slot x = (l : ℕ) → is_line_in_range s l ≡ true → position_at (line s l) n slot ≡ position_of_record x l

placed_shows : (s : SliceState) (n : ℕ) (slot : Slot) (x : SlotRecord) (place : Option RequestPlace) → IsShown s n slot place → place ≡ said_place x → ShowsSaid s n slot x
placed_shows s n slot x place seen same l there = seen l there ∙ (ap (λ (o : Option RequestPlace). at_line o l) same ∙ says (position_of_state x.state x.answered))
  where
    says : (at : Option Position) → at_line (place_of_position x.line at) l ≡ shown_at x.line.0 at l
    says None = sym (shown_nothing x.line.0 l)
    says (Some at) = refl

unplaced_shows : (s : SliceState) (n : ℕ) (slot : Slot) (x : SlotRecord) → IsShown s n slot None → is_said_in s x ≡ false → ShowsSaid s n slot x
unplaced_shows s n slot x seen out l there = seen l there ∙ says (position_of_state x.state x.answered) out
  where
    says : (at : Option Position) → (is_some at && is_line_in_range s x.line.0) ≡ false → None ≡ shown_at x.line.0 at l
    says None out = sym (shown_nothing x.line.0 l)
    says (Some at) out = sym (shown_else x.line.0 l (Some at) (λ (e : x.line.0 ≡ l). cc (there, out, ap (is_line_in_range s) e)))

-- and so it says, where each line shows it
placed_said : (s : SliceState) (n : ℕ) (slot : Slot) (x : SlotRecord) (p : RequestPlace) (at : Option Position) → IsShown s n slot (Some p) → is_line_in_range s p.line.0 ≡ true
    → ((l : ℕ) → is_line_in_range s l ≡ true → position_at (line s l) n slot ≡ shown_at x.line.0 at l) → Some p ≡ place_of_position x.line at
placed_said s n slot x p at seen there shows =
    let own : (x.line.0 ≡ p.line.0) × (at ≡ Some p.at) = shown_some x.line.0 p.line.0 at p.at (sym (shows p.line.0 there) ∙ (seen p.line.0 there ∙ shown_here p.line.0 (Some p.at))) in
    sym (ap (place_of_position x.line) own.1 ∙ (λ i. Some (record { line = record { 0 = own.0 i }; at = p.at })))

unplaced_said : (s : SliceState) (n : ℕ) (slot : Slot) (x : SlotRecord) (at : Option Position) (here : Bool) → IsShown s n slot None → here ≡ is_line_in_range s x.line.0
    → ((l : ℕ) → is_line_in_range s l ≡ true → position_at (line s l) n slot ≡ shown_at x.line.0 at l) → (is_some at && here) ≡ false
unplaced_said s n slot x None here seen is shows = refl
unplaced_said s n slot x (Some at) false seen is shows = refl
unplaced_said s n slot x (Some at) true seen is shows =
    let nothing : position_at (line s x.line.0) n slot ≡ None = seen x.line.0 (sym is) in
    let something : position_at (line s x.line.0) n slot ≡ Some at = shows x.line.0 (sym is) ∙ shown_here x.line.0 (Some at) in
    absurd (cc (nothing, something))

-- each slot, by its number
abbrev pub MatchesAt : SliceState → RequesterState → ℕ → Type 0
MatchesAt s r k = MatchesRecord s r.number (record { 0 = k }) (slot_record_at r.slots k)

-- all eight
pub all_match : (s : SliceState) (r : RequesterState) (n : ℕ) (found : Bool) → n ≡ 8 → IsTrue found ↔ AllBelow (MatchesAt s r) n → IsTrue found ↔ ((slot : Slot) → slot.0 < 8 → MatchesRecord s r.number slot (slot_record_at r.slots slot.0))
all_match s r n found eight so_far =
    let all = all_below (MatchesAt s r) n found eight so_far in
    (λ t slot low. all.0 t slot.0 low, λ each. all.1 (λ k low. each (record { 0 = k }) low))

-- the kinds of a slot that is shown nowhere take every credit type
type_at : (s : SliceState) (n l : ℕ) (slot : Slot) (x : SlotRecord) → SliceKept s → n < 8 → MatchesRecord s n slot x → is_line_in_range s l ≡ true → (at : Option Position) → position_at (line s l) n slot ≡ at → is_of_type s.config.profile x.credit (line s l) n slot ≡ true
type_at s n l slot x k low t there None nothing = unused_type s.config.profile x.credit (last_of s l) (line s l) n slot low (k.lines l there) nothing
type_at s n l slot x k low t there (Some at) shows = (t.lines l there).type at shows

-- a slot with a place in the slice matches its record where the record says that place, and has the type there
is_place : (s : SliceState) (n : ℕ) (slot : Slot) (x : SlotRecord) (p : RequestPlace) → IsShown s n slot (Some p) → IsInside s (Some p) → MatchesRecord s n slot x → Some p ≡ said_place x
is_place s n slot x p seen inside t = placed_said s n slot x p (position_of_state x.state x.answered) seen (inside p refl) (λ l there. (t.lines l there).place)

pub matches_placed : (s : SliceState) (n : ℕ) (slot : Slot) (x : SlotRecord) (p : RequestPlace) (fit typed : Bool) → SliceKept s → n < 8 → IsShown s n slot (Some p) → IsInside s (Some p)
    → IsTrue fit ↔ (Some p ≡ said_place x) → IsTrue typed ↔ HasType s x.credit n slot → IsTrue (fit && typed) ↔ MatchesRecord s n slot x
matches_placed s n slot x p fit typed k low seen inside fits types = (
  λ h. let parts = and_parts fit typed h in record { lines = λ l there. record { place = placed_shows s n slot x (Some p) seen (fits.0 parts.0) l there; type = λ at _. types.0 parts.1 l there } },
  λ t. and_from fit typed (fits.1 (is_place s n slot x p seen inside t)) (types.1 (λ l there. type_at s n l slot x k low t there (position_at (line s l) n slot) refl)),
)

pub matches_elsewhere : (s : SliceState) (n : ℕ) (slot : Slot) (x : SlotRecord) (p : RequestPlace) (fit : Bool) → IsShown s n slot (Some p) → IsInside s (Some p) → IsTrue fit ↔ (Some p ≡ said_place x) → fit ≡ false
    → IsTrue fit ↔ MatchesRecord s n slot x
matches_elsewhere s n slot x p fit seen inside fits none = (λ h. absurd (cc (h, none)), λ t. fits.1 (is_place s n slot x p seen inside t))

-- a slot without one, where the record says no place in the slice
pub matches_unplaced : (s : SliceState) (n : ℕ) (slot : Slot) (x : SlotRecord) (said : Bool) → IsShown s n slot None → said ≡ is_said_in s x → IsTrue (not said) ↔ MatchesRecord s n slot x
matches_unplaced s n slot x said seen is = (
  λ h. record {
    lines = λ l there. record {
      place = unplaced_shows s n slot x seen (sym is ∙ is_not said h) l there;
      type = λ at shows. absurd (cc (seen l there, shows));
    };
  },
  λ t. ap not (is ∙ unplaced_said s n slot x (position_of_state x.state x.answered) (is_line_in_range s x.line.0) seen refl (λ l there. (t.lines l there).place)),
)
  where
    is_not : (b : Bool) → IsTrue (not b) → b ≡ false
    is_not true h = absurd (cc (h))
    is_not false h = refl

-- a slice is one of eight
pub few_slices : (n : ℕ) → is_slice_count n ≡ true → n ≤ 8
few_slices n h = grind (arith, h)

pub index_low : (s : SliceState) → SliceKept s → s.index < 8
index_low s k = let l : InLimits s.config = in_limits s.config k.config in omega (arith, k.index, few_slices s.config.slices l.count)
