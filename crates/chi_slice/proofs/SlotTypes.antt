-- The credit type of a slot: only the line of its place keeps a kind of its request.
use Rattle.std.proofs.Common.{◌≡◌, ℕ, ◌<◌, Bool, true, false, ◌==◌, List, Option, Some, None, refl, sym, ◌∙◌, ap, subst, if◌then◌else◌}
use Rattle.std.proofs.lemmas.Bool.{eqb-true}
use Rattle.chi_flit.specs.declared.numbers.Slot.{Slot}
use Rattle.chi_flit.specs.declared.credit.CreditType.{CreditType}
use Rattle.chi_flit.specs.declared.credit.Profile.{Profile}
use Rattle.chi_flit.specs.declared.message.Request.{Request}
use Rattle.chi_rnline.specs.declared.pending.Pending.{Pending}
use Rattle.chi_homeline.specs.Home.{waiting_of}
use Rattle.chi_slice.specs.declared.places.RequestPlace.{RequestPlace}
use Rattle.chi_line.specs.LineState.{LineState, rn_of, cells_of}
use Rattle.chi_line.specs.Kept.{Kept, LaneKept, lane}
use Rattle.chi_line.specs.Step.{is_slot, pending_slot}
use Rattle.chi_slice.specs.Slice.{SliceState, SliceKept, last_of, line}
use Rattle.chi_slice.specs.Index.{HasType, IsInside, IsShown, is_slot_of, typed_at}
use Rattle.chi_line.specs.Places.{position_at}
use Rattle.chi_line.specs.Types.{has_type, is_of_type, pending_kind_of, requested_kind_of}
use Rattle.chi_slice.proofs.Indexes.{IsSlotOf, is_slot_number}
use Rattle.chi_line.proofs.Typed.{of_type, unused_serves, unused_waits}
use Rattle.chi_line.proofs.Positions.{Free, is_free, shows_unused}

-- nothing is kept of a slot that isn't in use
unpending : (profile : Profile) (ty : CreditType) (pending : Option Pending) (slot : Slot) → is_slot (pending_slot pending) slot ≡ false → has_type profile ty (pending_kind_of pending slot) ≡ true
unpending profile ty None slot other = refl
unpending profile ty (Some request) slot other = ap (λ (b : Bool). has_type profile ty (if b then Some request.kind else None)) other

unrequested : (profile : Profile) (ty : CreditType) (there : Option Request) (pending : Option Slot) (slot : Slot) → ((q : Request) → there ≡ Some q → pending ≡ Some q.slot) → is_slot pending slot ≡ false
    → has_type profile ty (requested_kind_of there slot) ≡ true
unrequested profile ty None pending slot fits other = refl
unrequested profile ty (Some request) pending slot fits other =
    ap (λ (b : Bool). has_type profile ty (if b then Some request.kind else None)) (sym (ap (λ (o : Option Slot). is_slot o slot) (fits request refl)) ∙ other)

pub unused_type : (profile : Profile) (ty : CreditType) (last : List ℕ) (s : LineState) (n : ℕ) (slot : Slot) → n < 8 → Kept last s → position_at s n slot ≡ None → is_of_type profile ty s n slot ≡ true
unused_type profile ty last s n slot low k none =
    let free : Free s n slot = is_free s n slot (shows_unused s last n slot low k none) in
    let lanes : LaneKept s.home.serving s.home.filter.unique s.home.filter.owner last n (lane s n) = k.lanes n low in
    of_type profile ty s n slot
    (record {
      pending = unpending profile ty (rn_of s n).pending slot free.pending;
      request = unrequested profile ty (cells_of s n).req (pending_slot (rn_of s n).pending) slot lanes.request_slot free.pending;
      waiting = unused_waits profile ty (waiting_of s.home n) slot free.waiting;
    })
    (unused_serves profile ty s.home.serving n slot free.served)

-- the type at the place is the type at every line
pub types_of : (s : SliceState) (ty : CreditType) (n : ℕ) (slot : Slot) (place : Option RequestPlace) → SliceKept s → n < 8 → IsShown s n slot place → typed_at s ty n slot place ≡ true → HasType s ty n slot
types_of s ty n slot None k low shows typed l here = unused_type s.config.profile ty (last_of s l) (line s l) n slot low (k.lines l here) (shows l here)
types_of s ty n slot (Some place) k low shows typed l here = go (place.line.0 == l) refl
  where
    go : (b : Bool) → (place.line.0 == l) ≡ b → is_of_type s.config.profile ty (line s l) n slot ≡ true
    go true same =
        subst (λ (m : ℕ). is_of_type s.config.profile ty (line s m) n slot ≡ true) (eqb-true place.line.0 l same) typed
    go false other =
        unused_type s.config.profile ty (last_of s l) (line s l) n slot low (k.lines l here) (shows l here ∙ ap (λ (b : Bool). if b then Some place.at else None) other)

-- a slot with a place is one of the eight
pub slot_inside : (n : ℕ) (slot : Slot) (o : Option RequestPlace) (there : RequestPlace) → (is_slot_of n slot ≡ false → o ≡ None) → o ≡ Some there → IsSlotOf n slot
slot_inside n slot o there outside some = go (is_slot_of n slot) refl
  where
    go : (b : Bool) → is_slot_of n slot ≡ b → IsSlotOf n slot
    go true inside = is_slot_number n slot inside
    go false other = absurd (cc (outside other, some))

-- a slot has the type at its place where it has it at every line, or has no place
pub typed_if : (s : SliceState) (ty : CreditType) (n : ℕ) (slot : Slot) (place : Option RequestPlace) (typed : Bool) → typed ≡ typed_at s ty n slot place → IsInside s place → HasType s ty n slot → typed ≡ true
typed_if s ty n slot None typed is here all = is
typed_if s ty n slot (Some there) typed is here all = is ∙ all there.line.0 (here there refl)

pub typed_nowhere : (s : SliceState) (ty : CreditType) (n : ℕ) (slot : Slot) (place : Option RequestPlace) (typed : Bool) → typed ≡ typed_at s ty n slot place → place ≡ None → typed ≡ true
typed_nowhere s ty n slot place typed is none = is ∙ ap (typed_at s ty n slot) none
