-- An index of slots in which a slot has another place.
use Rattle.std.proofs.Common.{◌≡◌, ℕ, ◌+◌, ◌*◌, ◌<◌, List, Bool, true, false, nat_lt, Option, Some, None, length, get_or, set, refl, sym, ◌∙◌, ap, subst, if◌then◌else◌, arith, get_or-set_same, get_or-set_other}
use Rattle.std.proofs.Math.ListN.{length-set}
use Rattle.std.proofs.lemmas.Bool.{and_from, eq-eqb}
use Rattle.chi_flit.specs.declared.numbers.Line.{Line}
use Rattle.chi_flit.specs.declared.numbers.Slot.{Slot}
use Rattle.chi_slice.specs.declared.places.RequestPlace.{RequestPlace}
use Rattle.chi_line.specs.declared.position.Position.{Position}
use Rattle.chi_slice.specs.Index.{is_slot_of, moved_in, place_number, place_of, place_of_position, with_place}
use Rattle.chi_line.specs.Step.{is_slot}
use Rattle.chi_line.proofs.EqualSlots.{same_slot}
use Rattle.chi_slice.proofs.Rows.{both, is_low}

pub in_eight : (n : ℕ) (slot : Slot) → n < 8 → slot.0 < 8 → is_slot_of n slot ≡ true
in_eight n slot low at = and_from (nat_lt n 8) (nat_lt slot.0 8) (grind (arith, low)) (grind (arith, at))

-- a slot with a place is one of the eight of an agent that is one of eight
pub record IsSlotOf (n : ℕ) (slot : Slot) : Type 0 where
  pub agent : n < 8
  pub number : slot.0 < 8

pub is_slot_number : (n : ℕ) (slot : Slot) → is_slot_of n slot ≡ true → IsSlotOf n slot
is_slot_number n slot h = let parts = both (nat_lt n 8) (nat_lt slot.0 8) h in record { agent = is_low n 8 parts.0; number = is_low slot.0 8 parts.1 }

pub with_wide : (places : List (Option RequestPlace)) (n : ℕ) (slot : Slot) (place : Option RequestPlace) → length places ≡ 64 → length (with_place places n slot place) ≡ 64
with_wide places n slot place wide = go (is_slot_of n slot)
  where
    go : (b : Bool) → length (if b then set places (place_number n slot) place else places) ≡ 64
    go true = length-set places (place_number n slot) place ∙ wide
    go false = wide

-- other slots keep their places
numbers_apart : (n m k l : ℕ) → k < 8 → l < 8 → m * 8 + l ≡ n * 8 + k → (m ≡ n) × (k ≡ l)
numbers_apart n m k l low at same = (omega arith, omega arith)

pub with_other : (places : List (Option RequestPlace)) (n m : ℕ) (slot other : Slot) (place : Option RequestPlace) → (m ≡ n → slot.0 ≡ other.0 → ⊥) → place_of (with_place places n slot place) m other ≡ place_of places m other
with_other places n m slot other place apart = go (is_slot_of n slot) (is_slot_of m other) refl refl
  where
    go : (b c : Bool) → is_slot_of n slot ≡ b → is_slot_of m other ≡ c
        → (if c then get_or (if b then set places (place_number n slot) place else places) (place_number m other) None else None) ≡ (if c then get_or places (place_number m other) None else None)
    go true true here there =
        let a : IsSlotOf n slot = is_slot_number n slot here in
        let b : IsSlotOf m other = is_slot_number m other there in
        get_or-set_other places (place_number n slot) (place_number m other) place None
        (λ (e : place_number m other ≡ place_number n slot). let same = numbers_apart n m slot.0 other.0 a.number b.number e in apart same.0 same.1)
    go true false here there = refl
    go false c here there = refl

pub with_same : (places : List (Option RequestPlace)) (n : ℕ) (slot : Slot) (place : Option RequestPlace) → length places ≡ 64 → n < 8 → slot.0 < 8 → place_of (with_place places n slot place) n slot ≡ place
with_same places n slot place wide low at =
    ap (λ (b : Bool). if b then get_or (if b then set places (place_number n slot) place else places) (place_number n slot) None else None) (in_eight n slot low at)
    ∙ get_or-set_same places (place_number n slot) place None (omega (arith, low, at, wide))

-- a slot, if there is one, that is moved
pub moved_wide : (places : List (Option RequestPlace)) (n : ℕ) (line : Line) (o : Option Slot) (to : Option Position) → length places ≡ 64 → length (moved_in places n line o to) ≡ 64
moved_wide places n line None to wide = wide
moved_wide places n line (Some slot) to wide = with_wide places n slot (place_of_position line to) wide

pub moved_other : (places : List (Option RequestPlace)) (n m : ℕ) (line : Line) (o : Option Slot) (to : Option Position) (slot : Slot) → (m ≡ n → is_slot o slot ≡ true → ⊥) → place_of (moved_in places n line o to) m slot ≡ place_of places m slot
moved_other places n m line None to slot apart = refl
moved_other places n m line (Some own) to slot apart = with_other places n m own slot (place_of_position line to) (λ (e : m ≡ n) (same : own.0 ≡ slot.0). apart e (eq-eqb own.0 slot.0 same))

pub moved_here : (places : List (Option RequestPlace)) (n : ℕ) (line : Line) (o : Option Slot) (to : Option Position) (slot : Slot) → length places ≡ 64 → n < 8 → slot.0 < 8 → is_slot o slot ≡ true → place_of (moved_in places n line o to) n slot ≡ place_of_position line to
moved_here places n line None to slot wide low at here = absurd (cc (here))
moved_here places n line (Some own) to slot wide low at here =
    subst (λ (x : Slot). place_of (moved_in places n line (Some x) to) n slot ≡ place_of_position line to) (sym (same_slot own slot here)) (with_same places n slot (place_of_position line to) wide low at)
