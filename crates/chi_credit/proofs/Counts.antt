-- What the counts of an account become when one of its slots changes, and how they keep to a port's numbers.
use Rattle.std.proofs.Common.{zero, suc, [], ◌∷◌, ◌≤◌, ◌≡◌, ℕ, ◌+◌, ◌<◌, Bool, true, false, cond, ◌&&◌, List, length, slice_set, refl, sym, ap, ◌∙◌, subst, arith}
use Rattle.std.specs.Prelude.{count_by, nat_lt, position, is_some, IsTrue, ◌↔◌, Option, Some, None}
use Rattle.std.specs.List.{position_or_len}
use Rattle.std.proofs.lemmas.List.Sums.{count_by-le-length, sum_by-cons, sum_by-set, passes_at_first}
use Rattle.std.proofs.lemmas.Bool.{eqb-true, eq-eqb, ne_eqb, ltb-true, lt-ltb, false≢true}
use Rattle.std.proofs.lemmas.Option.{cond_some}
use Rattle.chi_credit.specs.declared.slot.SlotState.{SlotState}
use Rattle.chi_credit.specs.declared.slot.SlotState.TheVariants.{Idle, Sent, Refused, Retried, Riding, Admitted, Closing, Cancelled}
use Rattle.chi_credit.specs.declared.slot.SlotRecord.{SlotRecord}
use Rattle.chi_credit.specs.Slot.{idle_slot, is_of_credit, is_admitted_with, is_cancelled, is_cancelled_of, is_due, is_due_of, is_riding, is_riding_of, has_entry}
use Rattle.chi_credit.specs.Account.{slot_record_at, state_at, type_at, riding_of, due_of, holders_of, lowest_cancelled, FallsAt, IsSameSlot}

-- 1 where a test passes
abbrev mark : Bool → ℕ
mark b = cond b 1 0

-- the slots that pass a test, when slot s becomes another
pub count_set : (p : SlotRecord → Bool) (slots : List SlotRecord) (s : ℕ) (new : SlotRecord) → s < length slots
    → count_by p (slice_set slots s new) + cond (p (slot_record_at slots s)) 1 0 ≡ count_by p slots + cond (p new) 1 0
count_set p slots s new l = sum_by-set (λ x. cond (p x) 1 0) slots s new idle_slot l

pub count_same : (p : SlotRecord → Bool) (slots : List SlotRecord) (s : ℕ) (new : SlotRecord) → s < length slots → p (slot_record_at slots s) ≡ p new
    → count_by p (slice_set slots s new) ≡ count_by p slots
count_same p slots s new l same = let a : mark (p (slot_record_at slots s)) ≡ mark (p new) = ap mark same in omega (arith, count_set p slots s new l)

pub count_more : (p : SlotRecord → Bool) (slots : List SlotRecord) (s : ℕ) (new : SlotRecord) → s < length slots → p (slot_record_at slots s) ≡ false → p new ≡ true
    → count_by p (slice_set slots s new) ≡ count_by p slots + 1
count_more p slots s new l old now = let a : mark (p (slot_record_at slots s)) ≡ 0 = ap mark old in let b : mark (p new) ≡ 1 = ap mark now in omega (arith, count_set p slots s new l)

pub count_less : (p : SlotRecord → Bool) (slots : List SlotRecord) (s : ℕ) (new : SlotRecord) → s < length slots → p (slot_record_at slots s) ≡ true → p new ≡ false
    → count_by p (slice_set slots s new) + 1 ≡ count_by p slots
count_less p slots s new l old now = let a : mark (p (slot_record_at slots s)) ≡ 1 = ap mark old in let b : mark (p new) ≡ 0 = ap mark now in omega (arith, count_set p slots s new l)

-- where a slot fails a test, not all pass it
mark_few : (b : Bool) → mark b ≤ 1
mark_few true = omega arith
mark_few false = omega arith

pub count_fails : (p : SlotRecord → Bool) (slots : List SlotRecord) (s : ℕ) → s < length slots → p (slot_record_at slots s) ≡ false → count_by p slots < length slots
count_fails p [] s l e = absurd (omega arith)
count_fails p (x ∷ xs) zero l e = let a : mark (p x) ≡ 0 = ap mark e in omega (arith, sum_by-cons (λ y. cond (p y) 1 0) x xs, count_by-le-length p xs)
count_fails p (x ∷ xs) (suc s) l e = let a = mark_few (p x) in omega (arith, sum_by-cons (λ y. cond (p y) 1 0) x xs, count_fails p xs s (omega arith) e)

pub due_below : (t : ℕ) (slots now : List SlotRecord) (s : ℕ) → slots ≡ now → length slots ≡ 8 → s < 8 → state_at now s ≡ Sent → due_of now t < 8
due_below t slots now s same eight l sent =
    let a : length now ≡ 8 = ap length (sym same) ∙ eight in
    omega (arith, count_fails (is_due_of t) now s (omega arith) (ap (λ state. is_due state && is_of_credit t (slot_record_at now s)) sent))

-- a first place that passes a test is there exactly where it is below the length
pub has_place : (p : SlotRecord → Bool) (xs : List SlotRecord) (n : ℕ) → length xs ≡ n → IsTrue (is_some (position p xs)) ↔ (position_or_len p xs < n)
has_place p xs n e = (λ h. omega (arith, below (nat_lt (position_or_len p xs) (length xs)) refl h), λ l. ap (λ b. is_some (cond b (Some (position_or_len p xs)) None)) (lt-ltb (position_or_len p xs) (length xs) (omega arith)))
  where
    below : (b : Bool) → nat_lt (position_or_len p xs) (length xs) ≡ b → is_some (cond b (Some (position_or_len p xs)) None) ≡ true → position_or_len p xs < length xs
    below true e h = ltb-true _ _ e
    below false e h = absurd (false≢true h)

pub cancelled_there : (t : ℕ) (slots now : List SlotRecord) (found : Option ℕ) (there : Bool) → length slots ≡ 8 → slots ≡ now → found ≡ position (is_cancelled_of t) slots → there ≡ is_some found
    → IsTrue there ↔ (lowest_cancelled now t < 8)
cancelled_there t slots now found there eight same at is =
    subst (λ (xs : List SlotRecord). IsTrue there ↔ (lowest_cancelled xs t < 8)) same
    (subst (λ (b : Bool). IsTrue b ↔ (lowest_cancelled slots t < 8)) (sym (is ∙ ap is_some at)) (has_place (is_cancelled_of t) slots 8 eight))

-- the lowest Cancelled slot of a type is Cancelled and of the type
pub cancelled_state : (state : SlotState) → is_cancelled state ≡ true → state ≡ Cancelled
cancelled_state Idle e = absurd (false≢true e)
cancelled_state Sent e = absurd (false≢true e)
cancelled_state Refused e = absurd (false≢true e)
cancelled_state Retried e = absurd (false≢true e)
cancelled_state Riding e = absurd (false≢true e)
cancelled_state (Admitted entry) e = absurd (false≢true e)
cancelled_state Closing e = absurd (false≢true e)
cancelled_state Cancelled e = refl

pub lowest_is : (t : ℕ) (slots : List SlotRecord) → lowest_cancelled slots t < length slots → (state_at slots (lowest_cancelled slots t) ≡ Cancelled) × (type_at slots (lowest_cancelled slots t) ≡ t)
lowest_is t slots l =
    let s = lowest_cancelled slots t in let passes = passes_at_first (is_cancelled_of t) slots idle_slot l in
    (cancelled_state (state_at slots s) (both (is_cancelled (state_at slots s)) _ passes).0, eqb-true (type_at slots s) t (both (is_cancelled (state_at slots s)) _ passes).1)
  where
    both : (a b : Bool) → a && b ≡ true → (a ≡ true) × (b ≡ true)
    both true b e = (refl, e)
    both false b e = absurd (false≢true e)

-- what is left of the counts when it becomes Idle
pub ended_riding : (t : ℕ) (slots : List SlotRecord) → lowest_cancelled slots t < length slots → IsSameSlot (riding_of slots) (riding_of (slice_set slots (lowest_cancelled slots t) idle_slot))
ended_riding t slots l = record { same = λ u. count_same (is_riding_of u) slots (lowest_cancelled slots t) idle_slot l (ap (λ state. is_riding state && is_of_credit u (slot_record_at slots (lowest_cancelled slots t))) (lowest_is t slots l).0) }

pub ended_entries : (t : ℕ) (slots : List SlotRecord) → lowest_cancelled slots t < length slots → IsSameSlot (holders_of slots) (holders_of (slice_set slots (lowest_cancelled slots t) idle_slot))
ended_entries t slots l = record { same = λ e. count_same (has_entry e) slots (lowest_cancelled slots t) idle_slot l (ap (is_admitted_with e) (lowest_is t slots l).0) }

pub ended_due : (t : ℕ) (slots : List SlotRecord) → lowest_cancelled slots t < length slots → FallsAt t (due_of slots) (due_of (slice_set slots (lowest_cancelled slots t) idle_slot))
ended_due t slots l =
    let s = lowest_cancelled slots t in let found = lowest_is t slots l in record {
      less = count_less (is_due_of t) slots s idle_slot l (ap (λ state. is_due state && is_of_credit t (slot_record_at slots s)) found.0 ∙ eq-eqb (type_at slots s) t found.1) refl;
      others = λ u d. count_same (is_due_of u) slots s idle_slot l (ap (λ state. is_due state && is_of_credit u (slot_record_at slots s)) found.0 ∙ ne_eqb (type_at slots s) u (λ e. d (sym e ∙ found.1)));
    }

-- the place that was found is the lowest
pub found_is : (t : ℕ) (slots : List SlotRecord) (found : Option ℕ) (place : ℕ) → found ≡ position (is_cancelled_of t) slots → found ≡ Some place → (lowest_cancelled slots t < length slots) × (lowest_cancelled slots t ≡ place)
found_is t slots found place at is =
    let h = cond_some (nat_lt (lowest_cancelled slots t) (length slots)) (lowest_cancelled slots t) place (sym at ∙ is) in (ltb-true _ _ h.0, h.1)

pub found_riding : (t : ℕ) (slots now : List SlotRecord) (found : Option ℕ) (place : ℕ) → slots ≡ now → found ≡ position (is_cancelled_of t) slots → found ≡ Some place → IsSameSlot (riding_of now) (riding_of (slice_set slots place idle_slot))
found_riding t slots now found place same at is = let h = found_is t slots found place at is in rw (← same, ← h.1) (ended_riding t slots h.0)

pub found_due : (t : ℕ) (slots now : List SlotRecord) (found : Option ℕ) (place : ℕ) → slots ≡ now → found ≡ position (is_cancelled_of t) slots → found ≡ Some place → FallsAt t (due_of now) (due_of (slice_set slots place idle_slot))
found_due t slots now found place same at is = let h = found_is t slots found place at is in rw (← same, ← h.1) (ended_due t slots h.0)

pub found_entries : (t : ℕ) (slots now : List SlotRecord) (found : Option ℕ) (place : ℕ) → slots ≡ now → found ≡ position (is_cancelled_of t) slots → found ≡ Some place → IsSameSlot (holders_of now) (holders_of (slice_set slots place idle_slot))
found_entries t slots now found place same at is = let h = found_is t slots found place at is in rw (← same, ← h.1) (ended_entries t slots h.0)

pub found_cancelled : (t : ℕ) (slots now : List SlotRecord) (found : Option ℕ) (place : ℕ) → slots ≡ now → found ≡ position (is_cancelled_of t) slots → found ≡ Some place → state_at now (lowest_cancelled now t) ≡ Cancelled
found_cancelled t slots now found place same at is = let h = found_is t slots found place at is in rw (← same) (lowest_is t slots h.0).0
