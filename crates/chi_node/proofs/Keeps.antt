-- What a requester keeps, when its port and its slots change.
use Rattle.std.proofs.Common.{◌≡◌, ℕ, zero, suc, ◌+◌, ◌<◌, ◌≤◌, nat_lt, true, List, length, slice_set, refl, sym, ap, ◌∙◌, subst, arith}
use Rattle.std.proofs.Math.ListN.{length-set}
use Rattle.std.specs.Prelude.{◌↔◌, Bool, IsTrue, slice_index}
use Rattle.std.specs.Int.{bit_at}
use Rattle.std.proofs.lemmas.Bool.{ltb-true}
use Rattle.std.proofs.lemmas.Nat.Bits.{bit_at-lt}
use Rattle.std.proofs.lemmas.List.Sums.{count_by-le-length}
use mathlib.Core.Logic.{dite}
use native.Mathlib.Decide.{ℕ_discrete, dec_le}
use Rattle.chi_flit.specs.declared.numbers.Entry.{Entry}
use Rattle.chi_flit.specs.declared.credit.CreditType.{CreditType}
use Rattle.chi_flit.specs.declared.credit.CreditType.TheVariants.{T0, T1, T2, T3}
use Rattle.chi_flit.specs.Credit.{credit_number}
use Rattle.chi_tracker.specs.declared.shape.Shape.{Shape}
use Rattle.chi_tracker.specs.Sums.{below, set_at, one_more, with_bit, without_bit}
use Rattle.chi_tracker.specs.Shape.{low, size}
use Rattle.chi_tracker.specs.Views.{PortView, has}
use Rattle.chi_tracker.specs.Calls.{seen_of, set_count}
use Rattle.chi_tracker.proofs.Addition.{raised_else, raised_here}
use Rattle.chi_tracker.proofs.Entries.{credit_below, low_up}
use Rattle.chi_tracker.proofs.BitLaws.{with_here, with_else, dropped_here, dropped_else}
use Rattle.chi_credit.specs.Slot.{is_due_of}
use Rattle.chi_credit.specs.declared.slot.SlotRecord.{SlotRecord}
use Rattle.chi_credit.specs.declared.slot.SlotState.{SlotState}
use Rattle.chi_credit.specs.declared.slot.SlotState.TheVariants.{Admitted}
use Rattle.chi_credit.specs.Account.{riding_of, due_of, holders_of, FallsAt, GrowsAt, IsSameSlot, HasDue, HasEntries, IsWithinSeen}
use Rattle.chi_node.specs.Outstanding.{seen_counts}
use Rattle.chi_node.specs.Requester.{RequesterState, RequesterKept}

-- sums of terms that only grow
below_more : (f g : ℕ → ℕ) (n : ℕ) → ((i : ℕ) → i < n → f i ≤ g i) → below f n ≤ below g n
below_more f g zero more = omega arith
below_more f g (suc n) more = omega (arith, below_more f g n (λ i l. more i (omega arith)), more n (omega arith))

-- a port that saw has no fewer seen credits of each type
pub saw_more : (p q : PortView) (t : ℕ) → t < 4 → low p.shape 4 ≤ 256 → q.shape ≡ p.shape → ((e : ℕ) → e < 256 → set_at p.seen e ≤ set_at q.seen e) → seen_of p t ≤ seen_of q t
saw_more p q t l shaped same more =
    subst (λ s. set_count p.seen (low p.shape t) (size p.shape t) ≤ set_count q.seen (low s t) (size s t)) (sym same)
    (below_more (λ i. set_at p.seen (low p.shape t + i)) (λ i. set_at q.seen (low p.shape t + i)) (size p.shape t)
    (λ i li. more (low p.shape t + i) (omega (arith, low_up p.shape t 4 l))))

pub saw_within : (slots : List SlotRecord) (p q : PortView) → IsWithinSeen slots p → low p.shape 4 ≤ 256 → q.shape ≡ p.shape → ((e : ℕ) → e < 256 → set_at p.seen e ≤ set_at q.seen e) → IsWithinSeen slots q
saw_within slots p q keeps shaped same more = record { within = λ t l. omega (arith, keeps.within t l, saw_more p q t l shaped same more) }

-- as many seen credits and Riding slots
pub still_within : (a b : List SlotRecord) (p q : PortView) → IsSameSlot (riding_of a) (riding_of b) → q.shape ≡ p.shape → q.seen ≡ p.seen → IsWithinSeen a p → IsWithinSeen b q
still_within a b p q same shape seen keeps = record {
  within = λ t l.
      let same_seen : seen_of q t ≡ seen_of p t = ap (λ (z : Shape). set_count q.seen (low z t) (size z t)) shape ∙ ap (λ (z : List ℕ). set_count z (low p.shape t) (size p.shape t)) seen in
      omega (arith, same.same t, keeps.within t l);
}

-- as many credits due
pub still_due : (a b : List SlotRecord) (p q : PortView) → IsSameSlot (due_of a) (due_of b) → q.retries ≡ p.retries → q.spent ≡ p.spent → q.returned ≡ p.returned → HasDue a p → HasDue b q
still_due a b p q same retries spent returned keeps = record {
  due = λ t l.
      let m : slice_index q.retries t ≡ slice_index p.retries t = ap (λ (z : List ℕ). slice_index z t) retries in
      let s : slice_index q.spent t ≡ slice_index p.spent t = ap (λ (z : List ℕ). slice_index z t) spent in
      let g : slice_index q.returned t ≡ slice_index p.returned t = ap (λ (z : List ℕ). slice_index z t) returned in
      omega (arith, same.same t, keeps.due t l);
}

-- an entry came to hand for a slot
pub taken_entries : (a b : List SlotRecord) (p q : PortView) (e : ℕ) → GrowsAt e (holders_of a) (holders_of b) → has e p ≡ 0 → q.hand ≡ with_bit p.hand e → HasEntries a p → HasEntries b q
taken_entries a b p q e grows clear is keeps = record {
  entries = λ i.
      let h : has i q ≡ bit_at (with_bit p.hand e) i = ap (λ (z : ℕ). bit_at z i) is in
      dite (ℕ_discrete i e)
      (λ k. subst (λ (x : ℕ). has x q ≡ holders_of b x) (sym k) (let here : has e q ≡ bit_at (with_bit p.hand e) e = ap (λ (z : ℕ). bit_at z e) is in omega (arith, with_here p.hand e, grows.more, keeps.entries e)))
      (λ d. omega (arith, with_else p.hand e i d, grows.others i d, keeps.entries i));
}

pub taken_inside : (p q : PortView) (e n : ℕ) → e < n → q.hand ≡ with_bit p.hand e → ((i : ℕ) → n ≤ i → has i p ≡ 0) → (i : ℕ) → n ≤ i → has i q ≡ 0
taken_inside p q e n below is inside i l = ap (λ (z : ℕ). bit_at z i) is ∙ with_else p.hand e i (λ k. absurd (omega arith)) ∙ inside i l

-- a slot's entry left the hand
pub left_entries : (a b : List SlotRecord) (p q : PortView) (e : ℕ) → FallsAt e (holders_of a) (holders_of b) → q.hand ≡ without_bit p.hand e → HasEntries a p → HasEntries b q
left_entries a b p q e falls is keeps = record {
  entries = λ i.
      let h : has i q ≡ bit_at (without_bit p.hand e) i = ap (λ (z : ℕ). bit_at z i) is in
      dite (ℕ_discrete i e)
      (λ k. subst (λ (x : ℕ). has x q ≡ holders_of b x) (sym k) (let here : has e q ≡ bit_at (without_bit p.hand e) e = ap (λ (z : ℕ). bit_at z e) is in omega (arith, dropped_here p.hand e, bit_at-lt p.hand e, falls.less, keeps.entries e)))
      (λ d. omega (arith, dropped_else p.hand e i d, falls.others i d, keeps.entries i));
}

pub left_inside : (p q : PortView) (e n : ℕ) → q.hand ≡ without_bit p.hand e → ((i : ℕ) → n ≤ i → has i p ≡ 0) → (i : ℕ) → n ≤ i → has i q ≡ 0
left_inside p q e n is inside i l = dite (ℕ_discrete i e)
    (λ k. ap (λ (z : ℕ). bit_at z i) is ∙ ap (bit_at (without_bit p.hand e)) k ∙ dropped_here p.hand e)
    (λ d. ap (λ (z : ℕ). bit_at z i) is ∙ dropped_else p.hand e i d ∙ inside i l)

-- the entry of an Admitted slot is in hand, and one of the tracker's
pub held_entry : (entries : List ℕ) (r : RequesterState) (b : List SlotRecord) (e : ℕ) → RequesterKept entries r → FallsAt e (holders_of r.slots) (holders_of b) → (e < low r.port.shape 4) × (has e r.port ≡ 1)
held_entry entries r b e kept falls =
    let held : has e r.port ≡ 1 = omega (arith, bit_at-lt r.port.hand e, falls.less, kept.hand.entries e) in
    (dite (dec_le (low r.port.shape 4) e) (λ l. absurd (omega (arith, kept.inside e l))) (λ l. omega arith), held)

-- so is the entry that its state names
pub in_hand : (entries : List ℕ) (r : RequesterState) (b : List SlotRecord) (was : SlotState) (found : Entry) → RequesterKept entries r → FallsAt found.0 (holders_of r.slots) (holders_of b) → was ≡ Admitted found → (e : Entry) → was ≡ Admitted e → has e.0 r.port ≡ 1
in_hand entries r b was found kept falls at = λ e is. subst (λ (x : Entry). has x.0 r.port ≡ 1) (same found e (sym at ∙ is)) (held_entry entries r b found.0 kept falls).1
  where
    same : (a c : Entry) → Admitted a ≡ Admitted c → a ≡ c
    same a c h = cc (h)

-- one more credit is owed, and due to one more slot
pub owed_due : (a b : List SlotRecord) (p q : PortView) (t : ℕ) → GrowsAt t (due_of a) (due_of b) → q.retries ≡ one_more p.retries t → q.spent ≡ p.spent → q.returned ≡ p.returned → HasDue a p → HasDue b q
owed_due a b p q t grows retries spent returned keeps = record {
  due = λ u l.
      let m : slice_index q.retries u ≡ slice_index (one_more p.retries t) u = ap (λ (z : List ℕ). slice_index z u) retries in
      let s : slice_index q.spent u ≡ slice_index p.spent u = ap (λ (z : List ℕ). slice_index z u) spent in
      let g : slice_index q.returned u ≡ slice_index p.returned u = ap (λ (z : List ℕ). slice_index z u) returned in
      dite (ℕ_discrete u t)
      (λ k. let more : due_of b u ≡ due_of a u + 1 = subst (λ (z : ℕ). due_of b z ≡ due_of a z + 1) (sym k) grows.more in
      let r : slice_index (one_more p.retries t) u ≡ slice_index p.retries u + 1 = subst (λ (z : ℕ). slice_index (one_more p.retries t) z ≡ slice_index p.retries z + 1) (sym k) (raised_here p.retries t) in omega (arith, keeps.due u l))
      (λ d. omega (arith, grows.others u d, raised_else p.retries t u d, keeps.due u l));
}

-- where one more slot can be due a credit, fewer than 8 credits are due
pub few_due : (entries : List ℕ) (r : RequesterState) (q : PortView) (slots : List SlotRecord) (s : ℕ) (x : SlotRecord) (ty : CreditType) → RequesterKept entries r → slots ≡ slice_set r.slots s x → GrowsAt (credit_number ty) (due_of r.slots) (due_of slots)
    → q.retries ≡ r.port.retries → q.spent ≡ r.port.spent → q.returned ≡ r.port.returned → slice_index q.retries (credit_number ty) < 8 + (slice_index q.spent (credit_number ty) + slice_index q.returned (credit_number ty))
few_due entries r q slots s x ty kept is grows retries spent returned =
    let t : ℕ = credit_number ty in
    let eight : length slots ≡ 8 = ap length is ∙ length-set r.slots s x ∙ kept.eight in
    let m : slice_index q.retries t ≡ slice_index r.port.retries t = ap (λ (z : List ℕ). slice_index z t) retries in
    let p : slice_index q.spent t ≡ slice_index r.port.spent t = ap (λ (z : List ℕ). slice_index z t) spent in
    let g : slice_index q.returned t ≡ slice_index r.port.returned t = ap (λ (z : List ℕ). slice_index z t) returned in
    omega (arith, kept.due.due t (credit_below ty), grows.more, count_by-le-length (is_due_of t) slots)

-- the same hand, for the same entries
pub still_entries : (a b : List SlotRecord) (p q : PortView) → IsSameSlot (holders_of a) (holders_of b) → q.hand ≡ p.hand → HasEntries a p → HasEntries b q
still_entries a b p q same hand keeps = record { entries = λ e. let h : has e q ≡ has e p = ap (λ (z : ℕ). bit_at z e) hand in omega (arith, same.same e, keeps.entries e) }

-- as many slots
pub still_eight : (a b : List SlotRecord) (s : ℕ) (x : SlotRecord) → b ≡ slice_set a s x → length a ≡ 8 → length b ≡ 8
still_eight a b s x is eight = ap length is ∙ length-set a s x ∙ eight

-- one number of the seen credits
pub count_at : (p : PortView) (ty : CreditType) → slice_index (seen_counts p) (credit_number ty) ≡ seen_of p (credit_number ty)
count_at p T0 = refl
count_at p T1 = refl
count_at p T2 = refl
count_at p T3 = refl

-- a spare credit, by the port's numbers
pub spare_is : (slots : List SlotRecord) (p : PortView) (ty : CreditType) (b : Bool) (n : ℕ) → n ≡ seen_of p (credit_number ty) → IsTrue b ↔ (riding_of slots (credit_number ty) < n) → b ≡ nat_lt (riding_of slots (credit_number ty)) (slice_index (seen_counts p) (credit_number ty))
spare_is slots p ty b n is found = grind (arith, found, is, count_at p ty)

pub spare_seen : (slots : List SlotRecord) (p : PortView) (ty : CreditType) → nat_lt (riding_of slots (credit_number ty)) (slice_index (seen_counts p) (credit_number ty)) ≡ true → riding_of slots (credit_number ty) < seen_of p (credit_number ty)
spare_seen slots p ty spare = subst (λ n. riding_of slots (credit_number ty) < n) (count_at p ty) (ltb-true (riding_of slots (credit_number ty)) (slice_index (seen_counts p) (credit_number ty)) spare)
