-- How an account and its port keep together, when a credit is spent for a slot and when one is given back.
use Rattle.std.proofs.Common.{◌≡◌, ℕ, ◌+◌, ◌<◌, List, slice_index, sym, ap, subst, arith}
use Rattle.std.specs.Int.{bit_at}
use mathlib.Core.Logic.{dite}
use native.Mathlib.Decide.{ℕ_discrete}
use Rattle.chi_tracker.specs.Sums.{one_more, with_bit}
use Rattle.chi_tracker.specs.Views.{PortView, has}
use Rattle.chi_tracker.specs.Steps.{spends}
use Rattle.chi_tracker.specs.Calls.{seen_of, with_return, HasSameCredits, HasOneLess}
use Rattle.chi_tracker.proofs.Addition.{raised_else, raised_here}
use Rattle.chi_tracker.proofs.BitLaws.{with_here, with_else}
use Rattle.chi_credit.specs.declared.slot.SlotRecord.{SlotRecord}
use Rattle.chi_credit.specs.Account.{riding_of, due_of, holders_of, FallsAt, GrowsAt, IsSameSlot, IsWithinSeen, HasDue, HasEntries}

-- one number of a row more
raised_at : (ns : List ℕ) (t u : ℕ) → u ≡ t → slice_index (one_more ns t) u ≡ slice_index ns u + 1
raised_at ns t u e = subst (λ (k : ℕ). slice_index (one_more ns t) k ≡ slice_index ns k + 1) (sym e) (raised_here ns t)

falls_at : (f g : ℕ → ℕ) (t u : ℕ) → FallsAt t f g → u ≡ t → g u + 1 ≡ f u
falls_at f g t u falls e = subst (λ (k : ℕ). g k + 1 ≡ f k) (sym e) falls.less

grows_at : (f g : ℕ → ℕ) (t u : ℕ) → GrowsAt t f g → u ≡ t → g u ≡ f u + 1
grows_at f g t u grows e = subst (λ (k : ℕ). g k ≡ f k + 1) (sym e) grows.more

-- one slot more of type t rides, on a credit that is beyond those of the others
pub rides_within : (a b : List SlotRecord) (p : PortView) (t : ℕ) → GrowsAt t (riding_of a) (riding_of b) → riding_of a t < seen_of p t → IsWithinSeen a p → IsWithinSeen b p
rides_within a b p t grows free keeps = record {
  within = λ u l. dite (ℕ_discrete u t)
      (λ e. let f : riding_of a u < seen_of p u = subst (λ (k : ℕ). riding_of a k < seen_of p k) (sym e) free in omega (arith, grows_at (riding_of a) (riding_of b) t u grows e))
      (λ d. omega (arith, grows.others u d, keeps.within u l));
}

-- a credit of type t was spent for a Riding slot of the type
pub spent_within : (a b : List SlotRecord) (p q : PortView) (t : ℕ) → FallsAt t (riding_of a) (riding_of b) → HasOneLess t p q → IsWithinSeen a p → IsWithinSeen b q
spent_within a b p q t falls less keeps = record {
  within = λ u l. dite (ℕ_discrete u t)
      (λ e. let h : seen_of q u + 1 ≡ seen_of p u = subst (λ (k : ℕ). seen_of q k + 1 ≡ seen_of p k) (sym e) less.0 in omega (arith, falls_at (riding_of a) (riding_of b) t u falls e, keeps.within u l))
      (λ d. omega (arith, falls.others u d, less.1 u l d, keeps.within u l));
}

pub spent_due : (a b : List SlotRecord) (p q : PortView) (t e : ℕ) → FallsAt t (due_of a) (due_of b) → q ≡ spends t e p → HasDue a p → HasDue b q
spent_due a b p q t e falls is keeps = record {
  due = λ u l.
      let s : slice_index q.spent u ≡ slice_index (one_more p.spent t) u = ap (λ z. slice_index z.spent u) is in
      let r : slice_index q.returned u ≡ slice_index p.returned u = ap (λ z. slice_index z.returned u) is in
      let m : slice_index q.retries u ≡ slice_index p.retries u = ap (λ z. slice_index z.retries u) is in
      dite (ℕ_discrete u t)
      (λ i. omega (arith, falls_at (due_of a) (due_of b) t u falls i, raised_at p.spent t u i, keeps.due u l))
      (λ d. omega (arith, falls.others u d, raised_else p.spent t u d, keeps.due u l));
}

pub spent_entries : (a b : List SlotRecord) (p q : PortView) (t e : ℕ) → GrowsAt e (holders_of a) (holders_of b) → has e p ≡ 0 → q ≡ spends t e p → HasEntries a p → HasEntries b q
spent_entries a b p q t e grows clear is keeps = record {
  entries = λ i.
      let h : has i q ≡ bit_at (with_bit p.hand e) i = ap (has i) is in
      dite (ℕ_discrete i e)
      (λ k. subst (λ (x : ℕ). has x q ≡ holders_of b x) (sym k) (let here : has e q ≡ bit_at (with_bit p.hand e) e = ap (has e) is in omega (arith, with_here p.hand e, grows.more, keeps.entries e)))
      (λ d. omega (arith, with_else p.hand e i d, grows.others i d, keeps.entries i));
}

-- a credit of type t was given back for a Cancelled slot of the type
pub returned_within : (a b : List SlotRecord) (p q : PortView) (t : ℕ) → IsSameSlot (riding_of a) (riding_of b) → riding_of a t < seen_of p t → HasOneLess t p q → IsWithinSeen a p → IsWithinSeen b q
returned_within a b p q t riding free less keeps = record {
  within = λ u l. dite (ℕ_discrete u t)
      (λ e. let h : seen_of q u + 1 ≡ seen_of p u = subst (λ (k : ℕ). seen_of q k + 1 ≡ seen_of p k) (sym e) less.0 in
      let f : riding_of a u < seen_of p u = subst (λ (k : ℕ). riding_of a k < seen_of p k) (sym e) free in omega (arith, riding.same u))
      (λ d. omega (arith, riding.same u, less.1 u l d, keeps.within u l));
}

pub returned_due : (a b : List SlotRecord) (p q : PortView) (t : ℕ) → FallsAt t (due_of a) (due_of b) → HasSameCredits (with_return t q.seen p) q → HasDue a p → HasDue b q
returned_due a b p q t falls same keeps = record {
  due = λ u l.
      let m : slice_index q.retries u ≡ slice_index p.retries u = ap (λ ns. slice_index ns u) same.3 in
      let s : slice_index q.spent u ≡ slice_index p.spent u = ap (λ ns. slice_index ns u) same.4 in
      let r : slice_index q.returned u ≡ slice_index (one_more p.returned t) u = ap (λ ns. slice_index ns u) same.5 in
      dite (ℕ_discrete u t)
      (λ i. omega (arith, falls_at (due_of a) (due_of b) t u falls i, raised_at p.returned t u i, keeps.due u l))
      (λ d. omega (arith, falls.others u d, raised_else p.returned t u d, keeps.due u l));
}

pub returned_entries : (a b : List SlotRecord) (p q : PortView) → IsSameSlot (holders_of a) (holders_of b) → ((i : ℕ) → has i q ≡ has i p) → HasEntries a p → HasEntries b q
returned_entries a b p q same hand keeps = record { entries = λ i. omega (arith, same.same i, hand i, keeps.entries i) }
