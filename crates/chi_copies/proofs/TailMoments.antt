-- The moments of a trace that begins in the middle.
use Rattle.std.proofs.Common.{◌≡◌, ◌≢◌, ℕ, ◌<◌, refl, sym, subst, ◌∙◌}
use Rattle.std.specs.Prelude.{Bool, true, false, ◌&&◌, ◌||◌, ◌==◌, not, if◌then◌else◌}
use Rattle.chi_observer.specs.declared.flits.Due.{Due}
use Rattle.chi_observer.specs.declared.flits.Stores.{Stores}
use Rattle.chi_observer.specs.Copies.{is_dirty}
use Rattle.chi_observer.specs.Rules.{awaits_moment, reads_once}
use Rattle.chi_copies.specs.Copies.{Held}
use Rattle.chi_copies.specs.Observed.{Observed, Closed, any_of}
use Rattle.chi_copies.specs.Moments.{none_dirty, home_is_last, is_moment}
use Rattle.chi_copies.specs.Begun.{Behind, counts, sure_then, may_then, sure_here, may_here, home_may_be_last, none_may_be_dirty, may_be_moment}
use Rattle.chi_copies.proofs.Finite.{left, right, both, either, or_left, or_right, by_truth, by_false, turned, flip, in_held}
use Rattle.chi_copies.proofs.Put.{differ}
use Rattle.chi_copies.proofs.Sets.{each_below}
use Rattle.chi_copies.proofs.Leads.{all_by}
use Rattle.chi_copies.proofs.Larger.{or_less}
use Rattle.chi_copies.proofs.TailSets.{met}
use Rattle.chi_copies.proofs.TailFollows.{Trails, sides_behind, closes}

-- what is so of a copy is so of the one above it
abbrev Rises : (Held → Bool) → Type 0
Rises f = (h k : Held) → h.copy ≡ k.copy → (h.stored ≡ true → k.stored ≡ true) → f h ≡ true → f k ≡ true

stored_rises : Rises (λ h. h.stored)
stored_rises h k c s e = s e

dirty_rises : Rises (λ h. is_dirty h.copy)
dirty_rises h k c s e = subst (λ c. is_dirty c ≡ true) c e

lost_rises : Rises (λ h. h.stored && not (is_dirty h.copy))
lost_rises h k c s e = both k.stored _ (s (left h.stored _ e)) (subst (λ c. not (is_dirty c) ≡ true) c (right h.stored _ e))

-- o: behind hidden steps of n; u: right behind its flit
module _ (o u : Observed) (s : Behind) (n : ℕ) (trails : Trails o u s) (shut : Closed o) (same : (m : ℕ) → m ≢ n → (h : Held) → o.may m h ≡ true → u.may m h ≡ true) (same_due : (m : ℕ) → u.public.due m ≡ o.public.due m) where
  abbrev z : Stores
  z = o.public.stores

  none_met : (f : Held → Bool) → Rises f → (m : ℕ) (h k : Held) → any_of (u.may m) f ≡ false → u.may m k ≡ true → h.copy ≡ k.copy → (h.stored ≡ true → k.stored ≡ true) → f h ≡ true → false ≡ true
  none_met f rises m h k none y c t e = sym none ∙ in_held (λ h. u.may m h && f h) k (both (u.may m k) _ y (rises h k c t e))

  none_by : (f : Held → Bool) → Rises f → (m : ℕ) → m < 32 → any_of (u.may m) f ≡ false → (v : Bool) → (m == n) ≡ v → counts (if v then s.sure m else sure_then s m) (if v then s.may m else may_then s m) f ≡ false
  none_by f rises m l none true i = by_false (counts (s.sure m) (s.may m) f) (λ c.
      let w = met z (o.public.due m) (s.asked m) (s.sure m) (u.may m) (o.may m) (s.may m) (trails.agents m l).base f c in
      none_met f rises m w.lower w.upper none w.above w.under.copy w.under.stored w.so)
  none_by f rises m l none false i = by_false (counts (sure_then s m) (may_then s m) f) (λ c.
      let w = met z (o.public.due m) (s.asked m) (sure_then s m) (o.may m) (o.may m) (may_then s m) (closes z s.public.stores (sides_behind o u s m) trails.stores (trails.agents m l) (trails.inside m l) (shut m l)).base f c in
      none_met f rises m w.lower w.upper none (same m (differ m n i) w.upper w.above) w.under.copy w.under.stored w.so)

  none_here : (f : Held → Bool) → Rises f → (m : ℕ) → m < 32 → any_of (u.may m) f ≡ false → counts (sure_here s n m) (may_here s n m) f ≡ false
  none_here f rises m l none = none_by f rises m l none (m == n) refl

  last_so : home_is_last u ≡ true → home_may_be_last s n ≡ true
  last_so e = all_by 32 (λ m. not (counts (sure_here s n m) (may_here s n m) (λ h. h.stored))) (λ m l. flip _ (none_here (λ h. h.stored) stored_rises m l (turned _ (each_below 32 (λ m. not (any_of (u.may m) (λ h. h.stored))) e m l))))

  dirty_so : (k : ℕ) → none_dirty u k ≡ true → none_may_be_dirty s n k ≡ true
  dirty_so k e = all_by 32 (λ m. (m == k || not (counts (sure_here s n m) (may_here s n m) (λ h. is_dirty h.copy))) && not (counts (sure_here s n m) (may_here s n m) (λ h. h.stored && not (is_dirty h.copy)))) (λ m l.
      let w = each_below 32 (λ m. (m == k || not (any_of (u.may m) (λ h. is_dirty h.copy))) && not (any_of (u.may m) (λ h. h.stored && not (is_dirty h.copy)))) e m l in
      both (m == k || not (counts (sure_here s n m) (may_here s n m) (λ h. is_dirty h.copy))) _
      (or_less (m == k) (not (any_of (u.may m) (λ h. is_dirty h.copy))) (not (counts (sure_here s n m) (may_here s n m) (λ h. is_dirty h.copy))) (λ y. flip _ (none_here (λ h. is_dirty h.copy) dirty_rises m l (turned _ y)))
      (left (m == k || not (any_of (u.may m) (λ h. is_dirty h.copy))) _ w))
      (flip _ (none_here (λ h. h.stored && not (is_dirty h.copy)) lost_rises m l (turned _ (right (m == k || not (any_of (u.may m) (λ h. is_dirty h.copy))) _ w)))))

  moment_by : (k : ℕ) (r : Bool) → (if r then home_is_last u else none_dirty u k) ≡ true → (if r then home_may_be_last s n else none_may_be_dirty s n k) ≡ true
  moment_by k true e = last_so e
  moment_by k false e = dirty_so k e

  due_so : (k : ℕ) → k < 32 → s.asked k ≡ false → u.public.due k ≡ s.public.due k
  due_so k l e = same_due k ∙ sym ((trails.agents k l).due e)

  moment_so : (k : ℕ) → k < 32 → s.asked k ≡ false → is_moment u k ≡ true → may_be_moment s n k ≡ true
  moment_so k l a e = subst (λ (d : Due). (if reads_once d then home_may_be_last s n else none_may_be_dirty s n k) ≡ true) (due_so k l a) (moment_by k (reads_once (u.public.due k)) e)

  -- issue: it is the issue of k's request; was and kept: whether there was its moment before, as both keep it
  pub moments_so : (k : ℕ) → k < 32 → (issue was kept : Bool) → (was ≡ true → kept ≡ true) → (awaits_moment (u.public.due k) && ((not issue && was) || is_moment u k)) ≡ true
      → (s.asked k || (awaits_moment (s.public.due k) && ((not issue && kept) || may_be_moment s n k))) ≡ true
  moments_so k l issue was kept f e = by_truth (s.asked k) (λ a. or_left (s.asked k) _ a) (λ a. or_right (s.asked k) _ (both (awaits_moment (s.public.due k)) _
      (subst (λ (d : Due). awaits_moment d ≡ true) (due_so k l a) (left (awaits_moment (u.public.due k)) _ e))
      (either (not issue && was) (is_moment u k) (right (awaits_moment (u.public.due k)) _ e)
      (λ y. or_left (not issue && kept) _ (both (not issue) _ (left (not issue) _ y) (f (right (not issue) _ y))))
      (λ y. or_right (not issue && kept) _ (moment_so k l a y)))))
