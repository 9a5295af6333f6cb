-- The moments that are kept are those that worlds have.
use Rattle.std.proofs.Common.{◌≡◌, ◌≢◌, ℕ, ◌<◌, refl, sym, ap, subst, ◌∙◌}
use Rattle.std.specs.Prelude.{Bool, true, false, ◌&&◌, ◌||◌, ◌==◌, not}
use Rattle.std.proofs.lemmas.Bool.{eqb-true}
use Rattle.chi_observer.specs.Copies.{is_dirty}
use Rattle.chi_copies.specs.Copies.{Held}
use Rattle.chi_copies.specs.Worlds.{World, Shown}
use Rattle.chi_copies.specs.Observed.{Observed, Sound, Meaning, any_of}
use Rattle.chi_copies.specs.Moments.{none_dirty, home_is_last}
use Rattle.chi_copies.specs.Runs.{IsCleaned}
use Rattle.chi_copies.proofs.Finite.{all_out, no, left, right, both, by_false, turned, flip, in_held, out_held}
use Rattle.chi_copies.proofs.Leads.{all_by}
use Rattle.chi_copies.proofs.Top.{each_in_some}
use Rattle.chi_copies.proofs.Put.{differ}

module _ (o : Observed) (sound : Sound o) where
  -- what no copy of a set is no world has there, and the other way round
  none_has : (f : Held → Bool) (m : ℕ) → m < 32 → any_of (o.may m) f ≡ false → (w : World) → Meaning o w → f (w.state m) ≡ false
  none_has f m l e w meant = by_false (f (w.state m)) (λ g. sym e ∙ in_held (λ h. o.may m h && f h) (w.state m) (both (o.may m (w.state m)) _ (meant.copies m l) g))

  has_none : (f : Held → Bool) (m : ℕ) → m < 32 → ((w : World) → Meaning o w → f (w.state m) ≡ false) → any_of (o.may m) f ≡ false
  has_none f m l g = by_false (any_of (o.may m) f) (λ e. let h = out_held (λ h. o.may m h && f h) e in let s = each_in_some o m h.0 sound l (left (o.may m h.0) _ h.1) in
      sym (g s.world s.meant) ∙ subst (λ h. f h ≡ true) (sym s.is) (right (o.may m h.0) _ h.1))

  pub is_last : home_is_last o ≡ true → (w : World) → Meaning o w → Shown w
  is_last e w meant m l = none_has (λ h. h.stored) m l (turned _ (all_out 32 (λ m. not (any_of (o.may m) (λ h. h.stored))) e m l)) w meant

  pub last_is : ((w : World) → Meaning o w → Shown w) → home_is_last o ≡ true
  last_is g = all_by 32 (λ m. not (any_of (o.may m) (λ h. h.stored))) (λ m l. flip _ (has_none (λ h. h.stored) m l (λ w meant. g w meant m l)))

  or_second : (a b : Bool) → (a || b) ≡ true → a ≡ false → b ≡ true
  or_second true b h e = no (sym e)
  or_second false b h e = h

  unlike : (m n : ℕ) → m ≢ n → (m == n) ≡ false
  unlike m n g = by_false (m == n) (λ q. absurd (g (eqb-true m n q)))

  both_false : (a b : Bool) → (a && not b) ≡ false → a ≡ true → b ≡ true
  both_false true true h e = refl
  both_false true false h e = no (sym h)
  both_false false b h e = no e

  pub is_cleaned : (n : ℕ) → none_dirty o n ≡ true → (w : World) → Meaning o w → IsCleaned n w
  is_cleaned n e w meant = record {
    others = λ m l g. none_has (λ h. is_dirty h.copy) m l (turned _ (or_second (m == n) _ (left _ _ (each m l)) (unlike m n g))) w meant;
    value = λ m l. both_false (w.state m).stored (is_dirty (w.state m).copy) (none_has (λ h. h.stored && not (is_dirty h.copy)) m l (turned _ (right (m == n || not (any_of (o.may m) (λ h. is_dirty h.copy))) _ (each m l))) w meant);
  }
    where
      each : (m : ℕ) → m < 32 → ((m == n || not (any_of (o.may m) (λ h. is_dirty h.copy))) && not (any_of (o.may m) (λ h. h.stored && not (is_dirty h.copy)))) ≡ true
      each m l = all_out 32 (λ m. (m == n || not (any_of (o.may m) (λ h. is_dirty h.copy))) && not (any_of (o.may m) (λ h. h.stored && not (is_dirty h.copy)))) e m l

  and_not : (a b : Bool) → (a ≡ true → b ≡ true) → (a && not b) ≡ false
  and_not true b g = ap not (g refl)
  and_not false b g = refl

  pub cleaned_is : (n : ℕ) → ((w : World) → Meaning o w → IsCleaned n w) → none_dirty o n ≡ true
  cleaned_is n g = all_by 32 (λ m. (m == n || not (any_of (o.may m) (λ h. is_dirty h.copy))) && not (any_of (o.may m) (λ h. h.stored && not (is_dirty h.copy)))) (λ m l.
      both (m == n || not (any_of (o.may m) (λ h. is_dirty h.copy))) _ (first m l (m == n) refl)
      (flip _ (has_none (λ h. h.stored && not (is_dirty h.copy)) m l (λ w meant. and_not (w.state m).stored (is_dirty (w.state m).copy) ((g w meant).value m l)))))
    where
      first : (m : ℕ) → m < 32 → (b : Bool) → (m == n) ≡ b → (b || not (any_of (o.may m) (λ h. is_dirty h.copy))) ≡ true
      first m l true q = refl
      first m l false q = flip _ (has_none (λ h. is_dirty h.copy) m l (λ w meant. (g w meant).others m l (differ m n q)))
