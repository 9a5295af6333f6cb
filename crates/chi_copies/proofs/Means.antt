-- What is meant is coherent, and hidden steps lead to nothing else.
use Rattle.std.proofs.Common.{◌≡◌, ◌≢◌, ℕ, ◌<◌, refl, sym, subst, ◌∙◌}
use Rattle.std.specs.Prelude.{Bool, true, false, ◌&&◌, ◌||◌, not}
use Rattle.chi_observer.specs.declared.flits.Due.{Due}
use Rattle.chi_observer.specs.declared.flits.Due.TheVariants.{Nothing, Completion, Resending, SureCompletion, WriteData, Acknowledgement}
use Rattle.chi_observer.specs.declared.flits.Stores.{Stores}
use Rattle.chi_observer.specs.Copies.{holds_data, is_unique, is_clean, compatible}
use Rattle.chi_observer.specs.Rules.{are_hidden, is_resending}
use Rattle.chi_copies.specs.Copies.{Held, shown_of, is_fresh, is_newer, beside, same_held}
use Rattle.chi_copies.specs.Rules.{is_free, may_store, may_be_free, freed, stored_to, dropped, slips}
use Rattle.chi_copies.specs.Worlds.{World, Words, Same}
use Rattle.chi_copies.specs.Observed.{Observed, Sound, Meaning, is_storable}
use Rattle.chi_copies.specs.Laws.{MeaningIsCoherent}
use Rattle.chi_copies.proofs.Finite.{no, left, right, both, implies, follow, or_left, or_right, turned}
use Rattle.chi_copies.proofs.Rows.{is_sane, beside_each, same_held_self}

-- WORDS
pub same_refl : (u : Words) → Same u u
same_refl u p l = refl

pub same_sym : (u v : Words) → Same u v → Same v u
same_sym u v h p l = sym (h p l)

pub same_trans : (u v w : Words) → Same u v → Same v w → Same u w
same_trans u v w h g p l = h p l ∙ g p l

pub same_by : (u v : Words) → u ≡ v → Same u v
same_by u v h = subst (λ v. Same u v) h (same_refl u)

-- COPIES
pub sane : (o : Observed) → Sound o → (n : ℕ) → n < 32 → (h : Held) → o.may n h ≡ true → is_sane h ≡ true
sane o sound n low h e = sane_by h.stored refl
  where
    sane_by : (b : Bool) → h.stored ≡ b → is_sane h ≡ true
    sane_by true g = subst (λ b. implies b (is_storable h) ≡ true) (sym g) (sound.storable n low h e g)
    sane_by false g = subst (λ b. implies b (is_storable h) ≡ true) (sym g) refl

module _ (h k : Held) (e : beside h k ≡ true) where
  pub beside_back : beside k h ≡ true
  beside_back = left _ _ (beside_each h k e)

  rest : (compatible h.copy k.copy && (implies (holds_data h.copy && is_sane k) (not (is_newer k) && implies (is_fresh h) (not k.stored)) && (implies (is_unique h.copy) (not (holds_data k.copy)) && beside (shown_of h) (shown_of k)))) ≡ true
  rest = right (beside k h) _ (beside_each h k e)

  pub beside_goes : compatible h.copy k.copy ≡ true
  beside_goes = left _ _ rest

  data_facts : is_sane k ≡ true → holds_data h.copy ≡ true → (not (is_newer k) && implies (is_fresh h) (not k.stored)) ≡ true
  data_facts s d = follow (holds_data h.copy && is_sane k) _ (left _ _ (right (compatible h.copy k.copy) _ rest)) (both _ _ d s)

  -- beside a copy with data no other has newer ones
  pub none_newer : is_sane k ≡ true → holds_data h.copy ≡ true → is_newer k ≡ false
  none_newer s d = turned _ (left _ _ (data_facts s d))

  -- and beside one that has the home's none was stored to
  pub none_stored : is_sane k ≡ true → is_fresh h ≡ true → k.stored ≡ false
  none_stored s f = turned _ (follow (is_fresh h) _ (right (not (is_newer k)) _ (data_facts s (left _ _ f))) f)

  last_facts : (implies (is_unique h.copy) (not (holds_data k.copy)) && beside (shown_of h) (shown_of k)) ≡ true
  last_facts = right (implies (holds_data h.copy && is_sane k) (not (is_newer k) && implies (is_fresh h) (not k.stored))) _ (right (compatible h.copy k.copy) _ rest)

  pub alone_data : is_unique h.copy ≡ true → holds_data k.copy ≡ false
  alone_data u = turned _ (follow (is_unique h.copy) _ (left _ _ last_facts) u)

  pub beside_shown : beside (shown_of h) (shown_of k) ≡ true
  beside_shown = right (implies (is_unique h.copy) (not (holds_data k.copy))) _ last_facts

pub met : (o : Observed) (w : World) → Sound o → Meaning o w → (n m : ℕ) → n < 32 → m < 32 → n ≢ m → beside (w.state n) (w.state m) ≡ true
met o w sound m i j li lj d = sound.pairs i j li lj d (w.state i) (w.state j) (m.copies i li) (m.copies j lj)

pub coherent : MeaningIsCoherent
coherent o w sound m = record {
  pairs = λ i j li lj d. beside_goes (w.state i) (w.state j) (met o w sound m i j li lj d);
  words = m.words;
  memory = m.current;
}

-- HIDDEN STEPS
pub free_may : (d : Due) (h : Held) → is_free d h ≡ true → may_be_free d ≡ true
free_may Nothing h e = refl
free_may (Resending k) h e = refl
free_may (Completion k) h e = no e
free_may (SureCompletion k) h e = no e
free_may (WriteData k) h e = no e
free_may Acknowledgement h e = no e

pub resending_may : (d : Due) → is_resending d ≡ true → may_be_free d ≡ true
resending_may (Resending k) e = refl
resending_may Nothing e = no e
resending_may (Completion k) e = no e
resending_may (SureCompletion k) e = no e
resending_may (WriteData k) e = no e
resending_may Acknowledgement e = no e

pub free_stores : (d : Due) (h : Held) → is_free d h ≡ true → may_store d h ≡ true
free_stores Nothing h e = refl
free_stores (Resending k) h e = e
free_stores (Completion k) h e = no e
free_stores (SureCompletion k) h e = no e
free_stores (WriteData k) h e = no e
free_stores Acknowledgement h e = refl

-- one that is free has nothing to cancel
pub free_freed : (d : Due) (h : Held) → is_free d h ≡ true → freed d h ≡ h
free_freed Nothing h e = λ i. record { copy = h.copy; cancelled = or_none h.cancelled i; stored = h.stored }
  where
    or_none : (c : Bool) → (c || false) ≡ c
    or_none true = refl
    or_none false = refl
free_freed (Resending k) h e = λ i. record { copy = h.copy; cancelled = or_all h.cancelled e i; stored = h.stored }
  where
    or_all : (c : Bool) → c ≡ true → (c || true) ≡ c
    or_all true e = refl
    or_all false e = no e
free_freed (Completion k) h e = no e
free_freed (SureCompletion k) h e = no e
free_freed (WriteData k) h e = no e
free_freed Acknowledgement h e = no e

pub slip_free : (z : Stores) (d : Due) (h : Held) → may_be_free d ≡ true → slips z d h (freed d h) ≡ true
slip_free z d h m = or_right (same_held h (freed d h)) _ (both (may_be_free d) _ m (or_left (same_held (freed d h) (freed d h)) _ (same_held_self (freed d h))))

pub slip_store : (z : Stores) (d : Due) (h : Held) → may_be_free d ≡ true → are_hidden z ≡ true → is_unique h.copy ≡ true → slips z d h (stored_to (freed d h)) ≡ true
slip_store z d h m hidden u = or_right (same_held h (stored_to (freed d h))) _ (both (may_be_free d) _ m (or_right (same_held (freed d h) (stored_to (freed d h))) _
    (or_left (are_hidden z && (is_unique h.copy && same_held (stored_to (freed d h)) (stored_to (freed d h)))) _
    (both (are_hidden z) _ hidden (both (is_unique h.copy) _ u (same_held_self (stored_to (freed d h))))))))

pub slip_drop : (z : Stores) (d : Due) (h : Held) → may_be_free d ≡ true → is_clean h.copy ≡ true → slips z d h (dropped (freed d h)) ≡ true
slip_drop z d h m c = or_right (same_held h (dropped (freed d h))) _ (both (may_be_free d) _ m (or_right (same_held (freed d h) (dropped (freed d h))) _
    (or_right (are_hidden z && (is_unique h.copy && same_held (stored_to (freed d h)) (dropped (freed d h)))) _
    (both (is_clean h.copy) _ c (same_held_self (dropped (freed d h)))))))
