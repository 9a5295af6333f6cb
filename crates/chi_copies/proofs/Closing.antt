-- Hidden steps lead to nothing that isn't meant.
use Rattle.std.proofs.Common.{◌≡◌, ◌≢◌, inl, inr, ℕ, ◌<◌, refl, sym, ap, subst, ◌∙◌}
use Rattle.std.specs.Prelude.{Bool, true, false, ◌&&◌, ◌||◌, not, Some, List, ◌⊎◌}
use Rattle.chi_observer.specs.declared.flits.Due.{Due}
use Rattle.chi_observer.specs.declared.flits.Due.TheVariants.{Nothing, Completion, Resending, SureCompletion, WriteData, Acknowledgement}
use Rattle.chi_observer.specs.declared.flits.Stores.{Stores}
use Rattle.chi_observer.specs.declared.flits.Stores.TheVariants.{Hidden as HiddenStores, Listed}
use Rattle.chi_observer.specs.Copies.{holds_data}
use Rattle.chi_observer.specs.Rules.{are_hidden, is_resending, word_at}
use Rattle.chi_copies.specs.Copies.{Held, is_newer}
use Rattle.chi_copies.specs.Rules.{is_free, may_store, may_hide, freed, stored_to, dropped, slips}
use Rattle.chi_copies.specs.Worlds.{World, Words, Same, Shown, Elsewhere, unchanged, StoresUnseen, Drops, Cancels}
use Rattle.chi_copies.specs.Observed.{Observed, Sound, Closed, Meaning, has_news}
use Rattle.chi_copies.specs.Laws.{MeaningIsClosed}
use Rattle.chi_copies.proofs.Finite.{no, left, right, both}
use Rattle.chi_copies.proofs.Means.{same_by, same_trans, met, alone_data, free_may, resending_may, free_stores, free_freed, slip_free, slip_store, slip_drop}
use Rattle.chi_copies.proofs.Put.{split}

or_true : (c : Bool) → (c || true) ≡ true
or_true true = refl
or_true false = refl

-- what is known of a copy behind a cancel was so before
cancel_news : (z : Stores) (d : Due) (h : Held) → is_resending d ≡ true → (is_newer (freed d h) && not (may_hide z d (freed d h))) ≡ true → (is_newer h && not (may_hide z d h)) ≡ true
cancel_news Listed d h r g = both (is_newer h) _ (left _ _ g) refl
cancel_news HiddenStores (Resending k) h r g = no (subst (λ x. not x ≡ true) (or_true h.cancelled) (right (is_newer h) _ g))
cancel_news HiddenStores Nothing h r g = no r
cancel_news HiddenStores (Completion k) h r g = no r
cancel_news HiddenStores (SureCompletion k) h r g = no r
cancel_news HiddenStores (WriteData k) h r g = no r
cancel_news HiddenStores Acknowledgement h r g = no r

free_alike : (d : Due) (h : Held) → is_free d h ≡ true → is_free d (stored_to h) ≡ true
free_alike Nothing h e = refl
free_alike (Resending k) h e = e
free_alike (Completion k) h e = no e
free_alike (SureCompletion k) h e = no e
free_alike (WriteData k) h e = no e
free_alike Acknowledgement h e = no e

and_true : (a b : Bool) → a ≡ true → b ≡ true → not (a && b) ≡ false
and_true true true a b = refl
and_true true false a b = no b
and_true false b a e = no a

module _ (o : Observed) (w w' : World) (sound : Sound o) (shut : Closed o) (m : Meaning o w) (n : ℕ) (low : n < 32) (others : Elsewhere n unchanged w w') (same_home : w'.home ≡ w.home) where
  abbrev d : Due
  d = o.public.due n

  abbrev z : Stores
  z = o.public.stores

  abbrev h : Held
  h = w.state n

  copies_by : (k : Held) → w'.state n ≡ k → slips z d h k ≡ true → (i : ℕ) → i < 32 → o.may i (w'.state i) ≡ true
  copies_by k e s = split (λ i. i < 32 → o.may i (w'.state i) ≡ true) n
      (λ _. subst (λ k. o.may n k ≡ true) (sym e) (shut n low h k (m.copies n low) s))
      (λ i g l. subst (λ k. o.may i k ≡ true) (sym (others.state i l g)) (m.copies i l))

  home_by : (v : List ℕ) → o.home ≡ Some v → Same w'.home (word_at v)
  home_by v e = same_trans _ _ _ (same_by _ _ same_home) (m.home v e)

  -- others have what they had
  words_else : w'.last ≡ w.last → (i : ℕ) → i ≢ n → i < 32 → holds_data (w'.state i).copy ≡ true → Same (w'.words i) w'.last
  words_else last i g l e = same_trans _ _ _ (same_by _ _ (others.words i l g)) (same_trans _ _ _ (m.words i l (subst (λ k. holds_data k.copy ≡ true) (others.state i l g) e)) (same_by _ _ (sym last)))

  news_else : w'.last ≡ w.last → (i : ℕ) → i ≢ n → i < 32 → has_news o.public i (w'.state i) ≡ true → (p : ℕ) → p < 8 → (v : ℕ) → o.news p ≡ Some v → w'.last p ≡ v
  news_else last i g l e p lp v x = ap (λ (u : Words). u p) last ∙ m.news i l (subst (λ k. has_news o.public i k ≡ true) (others.state i l g) e) p lp v x

  current_by : w'.last ≡ w.last → (w'.state n).stored ≡ h.stored → Shown w' → Same w'.home w'.last
  current_by last s shown = same_trans _ _ _ (same_by _ _ same_home) (same_trans _ _ _ (m.current
      (split (λ i. i < 32 → (w.state i).stored ≡ false) n (λ l. sym s ∙ shown n l) (λ i g l. ap (λ (k : Held). k.stored) (sym (others.state i l g)) ∙ shown i l))) (same_by _ _ (sym last)))

  empty : StoresUnseen o.public n w w' → (i : ℕ) → i ≢ n → i < 32 → holds_data (w'.state i).copy ≡ false
  empty s i g l = ap (λ (k : Held). holds_data k.copy) (others.state i l g) ∙ alone_data h (w.state i) (met o w sound m n i low l (λ e. g (sym e))) s.unique

  still : StoresUnseen o.public n w w' → is_free d (w'.state n) ≡ true
  still s = subst (λ k. is_free d k ≡ true) (sym s.dirty) (free_alike d h s.free)

  stores_case : StoresUnseen o.public n w w' → Meaning o w'
  stores_case s = record {
    copies = copies_by (stored_to h) s.dirty (subst (λ k. slips z d h (stored_to k) ≡ true) (free_freed d h s.free) (slip_store z d h (free_may d h s.free) s.hidden s.unique));
    words = split (λ i. i < 32 → holds_data (w'.state i).copy ≡ true → Same (w'.words i) w'.last) n (λ _ _. s.words) (λ i g l e. no (sym (empty s i g l) ∙ e));
    home = home_by;
    current = λ shown. no (sym (shown n low) ∙ ap (λ (k : Held). k.stored) s.dirty);
    news = split (λ i. i < 32 → has_news o.public i (w'.state i) ≡ true → (p : ℕ) → p < 8 → (v : ℕ) → o.news p ≡ Some v → w'.last p ≡ v) n
        (λ _ e. no (sym (and_true (are_hidden z) (may_store d (w'.state n)) s.hidden (free_stores d (w'.state n) (still s))) ∙ right (is_newer (w'.state n)) _ e))
        (λ i g l e. no (sym (empty s i g l) ∙ right (w'.state i).stored _ (left _ _ e)));
  }

  drops_case : Drops o.public n w w' → Meaning o w'
  drops_case s = record {
    copies = copies_by (dropped h) s.gone (subst (λ k. slips z d h (dropped k) ≡ true) (free_freed d h s.free) (slip_drop z d h (free_may d h s.free) s.clean));
    words = split (λ i. i < 32 → holds_data (w'.state i).copy ≡ true → Same (w'.words i) w'.last) n (λ _ e. no (ap (λ (k : Held). holds_data k.copy) (sym s.gone) ∙ e)) (words_else s.last);
    home = home_by;
    current = current_by s.last (ap (λ (k : Held). k.stored) s.gone);
    news = split (λ i. i < 32 → has_news o.public i (w'.state i) ≡ true → (p : ℕ) → p < 8 → (v : ℕ) → o.news p ≡ Some v → w'.last p ≡ v) n
        (λ _ e. no (ap (λ (k : Held). holds_data k.copy) (sym s.gone) ∙ right (w'.state n).stored _ (left _ _ e))) (news_else s.last);
  }

  cancels_case : Cancels o.public n w w' → Meaning o w'
  cancels_case s = record {
    copies = copies_by (freed d h) s.gone (slip_free z d h (resending_may d s.retried));
    words = split (λ i. i < 32 → holds_data (w'.state i).copy ≡ true → Same (w'.words i) w'.last) n
        (λ l e. same_trans _ _ _ (same_by _ _ s.words) (same_trans _ _ _ (m.words n l (ap (λ (k : Held). holds_data k.copy) (sym s.gone) ∙ e)) (same_by _ _ (sym s.last)))) (words_else s.last);
    home = home_by;
    current = current_by s.last (ap (λ (k : Held). k.stored) s.gone);
    news = split (λ i. i < 32 → has_news o.public i (w'.state i) ≡ true → (p : ℕ) → p < 8 → (v : ℕ) → o.news p ≡ Some v → w'.last p ≡ v) n
        (λ l e p lp v x. ap (λ (u : Words). u p) s.last ∙ m.news n l (cancel_news z d h s.retried (subst (λ k. has_news o.public n k ≡ true) s.gone e)) p lp v x) (news_else s.last);
  }

pub closed : MeaningIsClosed
closed o w w' sound shut m step = by step.how
  where
    by : StoresUnseen o.public step.agent w w' ⊎ (Drops o.public step.agent w w' ⊎ Cancels o.public step.agent w w') → Meaning o w'
    by (inl s) = stores_case o w w' sound shut m step.agent step.low step.others step.home s
    by (inr (inl s)) = drops_case o w w' sound shut m step.agent step.low step.others step.home s
    by (inr (inr s)) = cancels_case o w w' sound shut m step.agent step.low step.others step.home s
