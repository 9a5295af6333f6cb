-- Each world behind one agent's hidden steps comes from one before.
use Rattle.std.proofs.Common.{◌≡◌, ◌≢◌, inl, inr, ℕ, ◌<◌, refl, sym, ap, subst, ◌∙◌}
use Rattle.std.specs.Prelude.{Bool, true, false, ◌&&◌, ◌||◌, not, Option, Some, None, if◌then◌else◌}
use Rattle.chi_observer.specs.declared.flits.Due.{Due}
use Rattle.chi_observer.specs.declared.flits.Due.TheVariants.{Nothing, Completion, Resending, SureCompletion, WriteData, Acknowledgement}
use Rattle.chi_observer.specs.declared.flits.Stores.{Stores}
use Rattle.chi_observer.specs.declared.flits.Stores.TheVariants.{Hidden as HiddenStores, Listed}
use Rattle.chi_observer.specs.Copies.{holds_data, is_unique, is_clean}
use Rattle.chi_observer.specs.Rules.{are_hidden, is_resending}
use Rattle.chi_copies.specs.Copies.{Held, Copies, is_newer, same_held, image}
use Rattle.chi_copies.specs.Rules.{is_free, may_hide, may_be_free, freed, stored_to, dropped, slips}
use Rattle.chi_copies.specs.Worlds.{Public, World, Words, Same, Shown, Elsewhere, unchanged, Hidden, Drift, put}
use Rattle.chi_copies.specs.Worlds.Drift.{Stay, Step}
use Rattle.chi_copies.specs.Observed.{Observed, Sound, Meaning, has_news, loose}
use Rattle.chi_copies.specs.Laws.{Rewound, MeaningRewinds}
use Rattle.chi_copies.proofs.Finite.{no, left, right, both, implies, follow, by_truth, all_helds, each_held, turned}
use Rattle.chi_copies.proofs.Rows.{is_sane, same_held_is}
use Rattle.chi_copies.proofs.Means.{same_refl, same_by, same_trans, sane, alone_data}
use Rattle.chi_copies.proofs.Loose.{Slipped, slip_of}
use Rattle.chi_copies.proofs.Loose.Slipped.{Still, Freed, Store, Drop}
use Rattle.chi_copies.proofs.Put.{here, there, split}

-- words that the known ones are of
abbrev pub or_zero : Option ℕ → ℕ
or_zero None = 0
or_zero (Some v) = v

abbrev pub made : (ℕ → Option ℕ) → Words
made k p = or_zero (k p)

pub made_fits : (k : ℕ → Option ℕ) (p v : ℕ) → k p ≡ Some v → made k p ≡ v
made_fits k p v e = ap or_zero e

pub drift_on : (p : Public) (u v w : World) → Drift p u v → Hidden p v w → Drift p u w
drift_on p u v w Stay h = Step h Stay
drift_on p u v w (Step a b) h = Step a (drift_on p _ v w b h)

or_none : (c r : Bool) → r ≡ false → (c || r) ≡ c
or_none true r e = refl
or_none false r e = e

not_resending : (d : Due) (h : Held) → is_resending d ≡ false → freed d h ≡ h
not_resending d h e = λ i. record { copy = h.copy; cancelled = or_none h.cancelled (is_resending d) e i; stored = h.stored }

or_all : (c r : Bool) → r ≡ true → (c || r) ≡ true
or_all true r e = refl
or_all false r e = e

freed_free : (d : Due) (h : Held) → may_be_free d ≡ true → is_free d (freed d h) ≡ true
freed_free Nothing h e = refl
freed_free (Resending k) h e = or_all h.cancelled true refl
freed_free (Completion k) h e = no e
freed_free (SureCompletion k) h e = no e
freed_free (WriteData k) h e = no e
freed_free Acknowledgement h e = no e

clean_newer : Held → Bool
clean_newer h = implies (is_sane h && is_clean h.copy) (not (is_newer h))

clean_newer_holds : all_helds clean_newer ≡ true
unfolding clean_newer
clean_newer_holds = refl

clean_is_old : (h : Held) → is_sane h ≡ true → is_clean h.copy ≡ true → is_newer h ≡ false
unfolding clean_newer
clean_is_old h s c = turned _ (follow (is_sane h && is_clean h.copy) _ (each_held clean_newer clean_newer_holds h) (both (is_sane h) _ s c))

newer_UD : Held → Bool
newer_UD h = implies (is_sane h && is_newer h) (is_unique h.copy)

newer_UD_holds : all_helds newer_UD ≡ true
unfolding newer_UD
newer_UD_holds = refl

pub newer_is_unique : (h : Held) → is_sane h ≡ true → is_newer h ≡ true → is_unique h.copy ≡ true
unfolding newer_UD
newer_is_unique h s e = follow (is_sane h && is_newer h) _ (each_held newer_UD newer_UD_holds h) (both (is_sane h) _ s e)

-- a newer copy is as behind a store
stored_same : Held → Bool
stored_same h = implies (is_sane h && is_newer h) (same_held (stored_to h) h)

stored_same_holds : all_helds stored_same ≡ true
unfolding stored_same
stored_same_holds = refl

pub newer_is_stored : (h : Held) → is_sane h ≡ true → is_newer h ≡ true → stored_to h ≡ h
unfolding stored_same
newer_is_stored h s e = same_held_is (stored_to h) h (follow (is_sane h && is_newer h) _ (each_held stored_same stored_same_holds h) (both (is_sane h) _ s e))

-- what is known of a copy is so behind a cancel, where stores are listed
freed_news : (z : Stores) (d : Due) (h : Held) → (is_newer h && are_hidden z) ≡ false → (is_newer h && not (may_hide z d h)) ≡ true → (is_newer (freed d h) && not (may_hide z d (freed d h))) ≡ true
freed_news Listed d h f g = both (is_newer h) _ (left _ _ g) refl
freed_news HiddenStores d h f g = no (sym f ∙ both (is_newer h) true (left _ _ g) refl)

module _ (n : ℕ) (o : Observed) (w' : World) (sound : Sound o) (low : n < 32) (m : Meaning (loose n o) w') where
  abbrev z : Stores
  z = o.public.stores

  abbrev d : Due
  d = o.public.due n

  abbrev T : Copies
  T = image (slips z d) (o.may n)

  -- n's copy is h, and the value x
  abbrev back : Held → Words → World
  back h x = record { state = put n h w'.state; words = put n x w'.words; last = x; home = w'.home }

  copies_else : (i : ℕ) → i ≢ n → i < 32 → o.may i (w'.state i) ≡ true
  copies_else i g l = subst (λ X. X (w'.state i) ≡ true) (there n T o.may i g) (m.copies i l)

  back_copies : (h : Held) (x : Words) → o.may n h ≡ true → (i : ℕ) → i < 32 → o.may i ((back h x).state i) ≡ true
  back_copies h x e = split (λ i. i < 32 → o.may i (put n h w'.state i) ≡ true) n (λ _. subst (λ k. o.may n k ≡ true) (sym (here n h w'.state)) e)
      (λ i g l. subst (λ k. o.may i k ≡ true) (sym (there n h w'.state i g)) (copies_else i g l))

  -- as it is, but for n
  at_back : (h : Held) (x : Words) → Elsewhere n unchanged (back h x) w'
  at_back h x = record { state = λ i l g. sym (there n h w'.state i g); words = λ i l g. sym (there n x w'.words i g) }

  between : (h k : Held) (x : Words) → Elsewhere n unchanged (back h x) (back k x)
  between h k x = record { state = λ i l g. there n k w'.state i g ∙ sym (there n h w'.state i g); words = λ i l g. refl }

  cancelling : (h : Held) (x : Words) (b : Bool) → is_resending d ≡ b → Drift o.public (back h x) (back (freed d h) x)
  cancelling h x true e = Step (record {
    agent = n;
    low = low;
    others = between h (freed d h) x;
    home = refl;
    how = inr (inr (record { retried = e; gone = here n (freed d h) w'.state ∙ ap (freed d) (sym (here n h w'.state)); words = refl; last = refl }));
  }) Stay
  cancelling h x false e = subst (λ k. Drift o.public (back h x) (back k x)) (sym (not_resending d h e)) Stay

  module _ (h : Held) (has : o.may n h ≡ true) where
    sane_h : is_sane h ≡ true
    sane_h = sane o sound n low h has

    none_else : is_unique h.copy ≡ true → (i : ℕ) → i ≢ n → i < 32 → holds_data (w'.state i).copy ≡ false
    none_else u i g l = alone_data h (w'.state i) (sound.pairs n i low l (λ e. g (sym e)) h (w'.state i) has (copies_else i g l)) u

    -- behind a store: before it the value is the home's, or the known words
    abbrev before : Words
    before = if h.stored then made o.news else w'.home

    before_home : (b : Bool) → h.stored ≡ b → b ≡ false → Same w'.home before
    before_home b e g = subst (λ b. Same w'.home (if b then made o.news else w'.home)) (sym (e ∙ g)) (same_refl w'.home)

    before_news : h.stored ≡ true → (p : ℕ) → p < 8 → (v : ℕ) → o.news p ≡ Some v → before p ≡ v
    before_news e p l v x = subst (λ b. (if b then made o.news else w'.home) p ≡ v) (sym e) (made_fits o.news p v x)

    store_meant : is_unique h.copy ≡ true → Meaning o (back h before)
    store_meant u = record {
      copies = back_copies h before has;
      words = split (λ i. i < 32 → holds_data (put n h w'.state i).copy ≡ true → Same (put n before w'.words i) before) n
          (λ _ _. same_by _ _ (here n before w'.words)) (λ i g l e. no (sym (none_else u i g l) ∙ ap (λ (k : Held). holds_data k.copy) (sym (there n h w'.state i g)) ∙ e));
      home = m.home;
      current = λ shown. before_home h.stored refl (ap (λ (k : Held). k.stored) (sym (here n h w'.state)) ∙ shown n low);
      news = split (λ i. i < 32 → has_news o.public i (put n h w'.state i) ≡ true → (p : ℕ) → p < 8 → (v : ℕ) → o.news p ≡ Some v → before p ≡ v) n
          (λ _ e. before_news (left _ _ (left _ _ (subst (λ k. has_news o.public n k ≡ true) (here n h w'.state) e))))
          (λ i g l e. no (sym (none_else u i g l) ∙ right (w'.state i).stored _ (left _ _ (subst (λ k. has_news o.public i k ≡ true) (there n h w'.state i g) e))));
    }

    store_back : may_be_free d ≡ true → are_hidden z ≡ true → is_unique h.copy ≡ true → stored_to (freed d h) ≡ w'.state n → Rewound n o w'
    store_back f a u e = record {
      before = back h before;
      meant = store_meant u;
      drifts = drift_on o.public (back h before) (back (freed d h) before) w' (cancelling h before (is_resending d) refl) (record {
        agent = n;
        low = low;
        others = at_back (freed d h) before;
        home = refl;
        how = inl (record {
          hidden = a;
          free = subst (λ k. is_free d k ≡ true) (sym (here n (freed d h) w'.state)) (freed_free d h f);
          unique = subst (λ k. is_unique k.copy ≡ true) (sym (here n (freed d h) w'.state)) u;
          dirty = sym e ∙ ap stored_to (sym (here n (freed d h) w'.state));
          words = m.words n low (subst (λ k. holds_data k.copy ≡ true) e refl);
        });
      });
    }

    -- where the value is as it was
    kept_current : (w'.state n).stored ≡ h.stored → Shown (back h w'.last) → Same w'.home w'.last
    kept_current s shown = m.current (split (λ i. i < 32 → (w'.state i).stored ≡ false) n (λ l. s ∙ ap (λ (k : Held). k.stored) (sym (here n h w'.state)) ∙ shown n l)
        (λ i g l. ap (λ (k : Held). k.stored) (sym (there n h w'.state i g)) ∙ shown i l))

    kept_news : (has_news o.public n h ≡ true → has_news o.public n (w'.state n) ≡ true) → (i : ℕ) → i < 32 → has_news o.public i (put n h w'.state i) ≡ true → (p : ℕ) → p < 8 → (v : ℕ) → o.news p ≡ Some v → w'.last p ≡ v
    kept_news f = split (λ i. i < 32 → has_news o.public i (put n h w'.state i) ≡ true → (p : ℕ) → p < 8 → (v : ℕ) → o.news p ≡ Some v → w'.last p ≡ v) n
        (λ l e. m.news n l (f (subst (λ k. has_news o.public n k ≡ true) (here n h w'.state) e))) (λ i g l e. m.news i l (subst (λ k. has_news o.public i k ≡ true) (there n h w'.state i g) e))

    kept_meant : (w'.state n).stored ≡ h.stored → (has_news o.public n h ≡ true → has_news o.public n (w'.state n) ≡ true) → Meaning o (back h w'.last)
    kept_meant s f = record {
      copies = back_copies h w'.last has;
      words = split (λ i. i < 32 → holds_data (put n h w'.state i).copy ≡ true → Same (put n w'.last w'.words i) w'.last) n (λ _ _. same_by _ _ (here n w'.last w'.words))
          (λ i g l e. same_trans _ _ _ (same_by _ _ (there n w'.last w'.words i g)) (m.words i l (ap (λ (k : Held). holds_data k.copy) (sym (there n h w'.state i g)) ∙ e)));
      home = m.home;
      current = kept_current s;
      news = kept_news f;
    }

    drop_back : may_be_free d ≡ true → is_clean h.copy ≡ true → dropped (freed d h) ≡ w'.state n → Rewound n o w'
    drop_back f c e = record {
      before = back h w'.last;
      meant = kept_meant (ap (λ (k : Held). k.stored) (sym e)) (λ g. no (sym (clean_is_old h sane_h c) ∙ left _ _ g));
      drifts = drift_on o.public (back h w'.last) (back (freed d h) w'.last) w' (cancelling h w'.last (is_resending d) refl) (record {
        agent = n;
        low = low;
        others = at_back (freed d h) w'.last;
        home = refl;
        how = inr (inl (record {
          free = subst (λ k. is_free d k ≡ true) (sym (here n (freed d h) w'.state)) (freed_free d h f);
          clean = subst (λ k. is_clean k.copy ≡ true) (sym (here n (freed d h) w'.state)) c;
          gone = sym e ∙ ap dropped (sym (here n (freed d h) w'.state));
          last = refl;
        }));
      });
    }

    -- the same but for n's copy
    abbrev eased : World
    eased = record { state = put n h w'.state; words = w'.words; last = w'.last; home = w'.home }

    eased_meant : freed d h ≡ w'.state n → (is_newer h && are_hidden z) ≡ false → Meaning o eased
    eased_meant e f = record {
      copies = back_copies h w'.last has;
      words = split (λ i. i < 32 → holds_data (put n h w'.state i).copy ≡ true → Same (w'.words i) w'.last) n
          (λ l g. m.words n l (ap (λ (k : Held). holds_data k.copy) (sym e) ∙ ap (λ (k : Held). holds_data k.copy) (sym (here n h w'.state)) ∙ g))
          (λ i g l x. m.words i l (ap (λ (k : Held). holds_data k.copy) (sym (there n h w'.state i g)) ∙ x));
      home = m.home;
      current = kept_current (ap (λ (k : Held). k.stored) (sym e));
      news = kept_news (λ g. subst (λ k. has_news o.public n k ≡ true) e (freed_news z d h f g));
    }

    still_meant : h ≡ w'.state n → Meaning o w'
    still_meant e = record {
      copies = split (λ i. i < 32 → o.may i (w'.state i) ≡ true) n (λ _. subst (λ k. o.may n k ≡ true) e has) copies_else;
      words = m.words;
      home = m.home;
      current = m.current;
      news = m.news;
    }

    still_back : h ≡ w'.state n → Rewound n o w'
    still_back e = record { before = w'; meant = still_meant e; drifts = Stay }

    freed_back : freed d h ≡ w'.state n → (is_newer h && are_hidden z) ≡ false → (b : Bool) → is_resending d ≡ b → Rewound n o w'
    freed_back e f true r = record {
      before = eased;
      meant = eased_meant e f;
      drifts = Step (record {
        agent = n;
        low = low;
        others = record { state = λ i l g. sym (there n h w'.state i g); words = λ i l g. refl };
        home = refl;
        how = inr (inr (record { retried = r; gone = sym e ∙ ap (freed d) (sym (here n h w'.state)); words = refl; last = refl }));
      }) Stay;
    }
    freed_back e f false r = still_back (sym (not_resending d h r) ∙ e)

    back_by : Slipped z d h (w'.state n) → Rewound n o w'
    back_by (Still e) = still_back e
    back_by (Freed f e) = by_truth (is_newer h && are_hidden z)
        (λ g. store_back f (right (is_newer h) _ g) (newer_is_unique h sane_h (left _ _ g)) (newer_is_stored (freed d h) sane_h (left _ _ g) ∙ e))
        (λ g. freed_back e g (is_resending d) refl)
    back_by (Store f a u e) = store_back f a u e
    back_by (Drop f c e) = drop_back f c e

  pub rewound : Rewound n o w'
  rewound = let x = slip_of n o (w'.state n) (subst (λ X. X (w'.state n) ≡ true) (here n T o.may) (m.copies n low)) in back_by x.held x.has x.how

pub rewinds : MeaningRewinds
rewinds n o w' sound low m = rewound n o w' sound low m
