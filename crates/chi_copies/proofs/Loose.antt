-- What one agent's hidden steps make of its set.
use Rattle.std.proofs.Common.{◌≡◌, ℕ, ◌<◌, refl, sym, ap, subst, ◌∙◌}
use Rattle.std.specs.Prelude.{Bool, true, false, ◌&&◌, ◌||◌, not}
use Rattle.chi_observer.specs.declared.flits.Due.{Due}
use Rattle.chi_observer.specs.declared.flits.Due.TheVariants.{Nothing, Completion, Resending, SureCompletion, WriteData, Acknowledgement}
use Rattle.chi_observer.specs.declared.flits.Stores.{Stores}
use Rattle.chi_observer.specs.Copies.{holds_data, is_unique, is_dirty, is_clean}
use Rattle.chi_observer.specs.Rules.{are_hidden, is_resending}
use Rattle.chi_copies.specs.Copies.{Held, Copies, is_fresh, is_newer, beside, same_held, image}
use Rattle.chi_copies.specs.Rules.{may_be_free, freed, stored_to, dropped, slips, waits_without_news}
use Rattle.chi_copies.specs.Worlds.{World, put}
use Rattle.chi_copies.specs.Observed.{Observed, Meaning, is_storable, is_shown_dirty, loose}
use Rattle.chi_copies.specs.Laws.{MeaningLoosens}
use Rattle.chi_copies.proofs.Finite.{no, left, right, both, implies, follow, either, or_left, or_right, all_helds, each_held, turned, in_image, out_image}
use Rattle.chi_copies.proofs.Rows.{is_sane, same_held_is, same_held_self}
use Rattle.chi_copies.proofs.Put.{here, there, split}

-- THE WAYS OF A HIDDEN STEP
pub data Slipped (z : Stores) (d : Due) (h k : Held) : Type 0 where
  Still : h ≡ k → Slipped z d h k
  Freed : may_be_free d ≡ true → freed d h ≡ k → Slipped z d h k
  Store : may_be_free d ≡ true → are_hidden z ≡ true → is_unique h.copy ≡ true → stored_to (freed d h) ≡ k → Slipped z d h k
  Drop : may_be_free d ≡ true → is_clean h.copy ≡ true → dropped (freed d h) ≡ k → Slipped z d h k

pub slipped : (z : Stores) (d : Due) (h k : Held) → slips z d h k ≡ true → Slipped z d h k
slipped z d h k e = either (same_held h k) _ e (λ e. Still (same_held_is h k e)) (λ e.
    let m : may_be_free d ≡ true = left _ _ e in
    either (same_held (freed d h) k) _ (right (may_be_free d) _ e) (λ e. Freed m (same_held_is _ k e)) (λ e.
    either (are_hidden z && (is_unique h.copy && same_held (stored_to (freed d h)) k)) _ e
    (λ e. Store m (left _ _ e) (left _ _ (right (are_hidden z) _ e)) (same_held_is _ k (right (is_unique h.copy) _ (right (are_hidden z) _ e))))
    (λ e. Drop m (left _ _ e) (same_held_is _ k (right (is_clean h.copy) _ e)))))

pub slip_self : (z : Stores) (d : Due) (h : Held) → slips z d h h ≡ true
slip_self z d h = or_left (same_held h h) _ (same_held_self h)

-- what goes with a copy goes with what is behind a store or a drop
store_fits : Held → Held → Bool
store_fits h t = implies (is_sane h && (is_sane t && beside h t)) (implies (is_unique h.copy) (beside (stored_to h) t) && implies (is_clean h.copy) (beside (dropped h) t))

store_holds : all_helds (λ h. all_helds (store_fits h)) ≡ true
unfolding store_fits
store_holds = refl

store_each : (h t : Held) → is_sane h ≡ true → is_sane t ≡ true → beside h t ≡ true → (implies (is_unique h.copy) (beside (stored_to h) t) && implies (is_clean h.copy) (beside (dropped h) t)) ≡ true
unfolding store_fits
store_each h t s r e = follow (is_sane h && (is_sane t && beside h t)) _ (each_held (store_fits h) (each_held (λ h. all_helds (store_fits h)) store_holds h) t) (both (is_sane h) _ s (both (is_sane t) _ r e))

pub slip_weakens : (z : Stores) (d : Due) (h k t : Held) → Slipped z d h k → is_sane h ≡ true → is_sane t ≡ true → beside h t ≡ true → beside k t ≡ true
slip_weakens z d h k t (Still e) s r b = subst (λ k. beside k t ≡ true) e b
slip_weakens z d h k t (Freed m e) s r b = subst (λ k. beside k t ≡ true) e b
slip_weakens z d h k t (Store m a u e) s r b = subst (λ k. beside k t ≡ true) e (follow (is_unique h.copy) _ (left _ _ (store_each h t s r b)) u)
slip_weakens z d h k t (Drop m c e) s r b = subst (λ k. beside k t ≡ true) e (follow (is_clean h.copy) _ (right (implies (is_unique h.copy) (beside (stored_to h) t)) _ (store_each h t s r b)) c)

drop_sane : (b : Bool) (h : Held) → implies b (is_storable (dropped h)) ≡ true
drop_sane true h = refl
drop_sane false h = refl

pub slip_sane : (z : Stores) (d : Due) (h k : Held) → Slipped z d h k → is_sane h ≡ true → is_sane k ≡ true
slip_sane z d h k (Still e) s = subst (λ k. is_sane k ≡ true) e s
slip_sane z d h k (Freed m e) s = subst (λ k. is_sane k ≡ true) e s
slip_sane z d h k (Store m a u e) s = subst (λ k. is_sane k ≡ true) e refl
slip_sane z d h k (Drop m c e) s = subst (λ k. is_sane k ≡ true) e (drop_sane h.stored (freed d h))

pub slip_fresh : (z : Stores) (d : Due) (h k : Held) → Slipped z d h k → is_fresh k ≡ true → is_fresh h ≡ true
slip_fresh z d h k (Still e) f = subst (λ k. is_fresh k ≡ true) (sym e) f
slip_fresh z d h k (Freed m e) f = subst (λ k. is_fresh k ≡ true) (sym e) f
slip_fresh z d h k (Store m a u e) f = no (subst (λ k. is_fresh k ≡ true) (sym e) f)
slip_fresh z d h k (Drop m c e) f = no (subst (λ k. is_fresh k ≡ true) (sym e) f)

clean_dirty : Held → Bool
clean_dirty h = implies (is_clean h.copy) (not (is_dirty h.copy))

clean_holds : all_helds clean_dirty ≡ true
unfolding clean_dirty
clean_holds = refl

clean_not : (h : Held) → is_clean h.copy ≡ true → is_dirty h.copy ≡ false
unfolding clean_dirty
clean_not h c = turned _ (follow (is_clean h.copy) _ (each_held clean_dirty clean_holds h) c)

pub slip_dirty : (z : Stores) (d : Due) (h k : Held) → Slipped z d h k → is_dirty h.copy ≡ true → is_dirty k.copy ≡ true
slip_dirty z d h k (Still e) f = subst (λ k. is_dirty k.copy ≡ true) e f
slip_dirty z d h k (Freed m e) f = subst (λ k. is_dirty k.copy ≡ true) e f
slip_dirty z d h k (Store m a u e) f = subst (λ k. is_dirty k.copy ≡ true) e refl
slip_dirty z d h k (Drop m c e) f = no (sym (clean_not h c) ∙ f)

pub slip_shown : (z : Stores) (d : Due) (h k : Held) → Slipped z d h k → is_shown_dirty k ≡ true → is_shown_dirty h ≡ true
slip_shown z d h k (Still e) f = subst (λ k. is_shown_dirty k ≡ true) (sym e) f
slip_shown z d h k (Freed m e) f = subst (λ k. is_shown_dirty k ≡ true) (sym e) f
slip_shown z d h k (Store m a u e) f = no (subst (λ k. is_shown_dirty k ≡ true) (sym e) f)
slip_shown z d h k (Drop m c e) f = no (subst (λ k. is_shown_dirty k ≡ true) (sym e) f)

reading_waits : (d : Due) → may_be_free d ≡ true → waits_without_news d ≡ true → is_resending d ≡ true
reading_waits Nothing m r = no r
reading_waits (Resending k) m r = refl
reading_waits (Completion k) m r = no m
reading_waits (SureCompletion k) m r = no m
reading_waits (WriteData k) m r = no m
reading_waits Acknowledgement m r = no m

or_never : (c r : Bool) → r ≡ true → (c || r) ≡ false → false ≡ true
or_never true r e g = sym g
or_never false r e g = sym g ∙ e

or_false : (c r : Bool) → c ≡ false → r ≡ false → (c || r) ≡ false
or_false true r e g = e
or_false false r e g = g

pub slip_seen : (z : Stores) (d : Due) (h k : Held) → Slipped z d h k → waits_without_news d ≡ true → k.cancelled ≡ false → (h.cancelled ≡ false → is_newer h ≡ false) → is_newer k ≡ false
slip_seen z d h k (Still e) r c f = subst (λ k. is_newer k ≡ false) e (f (ap (λ (k : Held). k.cancelled) e ∙ c))
slip_seen z d h k (Freed m e) r c f = no (or_never h.cancelled (is_resending d) (reading_waits d m r) (ap (λ (k : Held). k.cancelled) e ∙ c))
slip_seen z d h k (Store m a u e) r c f = no (or_never h.cancelled (is_resending d) (reading_waits d m r) (ap (λ (k : Held). k.cancelled) e ∙ c))
slip_seen z d h k (Drop m b e) r c f = no (or_never h.cancelled (is_resending d) (reading_waits d m r) (ap (λ (k : Held). k.cancelled) e ∙ c))

pub slip_waits : (z : Stores) (d : Due) (h k : Held) → Slipped z d h k → is_resending d ≡ false → h.cancelled ≡ false → k.cancelled ≡ false
slip_waits z d h k (Still e) r c = ap (λ (k : Held). k.cancelled) (sym e) ∙ c
slip_waits z d h k (Freed m e) r c = ap (λ (k : Held). k.cancelled) (sym e) ∙ or_false h.cancelled (is_resending d) c r
slip_waits z d h k (Store m a u e) r c = ap (λ (k : Held). k.cancelled) (sym e) ∙ or_false h.cancelled (is_resending d) c r
slip_waits z d h k (Drop m b e) r c = ap (λ (k : Held). k.cancelled) (sym e) ∙ or_false h.cancelled (is_resending d) c r

-- where stores are listed a copy with data is as it was
pub slip_listed : (z : Stores) (d : Due) (h k : Held) → Slipped z d h k → are_hidden z ≡ false → holds_data k.copy ≡ true → (holds_data h.copy ≡ true) × (h.stored ≡ k.stored)
slip_listed z d h k (Still e) l f = (subst (λ k. holds_data k.copy ≡ true) (sym e) f, ap (λ (k : Held). k.stored) e)
slip_listed z d h k (Freed m e) l f = (subst (λ k. holds_data k.copy ≡ true) (sym e) f, ap (λ (k : Held). k.stored) e)
slip_listed z d h k (Store m a u e) l f = no (sym l ∙ a)
slip_listed z d h k (Drop m c e) l f = no (subst (λ k. holds_data k.copy ≡ true) (sym e) f)

-- two hidden steps are one
or_twice : (c r : Bool) → ((c || r) || r) ≡ (c || r)
or_twice true r = refl
or_twice false true = refl
or_twice false false = refl

pub freed_twice : (d : Due) (h : Held) → freed d (freed d h) ≡ freed d h
freed_twice d h = λ i. record { copy = h.copy; cancelled = or_twice h.cancelled (is_resending d) i; stored = h.stored }

to_freed : (z : Stores) (d : Due) (h t : Held) → may_be_free d ≡ true → freed d h ≡ t → slips z d h t ≡ true
to_freed z d h t m e = subst (λ t. slips z d h t ≡ true) e (or_right (same_held h (freed d h)) _ (both (may_be_free d) _ m (or_left (same_held (freed d h) (freed d h)) _ (same_held_self (freed d h)))))

to_stored : (z : Stores) (d : Due) (h t : Held) → may_be_free d ≡ true → are_hidden z ≡ true → is_unique h.copy ≡ true → stored_to (freed d h) ≡ t → slips z d h t ≡ true
to_stored z d h t m a u e = subst (λ t. slips z d h t ≡ true) e (or_right (same_held h (stored_to (freed d h))) _ (both (may_be_free d) _ m (or_right (same_held (freed d h) (stored_to (freed d h))) _
    (or_left (are_hidden z && (is_unique h.copy && same_held (stored_to (freed d h)) (stored_to (freed d h)))) _ (both (are_hidden z) _ a (both (is_unique h.copy) _ u (same_held_self (stored_to (freed d h)))))))))

to_dropped : (z : Stores) (d : Due) (h t : Held) → may_be_free d ≡ true → is_clean h.copy ≡ true → dropped (freed d h) ≡ t → slips z d h t ≡ true
to_dropped z d h t m c e = subst (λ t. slips z d h t ≡ true) e (or_right (same_held h (dropped (freed d h))) _ (both (may_be_free d) _ m (or_right (same_held (freed d h) (dropped (freed d h))) _
    (or_right (are_hidden z && (is_unique h.copy && same_held (stored_to (freed d h)) (dropped (freed d h)))) _ (both (is_clean h.copy) _ c (same_held_self (dropped (freed d h))))))))

pub slip_once : (z : Stores) (d : Due) (h k t : Held) → Slipped z d h k → Slipped z d k t → slips z d k t ≡ true → slips z d h k ≡ true → slips z d h t ≡ true
slip_once z d h k t (Still e) y b a = subst (λ h. slips z d h t ≡ true) (sym e) b
slip_once z d h k t (Freed m e) (Still f) b a = subst (λ t. slips z d h t ≡ true) f a
slip_once z d h k t (Freed m e) (Freed n f) b a = to_freed z d h t m (sym (freed_twice d h) ∙ ap (freed d) e ∙ f)
slip_once z d h k t (Freed m e) (Store n i u f) b a = to_stored z d h t m i (subst (λ k. is_unique k.copy ≡ true) (sym e) u) (ap stored_to (sym (freed_twice d h) ∙ ap (freed d) e) ∙ f)
slip_once z d h k t (Freed m e) (Drop n c f) b a = to_dropped z d h t m (subst (λ k. is_clean k.copy ≡ true) (sym e) c) (ap dropped (sym (freed_twice d h) ∙ ap (freed d) e) ∙ f)
slip_once z d h k t (Store m i u e) (Still f) b a = subst (λ t. slips z d h t ≡ true) f a
slip_once z d h k t (Store m i u e) (Freed n f) b a = to_stored z d h t m i u (ap stored_to (sym (freed_twice d h)) ∙ ap (freed d) e ∙ f)
slip_once z d h k t (Store m i u e) (Store n j v f) b a = to_stored z d h t m i u (ap stored_to (sym (freed_twice d h)) ∙ ap (λ k. stored_to (freed d k)) e ∙ f)
slip_once z d h k t (Store m i u e) (Drop n c f) b a = no (subst (λ k. is_clean k.copy ≡ true) (sym e) c)
slip_once z d h k t (Drop m c e) (Still f) b a = subst (λ t. slips z d h t ≡ true) f a
slip_once z d h k t (Drop m c e) (Freed n f) b a = to_dropped z d h t m c (ap dropped (sym (freed_twice d h)) ∙ ap (freed d) e ∙ f)
slip_once z d h k t (Drop m c e) (Store n j v f) b a = no (subst (λ k. is_unique k.copy ≡ true) (sym e) v)
slip_once z d h k t (Drop m c e) (Drop n g f) b a = no (subst (λ k. is_clean k.copy ≡ true) (sym e) g)

-- THE SET
module _ (n : ℕ) (o : Observed) where
  abbrev z : Stores
  z = o.public.stores

  abbrev d : Due
  d = o.public.due n

  abbrev S : Copies
  S = o.may n

  abbrev T : Copies
  T = image (slips z d) S

  pub in_loose : (h : Held) → S h ≡ true → T h ≡ true
  in_loose h e = in_image (slips z d) S h h e (slip_self z d h)

  pub loosened : (w : World) → Meaning o w → Meaning (loose n o) w
  loosened w m = record {
    copies = split (λ i. i < 32 → put n T o.may i (w.state i) ≡ true) n
        (λ l. subst (λ X. X (w.state n) ≡ true) (sym (here n T o.may)) (in_loose (w.state n) (m.copies n l)))
        (λ i g l. subst (λ X. X (w.state i) ≡ true) (sym (there n T o.may i g)) (m.copies i l));
    words = m.words;
    home = m.home;
    current = m.current;
    news = m.news;
  }

  -- where a copy of the set comes from
  pub record Slip (k : Held) : Type 0 where
    pub held : Held
    pub has : S held ≡ true
    pub how : Slipped z d held k
    pub leads : slips z d held k ≡ true

  pub slip_of : (k : Held) → T k ≡ true → Slip k
  slip_of k e = let x = out_image (slips z d) S k e in record { held = x.held; has = x.has; how = slipped z d x.held k x.leads; leads = x.leads }

pub loosens : MeaningLoosens
loosens n o w sound low m = loosened n o w m
