-- What a flit of the home makes of a copy: tried at each place where it is due.
use Rattle.std.proofs.Common.{◌≡◌, refl}
use Rattle.std.specs.Prelude.{Bool, true, false, ◌&&◌, ◌||◌, not, Option, Some, None}
use Rattle.chi_flit.specs.declared.state.State.{State}
use Rattle.chi_observer.specs.declared.kinds.Snoop.{Snoop}
use Rattle.chi_observer.specs.declared.kinds.Kind.{Kind}
use Rattle.chi_observer.specs.declared.flits.Due.{Due}
use Rattle.chi_observer.specs.declared.flits.Due.TheVariants.{Nothing, Completion, Resending, SureCompletion, WriteData, Acknowledgement}
use Rattle.chi_observer.specs.declared.flits.Grant.{Grant}
use Rattle.chi_observer.specs.declared.flits.Grant.TheVariants.{RetryAck, Snp, CompData, CompUC, CompSC, CompI, CompDBIDResp}
use Rattle.chi_observer.specs.declared.kinds.Snoop.TheVariants.{SnpOnce}
use Rattle.chi_observer.specs.Copies.{holds_data, is_unique, is_dirty}
use Rattle.chi_observer.specs.Rules.{is_completed, is_due, is_resending, needs_alone, makes, settles, gives_copy, due_granted}
use Rattle.chi_copies.specs.Copies.{Held, is_lost, is_fresh, is_newer, same_held}
use Rattle.chi_copies.specs.Rules.{may_store, granted, fills, shows, renews, waits_without_news}
use Rattle.chi_copies.specs.Observed.{is_shown_dirty}
use Rattle.chi_copies.proofs.Finite.{no, left, right, implies, follow, turned, flip, all_forms, each_form, all_kinds, each_kind, all_helds, each_held}
use Rattle.chi_copies.proofs.Rows.{is_sane, same_truth, same_truth_is}

-- what may be due
abbrev all_dues : (Due → Bool) → Bool
all_dues f = f Nothing && (all_kinds (λ k. f (Completion k)) && (all_kinds (λ k. f (Resending k)) && (all_kinds (λ k. f (SureCompletion k)) && (all_kinds (λ k. f (WriteData k)) && f Acknowledgement))))

each_due : (f : Due → Bool) → all_dues f ≡ true → (d : Due) → f d ≡ true
each_due f h Nothing = left (f Nothing) _ h
each_due f h (Completion k) = each_kind (λ k. f (Completion k)) (left (all_kinds (λ k. f (Completion k))) _ (right (f Nothing) _ h)) k
each_due f h (Resending k) = each_kind (λ k. f (Resending k)) (left (all_kinds (λ k. f (Resending k))) _ (right (all_kinds (λ k. f (Completion k))) _ (right (f Nothing) _ h))) k
each_due f h (SureCompletion k) = each_kind (λ k. f (SureCompletion k)) (left (all_kinds (λ k. f (SureCompletion k))) _ (right (all_kinds (λ k. f (Resending k))) _ (right (all_kinds (λ k. f (Completion k))) _ (right (f Nothing) _ h)))) k
each_due f h (WriteData k) = each_kind (λ k. f (WriteData k)) (left (all_kinds (λ k. f (WriteData k))) _ (right (all_kinds (λ k. f (SureCompletion k))) _ (right (all_kinds (λ k. f (Resending k))) _ (right (all_kinds (λ k. f (Completion k))) _ (right (f Nothing) _ h))))) k
each_due f h Acknowledgement = right (all_kinds (λ k. f (WriteData k))) _ (right (all_kinds (λ k. f (SureCompletion k))) _ (right (all_kinds (λ k. f (Resending k))) _ (right (all_kinds (λ k. f (Completion k))) _ (right (f Nothing) _ h))))

-- completions, which a snoop that isn't answered adds none to
abbrev completing : (Grant → Due → Bool) → Grant → Bool
completing f g = all_kinds (λ k. implies (is_completed g k None) (f g (Completion k) && f g (SureCompletion k)))

abbrev asks_none : Grant → Snoop → Bool
asks_none g x = all_kinds (λ k. implies (is_completed g k (Some x)) (is_completed g k None))

none_asked : (g : Grant) (x : Snoop) → asks_none g x ≡ true
none_asked RetryAck x = refl
none_asked (Snp y) x = refl
none_asked (CompData s) x = each_form (λ s. asks_none (CompData s) x) refl s
none_asked CompUC x = refl
none_asked CompSC x = refl
none_asked CompI x = refl
none_asked CompDBIDResp x = refl

pub unasked : (g : Grant) (k : Kind) (q : Option Snoop) → is_completed g k q ≡ true → is_completed g k None ≡ true
unasked g k None e = e
unasked g k (Some x) e = follow (is_completed g k (Some x)) _ (each_kind (λ k. implies (is_completed g k (Some x)) (is_completed g k None)) (none_asked g x) k) e

abbrev all_gifts : (Grant → Due → Bool) → Snoop → Bool
all_gifts f x = all_dues (λ d. f (Snp x) d) && (all_kinds (λ k. f RetryAck (Completion k)) && (all_forms (λ s. completing f (CompData s)) && (completing f CompUC && (completing f CompSC && (completing f CompI && completing f CompDBIDResp)))))

abbrev pub Gifts : (Grant → Due → Bool) → Type 0
Gifts f = (x : Snoop) → all_gifts f x ≡ true

module _ (f : Grant → Due → Bool) (h : Gifts f) where
  snooping : (x : Snoop) (d : Due) → f (Snp x) d ≡ true
  snooping x d = each_due (λ d. f (Snp x) d) (left (all_dues (λ d. f (Snp x) d)) _ (h x)) d

  behind_snoops : (all_kinds (λ k. f RetryAck (Completion k)) && (all_forms (λ s. completing f (CompData s)) && (completing f CompUC && (completing f CompSC && (completing f CompI && completing f CompDBIDResp))))) ≡ true
  behind_snoops = right (all_dues (λ d. f (Snp SnpOnce) d)) _ (h SnpOnce)

  behind_retries : (all_forms (λ s. completing f (CompData s)) && (completing f CompUC && (completing f CompSC && (completing f CompI && completing f CompDBIDResp)))) ≡ true
  behind_retries = right (all_kinds (λ k. f RetryAck (Completion k))) _ behind_snoops

  behind_data : (completing f CompUC && (completing f CompSC && (completing f CompI && completing f CompDBIDResp))) ≡ true
  behind_data = right (all_forms (λ s. completing f (CompData s))) _ behind_retries

  completed : (g : Grant) → completing f g ≡ true → (k : Kind) (q : Option Snoop) → is_completed g k q ≡ true → (f g (Completion k) && f g (SureCompletion k)) ≡ true
  completed g e k q c = follow (is_completed g k None) _ (each_kind (λ k. implies (is_completed g k None) (f g (Completion k) && f g (SureCompletion k))) e k) (unasked g k q c)

  due_by : (g : Grant) → completing f g ≡ true → (k : Kind) (q : Option Snoop) → is_completed g k q ≡ true → f g (Completion k) ≡ true
  due_by g e k q c = left (f g (Completion k)) _ (completed g e k q c)

  sure_by : (g : Grant) → completing f g ≡ true → (k : Kind) (q : Option Snoop) → is_completed g k q ≡ true → f g (SureCompletion k) ≡ true
  sure_by g e k q c = right (f g (Completion k)) _ (completed g e k q c)

  with_data : completing f CompUC ≡ true
  with_data = left (completing f CompUC) _ behind_data

  each_data : (s : State) → completing f (CompData s) ≡ true
  each_data s = each_form (λ s. completing f (CompData s)) (left (all_forms (λ s. completing f (CompData s))) _ behind_retries) s

  shared : completing f CompSC ≡ true
  shared = left (completing f CompSC) _ (right (completing f CompUC) _ behind_data)

  gone : completing f CompI ≡ true
  gone = left (completing f CompI) _ (right (completing f CompSC) _ (right (completing f CompUC) _ behind_data))

  asking : completing f CompDBIDResp ≡ true
  asking = right (completing f CompI) _ (right (completing f CompSC) _ (right (completing f CompUC) _ behind_data))

  pub each_due_gift : (g : Grant) (d : Due) (q : Option Snoop) → is_due g d q ≡ true → f g d ≡ true
  each_due_gift (Snp x) d q c = snooping x d
  each_due_gift RetryAck (Completion k) q c = each_kind (λ k. f RetryAck (Completion k)) (left (all_kinds (λ k. f RetryAck (Completion k))) _ behind_snoops) k
  each_due_gift RetryAck other q c = no c
  each_due_gift (CompData s) (Completion k) q c = due_by (CompData s) (each_data s) k q c
  each_due_gift (CompData s) (SureCompletion k) q c = sure_by (CompData s) (each_data s) k q c
  each_due_gift (CompData s) other q c = no c
  each_due_gift CompUC (Completion k) q c = due_by CompUC with_data k q c
  each_due_gift CompUC (SureCompletion k) q c = sure_by CompUC with_data k q c
  each_due_gift CompUC other q c = no c
  each_due_gift CompSC (Completion k) q c = due_by CompSC shared k q c
  each_due_gift CompSC (SureCompletion k) q c = sure_by CompSC shared k q c
  each_due_gift CompSC other q c = no c
  each_due_gift CompI (Completion k) q c = due_by CompI gone k q c
  each_due_gift CompI (SureCompletion k) q c = sure_by CompI gone k q c
  each_due_gift CompI other q c = no c
  each_due_gift CompDBIDResp (Completion k) q c = due_by CompDBIDResp asking k q c
  each_due_gift CompDBIDResp (SureCompletion k) q c = sure_by CompDBIDResp asking k q c
  each_due_gift CompDBIDResp other q c = no c

pub each_gift : (f : Grant → Due → Held → Bool) → Gifts (λ g d. all_helds (f g d)) → (g : Grant) (d : Due) (q : Option Snoop) → is_due g d q ≡ true → (h : Held) → f g d h ≡ true
each_gift f e g d q c h = each_held (f g d) (each_due_gift (λ g d. all_helds (f g d)) e g d q c) h

-- ONE COPY
module _ (g : Grant) (d : Due) (q : Option Snoop) (due : is_due g d q ≡ true) where
  -- a line that is made is unique, and newer than the home's
  pub makes_newer : (h : Held) → makes g d ≡ true → (is_unique (granted g d h).copy && (holds_data (granted g d h).copy && (granted g d h).stored)) ≡ true
  makes_newer h e = follow (makes g d) _ (each_gift (λ g d h. implies (makes g d) (is_unique (granted g d h).copy && (holds_data (granted g d h).copy && (granted g d h).stored))) (λ x. refl) g d q due h) e

  -- where the home's own words are the value no copy is left
  pub settles_none : (h : Held) → settles g d ≡ true → (needs_alone g d && (not (makes g d) && (not (holds_data (granted g d h).copy) && not (granted g d h).stored))) ≡ true
  settles_none h e = follow (settles g d) _ (each_gift (λ g d h. implies (settles g d) (needs_alone g d && (not (makes g d) && (not (holds_data (granted g d h).copy) && not (granted g d h).stored)))) (λ x. refl) g d q due h) e

  -- a copy that is filled has data, and the value is what it was
  pub fills_data : (h : Held) → fills g h ≡ true → (holds_data (granted g d h).copy && (shows g h && not (renews g d))) ≡ true
  fills_data h e = follow (fills g h) _ (each_gift (λ g d h. implies (fills g h) (holds_data (granted g d h).copy && (shows g h && not (renews g d)))) (λ x. refl) g d q due h) e

  -- data that leave a copy are a read's
  pub gives_read : (h : Held) → gives_copy g ≡ true → (waits_without_news d && not (is_resending d)) ≡ true
  gives_read h e = follow (gives_copy g) _ (each_gift (λ g d h. implies (gives_copy g) (waits_without_news d && not (is_resending d))) (λ x. refl) g d q due h) e

  -- data that are neither given nor made were there
  pub kept_data : (h : Held) → (holds_data (granted g d h).copy && (not (fills g h) && not (makes g d))) ≡ true → holds_data h.copy ≡ true
  kept_data h e = follow (holds_data (granted g d h).copy && (not (fills g h) && not (makes g d))) _ (each_gift (λ g d h. implies (holds_data (granted g d h).copy && (not (fills g h) && not (makes g d))) (holds_data h.copy)) (λ x. refl) g d q due h) e

  pub stays_sane : (h : Held) → (is_sane h && not (fills g h && h.stored)) ≡ true → is_sane (granted g d h) ≡ true
  stays_sane h e = follow (is_sane h && not (fills g h && h.stored)) _ (each_gift (λ g d h. implies (is_sane h && not (fills g h && h.stored)) (is_sane (granted g d h))) (λ x. refl) g d q due h) e

  pub fresh_from : (h : Held) → is_fresh (granted g d h) ≡ true → (is_fresh h || fills g h) ≡ true
  fresh_from h e = follow (is_fresh (granted g d h)) _ (each_gift (λ g d h. implies (is_fresh (granted g d h)) (is_fresh h || fills g h)) (λ x. refl) g d q due h) e

  pub keeps_stored : (h : Held) → renews g d ≡ false → (granted g d h).stored ≡ h.stored
  keeps_stored h e = same_truth_is _ _ (follow (not (renews g d)) _ (each_gift (λ g d h. implies (not (renews g d)) (same_truth (granted g d h).stored h.stored)) (λ x. refl) g d q due h) (flip _ e))

  pub lost_before : (h : Held) → (is_sane h && (not (renews g d) && is_lost (granted g d h))) ≡ true → is_lost h ≡ true
  lost_before h e = follow (is_sane h && (not (renews g d) && is_lost (granted g d h))) _ (each_gift (λ g d h. implies (is_sane h && (not (renews g d) && is_lost (granted g d h))) (is_lost h)) (λ x. refl) g d q due h) e

  pub lost_kept : (h : Held) → renews g d ≡ true → is_lost (granted g d h) ≡ false
  lost_kept h e = turned _ (follow (renews g d) _ (each_gift (λ g d h. implies (renews g d) (not (is_lost (granted g d h)))) (λ x. refl) g d q due h) e)

  -- a request that is open, or was retried, was so before, and its copy is as it was
  pub still_reading : (h : Held) → waits_without_news (due_granted g d) ≡ true → (waits_without_news d && same_held (granted g d h) h) ≡ true
  still_reading h e = follow (waits_without_news (due_granted g d)) _ (each_gift (λ g d h. implies (waits_without_news (due_granted g d)) (waits_without_news d && same_held (granted g d h) h)) (λ x. refl) g d q due h) e

  pub still_waits : (h : Held) → is_resending (due_granted g d) ≡ false → is_resending d ≡ false
  still_waits h e = turned _ (follow (not (is_resending (due_granted g d))) _ (each_gift (λ g d h. implies (not (is_resending (due_granted g d))) (not (is_resending d))) (λ x. refl) g d q due h) (flip _ e))

  -- where no store may be hidden then none was before
  pub store_before : (h : Held) → not (may_store (due_granted g d) (granted g d h)) ≡ true → not (may_store d h) ≡ true
  store_before h e = follow (not (may_store (due_granted g d) (granted g d h))) _ (each_gift (λ g d h. implies (not (may_store (due_granted g d) (granted g d h))) (not (may_store d h))) (λ x. refl) g d q due h) e

  -- and a copy with newer words is left so
  pub newer_behind : (h : Held) → (is_sane h && (is_newer h && (not (renews g d) && (implies (waits_without_news d) h.cancelled && implies (not (is_resending d)) (not h.cancelled))))) ≡ true
      → (is_newer (granted g d h) && implies (not (may_store d h)) (not (may_store (due_granted g d) (granted g d h)))) ≡ true
  newer_behind h e = follow (is_sane h && (is_newer h && (not (renews g d) && (implies (waits_without_news d) h.cancelled && implies (not (is_resending d)) (not h.cancelled))))) _
      (each_gift (λ g d h. implies (is_sane h && (is_newer h && (not (renews g d) && (implies (waits_without_news d) h.cancelled && implies (not (is_resending d)) (not h.cancelled)))))
      (is_newer (granted g d h) && implies (not (may_store d h)) (not (may_store (due_granted g d) (granted g d h))))) (λ x. refl) g d q due h) e

  -- two copies of one set
  pub stays_even : (h k : Held) → implies (is_shown_dirty h) (is_dirty k.copy) ≡ true → is_shown_dirty (granted g d h) ≡ true → is_dirty (granted g d k).copy ≡ true
  stays_even h k e = follow (is_shown_dirty (granted g d h)) _ (follow (implies (is_shown_dirty h) (is_dirty k.copy)) _ (each_held (λ k. implies (implies (is_shown_dirty h) (is_dirty k.copy)) (implies (is_shown_dirty (granted g d h)) (is_dirty (granted g d k).copy)))
      (each_gift (λ g d h. all_helds (λ k. implies (implies (is_shown_dirty h) (is_dirty k.copy)) (implies (is_shown_dirty (granted g d h)) (is_dirty (granted g d k).copy)))) (λ x. refl) g d q due h) k) e)
