-- Whoever thinks more copies possible, and knows less of the words, takes each flit of a cache that another takes.
use Rattle.std.proofs.Common.{rules, arith, ◌≡◌, ◌≢◌, ℕ, ◌<◌, List, refl, sym, ap, subst, ◌∙◌}
use Rattle.std.specs.Prelude.{Bool, true, false, ◌&&◌, ◌||◌, ◌==◌, not, nat_lt, Option, Some, None, if◌then◌else◌}
use Rattle.std.proofs.lemmas.Bool.{eqb-true}
use Rattle.chi_observer.specs.declared.flits.Due.{Due}
use Rattle.chi_observer.specs.declared.flits.Due.TheVariants.{Nothing, Completion, Resending, SureCompletion, WriteData, Acknowledgement}
use Rattle.chi_observer.specs.declared.flits.Stores.{Stores}
use Rattle.chi_observer.specs.declared.flits.Word.{Word}
use Rattle.chi_observer.specs.declared.flits.Act.{Act}
use Rattle.chi_observer.specs.declared.flits.Act.TheVariants.{Request, Resend, SnpResp, CompAck, CopyBackWrData, NonCopyBackWrData, Load, Store}
use Rattle.chi_observer.specs.declared.flits.CacheFlit.{CacheFlit}
use Rattle.chi_observer.specs.Copies.{holds_data, is_unique}
use Rattle.chi_observer.specs.Rules.{word_at, gives_up, has_data, tells_words, looks, stores, is_request, lets_go, are_hidden, allows, due_after}
use Rattle.chi_copies.specs.Copies.{Held, Copies, shown_of, is_fresh, is_newer, same_held, any_bool, any_held, image}
use Rattle.chi_copies.specs.Rules.{may_store, may_hide, may_be_free, freed, stored_to, dropped, lets, row, slips, is_due_data}
use Rattle.chi_copies.specs.Worlds.{Public, Words, put, is_placed}
use Rattle.chi_copies.specs.Observed.{Observed, Sound, has_news, fits_at, fits_each, home_at, of_eight, known_of, differs_at, may_own, sends, sent, takes, no_words, known_before, stores_from, forgets, news_by, news_after, moved, loose, next}
use Rattle.chi_copies.specs.Above.{IsAbove, AboveTakes, StaysAbove, AboveMeansMore, SoundIsAbove, NothingIsAboveAll}
use Rattle.chi_copies.proofs.Finite.{no, left, right, both, or_left, or_right, implies, follow, by_truth, by_false, turned, flip, all_bools, each_bool, all_helds, each_held, in_bool, out_bool, in_held, out_held, in_image, out_image}
use Rattle.chi_copies.proofs.Rows.{on_some, of_some, all_acts, each_act, is_leaves, is_store_row, same_held_is, RowFacts}
use Rattle.chi_copies.proofs.Means.{sane, none_stored}
use Rattle.chi_copies.proofs.Moved.{Sent, sends_own, sent_by, own_listed, Came, came, one_came, others_after, other_of, in_other, empty_at}
use Rattle.chi_copies.proofs.Loose.{Slipped, slip_of, slip_fresh, slip_listed}
use Rattle.chi_copies.proofs.Loose.Slipped.{Still, Freed, Store as StoreSlip, Drop}
use Rattle.chi_copies.proofs.Loosened.{one}
use Rattle.chi_copies.proofs.Eight.{eight_is}
use Rattle.chi_copies.proofs.Leads.{low_place, all_by, none_some_nat, may_store_alike, hide_alike, hides_none, listed_or, and_none, resent_waits, ack_is, contrary}
use Rattle.chi_copies.proofs.Sets.{each_below}
use Rattle.chi_copies.proofs.Put.{everywhere}

-- WORDS OF WHICH LESS IS KNOWN
abbrev pub LessKnown : Option ℕ → Option ℕ → Type 0
LessKnown x y = (v : ℕ) → y ≡ Some v → x ≡ Some v

pub fits_less : (x y : Option ℕ) (v : ℕ) → LessKnown x y → fits_at x v ≡ true → fits_at y v ≡ true
fits_less x None v h e = refl
fits_less x (Some u) v h e = subst (λ z. fits_at z v ≡ true) (h u refl) e

pub differs_less : (x y : Option ℕ) (v : ℕ) → LessKnown x y → differs_at x v ≡ true → differs_at y v ≡ true
differs_less x None v h e = refl
differs_less x (Some u) v h e = subst (λ z. differs_at z v ≡ true) (h u refl) e

own_less : (a : Act) (k l : ℕ → Option ℕ) (own : Bool) → ((p : ℕ) → LessKnown (k p) (l p)) → may_own a k own ≡ true → may_own a l own ≡ true
own_less (Load word) k l true h e = fits_less (k word.place.0) (l word.place.0) word.value (h word.place.0) e
own_less (Load word) k l false h e = differs_less (k word.place.0) (l word.place.0) word.value (h word.place.0) e
own_less (Request kind) k l own h e = e
own_less (Resend kind) k l own h e = e
own_less (SnpResp answer) k l own h e = e
own_less CompAck k l own h e = e
own_less (CopyBackWrData form) k l own h e = e
own_less NonCopyBackWrData k l own h e = e
own_less (Store word) k l own h e = e

each_less : (k l : ℕ → Option ℕ) (v : Words) → ((p : ℕ) → LessKnown (k p) (l p)) → fits_each k v ≡ true → fits_each l v ≡ true
each_less k l v h e = all_by 8 (λ p. fits_at (l p) (v p)) (λ p low. fits_less (k p) (l p) (v p) (h p) (each_below 8 (λ p. fits_at (k p) (v p)) e p low))

pub or_less : (d a b : Bool) → (a ≡ true → b ≡ true) → (d || a) ≡ true → (d || b) ≡ true
or_less true a b h e = refl
or_less false a b h e = h e

home_less : (x y : Option (List ℕ)) → ((v : List ℕ) → y ≡ Some v → x ≡ Some v) → (p : ℕ) → LessKnown (home_at x p) (home_at y p)
home_less x None h p v e = absurd (none_some_nat v e)
home_less x (Some u) h p v e = subst (λ z. home_at z p ≡ Some v) (sym (h u refl)) e

eight_less : (k l : ℕ → Option ℕ) (p : ℕ) → LessKnown (k p) (l p) → LessKnown (of_eight k p) (of_eight l p)
eight_less k l p h v = by (nat_lt p 8)
  where
    by : (b : Bool) → (if b then l p else None) ≡ Some v → (if b then k p else None) ≡ Some v
    by true e = h v e
    by false e = absurd (none_some_nat v e)

home_then_less : (t : Bool) (u : List ℕ) (x y : Option (List ℕ)) → ((v : List ℕ) → y ≡ Some v → x ≡ Some v) → (v : List ℕ) → (if t then Some u else y) ≡ Some v → (if t then Some u else x) ≡ Some v
home_then_less true u x y h v e = e
home_then_less false u x y h v e = h v e

known_less : (b c : Bool) (x y x' y' : Option ℕ) → (b ≡ true → LessKnown x x') → (c ≡ true → LessKnown y y') → LessKnown (if b then x else (if c then y else None)) (if b then x' else (if c then y' else None))
known_less true c x y x' y' h g = h refl
known_less false true x y x' y' h g = g refl
known_less false false x y x' y' h g = λ v e. e

-- o, to which the flits have said what p says
abbrev with : Observed → Public → Observed
with o p = record { public = p; may = o.may; home = o.home; news = o.news }

-- WHAT A FLIT MAKES OF THE KNOWN WORDS
news_told : {A : Type 0} (a : Act) (g : Bool) (before news : ℕ → Option ℕ) (p v : ℕ) → tells_words a ≡ true → news_by a g before news p ≡ Some v → A
news_told (Load word) g before news p v t e = no t
news_told (Store word) g before news p v t e = no t
news_told (Request kind) g before news p v t e = no t
news_told (Resend kind) g before news p v t e = no t
news_told CompAck g before news p v t e = no t
news_told (SnpResp answer) true before news p v t e = absurd (none_some_nat v e)
news_told (SnpResp answer) false before news p v t e = absurd (none_some_nat v (subst (λ (b : Bool). (if b then no_words else news) p ≡ Some v) t e))
news_told (CopyBackWrData form) true before news p v t e = absurd (none_some_nat v e)
news_told (CopyBackWrData form) false before news p v t e = absurd (none_some_nat v (subst (λ (b : Bool). (if b then no_words else news) p ≡ Some v) t e))
news_told NonCopyBackWrData true before news p v t e = absurd (none_some_nat v e)
news_told NonCopyBackWrData false before news p v t e = absurd (none_some_nat v e)

put_less : (p place value : ℕ) (k l : ℕ → Option ℕ) → LessKnown (k p) (l p) → LessKnown (put place (Some value) k p) (put place (Some value) l p)
put_less p place value k l h v = by (p == place)
  where
    by : (b : Bool) → (if b then Some value else l p) ≡ Some v → (if b then Some value else k p) ≡ Some v
    by true e = e
    by false e = h v e

kept_less : (g g' t : Bool) (x y : ℕ → Option ℕ) (p v : ℕ) → t ≡ false → (g ≡ true → g' ≡ true) → (g ≡ false → LessKnown (x p) (y p)) → (if g' || t then no_words else y) p ≡ Some v → (if g || t then no_words else x) p ≡ Some v
kept_less g true t x y p v n i h e = absurd (none_some_nat v e)
kept_less g false true x y p v n i h e = absurd (none_some_nat v e)
kept_less true false false x y p v n i h e = no (i refl)
kept_less false false false x y p v n i h e = h refl v e

-- the flit a tells no words; g and g': whether each observer forgets the known words
news_less : (a : Act) (g g' : Bool) (before before' news news' : ℕ → Option ℕ) (p v : ℕ) → tells_words a ≡ false → (g ≡ true → g' ≡ true)
    → (stores a ≡ true → LessKnown (before p) (before' p)) → (stores a ≡ false → (is_request a ≡ true → g ≡ false) → LessKnown (news p) (news' p))
    → news_by a g' before' news' p ≡ Some v → news_by a g before news p ≡ Some v
news_less (Load word) g g' before before' news news' p v t i s h e = put_less p word.place.0 word.value news news' (h refl (λ r. no r)) v e
news_less (Store word) g g' before before' news news' p v t i s h e = put_less p word.place.0 word.value before before' (s refl) v e
news_less (Request kind) g g' before before' news news' p v t i s h e = kept_less g g' false news news' p v refl i (λ f. h refl (λ _. f)) e
news_less (Resend kind) g g' before before' news news' p v t i s h e = kept_less g g' false news news' p v refl i (λ f. h refl (λ r. no r)) e
news_less (SnpResp answer) g g' before before' news news' p v t i s h e = kept_less g g' (tells_words (SnpResp answer)) news news' p v t i (λ f. h refl (λ r. no r)) e
news_less CompAck g g' before before' news news' p v t i s h e = kept_less g g' false news news' p v refl i (λ f. h refl (λ r. no r)) e
news_less (CopyBackWrData form) g g' before before' news news' p v t i s h e = kept_less g g' (tells_words (CopyBackWrData form)) news news' p v t i (λ f. h refl (λ r. no r)) e
news_less NonCopyBackWrData g g' before before' news news' p v t i s h e = no (sym t)

-- the words that are known then are the home's, where they were
news_home : (a : Act) (g : Bool) (before news : ℕ → Option ℕ) (p v : ℕ) (x : Option ℕ) → tells_words a ≡ false → stores a ≡ false → ((word : Word) → a ≡ Load word → p ≡ word.place.0 → x ≡ Some word.value)
    → (news p ≡ Some v → x ≡ Some v) → news_by a g before news p ≡ Some v → x ≡ Some v
news_home (Load word) g before news p v x t s l h e = by (p == word.place.0) refl e
  where
    by : (b : Bool) → (p == word.place.0) ≡ b → (if b then Some word.value else news p) ≡ Some v → x ≡ Some v
    by true q e = l word refl (eqb-true p word.place.0 q) ∙ e
    by false q e = h e
news_home (Store word) g before news p v x t s l h e = no (sym s)
news_home (Request kind) true before news p v x t s l h e = absurd (none_some_nat v e)
news_home (Request kind) false before news p v x t s l h e = h e
news_home (Resend kind) true before news p v x t s l h e = absurd (none_some_nat v e)
news_home (Resend kind) false before news p v x t s l h e = h e
news_home (SnpResp answer) true before news p v x t s l h e = absurd (none_some_nat v e)
news_home (SnpResp answer) false before news p v x t s l h e = h (subst (λ (b : Bool). (if b then no_words else news) p ≡ Some v) t e)
news_home CompAck true before news p v x t s l h e = absurd (none_some_nat v e)
news_home CompAck false before news p v x t s l h e = h e
news_home (CopyBackWrData form) true before news p v x t s l h e = absurd (none_some_nat v e)
news_home (CopyBackWrData form) false before news p v x t s l h e = h (subst (λ (b : Bool). (if b then no_words else news) p ≡ Some v) t e)
news_home NonCopyBackWrData g before news p v x t s l h e = no (sym t)

-- a copy that has the known words had them before, but for a store
news_origin : (z : Stores) (a : Act) (own x : Bool) (d : Due) (h k : Held) → lets z a own d h ≡ true → RowFacts a own x h k → stores a ≡ false → (are_hidden z ≡ true → is_request a ≡ true → false ≡ true)
    → (is_newer k && not (may_hide z (due_after a d) k)) ≡ true → (is_newer h && not (may_hide z d h)) ≡ true
news_origin z (Request kind) own x d h k l facts s forgotten e = both (is_newer h) _ (facts.newer (both (is_newer k) _ (left _ _ e) refl)) (hides_none z (may_store d h) (by_false (are_hidden z) (λ y. forgotten y refl)))
news_origin z (Resend kind) own x d h k l facts s forgotten e = both (is_newer h) _ (facts.newer (both (is_newer k) _ (left _ _ e) refl)) (and_none (are_hidden z) (may_store d h) (resent_waits kind d h l))
news_origin z (SnpResp answer) own x d h k l facts s forgotten e = contrary (is_newer k) (facts.given refl) (left _ _ e)
news_origin z CompAck own x d h k l facts s forgotten e = both (is_newer h) _ (facts.newer (both (is_newer k) _ (left _ _ e) refl)) (subst (λ d. not (may_hide z d h) ≡ true) (sym (ack_is d l)) (right (is_newer k) _ e))
news_origin z (CopyBackWrData form) own x d h k l facts s forgotten e = contrary (is_newer k) (facts.given refl) (left _ _ e)
news_origin z NonCopyBackWrData own x d h k l facts s forgotten e = contrary (is_newer k) (facts.given refl) (left _ _ e)
news_origin z (Load word) true x d h k l facts s forgotten e = both (is_newer h) _ (facts.newer (both (is_newer k) _ (left _ _ e) refl)) (subst (λ g. not g ≡ true) (hide_alike z d h k (facts.cancelled refl)) (right (is_newer k) _ e))
news_origin z (Load word) false x d h k l facts s forgotten e = contrary (may_hide z d k) (right (is_newer k) _ e) (hide_alike z d h k (facts.cancelled refl) ∙ l)
news_origin z (Store word) own x d h k l facts s forgotten e = no (sym s)

store_row_own : (a : Act) → stores a ≡ false → is_store_row a true ≡ false
store_row_own (Load word) s = refl
store_row_own (Store word) s = s
store_row_own (Request kind) s = refl
store_row_own (Resend kind) s = refl
store_row_own (SnpResp answer) s = refl
store_row_own CompAck s = refl
store_row_own (CopyBackWrData form) s = refl
store_row_own NonCopyBackWrData s = refl

stores_row : (a : Act) (own : Bool) → stores a ≡ true → is_store_row a own ≡ true
stores_row (Store word) own s = refl
stores_row (Load word) own s = no s
stores_row (Request kind) own s = no s
stores_row (Resend kind) own s = no s
stores_row (SnpResp answer) own s = no s
stores_row CompAck own s = no s
stores_row (CopyBackWrData form) own s = no s
stores_row NonCopyBackWrData own s = no s

stores_lets : (z : Stores) (a : Act) (own : Bool) (d : Due) (h : Held) → stores a ≡ true → lets z a own d h ≡ true → may_store (due_after a d) h ≡ true
stores_lets z (Store word) own d h s l = l
stores_lets z (Load word) own d h s l = no s
stores_lets z (Request kind) own d h s l = no s
stores_lets z (Resend kind) own d h s l = no s
stores_lets z (SnpResp answer) own d h s l = no s
stores_lets z CompAck own d h s l = no s
stores_lets z (CopyBackWrData form) own d h s l = no s
stores_lets z NonCopyBackWrData own d h s l = no s

stores_ask : (a : Act) → stores a ≡ true → not (is_request a) ≡ true
stores_ask (Store word) s = refl
stores_ask (Load word) s = no s
stores_ask (Request kind) s = no s
stores_ask (Resend kind) s = no s
stores_ask (SnpResp answer) s = no s
stores_ask CompAck s = no s
stores_ask (CopyBackWrData form) s = no s
stores_ask NonCopyBackWrData s = no s

-- a newer copy comes from a newer one, but for a store
newer_table : Act → Bool
newer_table a = all_bools (λ own. all_bools (λ x. all_bools (λ up. all_helds (λ h. on_some (row a own x up h) (λ k. implies (is_newer k && not (is_store_row a own)) (is_newer h))))))

newer_holds : (word : Word) → all_acts newer_table word ≡ true
unfolding newer_table
newer_holds word = refl

newer_from : (a : Act) (own x up : Bool) (h k : Held) → row a own x up h ≡ Some k → is_newer k ≡ true → is_store_row a own ≡ false → is_newer h ≡ true
unfolding newer_table
newer_from a own x up h k e n s = follow (is_newer k && not (is_store_row a own)) _ (of_some (row a own x up h) k (λ k. implies (is_newer k && not (is_store_row a own)) (is_newer h))
    (each_held (λ h. on_some (row a own x up h) (λ k. implies (is_newer k && not (is_store_row a own)) (is_newer h)))
    (each_bool (λ up. all_helds (λ h. on_some (row a own x up h) (λ k. implies (is_newer k && not (is_store_row a own)) (is_newer h))))
    (each_bool (λ x. all_bools (λ up. all_helds (λ h. on_some (row a own x up h) (λ k. implies (is_newer k && not (is_store_row a own)) (is_newer h)))))
    (each_bool (λ own. all_bools (λ x. all_bools (λ up. all_helds (λ h. on_some (row a own x up h) (λ k. implies (is_newer k && not (is_store_row a own)) (is_newer h))))))
    (each_act newer_table newer_holds a) own) x) up) h) e) (both (is_newer k) _ n (flip _ s))

-- HIDDEN STEPS
freed_stores : (d : Due) (h : Held) → may_be_free d ≡ true → may_store d (freed d h) ≡ true
freed_stores Nothing h m = refl
freed_stores (Resending kind) h m = or_right h.cancelled _ refl
freed_stores (Completion kind) h m = no m
freed_stores (SureCompletion kind) h m = no m
freed_stores (WriteData kind) h m = no m
freed_stores Acknowledgement h m = no m

slip_news : (z : Stores) (d : Due) (h k : Held) → Slipped z d h k → (is_newer k && not (may_hide z d k)) ≡ true → (is_newer h && not (may_hide z d h)) ≡ true
slip_news z d h k (Still e) n = subst (λ k. (is_newer k && not (may_hide z d k)) ≡ true) (sym e) n
slip_news z d h k (Freed m e) n = let y = subst (λ k. (is_newer k && not (may_hide z d k)) ≡ true) (sym e) n in
    both (is_newer h) _ (left (is_newer h) _ y) (hides_none z (may_store d h) (listed_or z (may_store d (freed d h)) (right (is_newer h) _ y) (freed_stores d h m)))
slip_news z d h k (StoreSlip m a u e) n = let y = subst (λ k. (is_newer k && not (may_hide z d k)) ≡ true) (sym e) n in
    no (sym (listed_or z (may_store d (stored_to (freed d h))) (right (is_newer (stored_to (freed d h))) _ y) (may_store_alike d (freed d h) (stored_to (freed d h)) refl ∙ freed_stores d h m)) ∙ a)
slip_news z d h k (Drop m c e) n = no (right h.stored _ (left (is_newer (dropped (freed d h))) _ (subst (λ k. (is_newer k && not (may_hide z d k)) ≡ true) (sym e) n)))

image_above : (R : Held → Copies) (S T : Copies) → ((h : Held) → S h ≡ true → T h ≡ true) → (k : Held) → image R S k ≡ true → image R T k ≡ true
image_above R S T h k e = let x = out_image R S k e in in_image R T x.held k (h x.held x.has) x.leads

loose_above : (n : ℕ) (o o' : Observed) → IsAbove o (with o' o.public) → IsAbove (loose n o) (loose n (with o' o.public))
loose_above n o o' above = record {
  public = refl;
  may = everywhere (λ m X Y. m < 32 → (h : Held) → X h ≡ true → Y h ≡ true) n (image (slips o.public.stores (o.public.due n)) (o.may n)) (image (slips o.public.stores (o.public.due n)) (o'.may n)) o.may o'.may
      (λ low. image_above (slips o.public.stores (o.public.due n)) (o.may n) (o'.may n) (above.may n low)) (λ m _. above.may m);
  home = above.home;
  news = one (λ m X. m < 32 → (h : Held) → X h ≡ true → has_news o.public m h ≡ true → (p v : ℕ) → o'.news p ≡ Some v → o.news p ≡ Some v) n (image (slips o.public.stores (o.public.due n)) (o.may n)) o.may
      (λ low h e w. let x = slip_of n o h e in above.news n low x.held x.has (slip_news o.public.stores (o.public.due n) x.held h x.how w)) (λ m _. above.news m);
  listed = λ y. everywhere (λ m X Y. m < 32 → (h k : Held) → X h ≡ true → Y k ≡ true → is_fresh h ≡ true → is_newer k ≡ true → (p v : ℕ) → o'.news p ≡ Some v → of_eight (home_at o.home) p ≡ Some v) n
      (image (slips o.public.stores (o.public.due n)) (o.may n)) (image (slips o.public.stores (o.public.due n)) (o'.may n)) o.may o'.may
      (λ low h k e q f w. let x = slip_of n o h e in let t = slip_of n (with o' o.public) k q in let was = slip_listed o.public.stores (o.public.due n) t.held k t.how y (right k.stored _ w) in
      above.listed y n low x.held t.held x.has t.has (slip_fresh o.public.stores (o.public.due n) x.held h x.how f) (both t.held.stored _ (was.1 ∙ left k.stored _ w) was.0)) (λ m _. above.listed y m);
}

-- A FLIT OF A CACHE
module _ (o o' : Observed) (f : CacheFlit) (low : f.agent.0 < 32) (above : IsAbove o (with o' o.public)) where
  abbrev u : Observed
  u = with o' o.public

  abbrev n : ℕ
  n = f.agent.0

  abbrev a : Act
  a = f.act

  abbrev d : Due
  d = o.public.due n

  abbrev z : Stores
  z = o.public.stores

  abbrev x : Bool
  x = lets_go (o.public.snooped n)

  known_above : (h : Held) → o.may n h ≡ true → (p : ℕ) → LessKnown (known_of o n h p) (known_of u n h p)
  known_above h e p = known_less (is_fresh h) (has_news o.public n h) (home_at o.home p) (o.news p) (home_at o'.home p) (o'.news p) (λ _. home_less o.home o'.home above.home p) (λ w v. above.news n low h e w p v)

  sends_above : (h k : Held) → o.may n h ≡ true → sends o f h k ≡ true → sends u f h k ≡ true
  sends_above h k e s =
      let y = out_bool (sends_own o f h k) (left _ _ s) in
      both (any_bool (sends_own u f h k)) _ (in_bool (sends_own u f h k) y.0 (both (may_own a (known_of u n h) y.0) _
      (own_less a (known_of o n h) (known_of u n h) y.0 (known_above h e) (left (may_own a (known_of o n h) y.0) _ y.1)) (right (may_own a (known_of o n h) y.0) _ y.1)))
      (or_less (not (has_data a)) (fits_each (known_of o n h) (word_at f.shown)) (fits_each (known_of u n h) (word_at f.shown)) (each_less (known_of o n h) (known_of u n h) (word_at f.shown) (known_above h e)) (right (any_bool (sends_own o f h k)) _ s))

  sent_above : (k : Held) → sent o f k ≡ true → sent u f k ≡ true
  sent_above k e = let y = out_image (sends o f) (o.may n) k e in in_image (sends u f) (o'.may n) y.held k (above.may n low y.held y.has) (sends_above y.held k y.has y.leads)

  takes_above : takes o f ≡ true → takes u f ≡ true
  takes_above e = let r = right (allows a (o.public.snooped n)) _ e in let y = out_held (sent o f) (right (is_placed a) _ r) in
      both (allows a (o.public.snooped n)) _ (left _ _ e) (both (is_placed a) _ (left _ _ r) (in_held (sent u f) y.0 (sent_above y.0 y.1)))

  others_above : (m : ℕ) → m < 32 → (h : Held) → others_after o f m h ≡ true → others_after u f m h ≡ true
  others_above m l h e = let y = other_of o f m h e in subst (λ h. others_after u f m h ≡ true) y.is (in_other u f m y.held (above.may m l y.held y.has))

  moved_may : (m : ℕ) → m < 32 → (h : Held) → (moved o f).may m h ≡ true → (moved u f).may m h ≡ true
  moved_may = everywhere (λ m X Y. m < 32 → (h : Held) → X h ≡ true → Y h ≡ true) n (sent o f) (sent u f) (others_after o f) (others_after u f) (λ _. sent_above) (λ m _. others_above m)

  forgets_above : forgets o f ≡ true → forgets u f ≡ true
  forgets_above e = let r = right (are_hidden z) _ e in let y = out_held (λ h. sent o f h && is_newer h) (right (is_request a) _ r) in
      both (are_hidden z) _ (left _ _ e) (both (is_request a) _ (left _ _ r) (in_held (λ h. sent u f h && is_newer h) y.0 (both (sent u f y.0) _ (sent_above y.0 (left (sent o f y.0) _ y.1)) (right (sent o f y.0) _ y.1))))

  from_above : (h : Held) → stores_from o f h ≡ true → stores_from u f h ≡ true
  from_above h e = let h_in = left (o.may n h) _ e in let y = out_held (λ k. sends o f h k) (right (o.may n h) _ e) in
      both (o'.may n h) _ (above.may n low h h_in) (in_held (λ k. sends u f h k) y.0 (sends_above h y.0 h_in y.1))

  -- a flit that tells no words leaves the copies of others as they were
  other_is : (o : Observed) (m : ℕ) (k : Held) → tells_words a ≡ false → others_after o f m k ≡ true → o.may m k ≡ true
  other_is o m k t e = subst (λ (b : Bool). (if b then image (λ h k. same_held (shown_of h) k) (o.may m) else o.may m) k ≡ true) t e

  module _ (sound : Sound o) (take : takes o f ≡ true) where
    -- no other copy has data beside one that is stored to
    beside_store : {A : Type 0} (m : ℕ) → m ≢ n → m < 32 → (k : Held) → o.may m k ≡ true → holds_data k.copy ≡ true → stores a ≡ true → A
    beside_store m g l k e w s = let c = one_came o f sound low take in
        no (sym (empty_at o f sound low c.0 c.1 m g l k e (or_left (is_store_row a c.1.by.own) _ (stores_row a c.1.by.own s))) ∙ w)

    -- a fresh copy that is loaded from has the home's word
    loaded_home : (h k : Held) (s : Sent o f h k) → o.may n h ≡ true → is_fresh h ≡ true → are_hidden z ≡ false → (word : Word) → a ≡ Load word → home_at o.home word.place.0 ≡ Some word.value
    loaded_home h k s e w y word q =
        let own : s.own ≡ true = own_listed z a (known_of o n h) s.own d h y s.owned s.let_go in
        let fit : may_own (Load word) (known_of o n h) true ≡ true = subst (λ a. may_own a (known_of o n h) true ≡ true) q (subst (λ b. may_own a (known_of o n h) b ≡ true) own s.owned) in
        fitting o.home (sound.known n low h e w) word.place.0 word.value (subst (λ b. fits_at (if b then home_at o.home word.place.0 else (if has_news o.public n h then o.news word.place.0 else None)) word.value ≡ true) w fit)
      where
        fitting : (home : Option (List ℕ)) → (v : List ℕ) × (home ≡ Some v) → (p value : ℕ) → fits_at (home_at home p) value ≡ true → home_at home p ≡ Some value
        fitting home (v, i) p value e = subst (λ home. home_at home p ≡ Some value) (sym i) (ap (λ (w : ℕ). Some w) (eqb-true (word_at v p) value (subst (λ home. fits_at (home_at home p) value ≡ true) i e)))

    placed_low : (word : Word) → a ≡ Load word → word.place.0 < 8
    placed_low word q = low_place word.place.0 (subst (λ a. is_placed a ≡ true) q (left (is_placed a) _ (right (allows a (o.public.snooped n)) _ take)))

    -- KNOWN WORDS BEHIND IT
    abbrev from : Copies
    from = stores_from o f

    abbrev from' : Copies
    from' = stores_from u f

    chosen : (b c : Bool) (x y : Option ℕ) (v : ℕ) → b ≡ false → (c ≡ true → x ≡ Some v) → (c ≡ false → y ≡ Some v) → (if b then None else (if c then x else y)) ≡ Some v
    chosen true c x y v n h g = no (sym n)
    chosen false true x y v n h g = h refl
    chosen false false x y v n h g = g refl

    -- where all stores are listed, o' knows no more before a store
    before_above : are_hidden z ≡ false → (h : Held) → from h ≡ true → is_unique h.copy ≡ true → (p : ℕ) → LessKnown (known_before o n (stores_from o f) p) (known_before u n (stores_from u f) p)
    before_above y h h_in unique p v = by (any_held (λ h. from' h && (is_unique h.copy && not (holds_data h.copy)))) (any_held (λ h. from' h && (is_unique h.copy && is_newer h))) refl refl
      where
        wider : (g : Held → Bool) → any_held (λ h. from h && g h) ≡ true → any_held (λ h. from' h && g h) ≡ true
        wider g e = let t = out_held (λ h. from h && g h) e in in_held (λ h. from' h && g h) t.0 (both (from' t.0) _ (from_above t.0 (left (from t.0) _ t.1)) (right (from t.0) _ t.1))

        by : (b c : Bool) → any_held (λ h. from' h && (is_unique h.copy && not (holds_data h.copy))) ≡ b → any_held (λ h. from' h && (is_unique h.copy && is_newer h)) ≡ c
            → (if b then None else (if c then o'.news p else of_eight (home_at o'.home) p)) ≡ Some v → known_before o n (stores_from o f) p ≡ Some v
        by true c i j e = absurd (none_some_nat v e)
        by false c i j e = chosen (any_held (λ h. from h && (is_unique h.copy && not (holds_data h.copy)))) (any_held (λ h. from h && (is_unique h.copy && is_newer h))) (o.news p) (of_eight (home_at o.home) p) v none
            (λ w. at_newer c j w e) (λ w. at_fresh c j w e)
          where
            none : any_held (λ h. from h && (is_unique h.copy && not (holds_data h.copy))) ≡ false
            none = by_false _ (λ w. sym i ∙ wider (λ h. is_unique h.copy && not (holds_data h.copy)) w)

            at_newer : (c : Bool) → any_held (λ h. from' h && (is_unique h.copy && is_newer h)) ≡ c → any_held (λ h. from h && (is_unique h.copy && is_newer h)) ≡ true → (if c then o'.news p else of_eight (home_at o'.home) p) ≡ Some v → o.news p ≡ Some v
            at_newer true j w e = let t = out_held (λ h. from h && (is_unique h.copy && is_newer h)) w in
                let t_new : is_newer t.0 ≡ true = right (is_unique t.0.copy) _ (right (from t.0) _ t.1) in
                above.news n low t.0 (left (o.may n t.0) _ (left (from t.0) _ t.1)) (both (is_newer t.0) _ t_new (hides_none z (may_store d t.0) y)) p v e
            at_newer false j w e = no (sym j ∙ wider (λ h. is_unique h.copy && is_newer h) w)

            at_fresh : (c : Bool) → any_held (λ h. from' h && (is_unique h.copy && is_newer h)) ≡ c → any_held (λ h. from h && (is_unique h.copy && is_newer h)) ≡ false → (if c then o'.news p else of_eight (home_at o'.home) p) ≡ Some v → of_eight (home_at o.home) p ≡ Some v
            at_fresh true j w e = let t = out_held (λ h. from' h && (is_unique h.copy && is_newer h)) j in
                above.listed y n low h t.0 (left (o.may n h) _ h_in) (left (o'.may n t.0) _ (left (from' t.0) _ t.1)) fresh (right (is_unique t.0.copy) _ (right (from' t.0) _ t.1)) p v e
              where
                has : holds_data h.copy ≡ true
                has = by_truth (holds_data h.copy) (λ q. q) (λ q. no (sym none ∙ in_held (λ h. from h && (is_unique h.copy && not (holds_data h.copy))) h (both (from h) _ h_in (both (is_unique h.copy) _ unique (flip _ q)))))

                fresh : is_fresh h ≡ true
                fresh = both (holds_data h.copy) _ has (flip _ (by_false h.stored (λ r. sym w ∙ in_held (λ h. from h && (is_unique h.copy && is_newer h)) h (both (from h) _ h_in (both (is_unique h.copy) _ unique (both h.stored _ r has))))))
            at_fresh false j w e = eight_less (home_at o.home) (home_at o'.home) p (home_less o.home o'.home above.home p) v e

    news_at : (k : Held) → sent o f k ≡ true → (is_newer k && not (may_hide z (due_after a d) k)) ≡ true → (p v : ℕ) → news_after u f p ≡ Some v → news_after o f p ≡ Some v
    news_at k e w p v q = by_truth (tells_words a) (λ t. news_told a (forgets u f) (known_before u n (stores_from u f)) o'.news p v t q) (λ t.
        let c = came o f sound low k e in
        news_less a (forgets o f) (forgets u f) (known_before o n (stores_from o f)) (known_before u n (stores_from u f)) o.news o'.news p v t forgets_above
        (λ s. before_above (listed_or z (may_store (due_after a d) k) (right (is_newer k) _ w) (may_store_alike (due_after a d) c.held k (c.facts.cancelled (stores_ask a s)) ∙ stores_lets z a c.by.own d c.held s c.by.let_go))
        c.held (both (o.may n c.held) _ c.has (in_held (λ k. sends o f c.held k) k (sent_leads c.held k c.by))) (left _ _ (c.facts.stored (stores_row a c.by.own s))) p)
        (λ s g v. above.news n low c.held c.has (news_origin z a c.by.own x d c.held k c.by.let_go c.facts s (λ y r. sym (g r) ∙ forgotten y r) w) p v) q)
      where
        forgotten : are_hidden z ≡ true → is_request a ≡ true → forgets o f ≡ true
        forgotten y r = both (are_hidden z) _ y (both (is_request a) _ r (in_held (λ h. sent o f h && is_newer h) k (both (sent o f k) _ e (left _ _ w))))

        sent_leads : (h k : Held) → Sent o f h k → sends o f h k ≡ true
        sent_leads h k s = both (any_bool (sends_own o f h k)) _ (in_bool (sends_own o f h k) s.own (both (may_own a (known_of o n h) s.own) _ s.owned (is_leaves _ k (some_if _ _ k s.let_go s.row)))) s.fits
          where
            some_if : (c : Bool) (o : Option Held) (k : Held) → c ≡ true → o ≡ Some k → (if c then o else None) ≡ Some k
            some_if true o k c e = e
            some_if false o k c e = no c

    news_else : (m : ℕ) → m ≢ n → m < 32 → (k : Held) → others_after o f m k ≡ true → has_news o.public m k ≡ true → (p v : ℕ) → news_after u f p ≡ Some v → news_after o f p ≡ Some v
    news_else m g l k e w p v q = by_truth (tells_words a) (λ t. news_told a (forgets u f) (known_before u n (stores_from u f)) o'.news p v t q) (λ t.
        news_less a (forgets o f) (forgets u f) (known_before o n (stores_from o f)) (known_before u n (stores_from u f)) o.news o'.news p v t forgets_above
        (λ s. beside_store m g l k (other_is o m k t e) (right k.stored _ (left (is_newer k) _ w)) s) (λ _ _ v. above.news m l k (other_is o m k t e) w p v) q)

    home_then : (t : Bool) (p v : ℕ) → t ≡ false → of_eight (home_at o.home) p ≡ Some v → of_eight (home_at (if t then Some f.shown else o.home)) p ≡ Some v
    home_then true p v n e = no (sym n)
    home_then false p v n e = e

    listed_at : are_hidden z ≡ false → (h k : Held) → sent o f h ≡ true → sent u f k ≡ true → is_fresh h ≡ true → is_newer k ≡ true → (p v : ℕ) → news_after u f p ≡ Some v → of_eight (home_at (moved o f).home) p ≡ Some v
    listed_at y h k e q fresh newer p v i = by_truth (tells_words a) (λ t. news_told a (forgets u f) (known_before u n (stores_from u f)) o'.news p v t i) (λ t.
        let c = came o f sound low h e in let was = c.facts.fresh (both (is_fresh h) _ fresh (flip _ t)) in let no_store = by_false (stores a) (λ s. stored_fresh c (c.facts.stored (stores_row a c.by.own s))) in
        let r = out_image (sends u f) (o'.may n) k q in let s = sent_by u f r.held k r.leads in
        home_then (tells_words a) p v t (news_home a (forgets u f) (known_before u n (stores_from u f)) o'.news p v (of_eight (home_at o.home) p) t no_store
        (λ word j l. subst (λ p. of_eight (home_at o.home) p ≡ Some word.value) (sym l) (eight_is (home_at o.home) word.place.0 (placed_low word j) ∙ loaded_home c.held h c.by c.has was y word j))
        (above.listed y n low c.held r.held c.has r.has was (newer_from a s.own x (is_due_data gives_up d) r.held k s.row newer
        (subst (λ b. is_store_row a b ≡ false) (sym (own_listed z a (known_of u n r.held) s.own d r.held y s.owned s.let_go)) (store_row_own a no_store))) p v) i))
      where
        stored_fresh : (c : Came o f sound low h) → (is_unique c.held.copy && same_held (stored_to c.held) h) ≡ true → false ≡ true
        stored_fresh c s = subst (λ h. is_fresh h ≡ true) (sym (same_held_is (stored_to c.held) h (right (is_unique c.held.copy) _ s))) fresh

    listed_else : are_hidden z ≡ false → (m : ℕ) → m ≢ n → m < 32 → (h k : Held) → others_after o f m h ≡ true → others_after u f m k ≡ true → is_fresh h ≡ true → is_newer k ≡ true → (p v : ℕ) → news_after u f p ≡ Some v → of_eight (home_at (moved o f).home) p ≡ Some v
    listed_else y m g l h k e q fresh newer p v i = by_truth (tells_words a) (λ t. news_told a (forgets u f) (known_before u n (stores_from u f)) o'.news p v t i) (λ t.
        let h_in = other_is o m h t e in let c = (one_came o f sound low take).1 in
        home_then (tells_words a) p v t (news_home a (forgets u f) (known_before u n (stores_from u f)) o'.news p v (of_eight (home_at o.home) p) t
        (by_false (stores a) (beside_store m g l h h_in (left _ _ fresh)))
        (λ word j j'. subst (λ p. of_eight (home_at o.home) p ≡ Some word.value) (sym j') (eight_is (home_at o.home) word.place.0 (placed_low word j) ∙ loaded_home c.held (one_came o f sound low take).0 c.by c.has
        (both (holds_data c.held.copy) _ (c.facts.looked (subst (λ a. looks a ≡ true) (sym j) refl)) (flip _ (none_stored h c.held (sound.pairs m n l low g h c.held h_in c.has) (sane o sound n low c.held c.has) fresh))) y word j))
        (above.listed y m l h k h_in (other_is u m k t q) fresh newer p v) i))

    moved_above : IsAbove (moved o f) (moved u f)
    moved_above = record {
      public = refl;
      may = moved_may;
      home = home_then_less (tells_words a) f.shown o.home o'.home above.home;
      news = everywhere (λ m e X. m < 32 → (h : Held) → X h ≡ true → (is_newer h && not (may_hide z e h)) ≡ true → (p v : ℕ) → news_after u f p ≡ Some v → news_after o f p ≡ Some v) n (due_after a d) (sent o f) o.public.due (others_after o f)
          (λ _. news_at) news_else;
      listed = λ y. everywhere (λ m X Y. m < 32 → (h k : Held) → X h ≡ true → Y k ≡ true → is_fresh h ≡ true → is_newer k ≡ true → (p v : ℕ) → news_after u f p ≡ Some v → of_eight (home_at (moved o f).home) p ≡ Some v) n
          (sent o f) (sent u f) (others_after o f) (others_after u f) (λ _. listed_at y) (listed_else y);
    }

alike_above : (o o' : Observed) → IsAbove o o' → IsAbove o (with o' o.public)
alike_above o o' above = subst (λ p. IsAbove o (with o' p)) above.public above

pub above_takes : AboveTakes
above_takes o o' f low above e = subst (λ p. takes (with o' p) f ≡ true) (sym above.public) (takes_above o o' f low (alike_above o o' above) e)

pub stays_above : StaysAbove
stays_above o o' f sound low e above = subst (λ p. IsAbove (next o f) (next (with o' p) f)) (sym above.public) (loose_above f.agent.0 (moved o f) (moved (with o' o.public) f) (moved_above o o' f low (alike_above o o' above) sound e))

pub above_means : AboveMeansMore
above_means o o' w above m = record {
  copies = λ n l. above.may n l (w.state n) (m.copies n l);
  words = m.words;
  home = λ v e. m.home v (above.home v e);
  current = m.current;
  news = λ n l e p lp v q. let h = subst (λ p. has_news p n (w.state n) ≡ true) above.public e in m.news n l h p lp v (above.news n l (w.state n) (m.copies n l) h p v q);
}

pub sound_above : SoundIsAbove
sound_above o o' sound same may home news = record {
  public = same;
  may = may;
  home = home;
  news = news;
  listed = λ y n l h k e q f w. no (sym (turned _ (right (holds_data h.copy) _ f)) ∙ sound.alike (ap (λ (p : Public). are_hidden p.stores) same ∙ y) n l h k (may n l h e) q (left _ _ f) (right k.stored _ w) ∙ left k.stored _ w);
}

none_list : (v : List ℕ) → None ≡ Some v → ⊥
none_list v e = search (rules, arith)

pub nothing_above : NothingIsAboveAll
nothing_above o o' same nothing = record {
  public = same;
  may = λ n l h e. nothing.may n l h;
  home = λ v e. absurd (none_list v (sym nothing.home ∙ e));
  news = λ n l h e w p v q. absurd (none_some_nat v (sym (nothing.news p) ∙ q));
  listed = λ y n l h k e q f w p v r. absurd (none_some_nat v (sym (nothing.news p) ∙ r));
}
