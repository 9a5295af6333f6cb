-- Each world right behind a flit of a cache comes from one before.
use Rattle.std.proofs.Common.{rules, arith, ◌≡◌, ◌≢◌, ℕ, ◌<◌, suc, refl, sym, ap, subst, ◌∙◌, eq-eqb}
use Rattle.std.specs.Prelude.{Bool, true, false, ◌&&◌, ◌||◌, ◌==◌, not, Option, Some, None, List, if◌then◌else◌}
use Rattle.std.proofs.lemmas.Bool.{eqb-true}
use Rattle.chi_observer.specs.declared.flits.Due.{Due}
use Rattle.chi_observer.specs.declared.flits.Due.TheVariants.{Nothing, Completion, Resending, SureCompletion, WriteData, Acknowledgement}
use Rattle.chi_observer.specs.declared.flits.Stores.{Stores}
use Rattle.chi_observer.specs.declared.flits.Word.{Word}
use Rattle.chi_observer.specs.declared.flits.Act.{Act}
use Rattle.chi_observer.specs.declared.flits.Act.TheVariants.{Request, Resend, SnpResp, CompAck, CopyBackWrData, NonCopyBackWrData, Load, Store}
use Rattle.chi_observer.specs.declared.flits.CacheFlit.{CacheFlit}
use Rattle.chi_observer.specs.Copies.{Copy, holds_data, is_unique, is_dirty, same}
use Rattle.chi_observer.specs.Copies.Copy.{UniqueDirty, Writing}
use Rattle.chi_observer.specs.Rules.{are_hidden, is_resending, gives_up, has_data, writes, tells_words, looks, stores, is_request, lets_go, due_after, word_at, allows, throws}
use Rattle.chi_copies.specs.Copies.{Held, Copies, is_fresh, is_newer, beside, leaves, same_held, any_bool, any_held}
use Rattle.chi_copies.specs.Rules.{may_store, may_hide, is_due_data, lets, row, acts, loses, stored_to}
use Rattle.chi_copies.specs.Worlds.{World, Words, Same, Shown, StoresWord, Stored, has_word, is_placed, makes_value, put}
use Rattle.chi_copies.specs.Observed.{Observed, Sound, Meaning, has_news, home_at, fits_at, differs_at, fits_each, known_of, may_own, sends, sent, takes, moved, no_words, known_before, stores_from, forgets, news_by, news_after, of_eight}
use Rattle.chi_copies.specs.Laws.{ComesBy, MeaningComes}
use Rattle.chi_copies.proofs.Eight.{eight_is}
use Rattle.chi_copies.proofs.Finite.{all_out, no, left, right, both, by_truth, by_false, turned, flip, in_bool, in_held, out_held, none_held}
use Rattle.chi_copies.proofs.Rows.{is_store_row, RowFacts, same_held_is, some_is, is_leaves}
use Rattle.chi_copies.proofs.Means.{same_refl, same_by, same_sym, same_trans, sane, none_stored, none_newer, alone_data, free_stores}
use Rattle.chi_copies.proofs.Moved.{if_some, Came, came, own_but, others_after, others_if, empty_at, quiet_at, sent_by, came_by}
use Rattle.chi_copies.proofs.Leads.{low_place, none_some_nat, some_nat, hides_none, listed_or, hide_alike, and_none, ack_is, contrary, looks_stores, tells_no_store, has_no_write, writes_none}
use Rattle.chi_copies.proofs.Rewind.{made, made_fits, or_zero, newer_is_unique, newer_is_stored}
use Rattle.chi_copies.proofs.Prior.{Prior, prior, prior_has, prior_is, prior_if, comes_by, old}
use Rattle.chi_copies.proofs.Put.{differ, here, there, split}

-- WORDS
fits_out : (o : Option ℕ) (v u : ℕ) → fits_at o v ≡ true → o ≡ Some u → u ≡ v
fits_out None v u h e = absurd (none_some_nat u e)
fits_out (Some x) v u h e = sym (some_nat x u e) ∙ eqb-true x v h

each_out : (k : ℕ → Option ℕ) (v : Words) → fits_each k v ≡ true → (p : ℕ) → p < 8 → (u : ℕ) → k p ≡ Some u → u ≡ v p
each_out k v h p l u e = fits_out (k p) (v p) u (all_out 8 (λ p. fits_at (k p) (v p)) h p l) e

abbrev home_or : Option (List ℕ) → Words → Words
home_or None l = l
home_or (Some v) l = word_at v

home_known : (o : Option (List ℕ)) (l : Words) (v : List ℕ) → o ≡ Some v → Same (home_or o l) (word_at v)
home_known o l v e = same_by _ _ (ap (λ o. home_or o l) e)

home_fits : (o : Option (List ℕ)) (l shown : Words) → fits_each (home_at o) shown ≡ true → Same l shown → Same (home_or o l) l
home_fits None l shown h e p lp = refl
home_fits (Some v) l shown h e p lp = each_out (home_at (Some v)) shown h p lp (word_at v p) refl ∙ sym (e p lp)

-- FLITS
pub has_word_but : (a : Act) (l : Words) → looks a ≡ false → has_word a l ≡ true
has_word_but (Load word) l e = no (sym e)
has_word_but (Request kind) l e = refl
has_word_but (Resend kind) l e = refl
has_word_but (SnpResp answer) l e = refl
has_word_but CompAck l e = refl
has_word_but (CopyBackWrData form) l e = refl
has_word_but NonCopyBackWrData l e = refl
has_word_but (Store word) l e = refl

pub no_words_stored : (a : Act) (z : Stores) (had : Bool) (old new : Words) → stores a ≡ false → StoresWord a z had old new
no_words_stored (Load word) z had old new e = tt
no_words_stored (Request kind) z had old new e = tt
no_words_stored (Resend kind) z had old new e = tt
no_words_stored (SnpResp answer) z had old new e = tt
no_words_stored CompAck z had old new e = tt
no_words_stored (CopyBackWrData form) z had old new e = tt
no_words_stored NonCopyBackWrData z had old new e = tt
no_words_stored (Store word) z had old new e = no (sym e)

tells_looks : (a : Act) → tells_words a ≡ true → looks a ≡ false
tells_looks (Load word) e = no e
tells_looks (Request kind) e = refl
tells_looks (Resend kind) e = refl
tells_looks (SnpResp answer) e = refl
tells_looks CompAck e = refl
tells_looks (CopyBackWrData form) e = refl
tells_looks NonCopyBackWrData e = refl
tells_looks (Store word) e = refl

writes_from : (a : Act) (own x up : Bool) (h k : Held) → writes a ≡ true → row a own x up h ≡ Some k → holds_data h.copy ≡ false
writes_from NonCopyBackWrData own x up h k e r = no_data h.copy (if_some _ _ k r).0
  where
    no_data : (s : Copy) → same s Writing ≡ true → holds_data s ≡ false
    no_data s e = search (rules, arith)
writes_from (Load word) own x up h k e r = no e
writes_from (Store word) own x up h k e r = no e
writes_from (Request kind) own x up h k e r = no e
writes_from (Resend kind) own x up h k e r = no e
writes_from (SnpResp answer) own x up h k e r = no e
writes_from CompAck own x up h k e r = no e
writes_from (CopyBackWrData form) own x up h k e r = no e

makes_none : (a : Act) (own : Bool) → own ≡ true → stores a ≡ false → makes_value a own ≡ false
makes_none a true e s = s
makes_none a false e s = no e

tells_or : (a : Act) → tells_words a ≡ false → (has_data a ≡ false) × (writes a ≡ false)
tells_or a e = (first (has_data a) _ e, second (has_data a) _ e)
  where
    first : (b c : Bool) → (b || c) ≡ false → b ≡ false
    first true c e = no (sym e)
    first false c e = refl

    second : (b c : Bool) → (b || c) ≡ false → c ≡ false
    second true c e = no (sym e)
    second false c e = e

stale : (h : Held) → is_newer h ≡ true → is_fresh h ≡ false
stale h e = by h.stored (holds_data h.copy) e
  where
    by : (s t : Bool) → (s && t) ≡ true → (t && not s) ≡ false
    by true true e = refl
    by true false e = no e
    by false t e = no e

loses_looks : (a : Act) (x : Bool) (h : Held) → loses a x h ≡ true → looks a ≡ false
loses_looks (Load word) x h e = no e
loses_looks (Request kind) x h e = refl
loses_looks (Resend kind) x h e = refl
loses_looks (SnpResp answer) x h e = refl
loses_looks CompAck x h e = refl
loses_looks (CopyBackWrData form) x h e = refl
loses_looks NonCopyBackWrData x h e = refl
loses_looks (Store word) x h e = refl

loses_stores : (a : Act) (x : Bool) (h : Held) → loses a x h ≡ true → stores a ≡ false
loses_stores (Load word) x h e = refl
loses_stores (Request kind) x h e = refl
loses_stores (Resend kind) x h e = refl
loses_stores (SnpResp answer) x h e = refl
loses_stores CompAck x h e = refl
loses_stores (CopyBackWrData form) x h e = refl
loses_stores NonCopyBackWrData x h e = refl
loses_stores (Store word) x h e = no e

loses_stored : (a : Act) (x : Bool) (h : Held) → loses a x h ≡ true → h.stored ≡ true
loses_stored a x h e = right (is_dirty h.copy) _ (right (throws a x) _ e)

store_makes : (a : Act) (own : Bool) → is_store_row a own ≡ true → makes_value a own ≡ true
store_makes (Load word) true e = no e
store_makes (Load word) false e = refl
store_makes (Request kind) own e = no e
store_makes (Resend kind) own e = no e
store_makes (SnpResp answer) own e = no e
store_makes CompAck own e = no e
store_makes (CopyBackWrData form) own e = no e
store_makes NonCopyBackWrData own e = no e
store_makes (Store word) true e = refl
store_makes (Store word) false e = refl

put_here : (p place value v : ℕ) (f : ℕ → Option ℕ) → f p ≡ Some v → (p ≡ place → value ≡ v) → put place (Some value) f p ≡ Some v
put_here p place value v f e g = by (p == place) refl
  where
    by : (b : Bool) → (p == place) ≡ b → (if b then Some value else f p) ≡ Some v
    by true q = ap (λ (v : ℕ). Some v) (g (eqb-true p place q))
    by false q = e

forgets_or : (b c : Bool) (f : ℕ → Option ℕ) (p : ℕ) → b ≡ false → c ≡ false → (if b || c then no_words else f) p ≡ f p
forgets_or true c f p e g = no (sym e)
forgets_or false true f p e g = no (sym g)
forgets_or false false f p e g = refl

forgets_none : (b : Bool) (f : ℕ → Option ℕ) (p : ℕ) → b ≡ false → (if b || false then no_words else f) p ≡ f p
forgets_none true f p e = no (sym e)
forgets_none false f p e = refl

-- what is known of a copy is known behind its own flit
module _ (z : Stores) (x : Bool) (d : Due) (h k : Held) (news before : ℕ → Option ℕ) (forget : Bool) (p v : ℕ) (was : (is_newer h && not (may_hide z d h)) ≡ true) (e : news p ≡ Some v) where
  abbrev Known : Act → Type 0
  Known a = ((is_newer k && not (may_hide z (due_after a d) k)) ≡ true) × (news_by a forget before news p ≡ Some v)

  known_then : (a : Act) → lets z a true d h ≡ true → RowFacts a true x h k → is_store_row a true ≡ false → tells_words a ≡ false → loses a x h ≡ false → (forget ≡ true → (is_request a ≡ true) × (are_hidden z ≡ true))
      → (looks a ≡ true → may_own a news true ≡ true) → Known a
  known_then (Request kind) l facts s t q g w = let y = listed_or z (may_store d h) (right (is_newer h) _ was) (free_stores d h l) in
      (both (is_newer k) _ (facts.stays (both (is_newer h) _ (left _ _ was) refl)) (and_none (are_hidden z) false refl), forgets_none forget news p (by_false forget (λ r. sym y ∙ (g r).1)) ∙ e)
  known_then (Resend kind) l facts s t q g w =
      (both (is_newer k) _ (facts.stays (both (is_newer h) _ (left _ _ was) refl)) (and_none (are_hidden z) false refl), forgets_none forget news p (by_false forget (λ r. (g r).0)) ∙ e)
  known_then (SnpResp answer) l facts s t q g w = contrary (is_newer k) (facts.given refl) (facts.stays (both (is_newer h) _ (left _ _ was) (both (not (tells_words (SnpResp answer))) _ (flip _ t) (flip _ q))))
  known_then CompAck l facts s t q g w = let y = listed_or z (may_store d h) (right (is_newer h) _ was) (subst (λ d. may_store d h ≡ true) (sym (ack_is d l)) refl) in
      (both (is_newer k) _ (facts.stays (both (is_newer h) _ (left _ _ was) refl)) (hides_none z true y), forgets_none forget news p (by_false forget (λ r. (g r).0)) ∙ e)
  known_then (CopyBackWrData form) l facts s t q g w = contrary (is_newer k) (facts.given refl) (facts.stays (both (is_newer h) _ (left _ _ was) (both (not (tells_words (CopyBackWrData form))) _ (flip _ t) (flip _ q))))
  known_then NonCopyBackWrData l facts s t q g w = no (sym t)
  known_then (Load word) l facts s t q g w = (
    both (is_newer k) _ (facts.stays (both (is_newer h) _ (left _ _ was) refl)) (subst (λ b. not b ≡ true) (sym (hide_alike z d h k (facts.cancelled refl))) (right (is_newer h) _ was)),
    put_here p word.place.0 word.value v news e (λ r. sym (fits_out (news word.place.0) word.value v (w refl) (ap news (sym r) ∙ e))),
  )
  known_then (Store word) l facts s t q g w = no (sym s)

-- and known words stay behind the flits of others
news_stays : (a : Act) (forget : Bool) (before news : ℕ → Option ℕ) (p : ℕ) → tells_words a ≡ false → looks a ≡ false → stores a ≡ false → forget ≡ false → news_by a forget before news p ≡ news p
news_stays (Load word) g before news p t l s e = no (sym l)
news_stays (Store word) g before news p t l s e = no (sym s)
news_stays (Request kind) g before news p t l s e = forgets_none g news p e
news_stays (Resend kind) g before news p t l s e = forgets_none g news p e
news_stays (SnpResp answer) g before news p t l s e = forgets_or g (tells_words (SnpResp answer)) news p e t
news_stays CompAck g before news p t l s e = forgets_none g news p e
news_stays (CopyBackWrData form) g before news p t l s e = forgets_or g (tells_words (CopyBackWrData form)) news p e t
news_stays NonCopyBackWrData g before news p t l s e = no (sym t)

more_differs : (v : ℕ) → (suc v == v) ≡ false
more_differs v = search (rules, arith)

equal_fails : (u v w : ℕ) → w ≡ u → not (u == v) ≡ true → (w == v) ≡ false
equal_fails u v w e h = subst (λ x. (x == v) ≡ false) (sym e) (turned _ h)

own_not_store : (a : Act) (k : ℕ → Option ℕ) (own : Bool) → may_own a k own ≡ true → is_store_row a own ≡ false → own ≡ true
own_not_store (Load word) k true e s = refl
own_not_store (Load word) k false e s = no (sym s)
own_not_store (Request kind) k own e s = e
own_not_store (Resend kind) k own e s = e
own_not_store (SnpResp answer) k own e s = e
own_not_store CompAck k own e s = e
own_not_store (CopyBackWrData form) k own e s = e
own_not_store NonCopyBackWrData k own e s = e
own_not_store (Store word) k own e s = e

-- A WORLD BEFORE
module _ (o : Observed) (f : CacheFlit) (w' : World) (sound : Sound o) (low : f.agent.0 < 32) (take : takes o f ≡ true) (m : Meaning (moved o f) w') where
  abbrev n : ℕ
  n = f.agent.0

  abbrev a : Act
  a = f.act

  abbrev d : Due
  d = o.public.due n

  abbrev z : Stores
  z = o.public.stores

  abbrev x : Bool
  x = lets_go (o.public.snooped n)

  abbrev k : Held
  k = w'.state n

  abbrev before : ℕ → Held
  before = prior o f w' low m

  allowed : allows a (o.public.snooped n) ≡ true
  allowed = left _ _ take

  placed : is_placed a ≡ true
  placed = left _ _ (right (allows a (o.public.snooped n)) _ take)

  in_sent : sent o f k ≡ true
  in_sent = subst (λ X. X k ≡ true) (here n (sent o f) (others_after o f)) (m.copies n low)

  from : (h : Held) (own : Bool) (last home : Words) → Prior o f w' low m h own last home → ComesBy o f w'
  from h own last home q = comes_by o f w' low m allowed placed h own last home q

  else_beside : (h : Held) → o.may n h ≡ true → (i : ℕ) (g : i ≢ n) (l : i < 32) → beside h (before i) ≡ true
  else_beside h e i g l = sound.pairs n i low l (λ e. g (sym e)) h (before i) e (prior_has o f w' low m i g l)

  else_empty : (h : Held) → o.may n h ≡ true → is_unique h.copy ≡ true → (i : ℕ) → i ≢ n → i < 32 → holds_data (before i).copy ≡ false
  else_empty h e u i g l = alone_data h (before i) (else_beside h e i g l) u

  sends_here : (c : Came o f sound low k) → sends o f c.held k ≡ true
  sends_here c = both (any_bool (λ own. may_own a (known_of o n c.held) own && leaves (acts z a own x d c.held) k)) _
      (in_bool (λ own. may_own a (known_of o n c.held) own && leaves (acts z a own x d c.held) k) c.by.own (both (may_own a (known_of o n c.held) c.by.own) _ c.by.owned
      (is_leaves _ k (subst (λ (b : Bool). (if b then row a c.by.own x (is_due_data gives_up d) c.held else None) ≡ Some k) (sym c.by.let_go) c.by.row)))) c.by.fits

  module _ (c : Came o f sound low k) where
    own_true : looks a ≡ false → c.by.own ≡ true
    own_true e = own_but a _ c.by.own c.by.owned e

    owned_by : (l : Words) → looks a ≡ false → has_word a l ≡ c.by.own
    owned_by l e = has_word_but a l e ∙ sym (own_true e)

    -- WORDS ARE TOLD
    module _ (t : tells_words a ≡ true) where
      told_home : Same w'.home (word_at f.shown)
      told_home = m.home f.shown (ap (λ (b : Bool). if b then Some f.shown else o.home) t)

      all_shown : Shown w'
      all_shown = split (λ i. i < 32 → (w'.state i).stored ≡ false) n (λ _. turned _ (c.facts.tells t))
          (λ i g l. ap (λ (k : Held). k.stored) (sym (prior_is o f w' low m i g l)) ∙ ap (λ (b : Bool). (others_if b (before i)).stored) t)

      told_last : Same w'.last (word_at f.shown)
      told_last = same_trans _ _ _ (same_sym _ _ (m.current all_shown)) told_home

      told_homed : (home : Words) → Same w'.home (if tells_words a then word_at f.shown else home)
      told_homed home = same_trans _ _ _ told_home (same_by _ _ (sym (ap (λ (b : Bool). if b then word_at f.shown else home) t)))

      no_store : stores a ≡ false
      no_store = looks_stores a c.by.own (tells_no_store a c.by.own t)

      told_old : (i : ℕ) → i ≢ n → i < 32 → is_newer (before i) ≡ false
      told_old i g l = quiet_at o f sound low k k c i g l (before i) (prior_has o f w' low m i g l) t

      told_made : makes_value a c.by.own ≡ true → holds_data k.copy ≡ true
      told_made e = no (sym (makes_none a c.by.own (own_true (tells_looks a t)) no_store) ∙ e)

      with_data : has_data a ≡ true → ComesBy o f w'
      with_data e = from c.held c.by.own w'.last (home_or o.home w'.last) (record {
        has = c.has;
        let_go = c.by.let_go;
        row = c.by.row;
        owned = owned_by w'.last (tells_looks a t);
        shows = λ _. same_sym _ _ told_last;
        kept = λ _. same_by _ _ (sym (ap (λ (b : Bool). if b then word_at f.shown else w'.last) (has_no_write a e)));
        stored = no_words_stored a z _ _ _ no_store;
        homed = told_homed _;
        worded = λ _ _. same_refl _;
        made = told_made;
        else_words = λ _ _ _ _. same_refl _;
        known = home_known o.home w'.last;
        current = λ s _. home_fits o.home w'.last (word_at f.shown) (fresh_fits (both (holds_data c.held.copy) _ (left _ _ (c.facts.has e)) (flip _ s))) told_last;
        news = λ g p l v q. told_last p l ∙ sym (each_out o.news (word_at f.shown) (news_fits g) p l v q);
        else_news = λ i g l h. no (sym (told_old i g l) ∙ left _ _ h);
      })
        where
          fits_all : fits_each (known_of o n c.held) (word_at f.shown) ≡ true
          fits_all = by (has_data a) e c.by.fits
            where
              by : (b : Bool) → b ≡ true → (not b || fits_each (known_of o n c.held) (word_at f.shown)) ≡ true → fits_each (known_of o n c.held) (word_at f.shown) ≡ true
              by true e h = h
              by false e h = no e

          fresh_fits : is_fresh c.held ≡ true → fits_each (home_at o.home) (word_at f.shown) ≡ true
          fresh_fits g = subst (λ (b : Bool). fits_each (λ p. if b then home_at o.home p else (if has_news o.public n c.held then o.news p else None)) (word_at f.shown) ≡ true) g fits_all

          news_fits : has_news o.public n c.held ≡ true → fits_each o.news (word_at f.shown) ≡ true
          news_fits g = subst (λ (b : Bool). fits_each (λ p. if b then o.news p else None) (word_at f.shown) ≡ true) g
              (subst (λ (b : Bool). fits_each (λ p. if b then home_at o.home p else (if has_news o.public n c.held then o.news p else None)) (word_at f.shown) ≡ true) (stale c.held (left _ _ g)) fits_all)

      whole : writes a ≡ true → ComesBy o f w'
      whole e = from c.held c.by.own (home_or o.home w'.last) (home_or o.home w'.last) (record {
        has = c.has;
        let_go = c.by.let_go;
        row = c.by.row;
        owned = owned_by _ (tells_looks a t);
        shows = λ g. no (sym (has_no_write a g) ∙ e);
        kept = λ _. same_trans _ _ _ told_last (same_by _ _ (sym (ap (λ (b : Bool). if b then word_at f.shown else home_or o.home w'.last) e)));
        stored = no_words_stored a z _ _ _ no_store;
        homed = told_homed _;
        worded = λ g _. no (sym (writes_none a c.by.own x (is_due_data gives_up d) c.held k e c.by.row) ∙ g);
        made = told_made;
        else_words = λ i g l h. no (sym (empty_at o f sound low k c i g l (before i) (prior_has o f w' low m i g l) (or_writes (is_store_row a c.by.own) (loses a x c.held) e)) ∙ h);
        known = home_known o.home w'.last;
        current = λ _ _. same_refl _;
        news = λ g. no (sym (writes_from a c.by.own x (is_due_data gives_up d) c.held k e c.by.row) ∙ right c.held.stored _ (left _ _ g));
        else_news = λ i g l h. no (sym (told_old i g l) ∙ left _ _ h);
      })
        where
          or_writes : (b c : Bool) → {d : Bool} → d ≡ true → (b || (c || d)) ≡ true
          or_writes true c e = refl
          or_writes false true e = refl
          or_writes false false e = e

    -- NO WORDS ARE TOLD
    module _ (t : tells_words a ≡ false) where
      kept_home : (home : Words) → Same w'.home home → Same w'.home (if tells_words a then word_at f.shown else home)
      kept_home home e = same_trans _ _ _ e (same_by _ _ (sym (ap (λ (b : Bool). if b then word_at f.shown else home) t)))

      kept_known : (v : List ℕ) → o.home ≡ Some v → Same w'.home (word_at v)
      kept_known v e = m.home v (ap (λ (b : Bool). if b then Some f.shown else o.home) t ∙ e)

      before_is : (i : ℕ) → before i ≡ w'.state i
      before_is i = ap (λ (b : Bool). prior_if b (o.may i) (w'.state i)) t

      no_data : has_data a ≡ false
      no_data = (tells_or a t).0

      no_write : writes a ≡ false
      no_write = (tells_or a t).1

      -- the value is lost
      losing : loses a x c.held ≡ true → ComesBy o f w'
      losing e = from c.held c.by.own (made o.news) w'.home (record {
        has = c.has;
        let_go = c.by.let_go;
        row = c.by.row;
        owned = owned_by _ (loses_looks a x c.held e);
        shows = λ g. no (sym no_data ∙ g);
        kept = λ g. contrary (loses a x c.held) (right (not (makes_value a c.by.own)) _ g) e;
        stored = no_words_stored a z _ _ _ (loses_stores a x c.held e);
        homed = kept_home w'.home (same_refl _);
        worded = λ g _. no (sym (turned _ (right k.stored _ (c.facts.lost e))) ∙ g);
        made = λ g. no (sym (makes_none a c.by.own (own_true (loses_looks a x c.held e)) (loses_stores a x c.held e)) ∙ g);
        else_words = λ i g l h. no (sym (else_none i g l) ∙ h);
        known = kept_known;
        current = λ s _. no (sym s ∙ loses_stored a x c.held e);
        news = λ _ p _ v q. made_fits o.news p v q;
        else_news = λ i g l h. no (sym (else_none i g l) ∙ right (before i).stored _ (left _ _ h));
      })
        where
          or_loses : (b c d : Bool) → c ≡ true → (b || (c || d)) ≡ true
          or_loses true c d e = refl
          or_loses false c d e = subst (λ c. (c || d) ≡ true) (sym e) refl

          else_none : (i : ℕ) → i ≢ n → i < 32 → holds_data (before i).copy ≡ false
          else_none i g l = empty_at o f sound low k c i g l (before i) (prior_has o f w' low m i g l) (or_loses (is_store_row a c.by.own) (loses a x c.held) (writes a) e)

      -- something is stored: to a copy h of the set, whose words were last
      module _ (h : Held) (has : o.may n h ≡ true) (own : Bool) (let_go : lets z a own d h ≡ true) (row_is : row a own x (is_due_data gives_up d) h ≡ Some k) (store : is_store_row a own ≡ true) (unique : is_unique h.copy ≡ true) (after : stored_to h ≡ k) where
        abbrev Before : Words → Type 0
        Before last = (has_word a last ≡ own) × StoresWord a z (holds_data h.copy) last w'.last × (h.stored ≡ false → Same w'.home last)
            × (has_news o.public n h ≡ true → (p : ℕ) → p < 8 → (v : ℕ) → o.news p ≡ Some v → last p ≡ v)

        storing : (last : Words) → Before last → ComesBy o f w'
        storing last q = from h own last w'.home (record {
          has = has;
          let_go = let_go;
          row = row_is;
          owned = q.0;
          shows = λ g. no (sym no_data ∙ g);
          kept = λ g. contrary (makes_value a own) (left _ _ g) (store_makes a own store);
          stored = q.1;
          homed = kept_home w'.home (same_refl _);
          worded = λ _ g. no (sym g ∙ store_makes a own store);
          made = λ _. ap (λ (k : Held). holds_data k.copy) (sym after);
          else_words = λ i g l e. no (sym (else_empty h has unique i g l) ∙ e);
          known = kept_known;
          current = λ s _. q.2 s;
          news = q.3;
          else_news = λ i g l e. no (sym (else_empty h has unique i g l) ∙ right (before i).stored _ (left _ _ e));
        })

      -- nothing is stored or lost
      module _ (s : is_store_row a c.by.own ≡ false) (l : loses a x c.held ≡ false) (word : has_word a w'.last ≡ true) (own : c.by.own ≡ true) where
        plain : ComesBy o f w'
        plain = from c.held c.by.own w'.last w'.home (record {
          has = c.has;
          let_go = c.by.let_go;
          row = c.by.row;
          owned = word ∙ sym own;
          shows = λ g. no (sym no_data ∙ g);
          kept = λ _. same_by _ _ (sym (ap (λ (b : Bool). if b then word_at f.shown else w'.last) no_write));
          stored = no_words_stored a z _ _ _ (looks_stores a c.by.own s);
          homed = kept_home w'.home (same_refl _);
          worded = λ _ _. same_refl _;
          made = λ g. no (sym (makes_none a c.by.own own (looks_stores a c.by.own s)) ∙ g);
          else_words = λ _ _ _ _. same_refl _;
          known = kept_known;
          current = λ r g. m.current (split (λ i. i < 32 → (w'.state i).stored ≡ false) n (λ _. c.facts.marked (both (not (tells_words a)) _ (flip _ t) (flip _ s)) ∙ r)
              (λ i j li. ap (λ (k : Held). k.stored) (sym (before_is i)) ∙ g i j li));
          news = λ g p lp v e. let q = known_now g p v e in m.news n low (subst (λ d. (is_newer k && not (may_hide z d k)) ≡ true) (sym (here n (due_after a d) o.public.due)) q.0) p lp v q.1;
          else_news = λ i g li r p lp v e. m.news i li (subst (λ k. has_news (moved o f).public i k ≡ true) (before_is i) (subst (λ d. (is_newer (before i) && not (may_hide z d (before i))) ≡ true) (sym (there n (due_after a d) o.public.due i g)) r)) p lp v
              (news_stays a (forgets o f) (known_before o n (stores_from o f)) o.news p t (no_looks i g li (left _ _ r)) (looks_stores a c.by.own s) (no_forget i g li (left _ _ r)) ∙ e);
        })
          where
            facts : RowFacts a true x c.held k
            facts = subst (λ b. RowFacts a b x c.held k) own c.facts

            owned_news : has_news o.public n c.held ≡ true → may_own a o.news true ≡ true
            owned_news g = subst (λ (b : Bool). may_own a (λ p. if b then o.news p else None) true ≡ true) g
                (subst (λ (b : Bool). may_own a (λ p. if b then home_at o.home p else (if has_news o.public n c.held then o.news p else None)) true ≡ true) (stale c.held (left _ _ g)) (subst (λ b. may_own a (known_of o n c.held) b ≡ true) own c.by.owned))

            known_now : has_news o.public n c.held ≡ true → (p v : ℕ) → o.news p ≡ Some v → ((is_newer k && not (may_hide z (due_after a d) k)) ≡ true) × (news_after o f p ≡ Some v)
            known_now g p v e = known_then z x d c.held k o.news (known_before o n (stores_from o f)) (forgets o f) p v g e a (subst (λ b. lets z a b d c.held ≡ true) own c.by.let_go) facts
                (subst (λ b. is_store_row a b ≡ false) own s) t l (λ r. (left _ _ (right (are_hidden z) _ r), left _ _ r)) (λ _. owned_news g)

            beside_newer : (h : Held) → o.may n h ≡ true → (i : ℕ) → i ≢ n → (li : i < 32) → is_newer (before i) ≡ true → holds_data h.copy ≡ false
            beside_newer h e i g li r = by_false (holds_data h.copy) (λ q. sym (none_newer h (before i) (else_beside h e i g li) (sane o sound i li (before i) (prior_has o f w' low m i g li)) q) ∙ r)

            not_unique : (h : Held) → o.may n h ≡ true → (i : ℕ) → i ≢ n → (li : i < 32) → is_newer (before i) ≡ true → is_unique h.copy ≡ false
            not_unique h e i g li r = by_false (is_unique h.copy) (λ q. sym (else_empty h e q i g li) ∙ right (before i).stored _ r)

            no_looks : (i : ℕ) → i ≢ n → i < 32 → is_newer (before i) ≡ true → looks a ≡ false
            no_looks i g li r = by_false (looks a) (λ q. sym (beside_newer c.held c.has i g li r) ∙ c.facts.looked q)

            none_sent : (i : ℕ) → i ≢ n → i < 32 → is_newer (before i) ≡ true → (t : Held) → sent o f t ≡ true → is_newer t ≡ false
            none_sent i g li r t e = let y = came o f sound low t e in by_false (is_newer t) (λ q. by_truth (is_store_row a y.by.own)
                (λ w. sym (not_unique y.held y.has i g li r) ∙ left _ _ (y.facts.stored w))
                (λ w. sym (beside_newer y.held y.has i g li r) ∙ right y.held.stored _ (y.facts.newer (both (is_newer t) _ q (flip _ w)))))

            no_forget : (i : ℕ) → i ≢ n → i < 32 → is_newer (before i) ≡ true → forgets o f ≡ false
            no_forget i g li r = by_false (forgets o f) (λ q. let y = out_held (λ h. sent o f h && is_newer h) (right (is_request a) _ (right (are_hidden z) _ q)) in
                sym (none_sent i g li r y.0 (left (sent o f y.0) _ y.1)) ∙ right (sent o f y.0) _ y.1)

      -- A LOAD OF ANOTHER WORD
      module _ (word : Word) (e : a ≡ Load word) where
        placed_here : word.place.0 < 8
        placed_here = low_place word.place.0 (subst (λ b. is_placed b ≡ true) e placed)

        abbrev pub unlike : Held → Words
        unlike h = if h.stored then (λ _. suc word.value) else w'.home

        load_current : (h : Held) → h.stored ≡ false → Same w'.home (unlike h)
        load_current h s = same_by _ _ (sym (ap (λ (b : Bool). if b then (λ (_ : ℕ). suc word.value) else w'.home) s))

        load_other : (h : Held) → o.may n h ≡ true → lets z a false d h ≡ true → row a false x (is_due_data gives_up d) h ≡ Some k → is_unique h.copy ≡ true → stored_to h ≡ k → has_word a (unlike h) ≡ false → ComesBy o f w'
        load_other h has l r u after w = storing h has false l r (subst (λ b. is_store_row b false ≡ true) (sym e) refl) u after (unlike h) (
          w,
          no_words_stored a z _ _ _ (subst (λ b. stores b ≡ false) (sym e) refl),
          load_current h,
          λ g. contrary (may_hide z d h) (right (is_newer h) _ g) (subst (λ b. lets z b false d h ≡ true) e l),
        )

        unlike_stored : (h : Held) → h.stored ≡ true → has_word a (unlike h) ≡ false
        unlike_stored h s = subst (λ b. has_word b (unlike h) ≡ false) (sym e) (subst (λ (b : Bool). ((if b then (λ (_ : ℕ). suc word.value) else w'.home) word.place.0 == word.value) ≡ false) (sym s) (more_differs word.value))

        unlike_fresh : is_fresh c.held ≡ true → c.by.own ≡ false → has_word a (unlike c.held) ≡ false
        unlike_fresh r own = let v = sound.known n low c.held c.has r in
            subst (λ b. has_word b (unlike c.held) ≡ false) (sym e) (subst (λ (b : Bool). ((if b then (λ (_ : ℕ). suc word.value) else w'.home) word.place.0 == word.value) ≡ false) (sym (turned _ (right (holds_data c.held.copy) _ r)))
            (equal_fails (word_at v.0 word.place.0) word.value (w'.home word.place.0) (kept_known v.0 v.1 word.place.0 placed_here)
            (subst (λ (h : Option (List ℕ)). differs_at (home_at h word.place.0) word.value ≡ true) v.1
            (subst (λ (b : Bool). differs_at (if b then home_at o.home word.place.0 else (if has_news o.public n c.held then o.news word.place.0 else None)) word.value ≡ true) r
            (subst (λ b. may_own b (known_of o n c.held) false ≡ true) e (subst (λ b. may_own a (known_of o n c.held) b ≡ true) own c.by.owned))))))

        -- it was of another word
        loaded_other : c.by.own ≡ false → ComesBy o f w'
        loaded_other own =
            let r : row a false x (is_due_data gives_up d) c.held ≡ Some k = subst (λ b. row a b x (is_due_data gives_up d) c.held ≡ Some k) own c.by.row in
            let s = c.facts.stored (subst (λ b. is_store_row a b ≡ true) (sym own) (subst (λ b. is_store_row b false ≡ true) (sym e) refl)) in
            load_other c.held c.has (subst (λ b. lets z a b d c.held ≡ true) own c.by.let_go) r (left _ _ s) (same_held_is _ k (right (is_unique c.held.copy) _ s))
            (by_truth c.held.stored (unlike_stored c.held) (λ g. unlike_fresh (both (holds_data c.held.copy) _ (c.facts.looked (subst (λ b. looks b ≡ true) (sym e) refl)) (flip _ g)) own))

        -- it was of its own, which the value isn't any more
        module _ (own : c.by.own ≡ true) (lacks : has_word a w'.last ≡ false) where
          data_held : holds_data c.held.copy ≡ true
          data_held = c.facts.looked (subst (λ b. looks b ≡ true) (sym e) refl)

          same_copy : c.held ≡ k
          same_copy = some_is c.held k (sym own_row ∙ subst (λ b. row b true x (is_due_data gives_up d) c.held ≡ Some k) e (subst (λ b. row a b x (is_due_data gives_up d) c.held ≡ Some k) own c.by.row))
            where
              own_row : row (Load word) true x (is_due_data gives_up d) c.held ≡ Some c.held
              own_row = ap (λ (b : Bool). if b then Some c.held else None) data_held

          owned_here : may_own (Load word) (known_of o n c.held) true ≡ true
          owned_here = subst (λ b. may_own b (known_of o n c.held) true ≡ true) e (subst (λ b. may_own a (known_of o n c.held) b ≡ true) own c.by.owned)

          lacks_word : (w'.last word.place.0 == word.value) ≡ false
          lacks_word = subst (λ b. has_word b w'.last ≡ false) e lacks

          not_fresh : is_fresh c.held ≡ true → false ≡ true
          not_fresh r =
              let v = sound.known n low c.held c.has r in
              let fits = subst (λ (h : Option (List ℕ)). fits_at (home_at h word.place.0) word.value ≡ true) v.1
              (subst (λ (b : Bool). fits_at (if b then home_at o.home word.place.0 else (if has_news o.public n c.held then o.news word.place.0 else None)) word.value ≡ true) r owned_here) in
              let shown = split (λ i. i < 32 → (w'.state i).stored ≡ false) n (λ _. ap (λ (k : Held). k.stored) (sym same_copy) ∙ turned _ (right (holds_data c.held.copy) _ r))
              (λ i g l. ap (λ (k : Held). k.stored) (sym (before_is i)) ∙ none_stored c.held (before i) (else_beside c.held c.has i g l) (sane o sound i l (before i) (prior_has o f w' low m i g l)) r) in
              sym lacks_word ∙ eq-eqb _ _ (sym (m.current shown word.place.0 placed_here) ∙ kept_known v.0 v.1 word.place.0 placed_here ∙ eqb-true _ _ fits)

          stored_held : c.held.stored ≡ true
          stored_held = by_truth c.held.stored (λ g. g) (λ g. no (not_fresh (both (holds_data c.held.copy) _ data_held (flip _ g))))

          newer_held : is_newer c.held ≡ true
          newer_held = both c.held.stored _ stored_held data_held

          hides : may_hide z d c.held ≡ true
          hides = by_truth (may_hide z d c.held) (λ g. g) (λ g. no (sym lacks_word ∙ eq-eqb _ _ (m.news n low (has_now g) word.place.0 placed_here word.value now)))
            where
              has_now : may_hide z d c.held ≡ false → has_news (moved o f).public n k ≡ true
              has_now g = subst (λ d. (is_newer k && not (may_hide z d k)) ≡ true) (sym (here n (due_after a d) o.public.due ∙ ap (λ b. due_after b d) e)) (subst (λ k. (is_newer k && not (may_hide z d k)) ≡ true) same_copy (both (is_newer c.held) _ newer_held (flip _ g)))

              now : news_after o f word.place.0 ≡ Some word.value
              now = subst (λ b. news_by b (forgets o f) (known_before o n (stores_from o f)) o.news word.place.0 ≡ Some word.value) (sym e) (here word.place.0 (Some word.value) o.news)

          loaded_own : ComesBy o f w'
          loaded_own =
              let s = sane o sound n low c.held c.has in let u = newer_is_unique c.held s newer_held in let i = newer_is_stored c.held s newer_held in
              load_other c.held c.has (subst (λ b. lets z b false d c.held ≡ true) (sym e) hides)
              (subst (λ b. row b false x (is_due_data gives_up d) c.held ≡ Some k) (sym e) (other_row u ∙ ap (λ (h : Held). Some h) (i ∙ same_copy))) u (i ∙ same_copy) (unlike_stored c.held stored_held)
            where
              other_row : is_unique c.held.copy ≡ true → row (Load word) false x (is_due_data gives_up d) c.held ≡ Some (stored_to c.held)
              other_row u = ap (λ (b : Bool). if b then (if is_unique c.held.copy then Some (stored_to c.held) else None) else None) data_held ∙ ap (λ (b : Bool). if b then Some (stored_to c.held) else None) u

      -- A STORE
      module _ (word : Word) (e : a ≡ Store word) where
        abbrev place : ℕ
        place = word.place.0

        place_low : place < 8
        place_low = low_place place (subst (λ b. is_placed b ≡ true) e placed)

        own_is : c.by.own ≡ true
        own_is = own_true (subst (λ b. looks b ≡ false) (sym e) refl)

        is_store : is_store_row a c.by.own ≡ true
        is_store = subst (λ b. is_store_row b c.by.own ≡ true) (sym e) refl

        word_any : (last : Words) → has_word a last ≡ true
        word_any last = has_word_but a last (subst (λ b. looks b ≡ false) (sym e) refl)

        stored_facts : (is_unique c.held.copy && same_held (stored_to c.held) k) ≡ true
        stored_facts = c.facts.stored is_store

        after_store : stored_to c.held ≡ k
        after_store = same_held_is _ k (right (is_unique c.held.copy) _ stored_facts)

        stored_words : (h : Held) (last : Words) → (are_hidden z ≡ false → Stored place word.value (holds_data h.copy) last w'.last) → StoresWord a z (holds_data h.copy) last w'.last
        stored_words h last g = subst (λ b. StoresWord b z (holds_data h.copy) last w'.last) (sym e) g

        -- where others may be hidden nothing is known of the words
        abbrev pub any_words : Held → Words
        any_words h = if h.stored then made o.news else w'.home

        hidden_store : are_hidden z ≡ true → ComesBy o f w'
        hidden_store y = storing c.held c.has c.by.own c.by.let_go c.by.row is_store (left _ _ stored_facts) after_store (any_words c.held) (
          word_any _ ∙ sym own_is,
          stored_words c.held (any_words c.held) (λ g. no (sym g ∙ y)),
          (λ s. same_by _ _ (sym (ap (λ (b : Bool). if b then made o.news else w'.home) s))),
          λ g p l v q. subst (λ (b : Bool). (if b then made o.news else w'.home) p ≡ v) (sym (left _ _ (left _ _ g))) (made_fits o.news p v q),
        )

        module _ (y : are_hidden z ≡ false) where
          abbrev S : Copies
          S = stores_from o f

          abbrev empty : Copies
          empty h = S h && (is_unique h.copy && not (holds_data h.copy))

          abbrev newer : Copies
          newer h = S h && (is_unique h.copy && is_newer h)

          has_new : has_news (moved o f).public n k ≡ true
          has_new = both (is_newer k) _ (subst (λ k. is_newer k ≡ true) after_store refl) (hides_none z (may_store ((moved o f).public.due n) k) y)

          known_new : (p v : ℕ) → p < 8 → put place (Some word.value) (known_before o n S) p ≡ Some v → w'.last p ≡ v
          known_new p v l q = m.news n low has_new p l v (subst (λ b. news_by b (forgets o f) (known_before o n S) o.news p ≡ Some v) (sym e) q)

          value_is : w'.last place ≡ word.value
          value_is = known_new place word.value place_low (here place (Some word.value) (known_before o n S))

          known_else : (p v : ℕ) → p < 8 → p ≢ place → known_before o n S p ≡ Some v → w'.last p ≡ v
          known_else p v l g q = known_new p v l (there place (Some word.value) (known_before o n S) p g ∙ q)

          -- whose request was retried has cancelled it
          store_cancelled : (h : Held) → o.may n h ≡ true → may_store d h ≡ true → h.cancelled ≡ is_resending d
          store_cancelled h has g = by (is_resending d) refl
            where
              resending_stores : (d : Due) (h : Held) → is_resending d ≡ true → may_store d h ≡ true → h.cancelled ≡ true
              resending_stores (Resending q) h r g = g
              resending_stores Nothing h r g = no r
              resending_stores (Completion q) h r g = no r
              resending_stores (SureCompletion q) h r g = no r
              resending_stores (WriteData q) h r g = no r
              resending_stores Acknowledgement h r g = no r

              by : (b : Bool) → is_resending d ≡ b → h.cancelled ≡ is_resending d
              by true r = resending_stores d h r g ∙ sym r
              by false r = sound.waits n low r h has ∙ sym r

          lets_store : (own : Bool) (h : Held) → lets z a own d h ≡ true → may_store d h ≡ true
          lets_store own h l = subst (λ b. lets z b own d h ≡ true) e l

          -- a copy without data: its agent wrote the whole line
          empty_store : (t : Held) → empty t ≡ true → ComesBy o f w'
          empty_store t q =
              let in_S = left (S t) _ q in let has = left (o.may n t) _ in_S in
              let sent = out_held (λ k. sends o f t k) (right (o.may n t) _ in_S) in
              let b = came_by o f sound low t sent.0 has (sent_by o f t sent.0 sent.1) in
              let u = left (is_unique t.copy) _ (right (S t) _ q) in
              let none = turned _ (right (is_unique t.copy) _ (right (S t) _ q)) in
              let alike : t.cancelled ≡ c.held.cancelled = store_cancelled t has (lets_store b.by.own t b.by.let_go) ∙ sym (store_cancelled c.held c.has (lets_store c.by.own c.held c.by.let_go)) in
              let after : stored_to t ≡ k = same_store t c.held alike ∙ after_store in
              storing t has true (subst (λ b. lets z b true d t ≡ true) (sym e) (lets_store b.by.own t b.by.let_go))
              (subst (λ b. row b true x (is_due_data gives_up d) t ≡ Some k) (sym e) (ap (λ (b : Bool). if b then Some (stored_to t) else None) u ∙ ap (λ (h : Held). Some h) after))
              (subst (λ b. is_store_row b true ≡ true) (sym e) refl) u after w'.home
              (word_any _, stored_words t w'.home (λ _. record { here = value_is; there = λ g. no (sym none ∙ g) }), (λ _. same_refl _), λ g. no (sym none ∙ right t.stored _ (left _ _ g)))
            where
              same_store : (h t : Held) → h.cancelled ≡ t.cancelled → stored_to h ≡ stored_to t
              same_store h t g = λ i. record { copy = UniqueDirty; cancelled = g i; stored = true }

          held_in : empty c.held ≡ false → holds_data c.held.copy ≡ true
          held_in g = by_truth (holds_data c.held.copy) (λ q. q) (λ q. no (sym g ∙ both (S c.held) _ in_S (both (is_unique c.held.copy) _ (left _ _ stored_facts) (flip _ q))))
            where
              in_S : S c.held ≡ true
              in_S = both (o.may n c.held) _ c.has (in_held (λ k. sends o f c.held k) k (sends_here c))

          -- each copy of the set that was stored to has data: the other words are as they were
          module _ (full : any_held empty ≡ false) where
            holds : holds_data c.held.copy ≡ true
            holds = held_in (none_held empty full c.held)

            abbrev earlier : ℕ → Words
            earlier v p = if p == place then v else w'.last p

            earlier_else : (v p : ℕ) → p ≢ place → earlier v p ≡ w'.last p
            earlier_else v p g = ap (λ (b : Bool). if b then v else w'.last p) (unlike_place p g)
              where
                unlike_place : (p : ℕ) → p ≢ place → (p == place) ≡ false
                unlike_place p g = by_false (p == place) (λ q. absurd (g (eqb-true p place q)))

            earlier_here : (v p : ℕ) → p ≡ place → earlier v p ≡ v
            earlier_here v p g = ap (λ (b : Bool). if b then v else w'.last p) (eq-eqb p place g)

            earlier_stored : (v : ℕ) → StoresWord a z (holds_data c.held.copy) (earlier v) w'.last
            earlier_stored v = stored_words c.held (earlier v) (λ _. record { here = value_is; there = λ _ p l g. sym (earlier_else v p g) })

            known_full : (p : ℕ) → p < 8 → known_before o n S p ≡ (if any_held newer then o.news p else home_at o.home p)
            known_full p l = ap (λ (b : Bool). if b then None else (if any_held newer then o.news p else of_eight (home_at o.home) p)) full
                ∙ ap (λ (k : Option ℕ). if any_held newer then o.news p else k) (eight_is (home_at o.home) p l)

            listed_store : (v : ℕ) → (c.held.stored ≡ false → Same w'.home (earlier v)) → (has_news o.public n c.held ≡ true → (p : ℕ) → p < 8 → (u : ℕ) → o.news p ≡ Some u → earlier v p ≡ u) → ComesBy o f w'
            listed_store v g h = storing c.held c.has c.by.own c.by.let_go c.by.row is_store (left _ _ stored_facts) after_store (earlier v) (word_any _ ∙ sym own_is, earlier_stored v, g, h)

            over_newer : any_held newer ≡ true → ComesBy o f w'
            over_newer q = listed_store (or_zero (o.news place)) (λ s. no (sym s ∙ was_stored)) news_then
              where
                was_stored : c.held.stored ≡ true
                was_stored = let t = out_held newer q in let has = left (o.may n t.0) _ (left (S t.0) _ t.1) in let new = right (is_unique t.0.copy) _ (right (S t.0) _ t.1) in
                    sound.alike y n low c.held t.0 c.has has holds (right t.0.stored _ new) ∙ left _ _ new

                news_then : has_news o.public n c.held ≡ true → (p : ℕ) → p < 8 → (u : ℕ) → o.news p ≡ Some u → earlier (or_zero (o.news place)) p ≡ u
                news_then g p l u r = by (p == place) refl
                  where
                    by : (b : Bool) → (p == place) ≡ b → earlier (or_zero (o.news place)) p ≡ u
                    by true h = earlier_here (or_zero (o.news place)) p (eqb-true p place h) ∙ ap (λ p. or_zero (o.news p)) (sym (eqb-true p place h)) ∙ ap or_zero r
                    by false h = earlier_else (or_zero (o.news place)) p (differ p place h) ∙ known_else p u l (differ p place h) (known_full p l ∙ ap (λ (b : Bool). if b then o.news p else home_at o.home p) q ∙ r)

            over_fresh : any_held newer ≡ false → ComesBy o f w'
            over_fresh q = listed_store (w'.home place) home_then (λ g. no (sym unstored ∙ left _ _ (left _ _ g)))
              where
                in_S : S c.held ≡ true
                in_S = by_truth (S c.held) (λ g. g) (λ g. sends_in)
                  where
                    sends_in : S c.held ≡ true
                    sends_in = both (o.may n c.held) _ c.has (in_held (λ k. sends o f c.held k) k (sends_here c))

                unstored : c.held.stored ≡ false
                unstored = by_false c.held.stored (λ g. sym q ∙ in_held newer c.held (both (S c.held) _ in_S (both (is_unique c.held.copy) _ (left _ _ stored_facts) (both c.held.stored _ g holds))))

                home_then : c.held.stored ≡ false → Same w'.home (earlier (w'.home place))
                home_then s p l = by (p == place) refl
                  where
                    fresh : (v : List ℕ) × (o.home ≡ Some v)
                    fresh = sound.known n low c.held c.has (both (holds_data c.held.copy) _ holds (flip _ s))

                    by : (b : Bool) → (p == place) ≡ b → w'.home p ≡ earlier (w'.home place) p
                    by true h = ap w'.home (eqb-true p place h) ∙ sym (earlier_here (w'.home place) p (eqb-true p place h))
                    by false h = kept_known fresh.0 fresh.1 p l ∙ sym (known_else p (word_at fresh.0 p) l (differ p place h)
                        (known_full p l ∙ ap (λ (b : Bool). if b then o.news p else home_at o.home p) q ∙ ap (λ h. home_at h p) fresh.1)) ∙ sym (earlier_else (w'.home place) p (differ p place h))

            full_store : ComesBy o f w'
            full_store = by_truth (any_held newer) over_newer over_fresh

          listed : ComesBy o f w'
          listed = by_truth (any_held empty) (λ g. let t = out_held empty g in empty_store t.0 t.1) full_store

        stored_here : ComesBy o f w'
        stored_here = by_truth (are_hidden z) hidden_store listed

      -- BY WHAT IT IS
      store_by : is_store_row a c.by.own ≡ true → ComesBy o f w'
      store_by s = by a refl s
        where
          by : (b : Act) → a ≡ b → is_store_row b c.by.own ≡ true → ComesBy o f w'
          by (Load word) e s = loaded_other word e (turned _ s)
          by (Store word) e s = stored_here word e
          by (Request kind) e s = no s
          by (Resend kind) e s = no s
          by (SnpResp answer) e s = no s
          by CompAck e s = no s
          by (CopyBackWrData form) e s = no s
          by NonCopyBackWrData e s = no s

      lacking : is_store_row a c.by.own ≡ false → has_word a w'.last ≡ false → ComesBy o f w'
      lacking s g = by a refl s g
        where
          by : (b : Act) → a ≡ b → is_store_row b c.by.own ≡ false → has_word b w'.last ≡ false → ComesBy o f w'
          by (Load word) e s g = loaded_own word e (own_not_store a _ c.by.own c.by.owned (subst (λ b. is_store_row b c.by.own ≡ false) (sym e) s)) (subst (λ b. has_word b w'.last ≡ false) (sym e) g)
          by (Store word) e s g = no (sym g)
          by (Request kind) e s g = no (sym g)
          by (Resend kind) e s g = no (sym g)
          by (SnpResp answer) e s g = no (sym g)
          by CompAck e s g = no (sym g)
          by (CopyBackWrData form) e s g = no (sym g)
          by NonCopyBackWrData e s g = no (sym g)

      untold : ComesBy o f w'
      untold = by_truth (is_store_row a c.by.own) store_by (λ s. by_truth (loses a x c.held) losing (λ l. by_truth (has_word a w'.last) (λ g. plain s l g (own_not_store a _ c.by.own c.by.owned s)) (lacking s)))

    come : ComesBy o f w'
    come = by_truth (tells_words a) (λ t. by_truth (has_data a) (with_data t) (λ g. whole t (writes_but a t g))) untold
      where
        writes_but : (a : Act) → tells_words a ≡ true → has_data a ≡ false → writes a ≡ true
        writes_but a t g = subst (λ b. (b || writes a) ≡ true) g t

  pub comes_here : ComesBy o f w'
  comes_here = come (came o f sound low k in_sent)

pub comes : MeaningComes
comes o f w' sound low take m = comes_here o f w' sound low take m
