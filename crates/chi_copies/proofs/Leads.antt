-- A flit of a cache is taken where a world sends it, and leads to what is meant.
use Rattle.std.proofs.Common.{rules, arith, ◌≡◌, ◌≢◌, inl, inr, ℕ, ◌<◌, zero, suc, refl, sym, ap, subst, ◌∙◌, eq-eqb}
use Rattle.std.specs.Prelude.{Bool, true, false, ◌&&◌, ◌||◌, ◌==◌, not, Option, Some, None, List, ◌⊎◌, nat_lt, if◌then◌else◌}
use Rattle.std.proofs.lemmas.Bool.{eqb-true}
use Rattle.chi_observer.specs.declared.kinds.Kind.{Kind}
use Rattle.chi_observer.specs.declared.flits.Due.{Due}
use Rattle.chi_observer.specs.declared.flits.Due.TheVariants.{Nothing, Completion, Resending, SureCompletion, WriteData, Acknowledgement}
use Rattle.chi_observer.specs.declared.flits.Stores.{Stores}
use Rattle.chi_observer.specs.declared.flits.Stores.TheVariants.{Hidden as HiddenStores, Listed}
use Rattle.chi_observer.specs.declared.flits.Act.{Act}
use Rattle.chi_observer.specs.declared.flits.Act.TheVariants.{Request, Resend, SnpResp, CompAck, CopyBackWrData, NonCopyBackWrData, Load, Store}
use Rattle.chi_observer.specs.declared.flits.CacheFlit.{CacheFlit}
use Rattle.chi_observer.specs.Copies.{holds_data, is_unique}
use Rattle.chi_observer.specs.Rules.{are_hidden, gives_up, has_data, writes, tells_words, looks, stores, is_request, lets_go, due_after, word_at, allows, same_kind, is_acknowledging}
use Rattle.chi_copies.specs.Copies.{Held, Copies, shown_of, is_fresh, is_newer, leaves, any_bool, any_held}
use Rattle.chi_copies.specs.Rules.{may_store, may_hide, is_resent, is_due_data, lets, row, acts, loses, stored_to}
use Rattle.chi_copies.specs.Worlds.{World, Words, Same, Shown, Sends, Stored, StoresWord, has_word, is_placed, makes_value, put, all_below}
use Rattle.chi_copies.specs.Observed.{Observed, Sound, Meaning, has_news, home_at, fits_at, differs_at, fits_each, known_of, may_own, sends, sent, takes, moved, no_words, known_before, stores_from, forgets, news_by, news_after, of_eight}
use Rattle.chi_copies.specs.Laws.{CacheFlitsAreTaken, CacheFlitsLead}
use Rattle.chi_copies.proofs.Eight.{eight_is}
use Rattle.chi_copies.proofs.Finite.{no, left, right, both, by_truth, by_false, turned, flip, in_bool, in_held, out_held, in_image}
use Rattle.chi_copies.proofs.Rows.{is_leaves, is_store_row, RowFacts, row_facts, same_held_is, some_is}
use Rattle.chi_copies.proofs.Means.{same_by, same_sym, same_trans, sane, met, none_stored, none_newer}
use Rattle.chi_copies.proofs.Moved.{if_some, Sent, Came, came_by, others_after, in_other, empty_at}
use Rattle.chi_copies.proofs.Put.{differ, here, there, split}

pub none_some_nat : (v : ℕ) → None ≡ Some v → ⊥
none_some_nat v e = search (rules, arith)

pub some_nat : (u v : ℕ) → Some u ≡ Some v → u ≡ v
some_nat u v e = search (rules, arith)

-- PLACES
pub low_place : (p : ℕ) → nat_lt p 8 ≡ true → p < 8
low_place p e = search (rules, arith)

pub all_by : (k : ℕ) (f : ℕ → Bool) → ((p : ℕ) → p < k → f p ≡ true) → all_below k f ≡ true
all_by zero f h = refl
all_by (suc k) f h = both (f k) _ (h k (omega arith)) (all_by k f (λ p l. h p (omega arith)))

pub fits_by : (k : ℕ → Option ℕ) (v : Words) → ((p : ℕ) → p < 8 → (u : ℕ) → k p ≡ Some u → u ≡ v p) → fits_each k v ≡ true
fits_by k v h = all_by 8 (λ p. fits_at (k p) (v p)) (λ p l. at_place (k p) (v p) (h p l))
  where
    at_place : (o : Option ℕ) (v : ℕ) → ((u : ℕ) → o ≡ Some u → u ≡ v) → fits_at o v ≡ true
    at_place None v h = refl
    at_place (Some u) v h = eq-eqb u v (h u refl)

fits_place : (o : Option ℕ) (v : ℕ) → ((u : ℕ) → o ≡ Some u → u ≡ v) → fits_at o v ≡ true
fits_place None v h = refl
fits_place (Some u) v h = eq-eqb u v (h u refl)

not_equal : (u v w : ℕ) → u ≡ w → (w == v) ≡ false → not (u == v) ≡ true
not_equal u v w e h = flip _ (subst (λ x. (x == v) ≡ false) (sym e) h)

differs_place : (o : Option ℕ) (v w : ℕ) → ((u : ℕ) → o ≡ Some u → u ≡ w) → (w == v) ≡ false → differs_at o v ≡ true
differs_place None v w h e = refl
differs_place (Some u) v w h e = not_equal u v w (h u refl) e

pub home_place : (o : Option (List ℕ)) (w : Words) (p u : ℕ) → p < 8 → ((x : List ℕ) → o ≡ Some x → Same w (word_at x)) → home_at o p ≡ Some u → w p ≡ u
home_place None w p u l h e = absurd (none_some_nat u e)
home_place (Some x) w p u l h e = h x refl p l ∙ some_nat _ _ e

-- WHAT IS KNOWN OF A COPY'S WORDS
module _ (o : Observed) (w : World) (sound : Sound o) (m : Meaning o w) where
  -- where a copy is fresh nobody has stored
  pub shown_by : (n : ℕ) → n < 32 → is_fresh (w.state n) ≡ true → Shown w
  shown_by n low e = split (λ i. i < 32 → (w.state i).stored ≡ false) n (λ _. turned _ (right (holds_data (w.state n).copy) _ e))
      (λ i g l. none_stored (w.state n) (w.state i) (met o w sound m n i low l (λ e. g (sym e))) (sane o sound i l (w.state i) (m.copies i l)) e)

  pub known_last : (n : ℕ) → n < 32 → (p v : ℕ) → p < 8 → known_of o n (w.state n) p ≡ Some v → w.last p ≡ v
  known_last n low p v l e = by (is_fresh (w.state n)) (has_news o.public n (w.state n)) refl refl e
    where
      by : (b c : Bool) → is_fresh (w.state n) ≡ b → has_news o.public n (w.state n) ≡ c → (if b then home_at o.home p else (if c then o.news p else None)) ≡ Some v → w.last p ≡ v
      by true c f g e = sym (m.current (shown_by n low f) p l) ∙ home_place o.home w.home p v l m.home e
      by false true f g e = m.news n low g p l v e
      by false false f g e = absurd (none_some_nat v e)

  pub known_words : (n : ℕ) → n < 32 → holds_data (w.state n).copy ≡ true → (p v : ℕ) → p < 8 → known_of o n (w.state n) p ≡ Some v → v ≡ w.words n p
  known_words n low d p v l e = sym (m.words n low d p l ∙ known_last n low p v l e)

-- FLITS
or_nothing : (b : Bool) → (b || false) ≡ b
or_nothing true = refl
or_nothing false = refl

-- what makes the value is a store, or a load of one
pub store_row : (a : Act) (words : Words) → makes_value a (has_word a words) ≡ is_store_row a (has_word a words)
store_row (Load word) words = or_nothing (not (words word.place.0 == word.value))
store_row (Store word) words = refl
store_row (Request kind) words = refl
store_row (Resend kind) words = refl
store_row (SnpResp answer) words = refl
store_row CompAck words = refl
store_row (CopyBackWrData form) words = refl
store_row NonCopyBackWrData words = refl

pub tells_no_store : (a : Act) (own : Bool) → tells_words a ≡ true → is_store_row a own ≡ false
tells_no_store (Load word) own e = no e
tells_no_store (Store word) own e = no e
tells_no_store (Request kind) own e = refl
tells_no_store (Resend kind) own e = refl
tells_no_store (SnpResp answer) own e = refl
tells_no_store CompAck own e = refl
tells_no_store (CopyBackWrData form) own e = refl
tells_no_store NonCopyBackWrData own e = refl

pub writes_no_loss : (a : Act) (x : Bool) (h : Held) → writes a ≡ true → loses a x h ≡ false
writes_no_loss NonCopyBackWrData x h e = refl
writes_no_loss (Load word) x h e = no e
writes_no_loss (Store word) x h e = no e
writes_no_loss (Request kind) x h e = no e
writes_no_loss (Resend kind) x h e = no e
writes_no_loss (SnpResp answer) x h e = no e
writes_no_loss CompAck x h e = no e
writes_no_loss (CopyBackWrData form) x h e = no e

pub has_no_write : (a : Act) → has_data a ≡ true → writes a ≡ false
has_no_write NonCopyBackWrData e = no e
has_no_write (Load word) e = refl
has_no_write (Store word) e = refl
has_no_write (Request kind) e = refl
has_no_write (Resend kind) e = refl
has_no_write (SnpResp answer) e = refl
has_no_write CompAck e = refl
has_no_write (CopyBackWrData form) e = refl

-- a whole write leaves no copy
pub writes_none : (a : Act) (own x up : Bool) (h k : Held) → writes a ≡ true → row a own x up h ≡ Some k → holds_data k.copy ≡ false
writes_none NonCopyBackWrData own x up h k e r = ap (λ (k : Held). holds_data k.copy) (sym (some_is _ k (if_some _ _ k r).1))
writes_none (Load word) own x up h k e r = no e
writes_none (Store word) own x up h k e r = no e
writes_none (Request kind) own x up h k e r = no e
writes_none (Resend kind) own x up h k e r = no e
writes_none (SnpResp answer) own x up h k e r = no e
writes_none CompAck own x up h k e r = no e
writes_none (CopyBackWrData form) own x up h k e r = no e

own_of : (a : Act) (known : ℕ → Option ℕ) (words : Words) → is_placed a ≡ true → (looks a ≡ true → (p v : ℕ) → p < 8 → known p ≡ Some v → v ≡ words p) → may_own a known (has_word a words) ≡ true
own_of (Load word) known words e g = by (words word.place.0 == word.value) refl
  where
    by : (b : Bool) → (words word.place.0 == word.value) ≡ b → may_own (Load word) known b ≡ true
    by true f = fits_place (known word.place.0) word.value (λ u q. g refl word.place.0 u (low_place word.place.0 e) q ∙ eqb-true _ _ f)
    by false f = differs_place (known word.place.0) word.value (words word.place.0) (λ u q. g refl word.place.0 u (low_place word.place.0 e) q) f
own_of (Store word) known words e g = refl
own_of (Request kind) known words e g = refl
own_of (Resend kind) known words e g = refl
own_of (SnpResp answer) known words e g = refl
own_of CompAck known words e g = refl
own_of (CopyBackWrData form) known words e g = refl
own_of NonCopyBackWrData known words e g = refl

pub listed_or : (z : Stores) (b : Bool) → not (are_hidden z && b) ≡ true → b ≡ true → are_hidden z ≡ false
listed_or Listed b e g = refl
listed_or HiddenStores b e g = no (subst (λ b. not b ≡ true) g e)

pub hides_none : (z : Stores) (b : Bool) → are_hidden z ≡ false → not (are_hidden z && b) ≡ true
hides_none Listed b e = refl
hides_none HiddenStores b e = no (sym e)

pub contrary : {A : Type 0} (b : Bool) → not b ≡ true → b ≡ true → A
contrary true e g = no e
contrary false e g = no g

pub may_store_alike : (d : Due) (h k : Held) → k.cancelled ≡ h.cancelled → may_store d k ≡ may_store d h
may_store_alike Nothing h k e = refl
may_store_alike (Resending q) h k e = e
may_store_alike (Completion q) h k e = refl
may_store_alike (SureCompletion q) h k e = refl
may_store_alike (WriteData q) h k e = refl
may_store_alike Acknowledgement h k e = refl

pub hide_alike : (z : Stores) (d : Due) (h k : Held) → k.cancelled ≡ h.cancelled → may_hide z d k ≡ may_hide z d h
hide_alike z d h k e = ap (λ b. are_hidden z && b) (may_store_alike d h k e)

pub resent_waits : (kind : Kind) (d : Due) (h : Held) → (is_resent kind d && not h.cancelled) ≡ true → may_store d h ≡ false
resent_waits kind (Resending q) h e = turned _ (right (same_kind kind q) _ e)
resent_waits kind Nothing h e = no e
resent_waits kind (Completion q) h e = no e
resent_waits kind (SureCompletion q) h e = no e
resent_waits kind (WriteData q) h e = no e
resent_waits kind Acknowledgement h e = no e

pub and_none : (a b : Bool) → b ≡ false → not (a && b) ≡ true
and_none true b e = flip _ e
and_none false b e = refl

pub ack_is : (d : Due) → is_acknowledging d ≡ true → d ≡ Acknowledgement
ack_is Acknowledgement e = refl
ack_is Nothing e = no e
ack_is (Completion q) e = no e
ack_is (Resending q) e = no e
ack_is (SureCompletion q) e = no e
ack_is (WriteData q) e = no e

pub put_some : (p place value v : ℕ) (f : ℕ → Option ℕ) → put place (Some value) f p ≡ Some v → ((p ≡ place) × (value ≡ v)) ⊎ ((p ≢ place) × (f p ≡ Some v))
put_some p place value v f = by (p == place) refl
  where
    by : (b : Bool) → (p == place) ≡ b → (if b then Some value else f p) ≡ Some v → ((p ≡ place) × (value ≡ v)) ⊎ ((p ≢ place) × (f p ≡ Some v))
    by true g e = inl (eqb-true p place g, some_nat value v e)
    by false g e = inr (differ p place g, e)

-- the words that are known of a copy behind its own flit
record Behind (z : Stores) (a : Act) (own x : Bool) (d : Due) (h k : Held) (words last last' : Words) (news before : ℕ → Option ℕ) (forget : Bool) : Type 0 where
  let_go : lets z a own d h ≡ true
  facts : RowFacts a own x h k
  owned : own ≡ has_word a words
  kept : is_store_row a own ≡ false → Same last' last
  stored : StoresWord a z (holds_data h.copy) last last'
  worded : holds_data h.copy ≡ true → Same words last
  known : (is_newer h && not (may_hide z d h)) ≡ true → (p v : ℕ) → p < 8 → news p ≡ Some v → last p ≡ v
  earlier : are_hidden z ≡ false → is_unique h.copy ≡ true → (p v : ℕ) → p < 8 → before p ≡ Some v → (holds_data h.copy ≡ true) × (last p ≡ v)
  forgotten : are_hidden z ≡ true → is_request a ≡ true → forget ≡ true

module _ (z : Stores) (own x : Bool) (d : Due) (h k : Held) (words last last' : Words) (news before : ℕ → Option ℕ) (forget : Bool) (p v : ℕ) (l : p < 8) where
  -- where its agent does nothing else to it
  as_before : (a : Act) → Behind z a own x d h k words last last' news before forget → is_store_row a own ≡ false → is_newer k ≡ true → not (may_hide z d h) ≡ true → news p ≡ Some v → last' p ≡ v
  as_before a b s e g q = b.kept s p l ∙ b.known (both (is_newer h) _ (b.facts.newer (both (is_newer k) _ e (flip _ s))) g) p v l q

  news_at : (a : Act) → Behind z a own x d h k words last last' news before forget → (is_newer k && not (may_hide z (due_after a d) k)) ≡ true → news_by a forget before news p ≡ Some v → last' p ≡ v
  news_at (Request kind) b e q = by (are_hidden z) forget refl refl q
    where
      by : (c g : Bool) → are_hidden z ≡ c → forget ≡ g → (if g || false then no_words else news) p ≡ Some v → last' p ≡ v
      by c true y w q = absurd (none_some_nat v q)
      by true false y w q = no (sym w ∙ b.forgotten y refl)
      by false false y w q = as_before (Request kind) b refl (left _ _ e) (hides_none z (may_store d h) y) q
  news_at (Resend kind) b e q = by forget q
    where
      by : (g : Bool) → (if g || false then no_words else news) p ≡ Some v → last' p ≡ v
      by true q = absurd (none_some_nat v q)
      by false q = as_before (Resend kind) b refl (left _ _ e) (and_none (are_hidden z) (may_store d h) (resent_waits kind d h b.let_go)) q
  news_at (SnpResp answer) b e q = contrary (is_newer k) (b.facts.given refl) (left _ _ e)
  news_at CompAck b e q = by forget q
    where
      by : (g : Bool) → (if g || false then no_words else news) p ≡ Some v → last' p ≡ v
      by true q = absurd (none_some_nat v q)
      by false q = as_before CompAck b refl (left _ _ e) (subst (λ d. not (may_hide z d h) ≡ true) (sym (ack_is d b.let_go)) (right (is_newer k) _ e)) q
  news_at (CopyBackWrData form) b e q = contrary (is_newer k) (b.facts.given refl) (left _ _ e)
  news_at NonCopyBackWrData b e q = contrary (is_newer k) (b.facts.given refl) (left _ _ e)
  news_at (Load word) b e q = loaded own refl
    where
      loaded : (c : Bool) → own ≡ c → last' p ≡ v
      loaded true c = by (put_some p word.place.0 word.value v news q)
        where
          by : ((p ≡ word.place.0) × (word.value ≡ v)) ⊎ ((p ≢ word.place.0) × (news p ≡ Some v)) → last' p ≡ v
          by (inl y) = b.kept (ap not c) p l ∙ sym (b.worded (b.facts.looked refl) p l) ∙ ap words y.0 ∙ eqb-true _ _ (sym b.owned ∙ c) ∙ y.1
          by (inr y) = as_before (Load word) b (ap not c) (left _ _ e) (subst (λ g. not g ≡ true) (hide_alike z d h k (b.facts.cancelled refl)) (right (is_newer k) _ e)) y.1
      loaded false c = contrary (may_hide z d k) (right (is_newer k) _ e) (hide_alike z d h k (b.facts.cancelled refl) ∙ subst (λ g. (g || may_hide z d h) ≡ true) c b.let_go)
  news_at (Store word) b e q =
      let y : are_hidden z ≡ false = listed_or z (may_store d k) (right (is_newer k) _ e) (may_store_alike d h k (b.facts.cancelled refl) ∙ b.let_go) in
      by y (b.stored y) (put_some p word.place.0 word.value v before q)
    where
      by : are_hidden z ≡ false → Stored word.place.0 word.value (holds_data h.copy) last last' → ((p ≡ word.place.0) × (word.value ≡ v)) ⊎ ((p ≢ word.place.0) × (before p ≡ Some v)) → last' p ≡ v
      by y s (inl g) = ap last' g.0 ∙ s.here ∙ g.1
      by y s (inr g) = let t = b.earlier y (left _ _ (b.facts.stored refl)) p v l g.1 in s.there t.0 p l g.0 ∙ t.1

pub looks_stores : (a : Act) (own : Bool) → is_store_row a own ≡ false → stores a ≡ false
looks_stores (Load word) own e = refl
looks_stores (Store word) own e = e
looks_stores (Request kind) own e = refl
looks_stores (Resend kind) own e = refl
looks_stores (SnpResp answer) own e = refl
looks_stores CompAck own e = refl
looks_stores (CopyBackWrData form) own e = refl
looks_stores NonCopyBackWrData own e = refl

or_not : (d f : Bool) → (d ≡ true → f ≡ true) → (not d || f) ≡ true
or_not true f g = g refl
or_not false f g = refl

module _ (o : Observed) (f : CacheFlit) (w w' : World) (sound : Sound o) (low : f.agent.0 < 32) (m : Meaning o w) (send : Sends o.public f w w') where
  abbrev n : ℕ
  n = f.agent.0

  abbrev a : Act
  a = f.act

  abbrev d : Due
  d = o.public.due n

  abbrev z : Stores
  z = o.public.stores

  abbrev x : Bool
  x = lets_go (o.public.snooped n)

  abbrev h : Held
  h = w.state n

  abbrev k : Held
  k = w'.state n

  abbrev own : Bool
  own = has_word a (w.words n)

  acted : (lets z a own d h ≡ true) × (row a own x (is_due_data gives_up d) h ≡ Some k)
  acted = if_some (lets z a own d h) (row a own x (is_due_data gives_up d) h) k send.act

  -- a copy that shows words has data
  has_words : looks a ≡ true → holds_data h.copy ≡ true
  has_words = (row_facts a own x (is_due_data gives_up d) h k (sane o sound n low h (m.copies n low)) acted.1).looked

  has_shown : has_data a ≡ true → holds_data h.copy ≡ true
  has_shown e = left _ _ ((row_facts a own x (is_due_data gives_up d) h k (sane o sound n low h (m.copies n low)) acted.1).has e)

  abbrev sent_here : Sent o f h k
  sent_here = record {
    own = own;
    owned = own_of a (known_of o n h) (w.words n) send.placed (λ l p v q e. known_words o w sound m n low (has_words l) p v q e);
    let_go = acted.0;
    row = acted.1;
    fits = or_not (has_data a) _ (λ e. fits_by (known_of o n h) (word_at f.shown) (λ p l u g. known_words o w sound m n low (has_shown e) p u l g ∙ sym (send.shown e p l)));
  }

  sends_here : sends o f h k ≡ true
  sends_here = both (any_bool (λ own. may_own a (known_of o n h) own && leaves (acts z a own x d h) k)) _
      (in_bool (λ own. may_own a (known_of o n h) own && leaves (acts z a own x d h) k) own (both (may_own a (known_of o n h) own) _ sent_here.owned (is_leaves _ k send.act))) sent_here.fits

  in_sent : sent o f k ≡ true
  in_sent = in_image (sends o f) (o.may n) h k (m.copies n low) sends_here

  pub taken_here : takes o f ≡ true
  taken_here = both (allows a (o.public.snooped n)) _ send.allowed (both (is_placed a) _ send.placed (in_held (sent o f) k in_sent))

  abbrev c : Came o f sound low k
  c = came_by o f sound low h k (m.copies n low) sent_here

  -- the value stays where nothing is stored, lost or written whole
  last_kept : is_store_row a own ≡ false → loses a x h ≡ false → Same w'.last (if writes a then word_at f.shown else w.last)
  last_kept s l = send.last (both (not (makes_value a own)) _ (flip _ (store_row a (w.words n) ∙ s)) (flip _ l))

  last_same : is_store_row a own ≡ false → loses a x h ≡ false → writes a ≡ false → Same w'.last w.last
  last_same s l e = same_trans _ _ _ (last_kept s l) (same_by _ _ (ap (λ (b : Bool). if b then word_at f.shown else w.last) e))

  no_loss : holds_data k.copy ≡ true → loses a x h ≡ false
  no_loss e = by_false (loses a x h) (λ g. sym (turned _ (right k.stored _ (c.facts.lost g))) ∙ e)

  no_write : holds_data k.copy ≡ true → writes a ≡ false
  no_write e = by_false (writes a) (λ g. sym (writes_none a own x (is_due_data gives_up d) h k g acted.1) ∙ e)

  -- beside another copy with data nothing is stored, lost or written whole
  other_data : (i : ℕ) → i ≢ n → i < 32 → holds_data (w.state i).copy ≡ true → (is_store_row a own ≡ false) × (loses a x h ≡ false) × (writes a ≡ false)
  other_data i g l e =
      let q : (is_store_row a own || (loses a x h || writes a)) ≡ false = by_false _ (λ r. sym (empty_at o f sound low k c i g l (w.state i) (m.copies i l) r) ∙ e) in
      (neither_first _ _ q, neither_first _ _ (neither_last _ _ q), neither_last _ _ (neither_last _ _ q))
    where
      neither_first : (a b : Bool) → (a || b) ≡ false → a ≡ false
      neither_first true b h = h
      neither_first false b h = refl

      neither_last : (a b : Bool) → (a || b) ≡ false → b ≡ false
      neither_last true b h = no (sym h)
      neither_last false b h = h

  other_copy : (b : Bool) (h : Held) → (if b then shown_of h else h).copy ≡ h.copy
  other_copy true h = refl
  other_copy false h = refl

  was_data : (i : ℕ) → i ≢ n → i < 32 → holds_data (w'.state i).copy ≡ true → holds_data (w.state i).copy ≡ true
  was_data i g l e = ap holds_data (sym (other_copy (tells_words a) (w.state i))) ∙ ap (λ (k : Held). holds_data k.copy) (sym (send.others.state i l g)) ∙ e

  words_here : holds_data k.copy ≡ true → Same (w'.words n) w'.last
  words_here e = by_truth (is_store_row a own) (λ s. send.made (store_row a (w.words n) ∙ s))
      (λ s. same_trans _ _ _ (send.words e (store_row a (w.words n) ∙ s)) (same_trans _ _ _ (m.words n low (c.facts.holds (both (holds_data k.copy) _ e (flip _ s))))
      (same_sym _ _ (last_same s (no_loss e) (no_write e)))))

  words_else : (i : ℕ) → i ≢ n → i < 32 → holds_data (w'.state i).copy ≡ true → Same (w'.words i) w'.last
  words_else i g l e = let q = other_data i g l (was_data i g l e) in
      same_trans _ _ _ (same_by _ _ (send.others.words i l g)) (same_trans _ _ _ (m.words i l (was_data i g l e)) (same_sym _ _ (last_same q.0 q.1 q.2)))

  home_then : (b : Bool) → tells_words a ≡ b → (v : List ℕ) → (if b then Some f.shown else o.home) ≡ Some v → Same w'.home (word_at v)
  home_then true t v e = same_trans _ _ _ send.home (same_trans _ _ _ (same_by _ _ (ap (λ (b : Bool). if b then word_at f.shown else w.home) t)) (same_by _ _ (ap word_at (some_list _ _ e))))
    where
      some_list : (u v : List ℕ) → Some u ≡ Some v → u ≡ v
      some_list u v e = search (rules, arith)
  home_then false t v e = same_trans _ _ _ send.home (same_trans _ _ _ (same_by _ _ (ap (λ (b : Bool). if b then word_at f.shown else w.home) t)) (m.home v e))

  -- where words are told they are the value
  pub told_last : tells_words a ≡ true → Same w'.last (word_at f.shown)
  told_last t = by_truth (has_data a)
      (λ e. same_trans _ _ _ (last_same (tells_no_store a own t) (turned _ (right (holds_data h.copy) _ (c.facts.has e))) (has_no_write a e)) (same_trans _ _ _ (same_sym _ _ (m.words n low (has_shown e))) (same_sym _ _ (send.shown e))))
      (λ e. let g : writes a ≡ true = or_second _ _ t e in
      same_trans _ _ _ (last_kept (tells_no_store a own t) (writes_no_loss a x h g)) (same_by _ _ (ap (λ (b : Bool). if b then word_at f.shown else w.last) g)))
    where
      or_second : (a b : Bool) → (a || b) ≡ true → a ≡ false → b ≡ true
      or_second true b h e = no (sym e)
      or_second false b h e = h

  -- where none is told nobody has stored behind it only if nobody had before
  shown_before : tells_words a ≡ false → Shown w' → (is_store_row a own ≡ false) × Shown w
  shown_before t shown =
      let s : is_store_row a own ≡ false = by_false _ (λ g. sym (shown n low) ∙ ap (λ (k : Held). k.stored) (sym (same_held_is (stored_to h) k (right (is_unique h.copy) _ (c.facts.stored g))))) in (
        s,
        split (λ i. i < 32 → (w.state i).stored ≡ false) n (λ l. sym (c.facts.marked (both (not (tells_words a)) _ (flip _ t) (flip _ s))) ∙ shown n l)
            (λ i g l. ap (λ (b : Bool). (if b then shown_of (w.state i) else w.state i).stored) (sym t) ∙ ap (λ (k : Held). k.stored) (sym (send.others.state i l g)) ∙ shown i l),
      )

  current_then : Shown w' → Same w'.home w'.last
  current_then shown = by_truth (tells_words a)
      (λ t. same_trans _ _ _ send.home (same_trans _ _ _ (same_by _ _ (ap (λ (b : Bool). if b then word_at f.shown else w.home) t)) (same_sym _ _ (told_last t))))
      (λ t. let q = shown_before t shown in
      same_trans _ _ _ send.home (same_trans _ _ _ (same_by _ _ (ap (λ (b : Bool). if b then word_at f.shown else w.home) t)) (same_trans _ _ _ (m.current q.1)
      (same_sym _ _ (last_same q.0 (by_false _ (λ g. sym (shown n low) ∙ left _ _ (c.facts.lost g))) (no_tell_write a t))))))
    where
      no_tell_write : (a : Act) → tells_words a ≡ false → writes a ≡ false
      no_tell_write NonCopyBackWrData e = no (sym e)
      no_tell_write (Load word) e = refl
      no_tell_write (Store word) e = refl
      no_tell_write (Request kind) e = refl
      no_tell_write (Resend kind) e = refl
      no_tell_write (SnpResp answer) e = refl
      no_tell_write CompAck e = refl
      no_tell_write (CopyBackWrData form) e = refl

  -- KNOWN WORDS
  -- of another agent they are as they were
  news_same : (a : Act) (g : Bool) (before : ℕ → Option ℕ) (p v : ℕ) → tells_words a ≡ false → looks a ≡ false → stores a ≡ false → news_by a g before o.news p ≡ Some v → o.news p ≡ Some v
  news_same (Load word) g before p v t l s e = no (sym l)
  news_same (Store word) g before p v t l s e = no (sym s)
  news_same (Request kind) true before p v t l s e = absurd (none_some_nat v e)
  news_same (Request kind) false before p v t l s e = e
  news_same (Resend kind) true before p v t l s e = absurd (none_some_nat v e)
  news_same (Resend kind) false before p v t l s e = e
  news_same (SnpResp answer) true before p v t l s e = absurd (none_some_nat v e)
  news_same (SnpResp answer) false before p v t l s e = subst (λ (b : Bool). (if b then no_words else o.news) p ≡ Some v) t e
  news_same CompAck true before p v t l s e = absurd (none_some_nat v e)
  news_same CompAck false before p v t l s e = e
  news_same (CopyBackWrData form) true before p v t l s e = absurd (none_some_nat v e)
  news_same (CopyBackWrData form) false before p v t l s e = subst (λ (b : Bool). (if b then no_words else o.news) p ≡ Some v) t e
  news_same NonCopyBackWrData g before p v t l s e = no (sym t)

  not_shown : (i : ℕ) → i ≢ n → i < 32 → is_newer (w'.state i) ≡ true → (tells_words a ≡ false) × (w'.state i ≡ w.state i)
  not_shown i g l e = by (tells_words a) refl
    where
      by : (b : Bool) → tells_words a ≡ b → (tells_words a ≡ false) × (w'.state i ≡ w.state i)
      by true t = no (subst (λ k. is_newer k ≡ true) (send.others.state i l g ∙ ap (λ (b : Bool). if b then shown_of (w.state i) else w.state i) t) e)
      by false t = (t, send.others.state i l g ∙ ap (λ (b : Bool). if b then shown_of (w.state i) else w.state i) t)

  news_else : (i : ℕ) → i ≢ n → i < 32 → has_news (moved o f).public i (w'.state i) ≡ true → (p : ℕ) → p < 8 → (v : ℕ) → news_after o f p ≡ Some v → w'.last p ≡ v
  news_else i g l e p lp v q =
      let t = not_shown i g l (left _ _ e) in
      let was : has_news o.public i (w.state i) ≡ true = subst (λ k. has_news o.public i k ≡ true) t.1 (subst (λ d. (is_newer (w'.state i) && not (may_hide z d (w'.state i))) ≡ true) (there n (due_after a d) o.public.due i g) e) in
      let other = other_data i g l (right (w.state i).stored _ (left _ _ was)) in
      last_same other.0 other.1 other.2 p lp ∙ m.news i l was p lp v (news_same a (forgets o f) (known_before o n (stores_from o f)) p v t.0
      (by_false (looks a) (λ y. sym (newer_beside i g l (left _ _ was)) ∙ has_words y)) (looks_stores a own other.0) q)
    where
      newer_beside : (i : ℕ) → i ≢ n → i < 32 → is_newer (w.state i) ≡ true → holds_data h.copy ≡ false
      newer_beside i g l y = by_false (holds_data h.copy) (λ q. sym (none_newer h (w.state i) (met o w sound m n i low l (λ e. g (sym e))) (sane o sound i l (w.state i) (m.copies i l)) q) ∙ y)

  -- what was known of n's own copy stays where it isn't stored to
  news_was : has_news o.public n h ≡ true → is_store_row a own ≡ false → (p : ℕ) → p < 8 → (v : ℕ) → o.news p ≡ Some v → holds_data k.copy ≡ true → w'.last p ≡ v
  news_was e s p lp v q g = last_same s (no_loss g) (no_write g) p lp ∙ m.news n low e p lp v q

  abbrev S : Copies
  S = stores_from o f

  abbrev empty : Copies
  empty h = S h && (is_unique h.copy && not (holds_data h.copy))

  abbrev newer : Copies
  newer h = S h && (is_unique h.copy && is_newer h)

  -- what was known before a store
  before_by : are_hidden z ≡ false → is_unique h.copy ≡ true → (p v : ℕ) → p < 8 → known_before o n (stores_from o f) p ≡ Some v → (holds_data h.copy ≡ true) × (w.last p ≡ v)
  before_by y u p v l e = by (any_held empty) (any_held newer) refl refl e
    where
      in_S : S h ≡ true
      in_S = both (o.may n h) _ (m.copies n low) (in_held (sends o f h) k sends_here)

      has : any_held empty ≡ false → holds_data h.copy ≡ true
      has g = by_truth (holds_data h.copy) (λ q. q) (λ q. no (sym g ∙ in_held empty h (both (S h) _ in_S (both (is_unique h.copy) _ u (flip _ q)))))

      by : (b c : Bool) → any_held empty ≡ b → any_held newer ≡ c → (if b then None else (if c then o.news p else of_eight (home_at o.home) p)) ≡ Some v → (holds_data h.copy ≡ true) × (w.last p ≡ v)
      by true c g q e = absurd (none_some_nat v e)
      by false true g q e = (has g, m.news n low (both (is_newer h) _ (both h.stored _ newer_h (has g)) (hides_none z (may_store d h) y)) p l v e)
        where
          newer_h : h.stored ≡ true
          newer_h = let t = out_held newer q in let t_in = left (S t.0) _ t.1 in let t_new = right (is_unique t.0.copy) _ (right (S t.0) _ t.1) in
              sound.alike y n low h t.0 (m.copies n low) (left _ _ t_in) (has g) (right t.0.stored _ t_new) ∙ left _ _ t_new
      by false false g q e = (has g, sym (m.current (shown_by o w sound m n low fresh_h) p l) ∙ home_place o.home w.home p v l m.home (sym (eight_is (home_at o.home) p l) ∙ e))
        where
          fresh_h : is_fresh h ≡ true
          fresh_h = both (holds_data h.copy) _ (has g) (flip _ (by_false h.stored (λ r. sym q ∙ in_held newer h (both (S h) _ in_S (both (is_unique h.copy) _ u (both h.stored _ r (has g)))))))

  forgotten : is_newer k ≡ true → are_hidden z ≡ true → is_request a ≡ true → forgets o f ≡ true
  forgotten e y r = both (are_hidden z) _ y (both (is_request a) _ r (in_held (λ h. sent o f h && is_newer h) k (both (sent o f k) _ in_sent e)))

  news_here : has_news (moved o f).public n k ≡ true → (p : ℕ) → p < 8 → (v : ℕ) → news_after o f p ≡ Some v → w'.last p ≡ v
  news_here e p l v q = news_at z own x d h k (w.words n) w.last w'.last o.news (known_before o n (stores_from o f)) (forgets o f) p v l a (record {
    let_go = acted.0;
    facts = c.facts;
    owned = refl;
    kept = λ s. last_same s (no_loss (right k.stored _ (left _ _ e))) (no_write (right k.stored _ (left _ _ e)));
    stored = send.stored;
    worded = m.words n low;
    known = λ g p v l. m.news n low g p l v;
    earlier = before_by;
    forgotten = forgotten (left _ _ e);
  }) (subst (λ d. (is_newer k && not (may_hide z d k)) ≡ true) (here n (due_after a d) o.public.due) e) q

  pub led_here : Meaning (moved o f) w'
  led_here = record {
    copies = split (λ i. i < 32 → (moved o f).may i (w'.state i) ≡ true) n (λ _. subst (λ X. X k ≡ true) (sym (here n (sent o f) (others_after o f))) in_sent)
        (λ i g l. subst (λ X. X (w'.state i) ≡ true) (sym (there n (sent o f) (others_after o f) i g)) (subst (λ k. others_after o f i k ≡ true) (sym (send.others.state i l g)) (in_other o f i (w.state i) (m.copies i l))));
    words = split (λ i. i < 32 → holds_data (w'.state i).copy ≡ true → Same (w'.words i) w'.last) n (λ _. words_here) words_else;
    home = home_then (tells_words a) refl;
    current = current_then;
    news = split (λ i. i < 32 → has_news (moved o f).public i (w'.state i) ≡ true → (p : ℕ) → p < 8 → (v : ℕ) → news_after o f p ≡ Some v → w'.last p ≡ v) n (λ _. news_here) news_else;
  }

pub taken : CacheFlitsAreTaken
taken o f w w' sound low m send = taken_here o f w w' sound low m send

pub leads : CacheFlitsLead
leads o f w w' sound low m send = led_here o f w w' sound low m send
