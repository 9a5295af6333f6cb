-- A flit of a cache, word by word: it is taken where a world sends it, and leads to what is meant.
use Rattle.std.proofs.Common.{◌≡◌, ◌≢◌, ℕ, ◌<◌, List, refl, sym, ap, subst, ◌∙◌}
use Rattle.std.specs.Prelude.{Bool, true, false, ◌==◌, ◌&&◌, ◌||◌, not, Option, Some, None, nat_lt, if◌then◌else◌}
use Rattle.std.proofs.lemmas.Bool.{eqb-true, ltb-true, or_from, or_parts}
use Rattle.chi_observer.specs.declared.told.Told.{Told}
use Rattle.chi_observer.specs.declared.flits.Due.{Due}
use Rattle.chi_observer.specs.declared.flits.Due.TheVariants.{Acknowledgement}
use Rattle.chi_observer.specs.declared.flits.Stores.{Stores}
use Rattle.chi_observer.specs.declared.flits.Stores.TheVariants.{Hidden, Listed as AllListed}
use Rattle.chi_observer.specs.declared.flits.Word.{Word}
use Rattle.chi_observer.specs.declared.flits.Act.{Act}
use Rattle.chi_observer.specs.declared.flits.Act.TheVariants.{Load, Store}
use Rattle.chi_observer.specs.declared.flits.CacheFlit.{CacheFlit}
use Rattle.chi_observer.specs.Copies.{Copy, Held, compatible, holds_data, is_unique, same}
use Rattle.chi_observer.specs.Copies.Copy.{UniqueDirty}
use Rattle.chi_observer.specs.Rules.{acts, are_hidden, due_after, has_data, has_word, is_free, leaves_any, lets_go, looks, may_store, reads_any, reads_later, stores, tells_words, throws, word_at, writes}
use Rattle.chi_observer.specs.Tables.{Known, fits_told, fresh, goes_with, most, reach, renews, strongest, told_after}
use Rattle.chi_observer.specs.Worlds.{World, put}
use Rattle.chi_observer.specs.Observed.{Meaning, Observed, Sound, Unstored, differs, next, next_as, takes}
use Rattle.chi_observer.specs.WordedLaws.{WordedFlitsAreTaken, WordedFlitsKeepSound, WordedFlitsLead}
use Rattle.chi_observer.specs.Worded.{Worded, MeaningWords, SendsWord, Words, agree, all_words, counts_later, differs_by_word, fits_known, fits_load, forgets, has_stored, is_placed, known_words, may_be_empty, may_read_any, next_worded, no_words, renewed, takes_worded, words_by}
use Rattle.chi_observer.proofs.Finite.{no, left, right, both, implies, follow}
use Rattle.chi_observer.proofs.Spots.{DueCopies, each_due_copy, if_some}
use Rattle.chi_observer.proofs.Facts.{and_false, flip, forward, implied, load_holds_data, or_here, or_there, other_of, read_calm, read_told, turned}
use Rattle.chi_observer.proofs.Copies.{each_below}
use Rattle.chi_observer.proofs.Put.{everywhere, here, split, there, unlike}
use Rattle.chi_observer.proofs.Cache.{any_well, before, calm_of, closed_of, data_closed, last_by, leads, shown_last, still, stored_by, taken, unstored, unstored_by}
use Rattle.chi_observer.proofs.Comes.{kept}
use Rattle.chi_observer.proofs.ListedWords.{agree_at, agree_by, all_unstored, fits_word_of, same_back}

where_so : (a b : Bool) → (a ≡ true → b ≡ true) → (not a || b) ≡ true
where_so true b h = h refl
where_so false b h = refl

-- words of which one is told, and the others are as known
pub put_agrees : (p v : ℕ) (k : Words) (u : List ℕ) → (word_at u p == v) ≡ true → ((q : ℕ) → q ≢ p → q < 8 → fits_known (k q) (word_at u q) ≡ true) → agree (put p (Some v) k) u ≡ true
put_agrees p v k u h rest = agree_by (put p (Some v) k) u (split (λ q. q < 8 → fits_known (put p (Some v) k q) (word_at u q) ≡ true) p
    (λ _. subst (λ x. fits_known x (word_at u p) ≡ true) (sym (here p (Some v) k)) (same_back (word_at u p) v h))
    (λ q d lq. subst (λ x. fits_known x (word_at u q) ≡ true) (sym (there p (Some v) k q d)) (rest q d lq)))

fits_if : (b : Bool) (v : ℕ) → fits_known (if b then Some v else None) v ≡ true
fits_if true v = fits_word_of (Some v)
fits_if false v = refl

-- the home's words, where they are known
pub home_agrees : (h : Option (List ℕ)) (u : List ℕ) → ((v : List ℕ) → h ≡ Some v → u ≡ v) → agree (all_words h) u ≡ true
home_agrees None u e = refl
home_agrees (Some v) u e = subst (λ x. agree (all_words (Some v)) x ≡ true) (sym (e v refl)) (agree_by (all_words (Some v)) v (λ p _. fits_if (nat_lt p 8) (word_at v p)))

known_by : (l : Worded) (w : World) → l.seen.public.stores ≡ AllListed → MeaningWords l w → (c : Bool) → l.seen.current ≡ c → agree (if c then all_words l.seen.home else l.words) w.last ≡ true
known_by l w listed m true c = home_agrees l.seen.home w.last (λ v h. m.seen.current c (all_unstored l.seen w listed) ∙ m.seen.home v h)
known_by l w listed m false c = m.words c (all_unstored l.seen w listed)

-- the words that are known anyway are the value's
pub known_agrees : (l : Worded) (w : World) → l.seen.public.stores ≡ AllListed → MeaningWords l w → agree (known_words l) w.last ≡ true
known_agrees l w listed m = known_by l w listed m l.seen.current refl

pub unrenewed : (a : Act) (x : Bool) (d : Due) (k : Known) → stores a ≡ false → renews AllListed a x d k ≡ false
unrenewed (Store word) x d k h = no (sym h)
unrenewed other x d k h = refl

-- nothing is lost where all stores are listed
pub never_any : (z : Stores) (a : Act) (x : Bool) (d : Due) (s : Copy) → z ≡ AllListed → stores a ≡ false → leaves_any z a x d s ≡ false
never_any z a x d s h q = ap (λ (z : Stores). leaves_any z a x d s) h ∙ or_from _ _ (and_false (throws a x) false refl) q

store_unique : (a : Act) (x : Bool) (d : Due) (s s' : Held) → stores a ≡ true → acts a x d s ≡ Some s' → is_unique s.copy ≡ true
store_unique (Store word) x d s s' h e = right (may_store d s) _ (if_some (may_store d s && is_unique s.copy) _ s' e)
store_unique other x d s s' h e = no h

-- a unique copy that isn't told to be maybe without data has them
full_table : Stores → Due → Known → Held → Bool
full_table mode d t s = implies (reach mode d t s && (is_unique s.copy && not (may_be_empty t.told))) (holds_data s.copy)

full_holds : (mode : Stores) → DueCopies (full_table mode)
unfolding full_table
full_holds Hidden k = refl
full_holds AllListed k = refl

pub full_copy : (mode : Stores) (d : Due) (t : Known) (s : Held) → reach mode d t s ≡ true → is_unique s.copy ≡ true → may_be_empty t.told ≡ false → holds_data s.copy ≡ true
unfolding full_table
full_copy mode d t s r u e = follow _ _ (each_due_copy (full_table mode) (full_holds mode) d t s) (both _ _ r (both _ _ u (flip _ e)))

-- u: the value before, v: behind it; a store tells its word, and the others where the copy had data
kept_else : (word : Word) (u v : List ℕ) → has_stored (Store word) true u v ≡ true → (q : ℕ) → q ≢ word.place.0 → q < 8 → (word_at v q == word_at u q) ≡ true
kept_else word u v h q d lq = other_of (q == word.place.0) _ (each_below 8 (λ p. p == word.place.0 || (word_at v p == word_at u p)) (right (word_at v word.place.0 == word.value) _ h) q lq) (unlike q word.place.0 d)

stored_agrees : (word : Word) (empty had : Bool) (k : Words) (u v : List ℕ) → has_stored (Store word) had u v ≡ true → (empty ≡ false → had ≡ true) → agree k u ≡ true → agree (put word.place.0 (Some word.value) (if empty then no_words else k)) v ≡ true
stored_agrees word true had k u v h full a = put_agrees word.place.0 word.value no_words v (left _ _ h) (λ q d lq. refl)
stored_agrees word false had k u v h full a =
    put_agrees word.place.0 word.value k v (left _ _ h) (λ q d lq. subst (λ x. fits_known (k q) x ≡ true)
    (sym (eqb-true (word_at v q) (word_at u q) (kept_else word u v (subst (λ x. has_stored (Store word) x u v ≡ true) (full refl) h) q d lq))) (agree_at k u a q lq))

after_agrees : (z : Stores) (a : Act) (r any empty had : Bool) (k l : Words) (u v : List ℕ) → (are_hidden z || has_stored a had u v) ≡ true
    → (stores a ≡ true → z ≡ AllListed → (empty ≡ false → had ≡ true) × (agree k u ≡ true)) → (stores a ≡ false → r ≡ false → (v ≡ u) × (agree l u ≡ true))
    → (looks a ≡ true → r ≡ false → any ≡ false → has_word a u ≡ true) → agree (words_by z a r any empty k l) v ≡ true
after_agrees Hidden (Store word) r any empty had k l u v h store same read = refl
after_agrees AllListed (Store word) r any empty had k l u v h store same read = let s = store refl refl in stored_agrees word empty had k u v h s.0 s.1
after_agrees z (Load word) true any empty had k l u v h store same read = refl
after_agrees z (Load word) false true empty had k l u v h store same read = let s = same refl refl in subst (λ x. agree l x ≡ true) (sym s.0) s.1
after_agrees z (Load word) false false empty had k l u v h store same read =
    let s = same refl refl in
    subst (λ x. agree (put word.place.0 (Some word.value) l) x ≡ true) (sym s.0) (put_agrees word.place.0 word.value l u (read refl refl refl) (λ q d lq. agree_at l u s.1 q lq))
after_agrees z other true any empty had k l u v h store same read = refl
after_agrees z other false any empty had k l u v h store same read = let s = same refl refl in subst (λ x. agree l x ≡ true) (sym s.0) s.1

-- what is loaded is as known
pub load_known : (a : Act) (k : Words) (u : List ℕ) → is_placed a ≡ true → agree k u ≡ true → has_word a u ≡ true → fits_load a k ≡ true
load_known (Load word) k u p g h = subst (λ v. fits_known (k word.place.0) v ≡ true) (eqb-true (word_at u word.place.0) word.value h) (agree_at k u g word.place.0 (ltb-true word.place.0 8 p))
load_known other k u p g h = refl

-- a load that counts behind the CompAck is of a copy that is told to be unique
later_told : (z : Stores) (d : Due) (t : Known) (s : Held) → reach z d t s ≡ true → reads_later z d s.copy ≡ true → reads_later z d (most t) ≡ true
later_told z Acknowledgement t s r h = read_told z Acknowledgement t s r h
later_told Hidden other t s r h = no h
later_told AllListed other t s r h = no h

not_later : (z : Stores) (d : Due) (c : Copy) → reads_any z d c ≡ false → reads_later z d c ≡ false
not_later z Acknowledgement c h = h
not_later Hidden other c h = refl
not_later AllListed other c h = refl

own_word : (a b : Bool) → (a || b) ≡ true → (a ≡ true → false ≡ true) → b ≡ true
own_word true b h e = no (e refl)
own_word false b h e = h

-- what is no load reads none
plain_load : (a : Act) (k : Words) → looks a ≡ false → fits_load a k ≡ true
plain_load (Load word) k h = no (sym h)
plain_load other k h = refl

else_so : (a b : Bool) → (a ≡ false → b ≡ true) → (a || b) ≡ true
else_so true b h = refl
else_so false b h = h refl

current_before : (t r c : Bool) → r ≡ false → (if t then true else (if r then false else c)) ≡ false → (t ≡ false) × (c ≡ false)
current_before true r c e h = no (sym h)
current_before false true c e h = no (sym e)
current_before false false c e h = (refl, h)

-- whether a copy was stored to isn't asked of what is cancelled
same_told : (n : ℕ) (x y : Known) (k : ℕ → Known) (at : ℕ) → x.told ≡ y.told → (put n x k at).told ≡ (put n y k at).told
same_told n x y k at e = go (at == n)
  where
    go : (b : Bool) → (if b then x else k at).told ≡ (if b then y else k at).told
    go true = e
    go false = refl

same_fresh : (z : Stores) (d : Due) (h : Held) (x y : Known) → x.told ≡ y.told → fresh z d x h ≡ fresh z d y h
same_fresh z d h x y e = ap (λ (t : Told). are_hidden z && (is_free d h && (is_unique (strongest t) && same h.copy UniqueDirty))) e

module _ (l : Worded) (f : CacheFlit) (w w' : World) (sound : Sound l.seen) (low : f.agent.0 < 32) (m : MeaningWords l w) (send : SendsWord l.seen.public f w w') where
  abbrev o : Observed
  o = l.seen

  abbrev n : ℕ
  n = f.agent.0

  abbrev mode : Stores
  mode = o.public.stores

  abbrev d : Due
  d = o.public.due n

  abbrev t : Known
  t = o.told n

  abbrev s : Held
  s = w.state n

  abbrev x : Bool
  x = lets_go (o.public.snooped n)

  -- THE WORDS FIT
  data_agree : has_data f.act ≡ true → renewed l f ≡ false → o.current ≡ false → agree l.words f.shown ≡ true
  data_agree h e c = subst (λ (u : List ℕ). agree l.words u ≡ true) (sym (shown_last o f w w' sound low m.seen send.sends h))
      (m.words c (unstored o f w w' sound low m.seen send.sends h (still o f w w' sound low m.seen send.sends (data_closed o f w w' sound low m.seen send.sends h) e)))

  holding : looks f.act ≡ true → holds_data s.copy ≡ true
  holding k = load_holds_data f.act x d s (w'.state n) k send.sends.act

  -- where it doesn't count behind the CompAck it is a word of the copy
  loaded_last : looks f.act ≡ true → counts_later l f ≡ false → has_word f.act w.last ≡ true
  loaded_last k e = subst (λ (u : List ℕ). has_word f.act u ≡ true) (m.seen.words n low (holding k))
      (own_word (reads_later mode d s.copy) _ send.loaded (λ h. sym e ∙ later_told mode d t s (m.seen.told n low) h))

  load_agrees : may_read_any l f ≡ false → o.current ≡ false → (b : Bool) → looks f.act ≡ b → fits_load f.act l.words ≡ true
  load_agrees e c true k = load_known f.act l.words w.last send.placed (m.words c (unstored_by o f w w' sound low m.seen send.sends (holding k) (read_calm mode d t s e))) (loaded_last k (not_later mode d (most t) e))
  load_agrees e c false k = plain_load f.act l.words k

  fits_by : (c : Bool) → o.current ≡ c → (o.current || ((not (has_data f.act) || (renewed l f || agree l.words f.shown)) && (may_read_any l f || fits_load f.act l.words))) ≡ true
  fits_by true c = or_here o.current _ c
  fits_by false c = or_there o.current _ (both _ _ (where_so (has_data f.act) _ (λ h. else_so (renewed l f) _ (λ e. data_agree h e c)))
      (else_so (may_read_any l f) _ (λ e. load_agrees e c (looks f.act) refl)))

  pub taken_words : takes_worded l f ≡ true
  taken_words = both _ _ (taken o f w w' sound low m.seen send.sends send.loaded) (both _ _ send.placed (fits_by o.current refl))

  -- WHAT IS KNOWN BEHIND IT
  had_data : stores f.act ≡ true → may_be_empty t.told ≡ false → holds_data s.copy ≡ true
  had_data e h = full_copy mode d t s (m.seen.told n low) (store_unique f.act x d s (w'.state n) e send.sends.act) h

  -- where there may have been no store since nothing is lost
  kept_by : (b : Bool) → leaves_any mode f.act x d s.copy ≡ b → renewed l f ≡ false → leaves_any mode f.act x d s.copy ≡ false
  kept_by true h e = no (sym e ∙ left _ _ (any_well o f w w' sound low m.seen send.sends h))
  kept_by false h e = h

  -- where its data are others than the known ones its copy was stored to
  foreign : has_data f.act ≡ true → o.current ≡ false → agree l.words f.shown ≡ false → (e : Bool) → fresh mode d t s ≡ e → (has_data f.act && e) ≡ true
  foreign h c g true e = both (has_data f.act) true h refl
  foreign h c g false e = no (sym g ∙ subst (λ (u : List ℕ). agree l.words u ≡ true) (sym (shown_last o f w w' sound low m.seen send.sends h)) (m.words c (unstored o f w w' sound low m.seen send.sends h e)))

  by_word : differs_by_word l f ≡ true → (has_data f.act && fresh mode d t s) ≡ true
  by_word h =
      let rest : (not o.current && not (agree l.words f.shown)) ≡ true = right (has_data f.act) _ h in
      foreign (left _ _ h) (turned o.current (left _ _ rest)) (turned _ (right (not o.current) _ rest)) (fresh mode d t s) refl

  differing : (a b : Bool) → differs_by_word l f ≡ a → differs o f ≡ b → (a || b) ≡ true → (has_data f.act && fresh mode d t s) ≡ true
  differing true b x y h = by_word x
  differing false b x y h = stored_by o f w w' sound low m.seen send.sends (fresh mode d t s) refl (y ∙ h)

  abbrev differ : Bool
  differ = differs_by_word l f || differs o f

  reached : reach mode (due_after f.act d) (told_after f.act d t differ) (w'.state n) ≡ true
  reached = left _ _ (left _ _ (right (fits_told mode f.act x d t) _
      (forward mode f.act x d t s (w'.state n) differ (m.seen.told n low) (implied differ _ (differing (differs_by_word l f) (differs o f) refl refl)) send.sends.act)))

  unstored_as : Unstored (next_as o f differ) w' → Unstored (next o f) w'
  unstored_as u k lk = same_fresh mode (put n (due_after f.act d) o.public.due k) (w'.state k) (put n (told_after f.act d t (differs o f)) o.told k) (put n (told_after f.act d t differ) o.told k)
      (same_told n (told_after f.act d t (differs o f)) (told_after f.act d t differ) o.told k refl) ∙ u k lk

  led_as : Meaning (next o f) w' → Meaning (next_as o f differ) w'
  led_as g = record {
    told = everywhere (λ k x y. k < 32 → reach mode x y (w'.state k) ≡ true) n (due_after f.act d) (told_after f.act d t differ) o.public.due o.told (λ _. reached)
        (λ k h lk. subst (λ x. reach o.public.stores (o.public.due k) (o.told k) x ≡ true) (sym (send.sends.others.state k lk h)) (m.seen.told k lk));
    words = g.words;
    home = g.home;
    current = λ c u. g.current c (unstored_as u);
  }

  same_words : (next o f).current ≡ false → Unstored (next o f) w' → renewed l f ≡ false → (w'.last ≡ w.last) × (agree l.words w.last ≡ true)
  same_words c u e =
      let was = current_before (tells_words f.act) (renewed l f) o.current e c in (
        last_by o f w w' sound low m.seen send.sends (kept_by (leaves_any mode f.act x d s.copy) refl e) (or_parts (has_data f.act) (writes f.act) was.0).1,
        m.words was.1 (before o f w w' sound low m.seen send.sends e (closed_of o f w w' sound low m.seen send.sends u) (calm_of o f w w' sound low m.seen send.sends u)),
      )

  pub led_words : MeaningWords (next_worded l f) w'
  led_words = record {
    seen = led_as (leads o f w w' sound low m.seen send.sends);
    words = λ c u. after_agrees mode f.act (forgets l f) (counts_later l f) (may_be_empty t.told) (holds_data s.copy) (known_words l) l.words w.last w'.last send.stored
        (λ q listed. (had_data q, known_agrees l w listed m)) (λ q e. same_words c (unstored_as u) (or_parts (renewed l f) _ e).0) (λ k e a. loaded_last k a);
  }

pub words_taken : WordedFlitsAreTaken
words_taken l f w w' sound low m send = taken_words l f w w' sound low m send

pub words_lead : WordedFlitsLead
words_lead l f w w' sound low m send = led_words l f w w' sound low m send

same_goes : (x x' y y' : Known) → x.told ≡ x'.told → y.told ≡ y'.told → goes_with x y ≡ goes_with x' y'
same_goes x x' y y' e h = λ i. compatible (strongest (e i)) (strongest (h i))

pub words_kept : WordedFlitsKeepSound
words_kept l f sound low take =
    let o : Observed = l.seen in
    let n : ℕ = f.agent.0 in
    let told_if : Bool → Known = λ b. told_after f.act (o.public.due n) (o.told n) b in
    let differ : Bool = differs_by_word l f || differs o f in
    let alike : (k : ℕ) → (put n (told_if differ) o.told k).told ≡ (put n (told_if (differs o f)) o.told k).told = λ k. same_told n (told_if differ) (told_if (differs o f)) o.told k refl in
    let g : Sound (next o f) = kept o f sound low (left (takes o f) _ take) in
    record {
      pairs = λ i j li lj e. same_goes (put n (told_if differ) o.told i) (put n (told_if (differs o f)) o.told i) (put n (told_if differ) o.told j) (put n (told_if (differs o f)) o.told j) (alike i) (alike j) ∙ g.pairs i j li lj e;
      owner = λ c h. let d = g.owner c h in (d.0, d.1, ap (λ (t : Told). same (strongest t) UniqueDirty) (alike d.0) ∙ d.2);
    }
