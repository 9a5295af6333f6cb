-- Where all stores are listed each world behind a flit of a cache comes from one before, with its words.
use Rattle.std.proofs.Common.{◌≡◌, ◌≢◌, ℕ, ◌<◌, List, refl, sym, ap, subst, ◌∙◌}
use Rattle.std.specs.Prelude.{Bool, true, false, ◌==◌, ◌&&◌, ◌||◌, not, nat_lt, Option, Some, None, if◌then◌else◌}
use Rattle.std.proofs.lemmas.Bool.{eq-eqb, eqb-true, lt-ltb, ltb-true, or_from, or_parts}
use Rattle.chi_observer.specs.declared.flits.Act.{Act}
use Rattle.chi_observer.specs.declared.flits.Act.TheVariants.{Load, Store}
use Rattle.chi_observer.specs.declared.flits.CacheFlit.{CacheFlit}
use Rattle.chi_observer.specs.declared.flits.Due.{Due}
use Rattle.chi_observer.specs.declared.flits.Stores.{Stores}
use Rattle.chi_observer.specs.declared.flits.Stores.TheVariants.{Listed as AllListed}
use Rattle.chi_observer.specs.Copies.{Held, holds_data, is_unique}
use Rattle.chi_observer.specs.Copies.Copy.{UniqueEmpty}
use Rattle.chi_observer.specs.Rules.{allows, are_hidden, has_data, has_word, hides_stores, is_request, is_resending, lets_go, lets_store, looks, reads_any, reads_later, stores, tells_words, word_at, writes}
use Rattle.chi_observer.specs.Tables.{Known, fits_told, most, renews}
use Rattle.chi_observer.specs.Worlds.{Drift, Sends, World, all_below, put}
use Rattle.chi_observer.specs.Observed.{Meaning, Observed, Sound, differs, fits, fits_word, next, next_as, takes, words_fit}
use Rattle.chi_observer.specs.Laws.{ComesBy}
use Rattle.chi_observer.specs.Worded.{MeaningWords, SendsWord, Worded, Words, agree, all_words, counts_later, differs_by_word, fits_known, fits_load, fits_words, forgets, has_stored, is_open, is_placed, known_words, may_be_empty, next_worded, no_words, renewed, takes_worded, words_after, words_by, words_stored}
use Rattle.chi_observer.proofs.Finite.{no, left, right, both}
use Rattle.chi_observer.proofs.Facts.{load_holds_data, no_data, of_form, one_of, or_here, or_there, other_of, reach_self, top_copy}
use Rattle.chi_observer.proofs.Words.{any_word, known_word}
use Rattle.chi_observer.proofs.Put.{alike, here, there, split, unlike}
use Rattle.chi_observer.proofs.Copies.{below_all}
use Rattle.chi_observer.proofs.Loads.{load_silent}
use Rattle.chi_observer.proofs.Back.{comes}
use Rattle.chi_observer.proofs.ListedWords.{agree_at, agree_by, agree_list, all_unstored, drift_last, fits_word_of, revalue, revalued, same_back, set_else, set_here, set_word, word_of, words_list}
use Rattle.chi_observer.proofs.ListedKnown.{HomeKnown}
use Rattle.chi_observer.proofs.WordedSent.{full_copy, never_any, unrenewed}
use Rattle.chi_observer.proofs.ListedBefore.{emptied, emptied_meant, emptied_sends, resent, store_silent, write_looks, write_stores}

-- its data are as known, so what is told of copies is as nobody's words told it
abbrev pub next_listed : Worded → CacheFlit → Worded
next_listed l f = record { seen = next l.seen f; words = words_after f l }

agreed : (p c h r g rest b : Bool) → (b && (p && (c || ((not h || (r || g)) && rest)))) ≡ true → (h ≡ true → r ≡ false) → (h && (not c && not g)) ≡ false
agreed p c false r g rest b t e = refl
agreed p true true r g rest b t e = refl
agreed p false true r true rest b t e = refl
agreed true false true r false rest true t e = let q : r ≡ false = e refl in no (sym (ap (λ (x : Bool). (x || false) && rest) q) ∙ t)
agreed false false true r false rest true t e = no t
agreed p false true r false rest false t e = no t

data_unstored : (a : Act) → has_data a ≡ true → stores a ≡ false
data_unstored (Store word) h = no h
data_unstored other h = refl

listed_next : (l : Worded) (f : CacheFlit) → l.seen.public.stores ≡ AllListed → takes_worded l f ≡ true → next_as l.seen f (differs_by_word l f || differs l.seen f) ≡ next l.seen f
listed_next l f listed t =
    let d : Due = l.seen.public.due f.agent.0 in
    let k : Known = l.seen.told f.agent.0 in
    let x : Bool = lets_go (l.seen.public.snooped f.agent.0) in
    ap (λ (b : Bool). next_as l.seen f (b || differs l.seen f))
    (agreed (is_placed f.act) l.seen.current (has_data f.act) (renewed l f) (agree l.words f.shown) _ (takes l.seen f) t
    (λ h. ap (λ (z : Stores). renews z f.act x d k) listed ∙ unrenewed f.act x d k (data_unstored f.act h)))

pub led_listed : (l : Worded) (f : CacheFlit) (w : World) → l.seen.public.stores ≡ AllListed → takes_worded l f ≡ true → MeaningWords (next_worded l f) w → MeaningWords (next_listed l f) w
led_listed l f w listed t m = subst (λ (o : Observed). MeaningWords (record { seen = o; words = words_after f l }) w) (listed_next l f listed t) m

-- where a world comes from
pub record ComesByWord (l : Worded) (f : CacheFlit) (w' : World) : Type 0 where
  pub before : World
  pub sent : World
  pub meant : MeaningWords l before
  pub sends : SendsWord l.seen.public f before sent
  pub drifts : Drift (next_listed l f).seen.public sent w'

-- THE WORDS OF A FLIT
-- where all stores are listed there is none beside
abbrev listed_by : Act → Bool → Words → Words → Words
listed_by (Store word) empty known words = put word.place.0 (Some word.value) (if empty then no_words else known)
listed_by (Load word) empty known words = put word.place.0 (Some word.value) words
listed_by other empty known words = words

as_listed : (a : Act) (z : Stores) (forget later empty : Bool) (known words : Words) → z ≡ AllListed → (stores a ≡ false → forget ≡ false) → later ≡ false → words_by z a forget later empty known words ≡ listed_by a empty known words
as_listed (Store word) z forget later empty known words h q k = ap (λ (y : Stores). words_stored y word empty known) h
as_listed (Load word) z forget later empty known words h q k =
    ap (λ b. if b then no_words else (if later then words else put word.place.0 (Some word.value) words)) (q refl)
    ∙ ap (λ b. if b then words else put word.place.0 (Some word.value) words) k
as_listed other z forget later empty known words h q k = ap (λ b. if b then no_words else words) (q refl)

unmarked : (shows r g any fit : Bool) → r ≡ false → any ≡ false → ((not shows || (r || g)) && (any || fit)) ≡ true → ((not shows || g) && fit) ≡ true
unmarked shows true g any fit e k h = no (sym e)
unmarked shows false g true fit e k h = no (sym k)
unmarked shows false g false fit e k h = h

put_at : (k : Words) (p u : ℕ) (v : List ℕ) → nat_lt p 8 ≡ true → agree (put p (Some u) k) v ≡ true → (word_at v p == u) ≡ true
put_at k p u v low h = same_back u (word_at v p) (subst (λ (z : Option ℕ). fits_known z (word_at v p) ≡ true) (here p (Some u) k) (agree_at (put p (Some u) k) v h p (ltb-true p 8 low)))

put_else : (k : Words) (p u : ℕ) (v : List ℕ) → agree (put p (Some u) k) v ≡ true → (q : ℕ) → q ≢ p → q < 8 → fits_known (k q) (word_at v q) ≡ true
put_else k p u v h q e low = subst (λ (z : Option ℕ). fits_known z (word_at v q) ≡ true) (there p (Some u) k q e) (agree_at (put p (Some u) k) v h q low)

-- behind a load there is its word
load_word : (a : Act) (e : Bool) (known k : Words) (v : List ℕ) → is_placed a ≡ true → agree (listed_by a e known k) v ≡ true → has_word a v ≡ true
load_word (Load word) e known k v low h = put_at k word.place.0 word.value v low h
load_word other e known k v low h = refl

-- and what was known before it
words_before : (a : Act) (e : Bool) (known k : Words) (v : List ℕ) → is_placed a ≡ true → stores a ≡ false → fits_load a k ≡ true → agree (listed_by a e known k) v ≡ true → agree k v ≡ true
words_before (Load word) e known k v low q fit h = agree_by k v (split (λ p. p < 8 → fits_known (k p) (word_at v p) ≡ true) word.place.0
    (λ _. subst (λ z. fits_known (k word.place.0) z ≡ true) (sym (eqb-true (word_at v word.place.0) word.value (put_at k word.place.0 word.value v low h))) fit)
    (put_else k word.place.0 word.value v h))
words_before (Store word) e known k v low q fit h = no (sym q)
words_before other e known k v low q fit h = h

-- of what is no store nothing is asked, and behind one there is its word
not_stored : (a : Act) (b : Bool) (u v : List ℕ) → stores a ≡ false → has_stored a b u v ≡ true
not_stored (Store word) b u v q = no (sym q)
not_stored other b u v q = refl

stored_word : (a : Act) (e : Bool) (known k : Words) (u v : List ℕ) → is_placed a ≡ true → agree (listed_by a e known k) v ≡ true → has_stored a false u v ≡ true
stored_word (Store word) e known k u v low h = both _ true (put_at (if e then no_words else known) word.place.0 word.value v low h) refl
stored_word other e known k u v low h = refl

stored_by : (k : Words) (p x : ℕ) (b : Bool) (u v : List ℕ) → nat_lt p 8 ≡ true → agree (put p (Some x) k) v ≡ true → ((q : ℕ) → q ≢ p → q < 8 → (word_at v q == word_at u q) ≡ true)
    → ((word_at v p == x) && (not b || all_below 8 (λ q. q == p || (word_at v q == word_at u q)))) ≡ true
stored_by k p x b u v low h rest = both _ _ (put_at k p x v low h) (or_there (not b) _ (below_all 8 (λ q. q == p || (word_at v q == word_at u q))
    (split (λ q. q < 8 → (q == p || (word_at v q == word_at u q)) ≡ true) p (λ _. or_here _ _ (alike p)) (λ q e l. or_there (q == p) _ (rest q e l)))))

all_at : (u : List ℕ) (p v : ℕ) → p < 8 → fits_known (all_words (Some u) p) v ≡ true → (v == word_at u p) ≡ true
all_at u p v low h = same_back _ v (subst (λ (z : Option ℕ). fits_known z v ≡ true) (ap (λ b. if b then Some (word_at u p) else None) (lt-ltb p 8 low)) h)

-- where all words before are known
stored_all : (a : Act) (k : Words) (b : Bool) (u v : List ℕ) → is_placed a ≡ true → agree (listed_by a false (all_words (Some u)) k) v ≡ true → has_stored a b u v ≡ true
stored_all (Store word) k b u v low h = stored_by (all_words (Some u)) word.place.0 word.value b u v low h
    (λ q e l. all_at u q (word_at v q) l (put_else (all_words (Some u)) word.place.0 word.value v h q e l))
stored_all other k b u v low h = refl

-- words that may have been before
value_before : Act → Words → List ℕ → List ℕ
value_before (Store word) k v = set_word v word.place.0 (word_of (k word.place.0))
value_before other k v = v

before_agrees : (a : Act) (k : Words) (v : List ℕ) → stores a ≡ true → agree (listed_by a false k k) v ≡ true → agree k (value_before a k v) ≡ true
unfolding value_before
before_agrees (Store word) k v q h = agree_by k _ (split (λ p. p < 8 → fits_known (k p) (word_at (set_word v word.place.0 (word_of (k word.place.0))) p) ≡ true) word.place.0
    (λ _. subst (λ z. fits_known (k word.place.0) z ≡ true) (sym (set_here v word.place.0 (word_of (k word.place.0)))) (fits_word_of (k word.place.0)))
    (λ p e low. subst (λ z. fits_known (k p) z ≡ true) (sym (set_else v word.place.0 (word_of (k word.place.0)) p (unlike p word.place.0 e))) (put_else k word.place.0 word.value v h p e low)))
before_agrees other k v q h = no q

before_stored : (a : Act) (k : Words) (b : Bool) (v : List ℕ) → is_placed a ≡ true → agree (listed_by a false k k) v ≡ true → has_stored a b (value_before a k v) v ≡ true
unfolding value_before
before_stored (Store word) k b v low h = stored_by k word.place.0 word.value b (set_word v word.place.0 (word_of (k word.place.0))) v low h
    (λ q e l. eq-eqb _ _ (sym (set_else v word.place.0 (word_of (k word.place.0)) q (unlike q word.place.0 e))))
before_stored other k b v low h = refl

-- THE COPY
store_writes : (a : Act) → stores a ≡ true → writes a ≡ false
store_writes (Store word) h = refl
store_writes other h = no h

store_looks : (a : Act) → stores a ≡ true → looks a ≡ false
store_looks (Store word) h = refl
store_looks other h = no h

store_renews : (z : Stores) (a : Act) (x : Bool) (d : Due) (t : Known) → stores a ≡ true → renews z a x d t ≡ true
store_renews z (Store word) x d t h = refl
store_renews z other x d t h = no h

-- what is loaded has data, and what is stored to has unless it may be without
load_told : (a : Act) (x : Bool) (d : Due) (t : Known) → looks a ≡ true → fits_told AllListed a x d t ≡ true → holds_data (most t) ≡ true
load_told (Load word) x d t h e = one_of (holds_data (most t)) false e refl
load_told other x d t h e = no h

store_told : (a : Act) (x : Bool) (d : Due) (t : Known) → stores a ≡ true → fits_told AllListed a x d t ≡ true → may_be_empty t.told ≡ false → holds_data (most t) ≡ true
store_told (Store word) x d t h e f = full_copy AllListed d t (top_copy d t) (reach_self AllListed d t) (right (lets_store d) _ e) f
store_told other x d t h e f = no h

still_not : (a r c : Bool) → a ≡ false → c ≡ false → (if a then true else (if r then false else c)) ≡ false
still_not true r c h e = no (sym h)
still_not false true c h e = refl
still_not false false c h e = e

-- THE WORLD BEFORE
module _ (l : Worded) (f : CacheFlit) (w' : World) (listed : l.seen.public.stores ≡ AllListed) (sound : Sound l.seen) (home : HomeKnown l.seen) (low : f.agent.0 < 32) (take : takes_worded l f ≡ true) (m : MeaningWords (next_listed l f) w') where
  abbrev n : ℕ
  n = f.agent.0

  abbrev o : Observed
  o = l.seen

  abbrev d : Due
  d = o.public.due n

  abbrev t : Known
  t = o.told n

  abbrev x : Bool
  x = lets_go (o.public.snooped n)

  abbrev r : Bool
  r = renews o.public.stores f.act x d t

  abbrev any : Bool
  any = reads_any o.public.stores d (most t)

  steady : stores f.act ≡ false → r ≡ false
  steady q = subst (λ z. renews z f.act x d t ≡ false) (sym listed) (unrenewed f.act x d t q)

  never : any ≡ false
  never = ap (λ (z : Stores). reads_any z d (most t)) listed

  shut : is_open l f ≡ false
  shut = ap (λ (z : Stores). hides_stores z d && is_unique (most t)) listed

  -- what is known behind it
  abbrev behind_it : Words
  behind_it = listed_by f.act (may_be_empty t.told) (known_words l) l.words

  known_behind : (next o f).current ≡ false → agree behind_it w'.last ≡ true
  known_behind c = subst (λ k. agree k w'.last ≡ true) (as_listed f.act o.public.stores (forgets l f) (counts_later l f) (may_be_empty t.told) (known_words l) l.words listed
      (λ q. (λ i. steady q i || (shut i && (not (is_resending d) || is_request f.act)))) (ap (λ (z : Stores). reads_later z d (most t)) listed))
      (m.words c (all_unstored (next o f) w' listed))

  taken : takes o f ≡ true
  taken = left _ _ take

  fitting : fits_words l f ≡ true
  fitting = right (takes o f) _ take

  placed : is_placed f.act ≡ true
  placed = left _ _ fitting

  told_fits : fits_told AllListed f.act x d t ≡ true
  told_fits = subst (λ (z : Stores). fits_told z f.act x d t ≡ true) listed (left _ (words_fit o f) (right (allows f.act (o.public.snooped n)) _ taken))

  words_well : words_fit o f ≡ true
  words_well = right (fits_told o.public.stores f.act x d t) _ (right (allows f.act (o.public.snooped n)) _ taken)

  back : ComesBy o f w'
  back = comes o f w' sound low taken m.seen

  sent_last : back.sent.last ≡ w'.last
  sent_last = sym (drift_last (next o f).public back.sent w' listed back.drifts)

  was_current : o.current ≡ true → back.before.last ≡ back.before.home
  was_current c = back.meant.current c (all_unstored o back.before listed)

  -- what is shown is the value
  shown_is : tells_words f.act ≡ true → w'.last ≡ f.shown
  shown_is h = m.seen.current (ap (λ b. if b then true else (if r then false else o.current)) h) (all_unstored (next o f) w' listed)
      ∙ m.seen.home f.shown (ap (λ b. if b then Some f.shown else o.home) h)

  fits_unknown : stores f.act ≡ false → o.current ≡ false → ((not (has_data f.act) || agree l.words f.shown) && fits_load f.act l.words) ≡ true
  fits_unknown q c = unmarked (has_data f.act) r (agree l.words f.shown) any (fits_load f.act l.words) (steady q) never (other_of o.current _ (right (is_placed f.act) _ fitting) c)

  -- the home's words, which are known where the copy has data
  module _ (has : holds_data (most t) ≡ true) (c : o.current ≡ true) where
    home_is : (h : Option (List ℕ)) → o.home ≡ h → (u : List ℕ) × (o.home ≡ Some u)
    home_is None e = no (sym (home c e n low) ∙ has)
    home_is (Some u) e = (u, e)

    known_home : (u : List ℕ) × (o.home ≡ Some u)
    known_home = home_is o.home refl

    last_home : back.before.last ≡ known_home.0
    last_home = was_current c ∙ back.meant.home known_home.0 known_home.1

  -- NO STORE, AND NO WRITE WITHOUT A COPY
  module _ (q : stores f.act ≡ false) (e : writes f.act ≡ false) where
    kept_last : back.before.last ≡ w'.last
    kept_last = sym (back.sends.last (never_any o.public.stores f.act x d (back.before.state n).copy listed q) ∙ ap (λ b. if b then f.shown else back.before.last) e) ∙ sent_last

    behind_silent : has_data f.act ≡ false → o.current ≡ false → agree behind_it w'.last ≡ true
    behind_silent h c = known_behind (still_not (tells_words f.act) r o.current (or_from (has_data f.act) (writes f.act) h e) c)

    plain_words : o.current ≡ false → (b : Bool) → has_data f.act ≡ b → agree l.words back.before.last ≡ true
    plain_words c true h = subst (λ v. agree l.words v ≡ true) (sym (kept_last ∙ shown_is (or_here _ _ h)))
        (other_of (not (has_data f.act)) _ (left _ (fits_load f.act l.words) (fits_unknown q c)) (ap not h))
    plain_words c false h = subst (λ v. agree l.words v ≡ true) (sym kept_last)
        (words_before f.act (may_be_empty t.told) (known_words l) l.words w'.last placed q (right (not (has_data f.act) || agree l.words f.shown) _ (fits_unknown q c)) (behind_silent h c))

    load_last : looks f.act ≡ true → (c : Bool) → o.current ≡ c → has_word f.act back.before.last ≡ true
    load_last k true c =
        let has : holds_data (most t) ≡ true = load_told f.act x d t k told_fits in
        subst (λ v. has_word f.act v ≡ true) (sym (last_home has c))
        (known_word (reads_any o.public.stores d (most t)) o.current (known_home has c).0 f.act
        (subst (λ (z : Option (List ℕ)). (reads_any o.public.stores d (most t) || (not o.current || fits_word z f.act)) ≡ true) (known_home has c).1 (right (not (has_data f.act) || (r || (not o.current || fits o.home f.shown))) _ words_well))
        (ap (λ (z : Stores). reads_any z d (most t)) listed) c)
    load_last k false c = subst (λ v. has_word f.act v ≡ true) (sym kept_last)
        (load_word f.act (may_be_empty t.told) (known_words l) l.words w'.last placed (behind_silent (or_parts (has_data f.act) (writes f.act) (load_silent f.act k)).0 c))

    load_copy : (b : Bool) → looks f.act ≡ b → has_word f.act (back.before.words n) ≡ true
    load_copy true k = subst (λ v. has_word f.act v ≡ true) (sym (back.meant.words n low (load_holds_data f.act x d (back.before.state n) (back.sent.state n) k back.sends.act))) (load_last k o.current refl)
    load_copy false k = any_word f.act (back.before.words n) k

    plain_comes : ComesByWord l f w'
    plain_comes = record {
      before = back.before;
      sent = back.sent;
      meant = record { seen = back.meant; words = λ c _. plain_words c (has_data f.act) refl };
      sends = record { sends = back.sends; placed = placed; loaded = or_there _ _ (load_copy (looks f.act) refl); stored = or_there (are_hidden o.public.stores) _ (not_stored f.act _ _ _ q) };
      drifts = back.drifts;
    }

  -- A WRITE WITHOUT A COPY
  module _ (e : writes f.act ≡ true) where
    write_comes : (c : Bool) → o.current ≡ c → ComesByWord l f w'
    write_comes true c = record {
      before = back.before;
      sent = back.sent;
      meant = record { seen = back.meant; words = λ z _. no (sym z ∙ c) };
      sends = record { sends = back.sends; placed = placed; loaded = or_there _ _ (any_word f.act _ (write_looks f.act e)); stored = or_there (are_hidden o.public.stores) _ (not_stored f.act _ _ _ (write_stores f.act e)) };
      drifts = back.drifts;
    }
    write_comes false c = record {
      before = revalue (words_list l.words) back.before;
      sent = back.sent;
      meant = record { seen = revalued o (words_list l.words) back.before back.meant c; words = λ _ _. agree_list l.words };
      sends = record {
        sends = resent o f back.before back.sent sound low back.meant back.sends (no_data f.act e) (or_here _ _ e) (words_list l.words);
        placed = placed;
        loaded = or_there _ _ (any_word f.act _ (write_looks f.act e));
        stored = or_there (are_hidden o.public.stores) _ (not_stored f.act _ _ _ (write_stores f.act e));
      };
      drifts = back.drifts;
    }

  -- A STORE
  module _ (q : stores f.act ≡ true) where
    behind : agree behind_it back.sent.last ≡ true
    behind = subst (λ v. agree behind_it v ≡ true) (sym sent_last)
        (known_behind (ap (λ b. if b then true else (if r then false else o.current)) (or_from _ _ (store_silent f.act q) (store_writes f.act q)) ∙ ap (λ b. if b then false else o.current) (store_renews o.public.stores f.act x d t q)))

    -- of a copy that may have been without data
    module _ (may : may_be_empty t.told ≡ true) where
      bare : World
      bare = emptied n back.before

      bare_meant : Meaning o bare
      unfolding bare
      bare_meant = emptied_meant o n back.before listed may low back.meant

      bare_sends : Sends o.public f bare back.sent
      unfolding bare
      bare_sends = emptied_sends o f back.before back.sent q back.sends

      bare_stored : (u : List ℕ) → has_stored f.act (holds_data (bare.state n).copy) u back.sent.last ≡ true
      unfolding bare
      bare_stored u = subst (λ (z : Held). has_stored f.act (holds_data z.copy) u back.sent.last ≡ true) (sym (here n (of_form UniqueEmpty (back.before.state n)) back.before.state))
          (stored_word f.act (may_be_empty t.told) (known_words l) l.words u back.sent.last placed behind)

      bare_comes : (c : Bool) → o.current ≡ c → ComesByWord l f w'
      bare_comes true c = record {
        before = bare;
        sent = back.sent;
        meant = record { seen = bare_meant; words = λ z _. no (sym z ∙ c) };
        sends = record { sends = bare_sends; placed = placed; loaded = or_there _ _ (any_word f.act _ (store_looks f.act q)); stored = or_there (are_hidden o.public.stores) _ (bare_stored bare.last) };
        drifts = back.drifts;
      }
      bare_comes false c = record {
        before = revalue (words_list l.words) bare;
        sent = back.sent;
        meant = record { seen = revalued o (words_list l.words) bare bare_meant c; words = λ _ _. agree_list l.words };
        sends = record {
          sends = resent o f bare back.sent sound low bare_meant bare_sends (store_silent f.act q) (or_there (writes f.act) _ q) (words_list l.words);
          placed = placed;
          loaded = or_there _ _ (any_word f.act _ (store_looks f.act q));
          stored = or_there (are_hidden o.public.stores) _ (bare_stored (words_list l.words));
        };
        drifts = back.drifts;
      }

    -- and of one with data
    module _ (full : may_be_empty t.told ≡ false) where
      behind_full : agree (listed_by f.act false (known_words l) l.words) back.sent.last ≡ true
      behind_full = subst (λ b. agree (listed_by f.act b (known_words l) l.words) back.sent.last ≡ true) full behind

      has_full : holds_data (most t) ≡ true
      has_full = store_told f.act x d t q told_fits full

      behind_home : (c : o.current ≡ true) → agree (listed_by f.act false (all_words (Some (known_home has_full c).0)) l.words) back.sent.last ≡ true
      behind_home c = subst (λ (z : Option (List ℕ)). agree (listed_by f.act false (all_words z) l.words) back.sent.last ≡ true) (known_home has_full c).1
          (subst (λ b. agree (listed_by f.act false (if b then all_words o.home else l.words) l.words) back.sent.last ≡ true) c behind_full)

      behind_words : o.current ≡ false → agree (listed_by f.act false l.words l.words) back.sent.last ≡ true
      behind_words c = subst (λ b. agree (listed_by f.act false (if b then all_words o.home else l.words) l.words) back.sent.last ≡ true) c behind_full

      full_comes : (c : Bool) → o.current ≡ c → ComesByWord l f w'
      full_comes true c = record {
        before = back.before;
        sent = back.sent;
        meant = record { seen = back.meant; words = λ z _. no (sym z ∙ c) };
        sends = record {
          sends = back.sends;
          placed = placed;
          loaded = or_there _ _ (any_word f.act _ (store_looks f.act q));
          stored = or_there (are_hidden o.public.stores) _ (subst (λ u. has_stored f.act (holds_data (back.before.state n).copy) u back.sent.last ≡ true) (sym (last_home has_full c))
              (stored_all f.act l.words _ (known_home has_full c).0 back.sent.last placed (behind_home c)));
        };
        drifts = back.drifts;
      }
      full_comes false c = let u : List ℕ = value_before f.act l.words back.sent.last in record {
        before = revalue u back.before;
        sent = back.sent;
        meant = record { seen = revalued o u back.before back.meant c; words = λ _ _. before_agrees f.act l.words back.sent.last q (behind_words c) };
        sends = record {
          sends = resent o f back.before back.sent sound low back.meant back.sends (store_silent f.act q) (or_there (writes f.act) _ q) u;
          placed = placed;
          loaded = or_there _ _ (any_word f.act _ (store_looks f.act q));
          stored = or_there (are_hidden o.public.stores) _ (before_stored f.act l.words _ back.sent.last placed (behind_words c));
        };
        drifts = back.drifts;
      }

    store_comes : (b : Bool) → may_be_empty t.told ≡ b → ComesByWord l f w'
    store_comes true e = bare_comes e o.current refl
    store_comes false e = full_comes e o.current refl

  pub comes_by : (b a : Bool) → stores f.act ≡ b → writes f.act ≡ a → ComesByWord l f w'
  comes_by true a q e = store_comes q (may_be_empty t.told) refl
  comes_by false true q e = write_comes e o.current refl
  comes_by false false q e = plain_comes q e

pub words_come : (l : Worded) (f : CacheFlit) (w' : World) → l.seen.public.stores ≡ AllListed → Sound l.seen → HomeKnown l.seen → f.agent.0 < 32 → takes_worded l f ≡ true → MeaningWords (next_listed l f) w' → ComesByWord l f w'
words_come l f w' listed sound home low take m = comes_by l f w' listed sound home low take m (stores f.act) (writes f.act) refl refl
