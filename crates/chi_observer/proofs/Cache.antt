-- A flit of a cache: it is taken where a world sends it, and leads to what is meant.
use Rattle.std.proofs.Common.{rules, arith, ◌≡◌, ◌≢◌, ℕ, ◌<◌, List, refl, sym, ap, subst, ◌∙◌}
use Rattle.std.specs.Prelude.{Bool, true, false, ◌&&◌, ◌||◌, not, Some, if◌then◌else◌}
use Rattle.chi_observer.specs.declared.flits.Due.{Due}
use Rattle.chi_observer.specs.declared.flits.Due.TheVariants.{Acknowledgement}
use Rattle.chi_observer.specs.declared.flits.Stores.{Stores}
use Rattle.chi_observer.specs.declared.flits.Stores.TheVariants.{Hidden, Listed}
use Rattle.chi_observer.specs.declared.flits.CacheFlit.{CacheFlit}
use Rattle.chi_observer.specs.Copies.{Copy, Held, holds_data, is_unique, same}
use Rattle.chi_observer.specs.Copies.Copy.{Writing}
use Rattle.chi_observer.specs.Rules.{has_word, reads_any, reads_later, lets_go, loses, looks, stores, leaves_any, has_data, writes, tells_words, due_after}
use Rattle.chi_observer.specs.Tables.{Known, most, may, reach, fresh, told_after, fits_told, renews}
use Rattle.chi_observer.specs.Worlds.{World, Clean, Sends}
use Rattle.chi_observer.specs.Observed.{Observed, Sound, Unstored, Meaning, fits, takes, differs, next}
use Rattle.chi_observer.specs.Laws.{MeaningIsCoherent, CacheFlitsAreTaken, CacheFlitsLead, CacheFlitsTellTheValue}
use Rattle.chi_observer.proofs.Finite.{no, left, right, both, implies, follow}
use Rattle.chi_observer.proofs.Facts.{surely_dirty, unstored_clean, sent_data, sent_whole, taken_well, forward, below, rival, or_here, or_there, and_false, contrary, one_of, beside_unique, any_silent, data_looks, read_calm, read_told, load_holds_data, beside_writing, turned, flip, implied}
use Rattle.chi_observer.proofs.Words.{known_fits, shown_fits, load_fits, home_is, current_is}
use Rattle.chi_observer.proofs.Put.{here, split, everywhere, at_it, at_else}

cleanly_by : (o : Observed) (w : World) → Sound o → Meaning o w → (c : Bool) → o.current ≡ c → o.public.thrown ≡ false → Clean w → w.home ≡ w.last
cleanly_by o w sound m true c t h = sym (m.current c (λ k lk. unstored_clean o.public.stores (o.public.due k) (o.told k) (w.state k) (h k lk)))
cleanly_by o w sound m false c t h = let d = sound.owner c t in no (sym (h d.0 d.1) ∙ surely_dirty o.public.stores (o.public.due d.0) (o.told d.0) (w.state d.0) d.2 (m.told d.0 d.1))

pub coherent : MeaningIsCoherent
coherent o w sound m = record {
  memory = cleanly_by o w sound m o.current refl;
  pairs = λ n k ln lk d. below o.public.stores (o.public.due n) (o.public.due k) (o.told n) (o.told k) (w.state n) (w.state k) (m.told n ln) (m.told k lk) (sound.pairs n k ln lk d);
  words = m.words;
}

or_not : (a b : Bool) → b ≡ false → (a || b) ≡ a
or_not true b h = refl
or_not false b h = h

writing_empty : (s : Copy) → same s Writing ≡ true → holds_data s ≡ false
writing_empty s h = search (rules, arith)

module _ (o : Observed) (f : CacheFlit) (w w' : World) (sound : Sound o) (low : f.agent.0 < 32) (m : Meaning o w) (send : Sends o.public f w w') where
  abbrev n : ℕ
  n = f.agent.0

  abbrev mode : Stores
  mode = o.public.stores

  abbrev d : Due
  d = o.public.due n

  abbrev t : Known
  t = o.told n

  abbrev s : Held
  s = w.state n

  abbrev s' : Held
  s' = w'.state n

  -- the snoop lets dirty data be thrown away
  abbrev x : Bool
  x = lets_go (o.public.snooped n)

  abbrev r : Bool
  r = renews mode f.act x d t

  abbrev b : Bool
  b = differs o f

  abbrev lose : Bool
  lose = loses mode f.act x d s.copy

  -- the value is any then
  abbrev loose : Bool
  loose = leaves_any mode f.act x d s.copy

  abbrev d' : Due
  d' = due_after f.act d

  abbrev t' : Known
  t' = told_after f.act d t b

  holds : has_data f.act ≡ true → holds_data s.copy ≡ true
  holds = sent_data f.act x d s s' send.act

  -- the words are the value
  pub shown_last : has_data f.act ≡ true → f.shown ≡ w.last
  shown_last h = send.shown h ∙ m.words n low (holds h)

  pub unstored_by : holds_data s.copy ≡ true → fresh mode d t s ≡ false → Unstored o w
  unstored_by h e = split (λ k. k < 32 → fresh o.public.stores (o.public.due k) (o.told k) (w.state k) ≡ false) n (λ _. e)
      (λ k c lk. rival mode d (o.public.due k) t (o.told k) s (w.state k) (m.told n low) (or_here _ _ h) (sound.pairs n k low lk (λ z. c (sym z))))

  pub unstored : has_data f.act ≡ true → fresh mode d t s ≡ false → Unstored o w
  unstored h e = unstored_by (holds h) e

  known_is : has_data f.act ≡ true → fresh mode d t s ≡ false → o.current ≡ true → (u : List ℕ) → o.home ≡ Some u → u ≡ f.shown
  known_is h e c u k = sym (m.home u k) ∙ sym (m.current c (unstored h e)) ∙ sym (shown_last h)

  -- where they are others than the known ones the copy was stored to
  pub stored_by : (e : Bool) → fresh mode d t s ≡ e → b ≡ true → (has_data f.act && e) ≡ true
  stored_by true e h = both (has_data f.act) true (left _ _ h) refl
  stored_by false e h =
      let shows : has_data f.act ≡ true = left _ _ h in
      let rest : (o.current && not (fits o.home f.shown)) ≡ true = right (has_data f.act) _ h in
      no (sym (turned _ (right o.current _ rest)) ∙ known_fits o.home f.shown (known_is shows e (left _ _ rest)))

  facts : taken_well mode f.act x d t s b s' ≡ true
  facts = forward mode f.act x d t s s' b (m.told n low) (implied b _ (stored_by (fresh mode d t s) refl)) send.act

  fitting : fits_told mode f.act x d t ≡ true
  fitting = left _ _ facts

  -- a load leaves open that there was a store, and then it is open still
  abbrev open_still : Bool
  open_still = looks f.act && fresh mode d' t' s'

  abbrev of_stores : Bool
  of_stores = implies (not r) (implies (fresh mode d t s) open_still)

  abbrev of_data : Bool
  of_data = implies (holds_data s'.copy) (holds_data s.copy || stores f.act)

  abbrev of_any : Bool
  of_any = implies loose (r && is_unique s.copy)

  abbrev of_loss : Bool
  of_loss = implies lose (not (holds_data s'.copy))

  abbrev of_told : Bool
  of_told = reach mode d' t' s' && implies (not (looks f.act)) (may t'.told s'.copy)

  told_well : of_told ≡ true
  told_well = left of_told _ (right (fits_told mode f.act x d t) _ facts)

  facts2 : (of_stores && (of_data && (of_any && of_loss))) ≡ true
  facts2 = right of_told _ (right (fits_told mode f.act x d t) _ facts)

  facts3 : (of_data && (of_any && of_loss)) ≡ true
  facts3 = right of_stores _ facts2

  facts4 : (of_any && of_loss) ≡ true
  facts4 = right of_data _ facts3

  reached : reach mode d' t' s' ≡ true
  reached = left _ _ told_well

  -- and is as it is told, but behind a load
  pub settled_sent : looks f.act ≡ false → may ((next o f).told n).told s'.copy ≡ true
  settled_sent e = subst (λ (x : Known). may x.told s'.copy ≡ true) (sym (here n t' o.told)) (follow (not (looks f.act)) _ (right (reach mode d' t' s') _ told_well) (flip _ e))

  pub still : open_still ≡ false → r ≡ false → fresh mode d t s ≡ false
  still q e = contrary (fresh mode d t s) open_still (follow (not r) _ (left of_stores _ facts2) (flip r e)) q

  had_data : stores f.act ≡ false → holds_data s'.copy ≡ true → holds_data s.copy ≡ true
  had_data q v = one_of (holds_data s.copy) (stores f.act) (follow (holds_data s'.copy) _ (left of_data _ facts3) v) q

  -- where the value is any there may have been a store
  pub any_well : loose ≡ true → (r && is_unique s.copy) ≡ true
  any_well = follow loose _ (left of_any _ facts4)

  -- where it is lost no data are left
  lost_empty : lose ≡ true → holds_data s'.copy ≡ false
  lost_empty e = turned _ (follow lose _ (right of_any _ facts4) e)

  lone_any : loose ≡ true → (k : ℕ) → k ≢ n → k < 32 → holds_data (w.state k).copy ≡ false
  lone_any e k h lk = beside_unique s.copy (w.state k).copy (right r _ (any_well e))
      (below mode d (o.public.due k) t (o.told k) s (w.state k) (m.told n low) (m.told k lk) (sound.pairs n k low lk (λ z. h (sym z))))

  any_unknown : loose ≡ true → (next o f).current ≡ false
  any_unknown e = ap (λ b. if b then true else (if r then false else o.current)) (any_silent mode f.act x d s.copy e) ∙ ap (λ b. if b then false else o.current) (left _ _ (any_well e))

  pub not_any : lose ≡ false → stores f.act ≡ false → loose ≡ false
  not_any l q = (λ i. l i || q i)

  pub data_closed : has_data f.act ≡ true → open_still ≡ false
  data_closed h = ap (λ b. b && fresh mode d' t' s') (data_looks f.act h)

  -- a load of a copy that wasn't stored to reads a word of the home's
  read_word : (reads_any mode d s.copy || has_word f.act (w.words n)) ≡ true → reads_any mode d (most t) ≡ false → has_word f.act (w.words n) ≡ true
  read_word q u = by (reads_any mode d s.copy) (has_word f.act (w.words n)) q (λ h. sym u ∙ read_told mode d t s (m.told n low) h)
    where
      by : (a b : Bool) → (a || b) ≡ true → (a ≡ true → false ≡ true) → b ≡ true
      by true b h e = no (e refl)
      by false b h e = h

  read_known : (reads_any mode d s.copy || has_word f.act (w.words n)) ≡ true → looks f.act ≡ true → reads_any mode d (most t) ≡ false → o.current ≡ true → (v : List ℕ) → o.home ≡ Some v → has_word f.act v ≡ true
  read_known q l u c v k =
      let holding : holds_data s.copy ≡ true = load_holds_data f.act x d s s' l send.act in
      subst (λ (z : List ℕ). has_word f.act z ≡ true) (m.words n low holding ∙ m.current c (unstored_by holding (read_calm mode d t s u)) ∙ m.home v k) (read_word q u)

  pub taken_here : (reads_any mode d s.copy || has_word f.act (w.words n)) ≡ true → takes o f ≡ true
  taken_here q = both _ _ send.allowed (both (fits_told mode f.act x d t) _ fitting
      (both _ _ (shown_fits (has_data f.act) r o.current o.home f.shown (λ h e c u k. known_is h (still (data_closed h) e) c u k))
      (load_fits (reads_any mode d (most t)) o.current o.home f.act (read_known q))))

  -- nobody else has stored
  pub Calm : Type 0
  Calm = (k : ℕ) → k ≢ n → k < 32 → fresh o.public.stores (o.public.due k) (o.told k) (w.state k) ≡ false

  pub before : r ≡ false → open_still ≡ false → Calm → Unstored o w
  unfolding Calm
  before e q u = split (λ k. k < 32 → fresh o.public.stores (o.public.due k) (o.told k) (w.state k) ≡ false) n (λ _. still q e) u

  pub closed_of : Unstored (next o f) w' → open_still ≡ false
  closed_of u = and_false (looks f.act) (fresh mode d' t' s') (at_it (λ k x y. k < 32 → fresh mode x y (w'.state k) ≡ false) n d' t' o.public.due o.told u low)

  pub calm_of : Unstored (next o f) w' → Calm
  unfolding Calm
  calm_of u k h lk = subst (λ x. fresh o.public.stores (o.public.due k) (o.told k) x ≡ false) (send.others.state k lk h)
      (at_else (λ k x y. k < 32 → fresh mode x y (w'.state k) ≡ false) n d' t' o.public.due o.told u k h lk)

  pub last_by : loose ≡ false → writes f.act ≡ false → w'.last ≡ w.last
  last_by l e = send.last l ∙ ap (λ b. if b then f.shown else w.last) e

  -- what is shown is known
  kept_by : tells_words f.act ≡ true → loose ≡ false
  kept_by h = by loose (λ l. sym (any_silent mode f.act x d s.copy l) ∙ h)
    where
      by : (p : Bool) → (p ≡ true → false ≡ true) → p ≡ false
      by true h = no (h refl)
      by false h = refl

  -- beside what writes without a copy there is none
  alone_by : writes f.act ≡ true → (k : ℕ) → k ≢ n → k < 32 → holds_data (w.state k).copy ≡ false
  alone_by e k h lk = beside_writing s.copy (w.state k).copy (sent_whole f.act x d s s' send.act e)
      (below mode d (o.public.due k) t (o.told k) s (w.state k) (m.told n low) (m.told k lk) (sound.pairs n k low lk (λ x. h (sym x))))

  here_words : (q l b : Bool) → stores f.act ≡ q → lose ≡ l → writes f.act ≡ b → holds_data s'.copy ≡ true → w'.words n ≡ w'.last
  here_words true l b q lost e v = send.stored q
  here_words false true b q lost e v = no (sym (lost_empty lost) ∙ v)
  here_words false false true q lost e v = no (sym (writing_empty s.copy (sent_whole f.act x d s s' send.act e)) ∙ had_data q v)
  here_words false false false q lost e v = send.words v q ∙ m.words n low (had_data q v) ∙ sym (last_by (not_any lost q) e)

  else_words : (k : ℕ) → k ≢ n → k < 32 → holds_data (w.state k).copy ≡ true → (l b : Bool) → loose ≡ l → writes f.act ≡ b → w.words k ≡ w'.last
  else_words k h lk v true b l e = no (sym (lone_any l k h lk) ∙ v)
  else_words k h lk v false true l e = no (sym (alone_by e k h lk) ∙ v)
  else_words k h lk v false false l e = m.words k lk v ∙ sym (last_by l e)

  current_after_it : (next o f).current ≡ true → open_still ≡ false → Calm → (l b : Bool) → loose ≡ l → writes f.act ≡ b → w'.last ≡ w'.home
  current_after_it c q u true b l e = no (sym (any_unknown l) ∙ c)
  current_after_it c q u false true l e = send.last l ∙ ap (λ b. if b then f.shown else w.last) e ∙ sym (send.home ∙ ap (λ b. if b then f.shown else w.home) (or_there (has_data f.act) _ e))
  current_after_it c q u false false l e = last_by l e
      ∙ current_is (has_data f.act) r o.current f.shown w.home w.last (λ h. sym (shown_last h)) (λ e c. m.current c (before e q u)) (sym (ap (λ b. if b then true else (if r then false else o.current)) (tells_same e)) ∙ c)
      ∙ sym (send.home ∙ ap (λ b. if b then f.shown else w.home) (tells_same e))
    where
      tells_same : writes f.act ≡ false → tells_words f.act ≡ has_data f.act
      tells_same e = or_not (has_data f.act) (writes f.act) e

  pub led_here : Meaning (next o f) w'
  led_here = record {
    told = everywhere (λ k x y. k < 32 → reach mode x y (w'.state k) ≡ true) n d' t' o.public.due o.told (λ _. reached)
        (λ k h lk. subst (λ x. reach o.public.stores (o.public.due k) (o.told k) x ≡ true) (sym (send.others.state k lk h)) (m.told k lk));
    words = split (λ k. k < 32 → holds_data (w'.state k).copy ≡ true → w'.words k ≡ w'.last) n
        (λ lk v. here_words (stores f.act) lose (writes f.act) refl refl refl v)
        (λ k h lk v. send.others.words k lk h ∙ else_words k h lk (subst (λ (x : Held). holds_data x.copy ≡ true) (send.others.state k lk h) v) loose (writes f.act) refl refl);
    home = λ v h. send.home ∙ home_is (tells_words f.act) f.shown w.home o.home v m.home h;
    current = λ c u. current_after_it c (closed_of u) (calm_of u) loose (writes f.act) refl refl;
  }

  -- words that are told are the value
  told_by : tells_words f.act ≡ true → (b : Bool) → writes f.act ≡ b → w'.last ≡ w'.home
  told_by h true e = send.last (kept_by h) ∙ ap (λ b. if b then f.shown else w.last) e ∙ sym (send.home ∙ ap (λ b. if b then f.shown else w.home) h)
  told_by h false e = last_by (kept_by h) e ∙ sym (shown_last (sym (or_not (has_data f.act) (writes f.act) e) ∙ h)) ∙ sym (send.home ∙ ap (λ b. if b then f.shown else w.home) h)

  pub told_here : tells_words f.act ≡ true → w'.last ≡ w'.home
  told_here h = told_by h (writes f.act) refl

  pub last_here : looks f.act ≡ false → (next o f).current ≡ true → ((k : ℕ) → k ≢ n → k < 32 → fresh o.public.stores (o.public.due k) (o.told k) (w.state k) ≡ false) → w'.last ≡ w'.home
  unfolding Calm
  last_here q c u = current_after_it c (ap (λ b. b && fresh mode d' t' s') q) u loose (writes f.act) refl refl

-- a load whose word counts behind the CompAck may be of any
later_any : (z : Stores) (d : Due) (c : Copy) (b : Bool) → (reads_later z d c || b) ≡ true → (reads_any z d c || b) ≡ true
later_any Listed d c b h = h
later_any Hidden Acknowledgement c b h = h
later_any Hidden other c b h = or_there (reads_any Hidden other c) b h

pub taken : CacheFlitsAreTaken
taken o f w w' sound low m send word = taken_here o f w w' sound low m send (later_any o.public.stores (o.public.due f.agent.0) (w.state f.agent.0).copy _ word)

pub tells_value : CacheFlitsTellTheValue
tells_value o f w w' sound low m send h = told_here o f w w' sound low m send h

pub leads : CacheFlitsLead
leads o f w w' sound low m send = led_here o f w w' sound low m send
