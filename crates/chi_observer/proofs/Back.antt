-- Each world behind a flit of a cache comes from one before.
use Rattle.std.proofs.Common.{◌≡◌, ◌≢◌, ℕ, ◌<◌, List, refl, sym, ap, subst, ◌∙◌}
use Rattle.std.specs.Prelude.{Bool, true, false, ◌&&◌, ◌||◌, not, Some, if◌then◌else◌}
use Rattle.chi_observer.specs.declared.flits.Due.{Due}
use Rattle.chi_observer.specs.declared.flits.Stores.{Stores}
use Rattle.chi_observer.specs.declared.flits.CacheFlit.{CacheFlit}
use Rattle.chi_observer.specs.Copies.{Held, holds_data, is_unique, same, compatible}
use Rattle.chi_observer.specs.Copies.Copy.{Writing}
use Rattle.chi_observer.specs.Rules.{lets_go, throws, loses, stores, leaves_any, allows, acts, has_data, writes, tells_words, due_after}
use Rattle.chi_observer.specs.Tables.{Known, reach, fresh, told_after, fits_told, renews}
use Rattle.chi_observer.specs.Worlds.{World, Sends, put}
use Rattle.chi_observer.specs.Observed.{Observed, Sound, Unstored, Meaning, fits, words_fit, takes, differs, next}
use Rattle.chi_observer.specs.Laws.{MeaningComes}
use Rattle.chi_observer.proofs.Finite.{no, left, right, both, implies, follow}
use Rattle.chi_observer.proofs.Facts.{rival, below, implied, or_here, or_there, no_data, turned, flip, beside_unique, beside_writing, any_silent, copy_before, led_well, is_some_of, is_settled, backward, some_same}
use Rattle.chi_observer.proofs.Words.{or_words, was_known}
use Rattle.chi_observer.proofs.Put.{here, there, split}
use Rattle.chi_observer.proofs.Rewind.{Settled, rewind}
use Rattle.chi_observer.proofs.Comes.{kept}

or_not : (a b : Bool) → b ≡ false → (a || b) ≡ a
or_not true b h = refl
or_not false b h = h

module _ (o : Observed) (f : CacheFlit) (w2 : World) (sound : Sound o) (low : f.agent.0 < 32) (take : takes o f ≡ true) (st : Settled (next o f) f.agent.0 w2) where
  abbrev n : ℕ
  n = f.agent.0

  abbrev mode : Stores
  mode = o.public.stores

  abbrev d : Due
  d = o.public.due n

  abbrev t : Known
  t = o.told n

  abbrev d' : Due
  d' = due_after f.act d

  abbrev b : Bool
  b = differs o f

  abbrev t' : Known
  t' = told_after f.act d t b

  abbrev s2 : Held
  s2 = w2.state n

  abbrev was : Held
  was = copy_before f.act d t s2

  abbrev x : Bool
  x = lets_go (o.public.snooped n)

  abbrev r : Bool
  r = renews mode f.act x d t

  abbrev lose : Bool
  lose = loses mode f.act x d was.copy

  -- the value is any then
  abbrev loose : Bool
  loose = leaves_any mode f.act x d was.copy

  -- the value before: what is written without a copy, and what is behind a loss or a store, is another
  abbrev last_before : List ℕ
  last_before = if writes f.act then or_words o.home w2.last else (if loose then w2.home else w2.last)

  abbrev old : World
  old = record { state = put n was w2.state; words = put n last_before w2.words; last = last_before; home = if tells_words f.act then or_words o.home w2.last else w2.home }

  rest : (fits_told mode f.act x d t && words_fit o f) ≡ true
  rest = right (allows f.act (o.public.snooped n)) _ take

  fitting : fits_told mode f.act x d t ≡ true
  fitting = left _ _ rest

  reached : reach mode d' t' s2 ≡ true
  reached = subst (λ x. reach mode x t' s2 ≡ true) (here n d' o.public.due) (subst (λ x. reach mode (put n d' o.public.due n) x s2 ≡ true) (here n t' o.told) (st.undone.told n low))

  topped : is_settled d' t' s2 ≡ true
  topped = subst (λ x. is_settled x t' s2 ≡ true) (here n d' o.public.due) (subst (λ x. is_settled (put n d' o.public.due n) x s2 ≡ true) (here n t' o.told) st.top)

  -- other words than the known ones are taken where there may have been a store
  renewed : b ≡ true → (has_data f.act && r) ≡ true
  renewed h = by (has_data f.act) r o.current (fits o.home f.shown) h (left _ _ (right (fits_told mode f.act x d t) _ rest))
    where
      by : (h r c x : Bool) → (h && (c && not x)) ≡ true → (not h || (r || (not c || x))) ≡ true → (h && r) ≡ true
      by true true c x e g = refl
      by true false true true e g = no e
      by true false true false e g = no g
      by true false false x e g = no e
      by false r c x e g = no e

  led : led_well mode f.act x d t was s2 b ≡ true
  led = backward mode f.act x d t s2 b (both _ _ fitting (both _ _ reached (both _ _ topped (implied b _ renewed))))

  old_reach : reach mode d t was ≡ true
  old_reach = left _ _ led

  abbrev of_words : Bool
  of_words = implies (has_data f.act) (holds_data was.copy) && implies (writes f.act) (same was.copy Writing && not (holds_data s2.copy))

  abbrev of_any : Bool
  of_any = implies loose (is_unique was.copy)

  abbrev of_store : Bool
  of_store = implies lose (not (holds_data s2.copy)) && implies (stores f.act) (holds_data s2.copy)

  abbrev of_loss : Bool
  of_loss = implies (r && throws f.act x) lose && (of_any && of_store)

  abbrev unseen : Bool
  unseen = b || (r && not (has_data f.act || (throws f.act x || stores f.act)))

  led2 : (is_some_of (acts f.act x d was) s2 && (implies unseen (fresh mode d t was) && (of_words && of_loss))) ≡ true
  led2 = right (reach mode d t was) _ led

  led3 : (implies unseen (fresh mode d t was) && (of_words && of_loss)) ≡ true
  led3 = right (is_some_of (acts f.act x d was) s2) _ led2

  stored : unseen ≡ true → fresh mode d t was ≡ true
  stored = follow _ _ (left _ _ led3)

  led4 : of_words ≡ true
  led4 = left _ of_loss (right (implies unseen (fresh mode d t was)) _ led3)

  led5 : of_loss ≡ true
  led5 = right of_words _ (right (implies unseen (fresh mode d t was)) _ led3)

  thrown_lost : (r && throws f.act x) ≡ true → lose ≡ true
  thrown_lost = follow (r && throws f.act x) lose (left _ (of_any && of_store) led5)

  led6 : (of_any && of_store) ≡ true
  led6 = right (implies (r && throws f.act x) lose) _ led5

  any_unique : loose ≡ true → is_unique was.copy ≡ true
  any_unique = follow loose _ (left of_any _ led6)

  lost_empty : lose ≡ true → holds_data s2.copy ≡ false
  lost_empty e = turned _ (follow lose _ (left _ (implies (stores f.act) (holds_data s2.copy)) (right of_any _ led6)) e)

  store_holds : stores f.act ≡ true → holds_data s2.copy ≡ true
  store_holds = follow (stores f.act) _ (right (implies lose (not (holds_data s2.copy))) _ (right of_any _ led6))

  not_lost : loose ≡ false → lose ≡ false
  not_lost l = by lose (stores f.act) l
    where
      by : (p q : Bool) → (p || q) ≡ false → p ≡ false
      by true q h = no (sym h)
      by false q h = refl

  not_stored : loose ≡ false → stores f.act ≡ false
  not_stored l = by lose (stores f.act) l
    where
      by : (p q : Bool) → (p || q) ≡ false → q ≡ false
      by true q h = no (sym h)
      by false q h = h

  holding : has_data f.act ≡ true → holds_data was.copy ≡ true
  holding = follow (has_data f.act) _ (left _ (implies (writes f.act) (same was.copy Writing && not (holds_data s2.copy))) led4)

  whole : writes f.act ≡ true → (same was.copy Writing && not (holds_data s2.copy)) ≡ true
  whole = follow (writes f.act) _ (right (implies (has_data f.act) (holds_data was.copy)) _ led4)

  not_whole : has_data f.act ≡ true → (a : Bool) → writes f.act ≡ a → writes f.act ≡ false
  not_whole h true e = no (sym (no_data f.act e) ∙ h)
  not_whole h false e = e

  speaks : tells_words f.act ≡ true → (a : Bool) → has_data f.act ≡ a → (holds_data was.copy || same was.copy Writing) ≡ true
  speaks h true e = or_here _ _ (holding e)
  speaks h false e = or_there (holds_data was.copy) _ (left _ _ (whole (sym (ap (λ a. a || writes f.act) e) ∙ h)))

  tells_same : writes f.act ≡ false → tells_words f.act ≡ has_data f.act
  tells_same e = or_not (has_data f.act) (writes f.act) e

  last_same : loose ≡ false → writes f.act ≡ false → last_before ≡ w2.last
  last_same l e = ap (λ a. if a then or_words o.home w2.last else (if loose then w2.home else w2.last)) e ∙ ap (λ a. if a then w2.home else w2.last) l

  -- what is any isn't shown
  loose_silent : loose ≡ true → tells_words f.act ≡ false
  loose_silent l = any_silent mode f.act x d was.copy l

  loose_quiet : loose ≡ true → writes f.act ≡ false
  loose_quiet l = no_part (has_data f.act) (writes f.act) (loose_silent l)
    where
      no_part : (p q : Bool) → (p || q) ≡ false → q ≡ false
      no_part true q h = no (sym h)
      no_part false q h = h

  data_kept : has_data f.act ≡ true → loose ≡ false
  data_kept h = by loose (λ l. sym (loose_silent l) ∙ or_here (has_data f.act) _ h)
    where
      by : (p : Bool) → (p ≡ true → false ≡ true) → p ≡ false
      by true h = no (h refl)
      by false h = refl

  last_loose : loose ≡ true → last_before ≡ w2.home
  last_loose l = ap (λ a. if a then or_words o.home w2.last else (if loose then w2.home else w2.last)) (loose_quiet l) ∙ ap (λ a. if a then w2.home else w2.last) l

  else_reach : (k : ℕ) → k ≢ n → k < 32 → reach o.public.stores (o.public.due k) (o.told k) (w2.state k) ≡ true
  else_reach k h lk = subst (λ x. reach mode x (o.told k) (w2.state k) ≡ true) (there n d' o.public.due k h)
      (subst (λ x. reach mode (put n d' o.public.due k) x (w2.state k) ≡ true) (there n t' o.told k h) (st.undone.told k lk))

  beside : (k : ℕ) → k ≢ n → k < 32 → compatible was.copy (w2.state k).copy ≡ true
  beside k h lk = below mode d (o.public.due k) t (o.told k) was (w2.state k) old_reach (else_reach k h lk) (sound.pairs n k low lk (λ z. h (sym z)))

  Quiet : Type 0
  Quiet = (k : ℕ) → k ≢ n → k < 32 → fresh o.public.stores (o.public.due k) (o.told k) (w2.state k) ≡ false

  now : Quiet → (next o f).current ≡ true → w2.last ≡ w2.home
  unfolding Quiet
  now u c = st.undone.current c (λ k h lk. subst (λ x. fresh mode x (put n t' o.told k) (w2.state k) ≡ false) (sym (there n d' o.public.due k h))
      (subst (λ x. fresh o.public.stores (o.public.due k) x (w2.state k) ≡ false) (sym (there n t' o.told k h)) (u k h lk)))

  home_shown : tells_words f.act ≡ true → w2.home ≡ f.shown
  home_shown e = st.undone.home f.shown (ap (λ b. if b then Some f.shown else o.home) e)

  shown_is : Quiet → tells_words f.act ≡ true → w2.last ≡ f.shown
  shown_is u e = now u (ap (λ b. if b then true else (if r then false else o.current)) e) ∙ home_shown e

  copy_current : loose ≡ false → writes f.act ≡ false → o.current ≡ true → fresh mode d t was ≡ false → Quiet → (a y z g : Bool) → has_data f.act ≡ a → b ≡ y → r ≡ z → throws f.act x ≡ g → w2.last ≡ old.home
  copy_current l k c h u true true z g da by rz tg = no (sym h ∙ stored (ap (λ q. q || (r && not (has_data f.act || (throws f.act x || stores f.act)))) by))
  copy_current l k c h u true false z g da by rz tg = was_known o.current o.home f.shown w2.last (sym (ap (λ q. q && (o.current && not (fits o.home f.shown))) da) ∙ by) c (shown_is u (tells_same k ∙ da))
      ∙ sym (ap (λ q. if q then or_words o.home w2.last else w2.home) (tells_same k ∙ da))
  copy_current l k c h u false y true true da by rz tg = no (sym (not_lost l) ∙ thrown_lost (both r _ rz tg))
  copy_current l k c h u false y true false da by rz tg = no (sym h ∙ stored (or_there b _ (both r _ rz (flip _ (λ i. da i || (tg i || not_stored l i))))))
  copy_current l k c h u false y false g da by rz tg = now u (ap (λ q. if q then true else (if r then false else o.current)) (tells_same k ∙ da) ∙ ap (λ q. if q then false else o.current) rz ∙ c)
      ∙ sym (ap (λ q. if q then or_words o.home w2.last else w2.home) (tells_same k ∙ da))

  old_current : o.current ≡ true → fresh mode d t was ≡ false → Quiet → (l a : Bool) → loose ≡ l → writes f.act ≡ a → old.last ≡ old.home
  old_current c h u true a l e = last_loose l ∙ sym (ap (λ q. if q then or_words o.home w2.last else w2.home) (loose_silent l))
  old_current c h u false true l e = ap (λ q. if q then or_words o.home w2.last else (if loose then w2.home else w2.last)) e ∙ sym (ap (λ q. if q then or_words o.home w2.last else w2.home) (or_there (has_data f.act) _ e))
  old_current c h u false false l e = last_same l e ∙ copy_current l e c h u (has_data f.act) b r (throws f.act x) refl refl refl refl

  old_home : (v : List ℕ) → o.home ≡ Some v → (a : Bool) → tells_words f.act ≡ a → old.home ≡ v
  old_home v e true da = ap (λ b. if b then or_words o.home w2.last else w2.home) da ∙ ap (λ z. or_words z w2.last) e
  old_home v e false da = ap (λ b. if b then or_words o.home w2.last else w2.home) da ∙ st.undone.home v (ap (λ b. if b then Some f.shown else o.home) da ∙ e)

  sent_home : (a : Bool) → tells_words f.act ≡ a → w2.home ≡ (if tells_words f.act then f.shown else old.home)
  sent_home true da = home_shown da ∙ sym (ap (λ b. if b then f.shown else old.home) da)
  sent_home false da = sym (ap (λ b. if b then f.shown else old.home) da ∙ ap (λ b. if b then or_words o.home w2.last else w2.home) da)

  else_words : (k : ℕ) → k ≢ n → k < 32 → holds_data (w2.state k).copy ≡ true → (l a : Bool) → loose ≡ l → writes f.act ≡ a → w2.words k ≡ last_before
  else_words k h lk v true a l e = no (sym (beside_unique was.copy (w2.state k).copy (any_unique l) (beside k h lk)) ∙ v)
  else_words k h lk v false true l e = no (sym (beside_writing was.copy (w2.state k).copy (left _ _ (whole e)) (beside k h lk)) ∙ v)
  else_words k h lk v false false l e = st.undone.words k lk v ∙ sym (last_same l e)

  quiet_of : Unstored o old → Quiet
  unfolding Quiet
  quiet_of u k h lk = subst (λ x. fresh o.public.stores (o.public.due k) (o.told k) x ≡ false) (there n was w2.state k h) (u k lk)

  old_meant : Meaning o old
  old_meant = record {
    told = split (λ k. k < 32 → reach o.public.stores (o.public.due k) (o.told k) (old.state k) ≡ true) n
        (λ _. subst (λ x. reach mode d t x ≡ true) (sym (here n was w2.state)) old_reach)
        (λ k h lk. subst (λ x. reach o.public.stores (o.public.due k) (o.told k) x ≡ true) (sym (there n was w2.state k h)) (else_reach k h lk));
    words = split (λ k. k < 32 → holds_data (old.state k).copy ≡ true → old.words k ≡ last_before) n
        (λ _ _. here n last_before w2.words)
        (λ k h lk v. there n last_before w2.words k h ∙ else_words k h lk (subst (λ (x : Held). holds_data x.copy ≡ true) (there n was w2.state k h) v) loose (writes f.act) refl refl);
    home = λ v e. old_home v e (tells_words f.act) refl;
    current = λ c u. old_current c (subst (λ z. fresh mode d t z ≡ false) (here n was w2.state) (u n low)) (quiet_of u) loose (writes f.act) refl refl;
  }

  rivals : tells_words f.act ≡ true → Quiet
  unfolding Quiet
  rivals e k h lk = rival mode d (o.public.due k) t (o.told k) was (w2.state k) old_reach (speaks e (has_data f.act) refl) (sound.pairs n k low lk (λ x. h (sym x)))

  copy_shown : has_data f.act ≡ true → f.shown ≡ last_before
  copy_shown e =
      let tells : tells_words f.act ≡ true = or_here _ _ e in
      sym (shown_is (rivals tells) tells) ∙ sym (last_same (data_kept e) (not_whole e (writes f.act) refl))

  sent_last : loose ≡ false → (a : Bool) → writes f.act ≡ a → w2.last ≡ (if writes f.act then f.shown else last_before)
  sent_last l true e =
      let tells : tells_words f.act ≡ true = or_there (has_data f.act) _ e in
      shown_is (rivals tells) tells ∙ sym (ap (λ z. if z then f.shown else last_before) e)
  sent_last l false e = sym (ap (λ z. if z then f.shown else last_before) e ∙ last_same l e)

  loss_of : loose ≡ true → stores f.act ≡ false → lose ≡ true
  loss_of l q = by lose (stores f.act) l q
    where
      by : (p q : Bool) → (p || q) ≡ true → q ≡ false → p ≡ true
      by true q h e = refl
      by false q h e = no (sym e ∙ h)

  own_words : holds_data s2.copy ≡ true → stores f.act ≡ false → (l a : Bool) → loose ≡ l → writes f.act ≡ a → w2.words n ≡ last_before
  own_words v q true a l e = no (sym (lost_empty (loss_of l q)) ∙ v)
  own_words v q false true l e = no (sym (turned _ (right (same was.copy Writing) _ (whole e))) ∙ v)
  own_words v q false false l e = st.undone.words n low v ∙ sym (last_same l e)

  old_sends : Sends o.public f old w2
  old_sends = record {
    allowed = left _ _ take;
    act = subst (λ z. acts f.act x d z ≡ Some s2) (sym (here n was w2.state)) (some_same (acts f.act x d was) s2 (left _ _ led2));
    shown = λ e. copy_shown e ∙ sym (here n last_before w2.words);
    last = λ l. sent_last (ap (λ (z : Held). leaves_any mode f.act x d z.copy) (sym (here n was w2.state)) ∙ l) (writes f.act) refl;
    home = sent_home (tells_words f.act) refl;
    words = λ v q. own_words v q loose (writes f.act) refl refl ∙ sym (here n last_before w2.words);
    stored = λ q. st.undone.words n low (store_holds q);
    others = record { state = λ k lk h. sym (there n was w2.state k h); words = λ k lk h. sym (there n last_before w2.words k h) };
  }

-- the world before
abbrev pub world_before : Observed → CacheFlit → World → World
world_before o f w2 =
    let was : Held = copy_before f.act (o.public.due f.agent.0) (o.told f.agent.0) (w2.state f.agent.0) in
    let loose : Bool = leaves_any o.public.stores f.act (lets_go (o.public.snooped f.agent.0)) (o.public.due f.agent.0) was.copy in
    let value : List ℕ = if writes f.act then or_words o.home w2.last else (if loose then w2.home else w2.last) in
    record {
      state = put f.agent.0 was w2.state;
      words = put f.agent.0 value w2.words;
      last = value;
      home = if tells_words f.act then or_words o.home w2.last else w2.home;
    }

pub before_meant : (o : Observed) (f : CacheFlit) (w2 : World) → Sound o → f.agent.0 < 32 → takes o f ≡ true → Settled (next o f) f.agent.0 w2 → Meaning o (world_before o f w2)
before_meant o f w2 sound low take st = old_meant o f w2 sound low take st

pub before_sends : (o : Observed) (f : CacheFlit) (w2 : World) → Sound o → f.agent.0 < 32 → takes o f ≡ true → Settled (next o f) f.agent.0 w2 → Sends o.public f (world_before o f w2) w2
before_sends o f w2 sound low take st = old_sends o f w2 sound low take st

pub comes : MeaningComes
comes o f w' sound low take m =
    let back = rewind (next o f) w' (kept o f sound low take) m f.agent.0 low in
    record {
      before = world_before o f back.before;
      sent = back.before;
      meant = before_meant o f back.before sound low take back.settled;
      sends = before_sends o f back.before sound low take back.settled;
      drifts = back.drifts;
    }
