-- Hidden steps keep the meaning, and a flit of a cache keeps what always holds.
use Rattle.std.proofs.Common.{◌≡◌, ◌≢◌, ◌⊎◌, inl, inr, ℕ, ◌<◌, refl, sym, subst, ◌∙◌}
use Rattle.std.specs.Prelude.{Bool, true, false, ◌&&◌, ◌||◌, not, if◌then◌else◌}
use Rattle.chi_observer.specs.declared.flits.Due.{Due}
use Rattle.chi_observer.specs.declared.flits.Stores.{Stores}
use Rattle.chi_observer.specs.declared.flits.CacheFlit.{CacheFlit}
use Rattle.chi_observer.specs.Copies.{Held, holds_data, same}
use Rattle.chi_observer.specs.Copies.Copy.{Invalid, UniqueDirty}
use Rattle.chi_observer.specs.Rules.{allows, lets_go, throws, tells_words}
use Rattle.chi_observer.specs.Tables.{Known, most, reach, fresh, goes_with, fits_told, told_after, renews}
use Rattle.chi_observer.specs.Worlds.{World, Elsewhere, StoresUnseen, Drops, Cancels, Hidden, put}
use Rattle.chi_observer.specs.Observed.{Observed, Sound, Unstored, Meaning, takes, differs, next}
use Rattle.chi_observer.specs.Laws.{MeaningIsClosed, CacheFlitsKeepSound}
use Rattle.chi_observer.proofs.Finite.{no, left, right, both}
use Rattle.chi_observer.proofs.Facts.{below, turned, flip, told_goes, stays_dirty, goes_back, of_form, store_well, drop_well, cancel_well, gone, beside_unique}
use Rattle.chi_observer.proofs.Put.{here, there, split, pairwise}

or_true : (a b : Bool) → b ≡ true → (a || b) ≡ true
or_true true b h = refl
or_true false b h = h

or_left : (a b : Bool) → a ≡ true → (a || b) ≡ true
or_left true b h = refl
or_left false b h = no h

module _ (o : Observed) (f : CacheFlit) (sound : Sound o) (low : f.agent.0 < 32) (take : takes o f ≡ true) where
  abbrev at : ℕ
  at = f.agent.0

  abbrev mode : Stores
  mode = o.public.stores

  abbrev d : Due
  d = o.public.due at

  abbrev x : Bool
  x = lets_go (o.public.snooped at)

  abbrev b : Bool
  b = differs o f

  abbrev left_told : Known
  left_told = told_after f.act d (o.told at) b

  fitting : fits_told mode f.act x d (o.told at) ≡ true
  fitting = left _ _ (right (allows f.act (o.public.snooped at)) _ take)

  goes : (m : ℕ) → m ≢ at → m < 32 → goes_with left_told (o.told m) ≡ true
  goes m h k = told_goes mode f.act x d (o.told at) (o.told m) b fitting (sound.pairs at m low k (λ e. h (sym e)))

  stays : (tells_words f.act || throws f.act x) ≡ false → (same (most (o.told at)) UniqueDirty || renews mode f.act x d (o.told at)) ≡ true → same (most (put at left_told o.told at)) UniqueDirty ≡ true
  stays e h = subst (λ z. same (most z) UniqueDirty ≡ true) (sym (here at left_told o.told)) (stays_dirty mode f.act x d (o.told at) b (both _ _ fitting (both _ _ (flip _ e) h)))

  neither : (p q : Bool) → p ≡ false → q ≡ false → (p || q) ≡ false
  neither p q h e = (λ i. h i || e i)

  not_before : (p q : Bool) → (p || q) ≡ false → p ≡ false
  not_before true q h = no (sym h)
  not_before false q h = refl

  owner_by : (h r g : Bool) → tells_words f.act ≡ h → renews mode f.act x d (o.told at) ≡ r → throws f.act x ≡ g → (if h then true else (if r then false else o.current)) ≡ false → (if h then false else o.public.thrown || g) ≡ false → (k : ℕ) × (k < 32) × (same (most (put at left_told o.told k)) UniqueDirty ≡ true)
  owner_by true r g hd hr hg e th = no (sym e)
  owner_by false r true hd hr hg e th = no (sym th ∙ or_true o.public.thrown true refl)
  owner_by false true false hd hr hg e th = (at, low, stays (neither _ _ hd hg) (or_true (same (most (o.told at)) UniqueDirty) _ hr))
  owner_by false false false hd hr hg e th = let w = sound.owner e (not_before o.public.thrown false th) in (
    w.0,
    w.1,
    split (λ k. same (most (o.told k)) UniqueDirty ≡ true → same (most (put at left_told o.told k)) UniqueDirty ≡ true) at
        (λ h. stays (neither _ _ hd hg) (or_left _ (renews mode f.act x d (o.told at)) h)) (λ k c h. subst (λ z. same (most z) UniqueDirty ≡ true) (sym (there at left_told o.told k c)) h) w.0 w.2,
  )

  kept_here : Sound (next o f)
  kept_here = record {
    pairs = λ i j li lj e. pairwise (λ i j a b. i < 32 → j < 32 → goes_with a b ≡ true) at left_told o.told
        (λ m h l k. goes m h k) (λ m h k l. goes_back left_told (o.told m) (goes m h k)) (λ i j e li lj. sound.pairs i j li lj e) i j e li lj;
    owner = λ e th. owner_by (tells_words f.act) (renews mode f.act x d (o.told at)) (throws f.act x) refl refl refl e th;
  }

pub kept : CacheFlitsKeepSound
kept o f sound low take = kept_here o f sound low take

module _ (o : Observed) (w w' : World) (sound : Sound o) (m : Meaning o w) (n : ℕ) (low : n < 32) (others : Elsewhere n w w') (hm : w'.home ≡ w.home) where
  abbrev e : Due
  e = o.public.due n

  abbrev t : Known
  t = o.told n

  told_else : (k : ℕ) → k ≢ n → k < 32 → reach o.public.stores (o.public.due k) (o.told k) (w'.state k) ≡ true
  told_else k h lk = subst (λ x. reach o.public.stores (o.public.due k) (o.told k) x ≡ true) (sym (others.state k lk h)) (m.told k lk)

  words_else : w'.last ≡ w.last → (k : ℕ) → k ≢ n → k < 32 → holds_data (w'.state k).copy ≡ true → w'.words k ≡ w'.last
  words_else l k h lk v = others.words k lk h ∙ m.words k lk (subst (λ (x : Held). holds_data x.copy ≡ true) (others.state k lk h) v) ∙ sym l

  pub calm_before : fresh o.public.stores e t (w.state n) ≡ false → Unstored o w' → Unstored o w
  calm_before f u = split (λ k. k < 32 → fresh o.public.stores (o.public.due k) (o.told k) (w.state k) ≡ false) n (λ _. f)
      (λ k h lk. subst (λ x. fresh o.public.stores (o.public.due k) (o.told k) x ≡ false) (others.state k lk h) (u k lk))

  current_by : w'.last ≡ w.last → fresh o.public.stores e t (w.state n) ≡ false → o.current ≡ true → Unstored o w' → w'.last ≡ w'.home
  current_by l f c u = l ∙ m.current c (calm_before f u) ∙ sym hm

  module _ (step : StoresUnseen o.public n w w') where
    pub stored : (reach o.public.stores e t (of_form UniqueDirty (w.state n)) && fresh o.public.stores e t (of_form UniqueDirty (w.state n))) ≡ true
    stored = store_well o.public.stores e t (w.state n) (both _ _ step.hidden (both _ _ step.free (both _ _ (m.told n low) step.unique)))

    lone : (k : ℕ) → k ≢ n → k < 32 → holds_data (w'.state k).copy ≡ false
    lone k h lk = beside_unique (w.state n).copy (w'.state k).copy step.unique
        (below o.public.stores e (o.public.due k) t (o.told k) (w.state n) (w'.state k) (m.told n low) (told_else k h lk) (sound.pairs n k low lk (λ x. h (sym x))))

    pub by_store : Meaning o w'
    by_store = record {
      told = split (λ k. k < 32 → reach o.public.stores (o.public.due k) (o.told k) (w'.state k) ≡ true) n
          (λ _. subst (λ x. reach o.public.stores e t x ≡ true) (sym step.dirty) (left _ _ stored)) told_else;
      words = split (λ k. k < 32 → holds_data (w'.state k).copy ≡ true → w'.words k ≡ w'.last) n (λ _ _. step.words) (λ k h lk v. no (sym (lone k h lk) ∙ v));
      home = λ v h. hm ∙ m.home v h;
      current = λ c u. no (sym (u n low) ∙ subst (λ x. fresh o.public.stores e t x ≡ true) (sym step.dirty) (right (reach o.public.stores e t (of_form UniqueDirty (w.state n))) _ stored));
    }

  module _ (step : Drops o.public n w w') where
    pub dropped : (reach o.public.stores e t (of_form Invalid (w.state n)) && not (fresh o.public.stores e t (w.state n))) ≡ true
    dropped = drop_well o.public.stores e t (w.state n) (both _ _ step.free (both _ _ (m.told n low) step.clean))

    pub by_drop : Meaning o w'
    by_drop = record {
      told = split (λ k. k < 32 → reach o.public.stores (o.public.due k) (o.told k) (w'.state k) ≡ true) n
          (λ _. subst (λ x. reach o.public.stores e t x ≡ true) (sym step.gone) (left _ _ dropped)) told_else;
      words = split (λ k. k < 32 → holds_data (w'.state k).copy ≡ true → w'.words k ≡ w'.last) n (λ _ v. no (subst (λ (x : Held). holds_data x.copy ≡ true) step.gone v)) (words_else step.last);
      home = λ v h. hm ∙ m.home v h;
      current = current_by step.last (turned _ (right (reach o.public.stores e t (of_form Invalid (w.state n))) _ dropped));
    }

  module _ (step : Cancels o.public n w w') where
    pub cancelled : (reach o.public.stores e t (gone (w.state n)) && not (fresh o.public.stores e t (w.state n))) ≡ true
    cancelled = cancel_well o.public.stores e t (w.state n) (both _ _ step.retried (both _ _ (m.told n low) (flip _ step.waits)))

    pub by_cancel : Meaning o w'
    by_cancel = record {
      told = split (λ k. k < 32 → reach o.public.stores (o.public.due k) (o.told k) (w'.state k) ≡ true) n
          (λ _. subst (λ x. reach o.public.stores e t x ≡ true) (sym step.gone) (left _ _ cancelled)) told_else;
      words = split (λ k. k < 32 → holds_data (w'.state k).copy ≡ true → w'.words k ≡ w'.last) n
          (λ lk v. step.words ∙ m.words n lk (subst (λ (x : Held). holds_data x.copy ≡ true) step.gone v) ∙ sym step.last) (words_else step.last);
      home = λ v h. hm ∙ m.home v h;
      current = current_by step.last (turned _ (right (reach o.public.stores e t (gone (w.state n))) _ cancelled));
    }

closed_by : (o : Observed) (w w' : World) → Sound o → Meaning o w → (h : Hidden o.public w w') → StoresUnseen o.public h.agent w w' ⊎ (Drops o.public h.agent w w' ⊎ Cancels o.public h.agent w w') → Meaning o w'
closed_by o w w' sound m h (inl step) = by_store o w w' sound m h.agent h.low h.others h.home step
closed_by o w w' sound m h (inr (inl step)) = by_drop o w w' sound m h.agent h.low h.others h.home step
closed_by o w w' sound m h (inr (inr step)) = by_cancel o w w' sound m h.agent h.low h.others h.home step

pub closed : MeaningIsClosed
closed o w w' sound m h = closed_by o w w' sound m h h.how
