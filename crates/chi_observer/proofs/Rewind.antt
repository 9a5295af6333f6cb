-- Each world of a meaning comes by at most two hidden steps of n from one where n's copy is as it was told.
use Rattle.std.proofs.Common.{◌≡◌, ◌≢◌, inl, inr, ℕ, ◌<◌, List, refl, sym, ap, subst, ◌∙◌}
use Rattle.std.specs.Prelude.{Bool, true, false, ◌&&◌, ◌||◌, not, Some, if◌then◌else◌}
use Rattle.chi_observer.specs.declared.flits.Due.{Due}
use Rattle.chi_observer.specs.declared.flits.Stores.{Stores}
use Rattle.chi_observer.specs.declared.flits.Due.TheVariants.{Nothing, Completion, Resending, SureCompletion, WriteData, Acknowledgement}
use Rattle.chi_observer.specs.Copies.{Held, holds_data, is_unique, is_clean, same}
use Rattle.chi_observer.specs.Copies.Copy.{Invalid, UniqueDirty}
use Rattle.chi_observer.specs.Rules.{is_free, is_resending, are_hidden}
use Rattle.chi_observer.specs.Tables.{Known, most, may, reach, fresh}
use Rattle.chi_observer.specs.Worlds.{World, Elsewhere, Hidden, Drift, put}
use Rattle.chi_observer.specs.Worlds.Drift.{Stay, Step}
use Rattle.chi_observer.specs.Observed.{Observed, Sound, Meaning}
use Rattle.chi_observer.proofs.Finite.{no, left, right, both}
use Rattle.chi_observer.proofs.Facts.{below, flip, and_false, implied, way, way_back, waiting, of_form, is_settled, beside_unique, same_is}
use Rattle.chi_observer.proofs.Put.{here, there, split}

-- behind the last store or drop of n's copy is undone
pub record Undone (o : Observed) (n : ℕ) (w : World) : Type 0 where
  pub told : (k : ℕ) → k < 32 → reach o.public.stores (o.public.due k) (o.told k) (w.state k) ≡ true
  pub words : (k : ℕ) → k < 32 → holds_data (w.state k).copy ≡ true → w.words k ≡ w.last
  pub home : (v : List ℕ) → o.home ≡ Some v → w.home ≡ v
  pub current : o.current ≡ true → ((k : ℕ) → k ≢ n → k < 32 → fresh o.public.stores (o.public.due k) (o.told k) (w.state k) ≡ false) → w.last ≡ w.home

pub record Settled (o : Observed) (n : ℕ) (w : World) : Type 0 where
  pub undone : Undone o n w
  pub top : is_settled (o.public.due n) (o.told n) (w.state n) ≡ true

pub record Halfway (o : Observed) (n : ℕ) (w' : World) : Type 0 where
  pub before : World
  pub undone : Undone o n before
  pub top : is_free (o.public.due n) (before.state n) ≡ true → may (o.told n).told (before.state n).copy ≡ true
  pub drifts : (v : World) → Drift o.public v before → Drift o.public v w'

pub record Rewound (o : Observed) (n : ℕ) (w' : World) : Type 0 where
  pub before : World
  pub settled : Settled o n before
  pub drifts : Drift o.public before w'

same_free : (d : Due) (a b : Held) → a.cancelled ≡ b.cancelled → is_free d a ≡ is_free d b
same_free Nothing a b h = refl
same_free (Completion k) a b h = refl
same_free (Resending k) a b h = h
same_free (SureCompletion k) a b h = refl
same_free (WriteData k) a b h = refl
same_free Acknowledgement a b h = refl

then_step : (o : Observed) (u v w : World) → Drift o.public u v → Hidden o.public v w → Drift o.public u w
then_step o u v w Stay h = Step h Stay
then_step o u v w (Step {u = a} {v = b} {w = c} g d) h = Step g (then_step o b v w d h)

module _ (o : Observed) (w' : World) (sound : Sound o) (m : Meaning o w') (n : ℕ) (low : n < 32) where
  abbrev mode : Stores
  mode = o.public.stores

  abbrev d : Due
  d = o.public.due n

  abbrev t : Known
  t = o.told n

  abbrev s : Held
  s = w'.state n

  abbrev s0 : Held
  s0 = of_form (most t) s

  calm : fresh mode d t s ≡ false → o.current ≡ true → ((k : ℕ) → k ≢ n → k < 32 → fresh o.public.stores (o.public.due k) (o.told k) (w'.state k) ≡ false) → w'.last ≡ w'.home
  calm h c u = m.current c (split (λ k. k < 32 → fresh o.public.stores (o.public.due k) (o.told k) (w'.state k) ≡ false) n (λ _. h) u)

  stays : fresh mode d t s ≡ false → (is_free d s ≡ true → may t.told s.copy ≡ true) → Halfway o n w'
  stays h top = record { before = w'; undone = record { told = m.told; words = m.words; home = m.home; current = calm h }; top = top; drifts = λ v e. e }

  -- n's copy the strongest, and the last value x
  abbrev back : List ℕ → World
  back x = record { state = put n s0 w'.state; words = put n x w'.words; last = x; home = w'.home }

  back_else : (x : List ℕ) → Elsewhere n (back x) w'
  back_else x = record { state = λ k lk h. sym (there n s0 w'.state k h); words = λ k lk h. sym (there n x w'.words k h) }

  module _ (free : is_free d s ≡ true) (apart : (may t.told s.copy && not (fresh mode d t s)) ≡ false) where
    found : ((reach mode d t s0 && may t.told (most t)) && (if fresh mode d t s then is_unique (most t) && same s.copy UniqueDirty else is_clean (most t) && same s.copy Invalid)) ≡ true
    found = way mode d t s (both _ _ free (both _ _ (m.told n low) (flip _ apart)))

    started : reach mode d t s0 ≡ true
    started = left _ _ (left _ _ found)

    top_may : may t.told (most t) ≡ true
    top_may = right (reach mode d t s0) _ (left _ _ found)

    how : (if fresh mode d t s then is_unique (most t) && same s.copy UniqueDirty else is_clean (most t) && same s.copy Invalid) ≡ true
    how = right (reach mode d t s0 && may t.told (most t)) _ found

    back_told : (x : List ℕ) (k : ℕ) → k < 32 → reach o.public.stores (o.public.due k) (o.told k) ((back x).state k) ≡ true
    back_told x = split (λ k. k < 32 → reach o.public.stores (o.public.due k) (o.told k) ((back x).state k) ≡ true) n
        (λ _. subst (λ z. reach mode d t z ≡ true) (sym (here n s0 w'.state)) started)
        (λ k h lk. subst (λ z. reach o.public.stores (o.public.due k) (o.told k) z ≡ true) (sym (there n s0 w'.state k h)) (m.told k lk))

    back_top : (x : List ℕ) → is_free d ((back x).state n) ≡ true → may t.told ((back x).state n).copy ≡ true
    back_top x _ = subst (λ (z : Held). may t.told z.copy ≡ true) (sym (here n s0 w'.state)) top_may

    back_free : (x : List ℕ) → is_free d ((back x).state n) ≡ true
    back_free x = subst (λ z. is_free d z ≡ true) (sym (here n s0 w'.state)) (same_free d s0 s refl ∙ free)

    module _ (h : fresh mode d t s ≡ true) where
      stored : (is_unique (most t) && same s.copy UniqueDirty) ≡ true
      stored = subst (λ b. (if b then is_unique (most t) && same s.copy UniqueDirty else is_clean (most t) && same s.copy Invalid) ≡ true) h how

      dirty : s.copy ≡ UniqueDirty
      dirty = same_is s.copy UniqueDirty (right (is_unique (most t)) _ stored)

      empty : (k : ℕ) → k ≢ n → k < 32 → holds_data (w'.state k).copy ≡ false
      empty k e lk = beside_unique (most t) (w'.state k).copy (left _ _ stored)
          (below mode d (o.public.due k) t (o.told k) s0 (w'.state k) started (m.told k lk) (sound.pairs n k low lk (λ x. e (sym x))))

      by_store : Halfway o n w'
      by_store = record {
        before = back w'.home;
        undone = record {
          told = back_told w'.home;
          words = split (λ k. k < 32 → holds_data ((back w'.home).state k).copy ≡ true → (back w'.home).words k ≡ w'.home) n
              (λ _ _. here n w'.home w'.words)
              (λ k e lk v. no (sym (empty k e lk) ∙ subst (λ (z : Held). holds_data z.copy ≡ true) (there n s0 w'.state k e) v));
          home = m.home;
          current = λ _ _. refl;
        };
        top = back_top w'.home;
        drifts = λ v e. then_step o v (back w'.home) w' e (record {
          agent = n;
          low = low;
          home = refl;
          others = back_else w'.home;
          how = inl (record {
            hidden = left _ _ h;
            free = back_free w'.home;
            unique = subst (λ (z : Held). is_unique z.copy ≡ true) (sym (here n s0 w'.state)) (left _ _ stored);
            dirty = (λ i. record { copy = dirty i; cancelled = s.cancelled }) ∙ ap (λ (z : Held). record { copy = UniqueDirty; cancelled = z.cancelled }) (sym (here n s0 w'.state));
            words = m.words n low (subst (λ z. holds_data z ≡ true) (sym dirty) refl);
          });
        });
      }

    module _ (h : fresh mode d t s ≡ false) where
      dropped : (is_clean (most t) && same s.copy Invalid) ≡ true
      dropped = subst (λ b. (if b then is_unique (most t) && same s.copy UniqueDirty else is_clean (most t) && same s.copy Invalid) ≡ true) h how

      empty_now : s.copy ≡ Invalid
      empty_now = same_is s.copy Invalid (right (is_clean (most t)) _ dropped)

      by_drop : Halfway o n w'
      by_drop = record {
        before = back w'.last;
        undone = record {
          told = back_told w'.last;
          words = split (λ k. k < 32 → holds_data ((back w'.last).state k).copy ≡ true → (back w'.last).words k ≡ w'.last) n
              (λ _ _. here n w'.last w'.words)
              (λ k g lk v. there n w'.last w'.words k g ∙ m.words k lk (subst (λ (z : Held). holds_data z.copy ≡ true) (there n s0 w'.state k g) v));
          home = m.home;
          current = λ c u. calm h c (λ k g lk. subst (λ z. fresh o.public.stores (o.public.due k) (o.told k) z ≡ false) (there n s0 w'.state k g) (u k g lk));
        };
        top = back_top w'.last;
        drifts = λ v e. then_step o v (back w'.last) w' e (record {
          agent = n;
          low = low;
          home = refl;
          others = back_else w'.last;
          how = inr (inl (record {
            free = back_free w'.last;
            clean = subst (λ (z : Held). is_clean z.copy ≡ true) (sym (here n s0 w'.state)) (left _ _ dropped);
            gone = (λ i. record { copy = empty_now i; cancelled = s.cancelled }) ∙ ap (λ (z : Held). record { copy = Invalid; cancelled = z.cancelled }) (sym (here n s0 w'.state));
            last = refl;
          }));
        });
      }

  halfway_by : (a b c : Bool) → is_free d s ≡ a → fresh mode d t s ≡ b → may t.told s.copy ≡ c → Halfway o n w'
  halfway_by false b c free f e = stays (and_false (are_hidden mode) _ (ap (λ x. x && (is_unique (most t) && same s.copy UniqueDirty)) free)) (λ g. no (sym free ∙ g))
  halfway_by true true c free f e = by_store free (and_false (may t.told s.copy) (not (fresh mode d t s)) (ap not f)) f
  halfway_by true false true free f e = stays f (λ _. e)
  halfway_by true false false free f e = by_drop free (ap (λ x. x && not (fresh mode d t s)) e) f

  halfway : Halfway o n w'
  halfway = halfway_by (is_free d s) (fresh mode d t s) (may t.told s.copy) refl refl refl

-- a cancel is undone, if there was one
module _ (o : Observed) (w : World) (n : ℕ) (low : n < 32) (un : Undone o n w) (top : is_free (o.public.due n) (w.state n) ≡ true → may (o.told n).told (w.state n).copy ≡ true) where
  abbrev e : Due
  e = o.public.due n

  abbrev r : Held
  r = w.state n

  abbrev r0 : Held
  r0 = waiting r

  abbrev earlier : World
  earlier = record { state = put n r0 w.state; words = w.words; last = w.last; home = w.home }

  options : (is_settled e (o.told n) r || (is_resending e && (r.cancelled && (reach o.public.stores e (o.told n) r0 && is_settled e (o.told n) r0)))) ≡ true
  options = way_back o.public.stores e (o.told n) r (both _ _ (un.told n low) (implied _ _ top))

  module _ (h : (is_resending e && (r.cancelled && (reach o.public.stores e (o.told n) r0 && is_settled e (o.told n) r0))) ≡ true) where
    was_gone : r.cancelled ≡ true
    was_gone = left _ _ (right (is_resending e) _ h)

    reached : (reach o.public.stores e (o.told n) r0 && is_settled e (o.told n) r0) ≡ true
    reached = right r.cancelled _ (right (is_resending e) _ h)

    undone_then : Undone o n earlier
    undone_then = record {
      told = split (λ k. k < 32 → reach o.public.stores (o.public.due k) (o.told k) (earlier.state k) ≡ true) n
          (λ _. subst (λ z. reach o.public.stores e (o.told n) z ≡ true) (sym (here n r0 w.state)) (left _ _ reached))
          (λ k g lk. subst (λ z. reach o.public.stores (o.public.due k) (o.told k) z ≡ true) (sym (there n r0 w.state k g)) (un.told k lk));
      words = split (λ k. k < 32 → holds_data (earlier.state k).copy ≡ true → w.words k ≡ w.last) n
          (λ lk v. un.words n lk (subst (λ (z : Held). holds_data z.copy ≡ true) (here n r0 w.state) v))
          (λ k g lk v. un.words k lk (subst (λ (z : Held). holds_data z.copy ≡ true) (there n r0 w.state k g) v));
      home = un.home;
      current = λ c u. un.current c (λ k g lk. subst (λ z. fresh o.public.stores (o.public.due k) (o.told k) z ≡ false) (there n r0 w.state k g) (u k g lk));
    }

    cancels : Hidden o.public earlier w
    cancels = record {
      agent = n;
      low = low;
      home = refl;
      others = record { state = λ k lk g. sym (there n r0 w.state k g); words = λ k lk g. refl };
      how = inr (inr (record {
        retried = left _ _ h;
        waits = ap (λ (z : Held). z.cancelled) (here n r0 w.state);
        gone = (λ i. record { copy = r.copy; cancelled = was_gone i }) ∙ ap (λ (z : Held). record { copy = z.copy; cancelled = true }) (sym (here n r0 w.state));
        words = refl;
        last = refl;
      }));
    }

  rewound_by : (a : Bool) → is_settled e (o.told n) r ≡ a → (w' : World) → ((v : World) → Drift o.public v w → Drift o.public v w') → Rewound o n w'
  rewound_by true h w' go = record { before = w; settled = record { undone = un; top = h }; drifts = go w Stay }
  rewound_by false h w' go =
      let rest = one_of (is_settled e (o.told n) r) _ options h in
      record {
        before = earlier;
        settled = record { undone = undone_then rest; top = subst (λ z. is_settled e (o.told n) z ≡ true) (sym (here n r0 w.state)) (right (reach o.public.stores e (o.told n) r0) _ (reached rest)) };
        drifts = go earlier (Step (cancels rest) Stay);
      }
    where
      one_of : (a b : Bool) → (a || b) ≡ true → a ≡ false → b ≡ true
      one_of true b h e = no (sym e)
      one_of false b h e = h

pub rewind : (o : Observed) (w' : World) → Sound o → Meaning o w' → (n : ℕ) → n < 32 → Rewound o n w'
rewind o w' sound m n low =
    let half = halfway o w' sound m n low in
    rewound_by o half.before n low half.undone half.top (is_settled (o.public.due n) (o.told n) (half.before.state n)) refl w' half.drifts
