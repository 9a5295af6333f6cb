-- An agent's copy at a flit of the home, and the others beside it.
use Rattle.std.proofs.Common.{rules, arith, ◌≡◌, ◌≢◌, ℕ, ◌<◌, ◌+◌, zero, suc, refl, sym, ap, subst, ◌∙◌}
use Rattle.std.specs.Prelude.{Bool, true, false, ◌&&◌, ◌||◌, ◌==◌, not, Option}
use Rattle.chi_observer.specs.declared.kinds.Snoop.{Snoop}
use Rattle.chi_observer.specs.declared.flits.Due.{Due}
use Rattle.chi_observer.specs.declared.flits.Stores.{Stores}
use Rattle.std.proofs.lemmas.Bool.{eqb-true}
use Rattle.chi_observer.specs.declared.flits.HomeFlit.{HomeFlit}
use Rattle.chi_observer.specs.Copies.{Held, holds_data, is_unique, same}
use Rattle.chi_observer.specs.Copies.Copy.{Invalid, UniqueDirty}
use Rattle.chi_observer.specs.Rules.{is_free, are_hidden, is_due, makes, settles, needs_alone, needs_quiet, granted, fills, shows, due_granted}
use Rattle.chi_observer.specs.Tables.{Known, most, may as told_may, reach, fresh, goes_with, told_granted, fills_told, shows_told}
use Rattle.chi_observer.specs.Worlds.{World, home_may, all_below, put}
use Rattle.chi_observer.specs.Observed.{Observed, Sound, Meaning, is_beside, goes, takes_home, next_home}
use Rattle.chi_observer.specs.Laws.{HomeFlitsKeepSound}
use Rattle.chi_observer.proofs.Finite.{no, left, right, both, implies, follow}
use Rattle.chi_observer.proofs.Facts.{turned, flip, and_false, contrary, goes_back, same_truth, same_truth_is}
use Rattle.chi_observer.proofs.Grants.{made_told, keeps_dirty, given_well, given, shown_so, lone, filled}
use Rattle.chi_observer.proofs.Put.{unlike, differ, here, there, split, pairwise}

each_step : (k : ℕ) (f : ℕ → Bool) (m : ℕ) (b : Bool) → (m == k) ≡ b → f k ≡ true → (m < k → f m ≡ true) → m < suc k → f m ≡ true
each_step k f m true e here rest l = subst (λ x. f x ≡ true) (sym (eqb-true m k e)) here
each_step k f m false e here rest l = let d : m ≢ k = differ m k e in rest (search (rules, arith))

pub each_below : (k : ℕ) (f : ℕ → Bool) → all_below k f ≡ true → (m : ℕ) → m < k → f m ≡ true
each_below zero f h m l = absurd (search (rules, arith))
each_below (suc k) f h m l = each_step k f m (m == k) refl (left (f k) (all_below k f) h) (each_below k f (right (f k) (all_below k f) h) m) l

pub below_all : (k : ℕ) (f : ℕ → Bool) → ((m : ℕ) → m < k → f m ≡ true) → all_below k f ≡ true
below_all zero f h = refl
below_all (suc k) f h = both (f k) (all_below k f) (h k (search (rules, arith))) (below_all k f (λ m l. h m (search (rules, arith))))

swap : (a b : Bool) → (a && b) ≡ (b && a)
swap true true = refl
swap true false = refl
swap false true = refl
swap false false = refl

suc_is : (k : ℕ) → suc k ≡ k + 1
suc_is k = search (rules, arith)

-- one more
pub next_below : (k : ℕ) (f : ℕ → Bool) (a b : Bool) → a ≡ all_below k f → b ≡ f k → (a && b) ≡ all_below (k + 1) f
next_below k f a b h e = (λ i. h i && e i) ∙ swap (all_below k f) (f k) ∙ ap (λ (n : ℕ). all_below n f) (suc_is k)

one_of : (a b : Bool) → (a || b) ≡ true → a ≡ false → b ≡ true
one_of true b h e = no (sym e)
one_of false b h e = h

module _ (o : Observed) (g : HomeFlit) (sound : Sound o) (low : g.agent.0 < 32) (takes : takes_home o g ≡ true) where
  abbrev at : ℕ
  at = g.agent.0

  abbrev left_told : Known
  left_told = told_granted g.grant (o.public.due at) (o.told at)

  stands_else : (m : ℕ) → m ≢ at → m < 32 → is_beside left_told (needs_alone g.grant (o.public.due at)) (o.told m) ≡ true
  stands_else m h k = one_of (m == at) _ (each_below 32 (λ m. m == at || is_beside left_told (needs_alone g.grant (o.public.due at)) (o.told m)) (right _ (goes o g) (right _ _ (right (home_may o.public g) _ takes))) m k) (unlike m at h)

  pub goes_else : (m : ℕ) → m ≢ at → m < 32 → goes_with left_told (o.told m) ≡ true
  goes_else m h k = left _ _ (stands_else m h k)

  -- where the flit says that no other copy is left
  pub gone_else : needs_alone g.grant (o.public.due at) ≡ true → (m : ℕ) → m ≢ at → m < 32 → same (most (o.told m)) Invalid ≡ true
  gone_else e m h k = so (needs_alone g.grant (o.public.due at)) _ (right (goes_with left_told (o.told m)) _ (stands_else m h k)) e
    where
      so : (a b : Bool) → (not a || b) ≡ true → a ≡ true → b ≡ true
      so true b h e = h
      so false b h e = no e

  and_true : (c : Bool) → (c && true) ≡ false → c ≡ false
  and_true true h = no (sym h)
  and_true false h = refl

  owner_by : (m z : Bool) → makes g.grant (o.public.due at) ≡ m → settles g.grant (o.public.due at) ≡ z → (z || (o.current && not m)) ≡ false → (o.public.thrown && not (m || z)) ≡ false → (k : ℕ) × (k < 32) × (same (most (put at left_told o.told k)) UniqueDirty ≡ true)
  owner_by true z hm hz e th = (at, low, subst (λ x. same (most x) UniqueDirty ≡ true) (sym (here at left_told o.told)) (made_told g.grant (o.public.due at) (o.told at) hm))
  owner_by false true hm hz e th = no (sym e)
  owner_by false false hm hz e th = let w = sound.owner (and_true o.current e) (and_true o.public.thrown th) in (
    w.0,
    w.1,
    split (λ k. same (most (o.told k)) UniqueDirty ≡ true → same (most (put at left_told o.told k)) UniqueDirty ≡ true) at
        (λ h. subst (λ x. same (most x) UniqueDirty ≡ true) (sym (here at left_told o.told)) (keeps_dirty g.grant (o.public.due at) (o.public.snooped at) (o.told at) (left _ _ (left (home_may o.public g) _ takes)) (both _ _ h (flip _ hz))))
        (λ k d h. subst (λ x. same (most x) UniqueDirty ≡ true) (sym (there at left_told o.told k d)) h) w.0 w.2,
  )

  kept_here : Sound (next_home o g)
  kept_here = record {
    pairs = λ i j li lj d. pairwise (λ i j a b. i < 32 → j < 32 → goes_with a b ≡ true) at left_told o.told
        (λ m h l k. goes_else m h k) (λ m h k l. goes_back left_told (o.told m) (goes_else m h k)) (λ i j d li lj. sound.pairs i j li lj d) i j d li lj;
    owner = λ e th. owner_by (makes g.grant (o.public.due at)) (settles g.grant (o.public.due at)) refl refl e th;
  }

pub home_kept : HomeFlitsKeepSound
home_kept o g sound low takes = kept_here o g sound low takes

-- the agent's copy in a world
module _ (o : Observed) (g : HomeFlit) (low : g.agent.0 < 32) (may : home_may o.public g ≡ true) where
  abbrev n : ℕ
  n = g.agent.0

  abbrev mode : Stores
  mode = o.public.stores

  abbrev d : Due
  d = o.public.due n

  abbrev q : Option Snoop
  q = o.public.snooped n

  abbrev t : Known
  t = o.told n

  abbrev d' : Due
  d' = due_granted g.grant d

  abbrev t' : Known
  t' = told_granted g.grant d t

  pub fitting : is_due g.grant d q ≡ true
  fitting = left _ _ may

  module _ (s : Held) (r : reach mode d t s ≡ true) where
    facts : given_well mode g.grant d q t s ≡ true
    facts = given mode g.grant d q t s (both _ _ fitting r)

    pub shows_same : shows_told g.grant t ≡ shows g.grant s
    shows_same = shown_so mode g.grant d q t s fitting r

    pub reached : reach mode d' t' (granted g.grant d s) ≡ true
    reached = left _ _ (left _ _ facts)

    -- and is as it is told, but at a snoop
    pub settled_given : (needs_quiet g.grant || told_may t'.told (granted g.grant d s).copy) ≡ true
    settled_given = right (reach mode d' t' (granted g.grant d s)) _ (left _ _ facts)

    facts2 : (implies (fresh mode d t s) (fresh mode d' t' (granted g.grant d s)) && (same_truth (fills_told g.grant t) (fills g.grant s) && (implies ((holds_data (granted g.grant d s).copy && not (fills g.grant s)) && not (makes g.grant d)) (holds_data s.copy) && implies (fills g.grant s) (not (fresh mode d t s))))) ≡ true
    facts2 = right (reach mode d' t' (granted g.grant d s) && (needs_quiet g.grant || told_may t'.told (granted g.grant d s).copy)) _ facts

    pub unfresh : fresh mode d' t' (granted g.grant d s) ≡ false → fresh mode d t s ≡ false
    unfresh = contrary (fresh mode d t s) _ (left _ _ facts2)

    facts3 : (same_truth (fills_told g.grant t) (fills g.grant s) && (implies ((holds_data (granted g.grant d s).copy && not (fills g.grant s)) && not (makes g.grant d)) (holds_data s.copy) && implies (fills g.grant s) (not (fresh mode d t s)))) ≡ true
    facts3 = right (implies (fresh mode d t s) (fresh mode d' t' (granted g.grant d s))) _ facts2

    pub fills_same : fills_told g.grant t ≡ fills g.grant s
    fills_same = same_truth_is _ _ (left _ _ facts3)

    facts4 : (implies ((holds_data (granted g.grant d s).copy && not (fills g.grant s)) && not (makes g.grant d)) (holds_data s.copy) && implies (fills g.grant s) (not (fresh mode d t s))) ≡ true
    facts4 = right (same_truth (fills_told g.grant t) (fills g.grant s)) _ facts3

    pub had_data : holds_data (granted g.grant d s).copy ≡ true → fills g.grant s ≡ false → makes g.grant d ≡ false → holds_data s.copy ≡ true
    had_data v e k = follow _ _ (left _ _ facts4) (both _ _ (both _ _ v (flip _ e)) (flip _ k))

    pub still : fills g.grant s ≡ true → fresh mode d t s ≡ false
    still f = turned _ (follow (fills g.grant s) _ (right (implies ((holds_data (granted g.grant d s).copy && not (fills g.grant s)) && not (makes g.grant d)) (holds_data s.copy)) _ facts4) f)

-- where its data fill a copy the home's words are the value
module _ (o : Observed) (g : HomeFlit) (w : World) (sound : Sound o) (low : g.agent.0 < 32) (takes : takes_home o g ≡ true) (m : Meaning o w) where
  abbrev at' : ℕ
  at' = g.agent.0

  may' : home_may o.public g ≡ true
  may' = left _ _ takes

  pub filled_last : fills g.grant (w.state at') ≡ true → w.last ≡ w.home
  filled_last f =
      let full : fills_told g.grant (o.told at') ≡ true = fills_same o g low may' (w.state at') (m.told at' low) ∙ f in
      let valid : same (most (told_granted g.grant (o.public.due at') (o.told at'))) Invalid ≡ false = filled g.grant (o.public.due at') (o.public.snooped at') (o.told at') (fitting o g low may') full in
      let rest : (k : ℕ) → k ≢ at' → k < 32 → is_unique (most (o.told k)) ≡ false = λ k h lk. lone (told_granted g.grant (o.public.due at') (o.told at')) (o.told k) valid (goes_else o g sound low takes k h lk) in
      m.current (needed (fills_told g.grant (o.told at')) o.current (left _ (goes o g) (right _ _ (right (home_may o.public g) _ takes))) full)
      (split (λ k. k < 32 → fresh o.public.stores (o.public.due k) (o.told k) (w.state k) ≡ false) at'
      (λ _. still o g low may' (w.state at') (m.told at' low) f)
      (λ k h lk. and_false (are_hidden o.public.stores) _ (and_false (is_free (o.public.due k) (w.state k)) _ (ap (λ b. b && same (w.state k).copy UniqueDirty) (rest k h lk)))))
    where
      needed : (a b : Bool) → (not a || b) ≡ true → a ≡ true → b ≡ true
      needed true b h e = h
      needed false b h e = no e
