-- Each choice of copies is a world.
use Rattle.std.proofs.Common.{◌≡◌, ℕ, ◌<◌, refl, sym, ap, subst, ◌∙◌, eq-eqb}
use Rattle.std.specs.Prelude.{Bool, true, false, ◌&&◌, ◌==◌, not, Option, Some, None, List, if◌then◌else◌}
use Rattle.std.proofs.lemmas.Bool.{eqb-true}
use Rattle.chi_observer.specs.declared.flits.HomeFlit.{HomeFlit}
use Rattle.chi_observer.specs.Copies.Copy.{Invalid}
use Rattle.chi_observer.specs.Rules.{word_at}
use Rattle.chi_copies.specs.Copies.{Held, Copies, plain, is_newer, any_held}
use Rattle.chi_copies.specs.Rules.{shows}
use Rattle.chi_copies.specs.Worlds.{World, Words, Same, Informed, all_below, put}
use Rattle.chi_copies.specs.Observed.{Observed, Sound, Meaning, has_news, any_of, fits_at, home_at, fits_home}
use Rattle.chi_copies.specs.Laws.{EachIsInSome}
use Rattle.chi_copies.proofs.Finite.{no, left, both, by_truth, turned, flip, by_false, in_held, out_held}
use Rattle.chi_copies.proofs.Means.{same_refl}
use Rattle.chi_copies.proofs.Put.{here, there, split}
use Rattle.chi_copies.proofs.Given.{below_all}
use Rattle.chi_copies.proofs.Sets.{each_below}

-- some copy, of the set if it has one
pub pick : (S : Copies) → (h : Held) × (any_held S ≡ true → S h ≡ true)
pick S = by_truth (any_held S) (λ e. let x = out_held S e in (x.0, λ _. x.1)) (λ e. (plain Invalid, λ z. no (sym e ∙ z)))

-- words where they are known
abbrev pub or_zero : Option ℕ → ℕ
or_zero None = 0
or_zero (Some v) = v

abbrev pub old_words : Option (List ℕ) → Words
old_words None p = 0
old_words (Some v) p = word_at v p

pub old_is : (old : Option (List ℕ)) (v : List ℕ) → old ≡ Some v → Same (old_words old) (word_at v)
old_is old v e = subst (λ old. Same (old_words old) (word_at v)) (sym e) (same_refl (word_at v))

pub fits_same : (old : Option (List ℕ)) (x v : List ℕ) → fits_home old x ≡ true → old ≡ Some v → Same (word_at x) (word_at v)
fits_same old x v f e p l = sym (eqb-true (word_at v p) (word_at x p) (each_below 8 (λ p. fits_at (home_at (Some v) p) (word_at x p)) (subst (λ old. fits_home old x ≡ true) e f) p l))

pub same_fits : (old : Option (List ℕ)) (x : List ℕ) → ((v : List ℕ) → old ≡ Some v → Same (word_at x) (word_at v)) → fits_home old x ≡ true
same_fits None x f = below_all 8 (λ p. fits_at None (word_at x p)) (λ p l. refl)
same_fits (Some v) x f = below_all 8 (λ p. word_at v p == word_at x p) (λ p l. eq-eqb (word_at v p) (word_at x p) (sym (f v refl p l)))

-- the value last stored: the home's where no copy was stored to, else one that has the known words
abbrev pub is_shown : (ℕ → Held) → Bool
is_shown states = all_below 32 (λ m. not (states m).stored)

abbrev pub some_last : Observed → (ℕ → Held) → Words → Words
some_last o states home = if is_shown states then home else (λ p. or_zero (o.news p))

last_home : (b : Bool) (x y : Words) → b ≡ true → Same x (if b then x else y)
last_home true x y e = same_refl x
last_home false x y e = no e

last_news : (b : Bool) (x y : Words) (p v : ℕ) → b ≡ false → y p ≡ v → (if b then x else y) p ≡ v
last_news true x y p v e h = no (sym e)
last_news false x y p v e h = h

pub last_current : (o : Observed) (states : ℕ → Held) (home : Words) → ((m : ℕ) → m < 32 → (states m).stored ≡ false) → Same home (some_last o states home)
last_current o states home h = last_home (is_shown states) home (λ p. or_zero (o.news p)) (below_all 32 (λ m. not (states m).stored) (λ m l. flip _ (h m l)))

pub last_known : (o : Observed) (states : ℕ → Held) (home : Words) (i : ℕ) → i < 32 → has_news o.public i (states i) ≡ true → (p : ℕ) → (v : ℕ) → o.news p ≡ Some v → some_last o states home p ≡ v
last_known o states home i l e p v x = last_news (is_shown states) home (λ p. or_zero (o.news p)) p v
    (by_false (is_shown states) (λ z. sym (turned _ (each_below 32 (λ m. not (states m).stored) z i l)) ∙ left (states i).stored _ (left (is_newer (states i)) _ e)))
    (ap or_zero x)

-- all copies have the value
abbrev pub world_of : (ℕ → Held) → Words → Words → World
world_of states last home = record { state = states; words = λ _. last; last = last; home = home }

pub world_meant : (o : Observed) (states : ℕ → Held) (home : Words) → ((k : ℕ) → k < 32 → o.may k (states k) ≡ true) → ((v : List ℕ) → o.home ≡ Some v → Same home (word_at v)) → Meaning o (world_of states (some_last o states home) home)
world_meant o states home all h = record {
  copies = all;
  words = λ _ _ _. same_refl (some_last o states home);
  home = h;
  current = last_current o states home;
  news = λ i l e p _ v x. last_known o states home i l e p v x;
}

-- h at n
pub set_copies : (S : ℕ → Copies) (n : ℕ) (h : Held) (states : ℕ → Held) → S n h ≡ true → ((k : ℕ) → k < 32 → S k (states k) ≡ true) → (k : ℕ) → k < 32 → S k (put n h states k) ≡ true
set_copies S n h states e all = split (λ k. k < 32 → S k (put n h states k) ≡ true) n
    (λ _. subst (λ t. S n t ≡ true) (sym (here n h states)) e)
    (λ k d l. subst (λ t. S k t ≡ true) (sym (there n h states k d)) (all k l))

module _ (o : Observed) (sound : Sound o) where
  pub any_states : ℕ → Held
  any_states k = (pick (o.may k)).0

  pub any_copies : (k : ℕ) → k < 32 → o.may k (any_states k) ≡ true
  unfolding any_states
  any_copies k l = (pick (o.may k)).1 (sound.some k l)

  pub some_meant : (states : ℕ → Held) → ((k : ℕ) → k < 32 → o.may k (states k) ≡ true) → Meaning o (world_of states (some_last o states (old_words o.home)) (old_words o.home))
  some_meant states all = world_meant o states (old_words o.home) all (old_is o.home)

pub inhabited : (o : Observed) → Sound o → (w : World) × Meaning o w
inhabited o sound = (world_of (any_states o sound) (some_last o (any_states o sound) (old_words o.home)) (old_words o.home), some_meant o sound (any_states o sound) (any_copies o sound))

pub each_in_some : EachIsInSome
each_in_some o n h sound low e = record {
  world = world_of (put n h (any_states o sound)) (some_last o (put n h (any_states o sound)) (old_words o.home)) (old_words o.home);
  meant = some_meant o sound (put n h (any_states o sound)) (set_copies o.may n h (any_states o sound) e (any_copies o sound));
  is = here n h (any_states o sound);
}

-- WHERE THE HOME HAS WHAT IT SENDS
abbrev pub shown_home : Observed → HomeFlit → (ℕ → Held) → Words
shown_home o g states = if shows g.grant (states g.agent.0) then word_at g.shown else old_words o.home

module _ (o : Observed) (g : HomeFlit) (fit : any_of (o.may g.agent.0) (shows g.grant) ≡ true → (v : List ℕ) → o.home ≡ Some v → Same (word_at g.shown) (word_at v)) (low : g.agent.0 < 32)
    (states : ℕ → Held) (all : (k : ℕ) → k < 32 → o.may k (states k) ≡ true) where
  home_by : (b : Bool) → (b ≡ true → (v : List ℕ) → o.home ≡ Some v → Same (word_at g.shown) (word_at v)) → (v : List ℕ) → o.home ≡ Some v → Same (if b then word_at g.shown else old_words o.home) (word_at v)
  home_by true f v e = f refl v e
  home_by false f v e = old_is o.home v e

  shown_by : (b : Bool) → b ≡ true → Same (if b then word_at g.shown else old_words o.home) (word_at g.shown)
  shown_by true e = same_refl (word_at g.shown)
  shown_by false e = no e

  pub home_fits : (v : List ℕ) → o.home ≡ Some v → Same (shown_home o g states) (word_at v)
  home_fits = home_by (shows g.grant (states g.agent.0)) (λ e. fit (in_held (λ h. o.may g.agent.0 h && shows g.grant h) (states g.agent.0) (both (o.may g.agent.0 (states g.agent.0)) _ (all g.agent.0 low) e)))

  pub choice_meant : Meaning o (world_of states (some_last o states (shown_home o g states)) (shown_home o g states))
  choice_meant = world_meant o states (shown_home o g states) all home_fits

  pub choice_informed : (last : Words) → Informed g (world_of states last (shown_home o g states))
  choice_informed last e = shown_by (shows g.grant (states g.agent.0)) e
