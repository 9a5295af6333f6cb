-- A flit of the home is taken where it is safe in each world.
use Rattle.std.proofs.Common.{◌≡◌, ℕ, ◌<◌, List, [], refl, sym, ap, subst, ◌∙◌}
use Rattle.std.specs.Prelude.{Bool, true, false, ◌&&◌, ◌||◌, ◌==◌, not, Some, if◌then◌else◌}
use Rattle.chi_observer.specs.declared.flits.HomeFlit.{HomeFlit}
use Rattle.chi_observer.specs.Copies.{Held, holds_data, compatible, same}
use Rattle.chi_observer.specs.Copies.Copy.{Invalid}
use Rattle.chi_observer.specs.Rules.{granted, fills, shows, makes, settles, needs_alone}
use Rattle.chi_observer.specs.Tables.{Known, most, goes_with, told_granted, fills_told, shows_told}
use Rattle.chi_observer.specs.Worlds.{Public, World, Gives, IsSafe, Informed, home_may, put}
use Rattle.chi_observer.specs.Observed.{Observed, Meaning, fits, is_beside, goes, takes_home}
use Rattle.chi_observer.specs.Laws.{HomeFlitsArePossible, SafeFlitsAreTaken}
use Rattle.chi_observer.proofs.Finite.{no, left, right, both}
use Rattle.chi_observer.proofs.Facts.{top_copy, reach_self}
use Rattle.chi_observer.proofs.Grants.{data_plain, filled_data, most_granted}
use Rattle.chi_observer.proofs.Words.{or_words, top_value, fits_by, others_than, others_differ, be_true}
use Rattle.chi_observer.proofs.Copies.{below_all, shows_same}
use Rattle.chi_observer.proofs.Put.{differ, here, there}

last_given : Public → HomeFlit → World → List ℕ
last_given p g w = if settles g.grant (p.due g.agent.0) then w.home else w.last

gift : Public → HomeFlit → World → World
gift p g w = record {
  state = put g.agent.0 (granted g.grant (p.due g.agent.0) (w.state g.agent.0)) w.state;
  words = put g.agent.0 (if makes g.grant (p.due g.agent.0) then last_given p g w else (if fills g.grant (w.state g.agent.0) then g.shown else w.words g.agent.0)) w.words;
  last = last_given p g w;
  home = w.home;
}

gift_gives : (p : Public) (g : HomeFlit) (w : World) → Gives p g w (gift p g w)
unfolding gift last_given
gift_gives p g w = record {
  state = here g.agent.0 _ w.state;
  words = λ _ e. here g.agent.0 _ w.words ∙ ap (λ b. if b then last_given p g w else (if fills g.grant (w.state g.agent.0) then g.shown else w.words g.agent.0)) e;
  last = λ _. refl;
  made = λ e. here g.agent.0 _ w.words ∙ ap (λ b. if b then last_given p g w else (if fills g.grant (w.state g.agent.0) then g.shown else w.words g.agent.0)) e;
  home = refl;
  others = record { state = λ k lk h. there g.agent.0 _ w.state k h; words = λ k lk h. there g.agent.0 _ w.words k h };
}

or_right : (a b : Bool) → (a ≡ false → b ≡ true) → (a || b) ≡ true
or_right true b h = refl
or_right false b h = h refl

-- the home's words: those that are shown, or known
pub top_words : Observed → HomeFlit → List ℕ
top_words o g = if shows_told g.grant (o.told g.agent.0) then g.shown else or_words o.home []

-- each copy the strongest that it is told; the home's words h, and x the value last stored
pub top : Observed → List ℕ → List ℕ → World
top o h x = record { state = λ k. top_copy (o.public.due k) (o.told k); words = λ _. x; last = x; home = h }

pub top_meant : (o : Observed) (h x : List ℕ) → ((v : List ℕ) → o.home ≡ Some v → h ≡ v) → (o.current ≡ true → x ≡ h) → Meaning o (top o h x)
unfolding top
top_meant o h x known same = record {
  told = λ k lk. reach_self o.public.stores (o.public.due k) (o.told k);
  words = λ _ _ _. refl;
  home = known;
  current = λ e _. same e;
}

pub top_last : (o : Observed) (h x : List ℕ) → (top o h x).last ≡ x
unfolding top
top_last o h x = refl

-- the home's words may be shown
abbrev pub may_show : Observed → HomeFlit → Bool
may_show o g = not (shows_told g.grant (o.told g.agent.0)) || fits o.home g.shown

pub shown_known : (o : Observed) (g : HomeFlit) → may_show o g ≡ true → (v : List ℕ) → o.home ≡ Some v → top_words o g ≡ v
unfolding top_words
shown_known o g h v e = top_value (shows_told g.grant (o.told g.agent.0)) o.home g.shown v h e

-- what is shown to a told copy is shown to the strongest
same_shows : (o : Observed) (g : HomeFlit) → shows_told g.grant (o.told g.agent.0) ≡ shows g.grant (top_copy (o.public.due g.agent.0) (o.told g.agent.0))
same_shows o g = refl

pub top_informed : (o : Observed) (g : HomeFlit) (x : List ℕ) → Informed g (top o (top_words o g) x)
unfolding top top_words
top_informed o g x f = ap (λ b. if b then g.shown else or_words o.home []) f

pub taken_shows : (o : Observed) (g : HomeFlit) → takes_home o g ≡ true → may_show o g ≡ true
taken_shows o g takes = left _ ((not (fills_told g.grant (o.told g.agent.0)) || o.current) && goes o g) (right (home_may o.public g) _ takes)

pub home_possible : HomeFlitsArePossible
home_possible o g sound low takes = record {
  world = top o (top_words o g) (top_words o g);
  meant = top_meant o (top_words o g) (top_words o g) (shown_known o g (taken_shows o g takes)) (λ _. refl);
  informed = top_informed o g (top_words o g);
}

-- worlds that may be (P): one that the flit may be sent in, one of the strongest copies, and where the value isn't the
-- home's one where it isn't what is shown
pub record Ample (o : Observed) (g : HomeFlit) (P : World → Type 0) : Type 0 where
  pub meant : (w : World) → P w → Meaning o w
  pub some : (w : World) × P w × Informed g w
  pub best : may_show o g ≡ true → (x : List ℕ) × P (top o (top_words o g) x)
  pub lost : may_show o g ≡ true → o.current ≡ false → (x : List ℕ) × P (top o (top_words o g) x) × (x ≡ g.shown → false ≡ true)

module _ (o : Observed) (g : HomeFlit) (P : World → Type 0) (low : g.agent.0 < 32) (ample : Ample o g P) (safe : (w : World) → P w → Informed g w → IsSafe o.public g w) where
  abbrev n : ℕ
  n = g.agent.0

  abbrev t : Known
  t = o.told n

  abbrev w : World
  w = ample.some.0

  abbrev tops : ℕ → Held
  tops k = top_copy (o.public.due k) (o.told k)

  may : home_may o.public g ≡ true
  may = (safe w ample.some.1 ample.some.2).0

  same_home : (v : List ℕ) → o.home ≡ Some v → w.home ≡ v
  same_home = (ample.meant w ample.some.1).home

  shows_here : shows_told g.grant t ≡ true → shows g.grant (w.state n) ≡ true
  shows_here f = sym (shows_same o g low may (w.state n) ((ample.meant w ample.some.1).told n low)) ∙ f

  fitting : may_show o g ≡ true
  fitting = fits_by (shows_told g.grant t) o.home g.shown (λ f v e. sym (same_home v e) ∙ ample.some.2 (shows_here f))

  best : World
  best = top o (top_words o g) (ample.best fitting).0

  safe_best : IsSafe o.public g best
  unfolding best
  safe_best = safe best (ample.best fitting).1 (top_informed o g (ample.best fitting).0)

  goes_else : (m : ℕ) → m < 32 → (m == n) ≡ false → goes_with (told_granted g.grant (o.public.due n) t) (o.told m) ≡ true
  unfolding gift last_given top top_words best
  goes_else m lm h =
      let e = differ m n h in
      subst (λ x. compatible x (most (o.told m)) ≡ true) (ap (λ (z : Held). z.copy) (here n (granted g.grant (o.public.due n) (tops n)) tops) ∙ most_granted g.grant (o.public.due n) (o.public.snooped n) t (left _ _ may))
      (subst (λ (x : Held). compatible (put n (granted g.grant (o.public.due n) (tops n)) tops n).copy x.copy ≡ true) (there n (granted g.grant (o.public.due n) (tops n)) tops m e)
      ((safe_best.1 (gift o.public g best) (gift_gives o.public g best)).pairs n m low lm (λ x. e (sym x))))

  gone_else : (m : ℕ) → m < 32 → (m == n) ≡ false → needs_alone g.grant (o.public.due n) ≡ true → same (most (o.told m)) Invalid ≡ true
  unfolding top best
  gone_else m lm h e = safe_best.2 e m lm (differ m n h)

  where_alone : (a b : Bool) → (a ≡ true → b ≡ true) → (not a || b) ≡ true
  where_alone true b h = h refl
  where_alone false b h = refl

  not_left : (a b : Bool) → (a || b) ≡ false → a ≡ false
  not_left true b h = no (sym h)
  not_left false b h = refl

  not_right : (a b : Bool) → (a || b) ≡ false → b ≡ false
  not_right true b h = no (sym h)
  not_right false b h = h

  -- data that would fill a copy are the value last stored
  filled_here : fills_told g.grant t ≡ true → o.current ≡ false → false ≡ true
  unfolding gift last_given top
  filled_here f c =
      let x : List ℕ = (ample.lost fitting c).0 in
      let lost : World = top o (top_words o g) x in
      let plain = data_plain g.grant (o.public.due n) _ f in
      let after : World = gift o.public g lost in
      let made : Gives o.public g lost after = gift_gives o.public g lost in
      let holds : holds_data (after.state n).copy ≡ true =
      ap (λ (z : Held). holds_data z.copy) made.state ∙ ap holds_data (most_granted g.grant (o.public.due n) (o.public.snooped n) t (left _ _ may)) ∙ filled_data g.grant (o.public.due n) (o.public.snooped n) t (left _ _ may) f in
      let same_words : after.words n ≡ after.last = ((safe lost (ample.lost fitting c).1 (top_informed o g x)).1 after made).words n low holds in
      let shown : after.words n ≡ g.shown = made.words holds (not_left _ _ plain) ∙ ap (λ b. if b then g.shown else lost.words n) f in
      let last : after.last ≡ x = made.last (not_left _ _ plain) ∙ ap (λ b. if b then lost.home else lost.last) (not_right _ _ plain) in
      (ample.lost fitting c).2 (sym last ∙ sym same_words ∙ shown)

  filled_current : (not (fills_told g.grant t) || o.current) ≡ true
  filled_current = where_alone (fills_told g.grant t) o.current (λ f. be_true o.current (filled_here f))

  all_go : goes o g ≡ true
  all_go = below_all 32 (λ m. m == n || is_beside (told_granted g.grant (o.public.due n) t) (needs_alone g.grant (o.public.due n)) (o.told m)) (λ m lm. or_right (m == n) _ (λ h.
      both _ _ (goes_else m lm h) (where_alone (needs_alone g.grant (o.public.due n)) _ (gone_else m lm h))))

  pub taken_among : takes_home o g ≡ true
  taken_among = both _ _ may (both _ _ fitting (both _ _ filled_current all_go))

pub safe_taken : SafeFlitsAreTaken
safe_taken o g sound low some safe = taken_among o g (Meaning o) low (record {
  meant = λ w m. m;
  some = (some.world, some.meant, some.informed);
  best = λ h. (top_words o g, top_meant o (top_words o g) (top_words o g) (shown_known o g h) (λ _. refl));
  lost = λ h c. (others_than g.shown, top_meant o (top_words o g) (others_than g.shown) (shown_known o g h) (λ e. no (sym c ∙ e)), λ e. others_differ g.shown (sym e));
}) safe
