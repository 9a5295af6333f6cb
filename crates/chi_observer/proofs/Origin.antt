-- Each world behind a flit of the home comes from one before.
use Rattle.std.proofs.Common.{◌≡◌, ◌≢◌, ℕ, ◌<◌, List, refl, sym, ap, subst, ◌∙◌}
use Rattle.std.specs.Prelude.{Bool, true, false, ◌&&◌, ◌||◌, not, Some, if◌then◌else◌}
use Rattle.chi_observer.specs.declared.flits.Due.{Due}
use Rattle.chi_observer.specs.declared.flits.Stores.{Stores}
use Rattle.chi_observer.specs.declared.flits.HomeFlit.{HomeFlit}
use Rattle.chi_observer.specs.Copies.{Held, holds_data, is_unique, same}
use Rattle.chi_observer.specs.Copies.Copy.{Invalid, UniqueDirty}
use Rattle.chi_observer.specs.Rules.{is_free, are_hidden, granted, fills, shows, makes, settles, due_granted, needs_quiet}
use Rattle.chi_observer.specs.Tables.{Known, most, reach, fresh, told_granted, fills_told, shows_told}
use Rattle.chi_observer.specs.Worlds.{World, Gives, Informed, home_may, put}
use Rattle.chi_observer.specs.Observed.{Observed, Sound, Unstored, Meaning, goes, takes_home, next_home}
use Rattle.chi_observer.specs.Laws.{MeaningComesByHome}
use Rattle.chi_observer.proofs.Finite.{no, left, right, both}
use Rattle.chi_observer.proofs.Facts.{same_held, same_held_is, same_is, is_settled, or_here, or_there, and_false, flip, below, beside_unique, none_left}
use Rattle.chi_observer.proofs.Grants.{copy_data, granted_before, got, made_copy, settled_copy, settled_alone}
use Rattle.chi_observer.proofs.Words.{fitted, some_value, old_value}
use Rattle.chi_observer.proofs.Copies.{home_kept, goes_else, gone_else, fitting, fills_same, shows_same, filled_last}
use Rattle.chi_observer.proofs.Put.{here, there, split}
use Rattle.chi_observer.proofs.Rewind.{Undone, rewind}

module _ (o : Observed) (g : HomeFlit) (w2 : World) (sound : Sound o) (low : g.agent.0 < 32) (takes : takes_home o g ≡ true) (un : Undone (next_home o g) g.agent.0 w2) (top : (needs_quiet g.grant || is_settled ((next_home o g).public.due g.agent.0) ((next_home o g).told g.agent.0) (w2.state g.agent.0)) ≡ true) where
  abbrev n : ℕ
  n = g.agent.0

  abbrev mode : Stores
  mode = o.public.stores

  abbrev d : Due
  d = o.public.due n

  abbrev t : Known
  t = o.told n

  abbrev d' : Due
  d' = due_granted g.grant d

  abbrev t' : Known
  t' = told_granted g.grant d t

  abbrev s2 : Held
  s2 = w2.state n

  abbrev was : Held
  was = granted_before g.grant d t s2

  abbrev anew : Bool
  anew = makes g.grant d || settles g.grant d

  -- the value before: behind the completion of a MakeUnique or a MakeInvalid it is another
  abbrev value : List ℕ
  value = if anew then w2.home else w2.last

  abbrev old : World
  old = record { state = put n was w2.state; words = put n value w2.words; last = value; home = w2.home }

  value_same : anew ≡ false → value ≡ w2.last
  value_same e = ap (λ b. if b then w2.home else w2.last) e

  neither : (a b : Bool) → a ≡ false → b ≡ false → (a || b) ≡ false
  neither a b h e = λ i. h i || e i

  not_left : (a b : Bool) → (a || b) ≡ false → a ≡ false
  not_left true b h = no (sym h)
  not_left false b h = refl

  allowed : home_may o.public g ≡ true
  allowed = left _ _ takes

  reached : reach mode d' t' s2 ≡ true
  reached = subst (λ x. reach mode x t' s2 ≡ true) (here n d' o.public.due) (subst (λ x. reach mode (put n d' o.public.due n) x s2 ≡ true) (here n t' o.told) (un.told n low))

  topped : (needs_quiet g.grant || is_settled d' t' s2) ≡ true
  topped = subst (λ x. (needs_quiet g.grant || is_settled x t' s2) ≡ true) (here n d' o.public.due) (subst (λ x. (needs_quiet g.grant || is_settled (put n d' o.public.due n) x s2) ≡ true) (here n t' o.told) top)

  told_else : (k : ℕ) → k ≢ n → k < 32 → reach o.public.stores (o.public.due k) (o.told k) (w2.state k) ≡ true
  told_else k h lk = subst (λ x. reach mode x (o.told k) (w2.state k) ≡ true) (there n d' o.public.due k h)
      (subst (λ x. reach mode (put n d' o.public.due k) x (w2.state k) ≡ true) (there n t' o.told k h) (un.told k lk))

  facts : (reach mode d t was && same_held s2 (granted g.grant d was)) ≡ true
  facts = got mode g.grant d (o.public.snooped n) t s2 (fitting o g low allowed) (both _ _ reached topped)

  old_reach : reach mode d t was ≡ true
  old_reach = left _ _ facts

  gives : s2 ≡ granted g.grant d was
  gives = same_held_is s2 (granted g.grant d was) (right (reach mode d t was) _ facts)

  Quiet : Type 0
  Quiet = (k : ℕ) → k ≢ n → k < 32 → fresh o.public.stores (o.public.due k) (o.told k) (w2.state k) ≡ false

  now : anew ≡ false → Quiet → o.current ≡ true → w2.last ≡ w2.home
  unfolding Quiet
  now e u c = un.current (or_there (settles g.grant d) _ (both _ _ c (flip _ (not_left _ _ e)))) (λ k h lk. subst (λ x. fresh mode x (put n t' o.told k) (w2.state k) ≡ false) (sym (there n d' o.public.due k h))
      (subst (λ x. fresh o.public.stores (o.public.due k) x (w2.state k) ≡ false) (sym (there n t' o.told k h)) (u k h lk)))

  -- none else is left
  none_else : settles g.grant d ≡ true → (k : ℕ) → k ≢ n → k < 32 → same (most (o.told k)) Invalid ≡ true
  none_else z k h lk = gone_else o g sound low takes (settled_alone g.grant d z) k h lk

  empty_else : settles g.grant d ≡ true → (k : ℕ) → k ≢ n → k < 32 → holds_data (w2.state k).copy ≡ false
  empty_else z k h lk = ap holds_data (same_is (w2.state k).copy Invalid (none_left o.public.stores (o.public.due k) (o.told k) (w2.state k) (none_else z k h lk) (told_else k h lk)))

  settled_now : settles g.grant d ≡ true → w2.last ≡ w2.home
  settled_now z = un.current (or_here (settles g.grant d) _ z) (λ k h lk. subst (λ x. fresh mode x (put n t' o.told k) (w2.state k) ≡ false) (sym (there n d' o.public.due k h))
      (subst (λ x. fresh o.public.stores (o.public.due k) x (w2.state k) ≡ false) (sym (there n t' o.told k h))
      (and_false (are_hidden mode) _ (and_false (is_free (o.public.due k) (w2.state k)) _ (ap (λ x. is_unique x && same (w2.state k).copy UniqueDirty) (same_is (most (o.told k)) Invalid (none_else z k h lk)))))))

  quiet_of : Unstored o old → Quiet
  unfolding Quiet
  quiet_of u k h lk = subst (λ x. fresh o.public.stores (o.public.due k) (o.told k) x ≡ false) (there n was w2.state k h) (u k lk)

  home_shown : shows_told g.grant t ≡ true → w2.home ≡ g.shown
  home_shown f = un.home g.shown (some_value (shows_told g.grant t) g.shown o.home f)

  home_was : (v : List ℕ) → o.home ≡ Some v → (b : Bool) → shows_told g.grant t ≡ b → w2.home ≡ v
  home_was v e true f = home_shown f ∙ sym (fitted (shows_told g.grant t) o.home g.shown v (left _ ((not (fills_told g.grant t) || o.current) && goes o g) (right (home_may o.public g) _ takes)) f e)
  home_was v e false f = un.home v (old_value (shows_told g.grant t) g.shown o.home f ∙ e)

  made : makes g.grant d ≡ true → (is_unique s2.copy && holds_data s2.copy) ≡ true
  made e = subst (λ (x : Held). (is_unique x.copy && holds_data x.copy) ≡ true) (sym gives) (made_copy g.grant d was.copy e)

  alone : makes g.grant d ≡ true → (k : ℕ) → k ≢ n → k < 32 → holds_data (w2.state k).copy ≡ false
  alone e k h lk = beside_unique s2.copy (w2.state k).copy (left _ _ (made e)) (below mode d' (o.public.due k) t' (o.told k) s2 (w2.state k) reached (told_else k h lk) (goes_else o g sound low takes k h lk))

  else_words : (k : ℕ) → k ≢ n → k < 32 → holds_data (w2.state k).copy ≡ true → (b z : Bool) → makes g.grant d ≡ b → settles g.grant d ≡ z → w2.words k ≡ value
  else_words k h lk v true z e hz = no (sym (alone e k h lk) ∙ v)
  else_words k h lk v false true e hz = no (sym (empty_else hz k h lk) ∙ v)
  else_words k h lk v false false e hz = un.words k lk v ∙ sym (value_same (neither _ _ e hz))

  old_current : o.current ≡ true → Quiet → (b : Bool) → anew ≡ b → value ≡ w2.home
  old_current c u true e = ap (λ b. if b then w2.home else w2.last) e
  old_current c u false e = value_same e ∙ now e u c

  pub old_meant : Meaning o old
  old_meant = record {
    told = split (λ k. k < 32 → reach o.public.stores (o.public.due k) (o.told k) (old.state k) ≡ true) n
        (λ _. subst (λ x. reach mode d t x ≡ true) (sym (here n was w2.state)) old_reach)
        (λ k h lk. subst (λ x. reach o.public.stores (o.public.due k) (o.told k) x ≡ true) (sym (there n was w2.state k h)) (told_else k h lk));
    words = split (λ k. k < 32 → holds_data (old.state k).copy ≡ true → old.words k ≡ value) n
        (λ _ _. here n value w2.words)
        (λ k h lk v. there n value w2.words k h ∙ else_words k h lk (subst (λ (x : Held). holds_data x.copy ≡ true) (there n was w2.state k h) v) (makes g.grant d) (settles g.grant d) refl refl);
    home = λ v e. home_was v e (shows_told g.grant t) refl;
    current = λ c u. old_current c (quiet_of u) anew refl;
  }

  last_shown : anew ≡ false → fills g.grant was ≡ true → w2.last ≡ g.shown
  last_shown e f = sym (value_same e) ∙ filled_last o g old sound low takes old_meant (subst (λ x. fills g.grant x ≡ true) (sym (here n was w2.state)) f) ∙ home_shown (copy_data g.grant _ (fills_same o g low allowed was old_reach ∙ f))

  words_are : anew ≡ false → (b : Bool) → fills g.grant was ≡ b → w2.last ≡ (if fills g.grant was then g.shown else put n value w2.words n)
  words_are e true f = last_shown e f ∙ sym (ap (λ b. if b then g.shown else put n value w2.words n) f)
  words_are e false f = sym (value_same e) ∙ sym (here n value w2.words) ∙ sym (ap (λ b. if b then g.shown else put n value w2.words n) f)

  here_words : holds_data s2.copy ≡ true → makes g.grant d ≡ false → (z : Bool) → settles g.grant d ≡ z → w2.last ≡ (if fills g.grant was then g.shown else put n value w2.words n)
  here_words v e true z = no (sym (ap (λ (x : Held). holds_data x.copy) gives ∙ ap holds_data (settled_copy g.grant d was.copy z)) ∙ v)
  here_words v e false z = words_are (neither _ _ e z) (fills g.grant was) refl

  last_by : makes g.grant d ≡ false → (z : Bool) → settles g.grant d ≡ z → w2.last ≡ (if settles g.grant d then w2.home else value)
  last_by e true z = settled_now z ∙ sym (ap (λ b. if b then w2.home else value) z)
  last_by e false z = sym (value_same (neither _ _ e z)) ∙ sym (ap (λ b. if b then w2.home else value) z)

  pub old_informed : Informed g old
  old_informed f = home_shown (shows_same o g low allowed was old_reach ∙ subst (λ x. shows g.grant x ≡ true) (here n was w2.state) f)

  pub old_gives : Gives o.public g old w2
  old_gives = record {
    state = gives ∙ ap (granted g.grant d) (sym (here n was w2.state));
    words = λ v e. un.words n low v ∙ subst (λ x. w2.last ≡ (if fills g.grant x then g.shown else put n value w2.words n)) (sym (here n was w2.state)) (here_words v e (settles g.grant d) refl);
    last = λ e. last_by e (settles g.grant d) refl;
    made = λ e. un.words n low (right (is_unique s2.copy) _ (made e));
    home = refl;
    others = record { state = λ k lk h. sym (there n was w2.state k h); words = λ k lk h. sym (there n value w2.words k h) };
  }

-- the world before
abbrev pub world_given : Observed → HomeFlit → World → World
world_given o g w2 =
    let value : List ℕ = if makes g.grant (o.public.due g.agent.0) || settles g.grant (o.public.due g.agent.0) then w2.home else w2.last in
    record {
      state = put g.agent.0 (granted_before g.grant (o.public.due g.agent.0) (o.told g.agent.0) (w2.state g.agent.0)) w2.state;
      words = put g.agent.0 value w2.words;
      last = value;
      home = w2.home;
    }

pub home_comes : MeaningComesByHome
home_comes o g w' sound low takes m =
    let back = rewind (next_home o g) w' (home_kept o g sound low takes) m g.agent.0 low in
    let top : (needs_quiet g.grant || is_settled ((next_home o g).public.due g.agent.0) ((next_home o g).told g.agent.0) (back.before.state g.agent.0)) ≡ true = or_there (needs_quiet g.grant) _ back.settled.top in
    record {
      before = world_given o g back.before;
      given = back.before;
      meant = old_meant o g back.before sound low takes back.settled.undone top;
      informed = old_informed o g back.before sound low takes back.settled.undone top;
      gives = old_gives o g back.before sound low takes back.settled.undone top;
      drifts = back.drifts;
    }
