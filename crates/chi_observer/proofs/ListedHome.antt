-- Words of loads and stores at a flit of the home, where all stores are listed.
use Rattle.std.proofs.Common.{◌≡◌, ◌≢◌, ℕ, ◌<◌, List, [], refl, sym, ap, subst, ◌∙◌}
use Rattle.std.specs.Prelude.{Bool, true, false, ◌||◌, ◌&&◌, not, Some, if◌then◌else◌}
use Rattle.chi_observer.specs.declared.flits.HomeFlit.{HomeFlit}
use Rattle.chi_observer.specs.declared.flits.Stores.TheVariants.{Listed as AllListed}
use Rattle.chi_observer.specs.Copies.{Held, holds_data}
use Rattle.chi_observer.specs.Rules.{makes, settles}
use Rattle.chi_observer.specs.Worlds.{World, Drift, Gives, Informed, IsSafe}
use Rattle.chi_observer.specs.Observed.{Observed, Sound, takes_home, next_home}
use Rattle.chi_observer.specs.Laws.{ComesByHome}
use Rattle.chi_observer.specs.Worded.{Worded, MeaningWords, agree, no_words, next_worded_home}
use Rattle.chi_observer.proofs.Finite.{no}
use Rattle.chi_observer.proofs.Words.{or_words}
use Rattle.chi_observer.proofs.Grants.{settled_copy}
use Rattle.chi_observer.proofs.Home.{alone, none_else}
use Rattle.chi_observer.proofs.Origin.{home_comes}
use Rattle.chi_observer.proofs.Top.{top, top_words, top_meant, top_last, top_informed, may_show, shown_known, taken_shows, taken_among}
use Rattle.chi_observer.proofs.ListedWords.{words_list, agree_list, longer, agree_longer, longer_differs, revalue, revalued, drift_last, all_unstored}

-- where a world comes from
pub record ComesByHomeWords (l : Worded) (g : HomeFlit) (w' : World) : Type 0 where
  pub before : World
  pub given : World
  pub meant : MeaningWords l before
  pub informed : Informed g before
  pub gives : Gives l.seen.public g before given
  pub drifts : Drift (next_worded_home l g).seen.public given w'

module _ (l : Worded) (g : HomeFlit) (w' : World) (listed : l.seen.public.stores ≡ AllListed) (sound : Sound l.seen) (low : g.agent.0 < 32) (takes : takes_home l.seen g ≡ true) (m : MeaningWords (next_worded_home l g) w') where
  abbrev n : ℕ
  n = g.agent.0

  abbrev o : Observed
  o = l.seen

  abbrev made : Bool
  made = makes g.grant (o.public.due n)

  abbrev settled : Bool
  settled = settles g.grant (o.public.due n)

  abbrev come : ComesByHome o g w'
  come = home_comes o g w' sound low takes m.seen

  -- the same worlds, but for the value before
  same_before : MeaningWords l come.before → ComesByHomeWords l g w'
  same_before x = record { before = come.before; given = come.given; meant = x; informed = come.informed; gives = come.gives; drifts = come.drifts }

  -- where the flit leaves the value as it is
  kept_words : made ≡ false → settled ≡ false → o.current ≡ false → agree l.words come.before.last ≡ true
  kept_words e z c =
      let last : w'.last ≡ come.before.last = drift_last (next_home o g).public come.given w' listed come.drifts ∙ come.gives.last e ∙ ap (λ b. if b then come.before.home else come.before.last) z in
      let words : agree (if made then no_words else l.words) w'.last ≡ true = m.words (ap (λ b. b || (o.current && not made)) z ∙ ap (λ b. b && not made) c) (all_unstored (next_home o g) w' listed) in
      subst (λ x. agree l.words x ≡ true) last (subst (λ b. agree (if b then no_words else l.words) w'.last ≡ true) e words)

  -- where it is another, the one before was any
  abbrev any : World
  any = revalue (words_list l.words) come.before

  any_gives : ((k : ℕ) → k ≢ n → k < 32 → holds_data (come.before.state k).copy ≡ false) → (made ≡ false → settled ≡ true) → Gives o.public g come.before come.given → Gives o.public g any come.given
  any_gives lone other gives = record {
    state = gives.state;
    home = gives.home;
    words = λ v e. no (sym (ap (λ (x : Held). holds_data x.copy) gives.state ∙ ap holds_data (settled_copy g.grant (o.public.due n) (come.before.state n).copy (other e))) ∙ v);
    last = λ e. gives.last e ∙ ap (λ b. if b then come.before.home else come.before.last) (other e) ∙ sym (ap (λ b. if b then any.home else any.last) (other e));
    made = gives.made;
    others = record {
      state = gives.others.state;
      words = λ k lk h. gives.others.words k lk h ∙ sym (ap (λ b. if b then words_list l.words else come.before.words k) (lone k h lk));
    };
  }

  another : o.current ≡ false → ((k : ℕ) → k ≢ n → k < 32 → holds_data (come.before.state k).copy ≡ false) → (made ≡ false → settled ≡ true) → ComesByHomeWords l g w'
  another c lone other = record {
    before = any;
    given = come.given;
    meant = record { seen = revalued o (words_list l.words) come.before come.meant c; words = λ _ _. agree_list l.words };
    informed = come.informed;
    gives = any_gives lone other come.gives;
    drifts = come.drifts;
  }

  comes_by : (c a z : Bool) → o.current ≡ c → made ≡ a → settled ≡ z → ComesByHomeWords l g w'
  comes_by true a z c e h = same_before (record { seen = come.meant; words = λ x _. no (sym x ∙ c) })
  comes_by false true z c e h = another c (alone o g come.before come.given sound low takes come.meant come.informed come.gives e) (λ x. no (sym x ∙ e))
  comes_by false false true c e h = another c (none_else o g come.before come.given sound low takes come.meant come.informed come.gives h) (λ _. h)
  comes_by false false false c e h = same_before (record { seen = come.meant; words = λ _ _. kept_words e h c })

pub words_come_home : (l : Worded) (g : HomeFlit) (w' : World) → l.seen.public.stores ≡ AllListed → Sound l.seen → g.agent.0 < 32 → takes_home l.seen g ≡ true → MeaningWords (next_worded_home l g) w' → ComesByHomeWords l g w'
words_come_home l g w' listed sound low takes m = comes_by l g w' listed sound low takes m l.seen.current (makes g.grant (l.seen.public.due g.agent.0)) (settles g.grant (l.seen.public.due g.agent.0)) refl refl refl

-- SOME WORLD
-- the value last stored: the home's words h, or what is known
abbrev some_last : Worded → List ℕ → List ℕ
some_last l h = if l.seen.current then h else words_list l.words

top_meant_words : (l : Worded) (h : List ℕ) → ((v : List ℕ) → l.seen.home ≡ Some v → h ≡ v) → MeaningWords l (top l.seen h (some_last l h))
top_meant_words l h known = record {
  seen = top_meant l.seen h (some_last l h) known (λ e. ap (λ b. if b then h else words_list l.words) e);
  words = λ e _. subst (λ x. agree l.words x ≡ true) (sym (top_last l.seen h (some_last l h) ∙ ap (λ b. if b then h else words_list l.words) e)) (agree_list l.words);
}

pub some_world : (l : Worded) → (w : World) × MeaningWords l w
some_world l = let h : List ℕ = or_words l.seen.home [] in (top l.seen h (some_last l h), top_meant_words l h (λ v e. ap (λ x. or_words x []) e))

pub some_informed : (l : Worded) (g : HomeFlit) → g.agent.0 < 32 → takes_home l.seen g ≡ true → (w : World) × MeaningWords l w × Informed g w
some_informed l g low takes =
    let h : List ℕ = top_words l.seen g in
    (top l.seen h (some_last l h), top_meant_words l h (shown_known l.seen g (taken_shows l.seen g takes)), top_informed l.seen g (some_last l h))

-- THE FLITS THAT ARE TAKEN
lost_words : (l : Worded) (g : HomeFlit) → may_show l.seen g ≡ true → l.seen.current ≡ false → MeaningWords l (top l.seen (top_words l.seen g) (longer l.words g.shown))
lost_words l g h c = record {
  seen = top_meant l.seen (top_words l.seen g) (longer l.words g.shown) (shown_known l.seen g h) (λ e. no (sym c ∙ e));
  words = λ _ _. subst (λ x. agree l.words x ≡ true) (sym (top_last l.seen (top_words l.seen g) (longer l.words g.shown))) (agree_longer l.words g.shown);
}

pub words_safe_taken : (l : Worded) (g : HomeFlit) → Sound l.seen → g.agent.0 < 32 → ((w : World) × MeaningWords l w × Informed g w) → ((w : World) → MeaningWords l w → Informed g w → IsSafe l.seen.public g w) → takes_home l.seen g ≡ true
words_safe_taken l g sound low some safe = taken_among l.seen g (MeaningWords l) low (record {
  meant = λ w m. m.seen;
  some = some;
  best = λ h. (some_last l (top_words l.seen g), top_meant_words l (top_words l.seen g) (shown_known l.seen g h));
  lost = λ h c. (longer l.words g.shown, lost_words l g h c, longer_differs l.words g.shown);
}) safe
