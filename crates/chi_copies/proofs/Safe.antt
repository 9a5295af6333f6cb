-- A flit of the home that is taken may be sent in some world, and one that is safe in each is taken.
use Rattle.std.proofs.Common.{rules, arith, ◌≡◌, ◌≢◌, ℕ, ◌<◌, suc, refl, sym, ap, subst, ◌∙◌}
use Rattle.std.specs.Prelude.{Bool, true, false, ◌&&◌, ◌||◌, ◌==◌, not, Option, Some, List, if◌then◌else◌}
use Rattle.chi_observer.specs.declared.kinds.Snoop.{Snoop}
use Rattle.chi_observer.specs.declared.flits.Due.{Due}
use Rattle.chi_observer.specs.declared.flits.HomeFlit.{HomeFlit}
use Rattle.chi_observer.specs.Copies.{holds_data, is_dirty, same, compatible}
use Rattle.chi_observer.specs.Copies.Copy.{Invalid}
use Rattle.chi_observer.specs.Rules.{is_due, needs_alone, makes, settles, gives_copy, word_at}
use Rattle.chi_copies.specs.Copies.{Held, Copies, is_lost, is_fresh, is_newer, beside}
use Rattle.chi_copies.specs.Rules.{granted, fills, shows, renews}
use Rattle.chi_copies.specs.Worlds.{Public, World, Words, Same, Coherent, Gives, Informed, IsSafe, home_may, others_given, put}
use Rattle.chi_copies.specs.Observed.{Observed, Sound, Meaning, any_of, got, given_of, is_beside, fits_home, takes_home}
use Rattle.chi_copies.specs.Laws.{SomeInformed, HomeFlitsArePossible, SafeFlitsAreTaken}
use Rattle.chi_copies.proofs.Finite.{no, left, right, both, implies, follow, either, by_truth, turned, flip, by_false, all_helds, each_held, out_held}
use Rattle.chi_copies.proofs.Rows.{is_sane}
use Rattle.chi_copies.proofs.Means.{same_refl, same_by, same_sym, same_trans, sane}
use Rattle.chi_copies.proofs.Put.{differ, here, there, split}
use Rattle.chi_copies.proofs.Grants.{fills_data, fresh_from, lost_before, lost_kept}
use Rattle.chi_copies.proofs.Given.{or_else, not_left, not_right, below_all, shown_copy, shown_kept, shown_is, all_beside_in, got_each, given_each, shows_all}
use Rattle.chi_copies.proofs.Given as given
use Rattle.chi_copies.proofs.Top.{world_of, some_last, shown_home, set_copies, any_states, any_copies, fits_same, same_fits, home_fits, choice_meant, choice_informed}

-- a world behind it
abbrev pub last_then : Public → HomeFlit → World → Words
last_then p g w = if settles g.grant (p.due g.agent.0) then w.home else w.last

abbrev pub words_then : Public → HomeFlit → World → Words
words_then p g w = if makes g.grant (p.due g.agent.0) then last_then p g w else (if fills g.grant (w.state g.agent.0) then word_at g.shown else w.words g.agent.0)

abbrev pub gift : Public → HomeFlit → World → World
gift p g w = record {
  state = put g.agent.0 (granted g.grant (p.due g.agent.0) (w.state g.agent.0)) (λ m. others_given g p (w.state m));
  words = put g.agent.0 (words_then p g w) w.words;
  last = last_then p g w;
  home = w.home;
}

pub then_is : {A : Type 0} (b : Bool) (x y : A) → b ≡ true → (if b then x else y) ≡ x
then_is true x y e = refl
then_is false x y e = no e

pub else_is : {A : Type 0} (b : Bool) (x y : A) → b ≡ false → (if b then x else y) ≡ y
else_is true x y e = no (sym e)
else_is false x y e = refl

pub gift_gives : (p : Public) (g : HomeFlit) (w : World) → Gives p g w (gift p g w)
gift_gives p g w = record {
  state = here g.agent.0 (granted g.grant (p.due g.agent.0) (w.state g.agent.0)) (λ m. others_given g p (w.state m));
  home = refl;
  words = λ _ e. same_by _ _ (here g.agent.0 (words_then p g w) w.words ∙ else_is (makes g.grant (p.due g.agent.0)) (last_then p g w) (if fills g.grant (w.state g.agent.0) then word_at g.shown else w.words g.agent.0) e);
  last = λ _. same_refl (last_then p g w);
  made = λ e. same_by _ _ (here g.agent.0 (words_then p g w) w.words ∙ then_is (makes g.grant (p.due g.agent.0)) (last_then p g w) (if fills g.grant (w.state g.agent.0) then word_at g.shown else w.words g.agent.0) e);
  others = record {
    state = λ m _ d. there g.agent.0 (granted g.grant (p.due g.agent.0) (w.state g.agent.0)) (λ m. others_given g p (w.state m)) m d;
    words = λ m _ d. there g.agent.0 (words_then p g w) w.words m d;
  };
}

-- copies with newer words are dirty, and beside them none has data
newer_holds : all_helds (λ h. implies (is_sane h && is_newer h) (is_dirty h.copy)) ≡ true
newer_holds = refl

newer_dirty : (h : Held) → is_sane h ≡ true → is_newer h ≡ true → is_dirty h.copy ≡ true
newer_dirty h s e = follow (is_sane h && is_newer h) _ (each_held (λ h. implies (is_sane h && is_newer h) (is_dirty h.copy)) newer_holds h) (both (is_sane h) _ s e)

lone_holds : all_helds (λ h. all_helds (λ k. implies (holds_data h.copy && (compatible h.copy k.copy && is_sane k)) (not (is_newer k)))) ≡ true
lone_holds = refl

lone_newer : (h k : Held) → holds_data h.copy ≡ true → compatible h.copy k.copy ≡ true → is_sane k ≡ true → is_newer k ≡ false
lone_newer h k d c s = turned _ (follow (holds_data h.copy && (compatible h.copy k.copy && is_sane k)) _ (each_held (λ k. implies (holds_data h.copy && (compatible h.copy k.copy && is_sane k)) (not (is_newer k)))
    (each_held (λ h. all_helds (λ k. implies (holds_data h.copy && (compatible h.copy k.copy && is_sane k)) (not (is_newer k)))) lone_holds h) k) (both (holds_data h.copy) _ d (both (compatible h.copy k.copy) _ c s)))

not_suc : (v : ℕ) → v ≡ suc v → ⊥
not_suc v e = search (rules, arith)

both_not : (a b : Bool) → not (a && b) ≡ true → a ≡ true → b ≡ true → false ≡ true
both_not a b h x y = sym (turned _ h) ∙ both a b x y

pub fit_or : (a b : Bool) → (not a || b) ≡ true → a ≡ true → b ≡ true
fit_or true b h e = h
fit_or false b h e = no e

fit_in : (a b : Bool) → (a ≡ true → b ≡ true) → (not a || b) ≡ true
fit_in true b h = h refl
fit_in false b h = refl

module _ (o : Observed) (g : HomeFlit) (sound : Sound o) (low : g.agent.0 < 32) where
  abbrev n : ℕ
  n = g.agent.0

  abbrev d : Due
  d = o.public.due n

  abbrev S : Copies
  S = o.may n

  abbrev to : Held → Held
  to h = granted g.grant d h

  pub possible : takes_home o g ≡ true → SomeInformed o g
  possible takes =
      let fit = λ (e : any_of S (shows g.grant) ≡ true) (v : List ℕ) (x : o.home ≡ Some v). fits_same o.home g.shown v (fit_or (any_of S (shows g.grant)) (fits_home o.home g.shown) (given.fitting o g sound low takes) e) x in
      record {
        world = world_of (any_states o sound) (some_last o (any_states o sound) (shown_home o g (any_states o sound))) (shown_home o g (any_states o sound));
        meant = choice_meant o g fit low (any_states o sound) (any_copies o sound);
        informed = choice_informed o g fit low (any_states o sound) (any_copies o sound) (some_last o (any_states o sound) (shown_home o g (any_states o sound)));
      }

  module _ (some : SomeInformed o g) (safe : (w : World) → Meaning o w → Informed g w → IsSafe o.public g w) where
    may : home_may o.public g ≡ true
    may = (safe some.world some.meant some.informed).0

    abbrev q : Option Snoop
    q = o.public.snooped n

    due : is_due g.grant d (o.public.snooped n) ≡ true
    due = left (is_due g.grant d (o.public.snooped n)) _ may

    -- its words are the home's
    fit : any_of S (shows g.grant) ≡ true → (v : List ℕ) → o.home ≡ Some v → Same (word_at g.shown) (word_at v)
    fit e v x = same_trans _ _ _ (same_sym _ _ (some.informed (shows_all o g sound low may e (some.world.state n) (some.meant.copies n low)))) (some.meant.home v x)

    module _ (states : ℕ → Held) (all : (k : ℕ) → k < 32 → o.may k (states k) ≡ true) where
      abbrev home : Words
      home = shown_home o g states

      abbrev world : World
      world = world_of states (some_last o states home) home

      is_safe : IsSafe o.public g world
      is_safe = safe world (choice_meant o g fit low states all) (choice_informed o g fit low states all (some_last o states home))

      -- the copy goes with each other
      goes_by : (m : ℕ) → m ≢ n → m < 32 → compatible (to (states n)).copy (states m).copy ≡ true
      goes_by m e l = subst (λ s. compatible (to (states n)).copy s ≡ true)
          (ap (λ (k : Held). k.copy) (there n (to (states n)) (λ m. others_given g o.public (states m)) m e) ∙ shown_copy (renews g.grant d) (states m))
          (subst (λ (k : Held). compatible k.copy (put n (to (states n)) (λ m. others_given g o.public (states m)) m).copy ≡ true)
          (here n (to (states n)) (λ m. others_given g o.public (states m)))
          ((is_safe.1 (gift o.public g world) (gift_gives o.public g world)).pairs n m low l (λ x. e (sym x))))

      alone_by : needs_alone g.grant d ≡ true → (m : ℕ) → m ≢ n → m < 32 → same (states m).copy Invalid ≡ true
      alone_by a m e l = is_safe.2 a m l e

      -- where a copy is filled none was stored to: else the value could be another
      module _ (f : fills g.grant (states n) ≡ true) (j : ℕ) (lj : j < 32) (stored : (states j).stored ≡ true) where
        abbrev last : Words
        last p = suc (word_at g.shown p)

        none_newer : (i : ℕ) → i < 32 → is_newer (states i) ≡ false
        none_newer = split (λ i. i < 32 → is_newer (states i) ≡ false) n
            (λ _. by_false (is_newer (states n)) (λ e. sym (turned _ (right (gives_copy g.grant) _ f)) ∙ newer_dirty (states n) (sane o sound n low (states n) (all n low)) e))
            (λ i e l. lone_newer (to (states n)) (states i) (left (holds_data (to (states n)).copy) _ (fills_data g.grant d q due (states n) f)) (goes_by i e l) (sane o sound i l (states i) (all i l)))

        meant : Meaning o (world_of states last home)
        meant = record {
          copies = all;
          words = λ _ _ _. same_refl last;
          home = home_fits o g fit low states all;
          current = λ shown. no (sym (shown j lj) ∙ stored);
          news = λ i l e p _ v x. no (sym (none_newer i l) ∙ left (is_newer (states i)) _ e);
        }

        coherent_then : Coherent (gift o.public g (world_of states last home))
        coherent_then = (safe (world_of states last home) meant (choice_informed o g fit low states all last)).1 (gift o.public g (world_of states last home)) (gift_gives o.public g (world_of states last home))

        no_renewal : renews g.grant d ≡ false
        no_renewal = turned _ (right (shows g.grant (states n)) _ (right (holds_data (to (states n)).copy) _ (fills_data g.grant d q due (states n) f)))

        words_are : words_then o.public g (world_of states last home) ≡ word_at g.shown
        words_are = else_is (makes g.grant d) (last_then o.public g (world_of states last home)) (if fills g.grant (states n) then word_at g.shown else last) (not_left (makes g.grant d) _ no_renewal)
            ∙ then_is (fills g.grant (states n)) (word_at g.shown) last f

        last_is : last_then o.public g (world_of states last home) ≡ last
        last_is = else_is (settles g.grant d) home last (not_right (makes g.grant d) _ no_renewal)

        never : ⊥
        never = not_suc (word_at g.shown 0) (
            sym (ap (λ (u : Words). u 0) (here n (words_then o.public g (world_of states last home)) (λ _. last) ∙ words_are))
            ∙ coherent_then.words n low (subst (λ (k : Held). holds_data k.copy ≡ true) (sym (here n (to (states n)) (λ m. others_given g o.public (states m)))) (left (holds_data (to (states n)).copy) _ (fills_data g.grant d q due (states n) f))) 0 (search (rules, arith))
            ∙ ap (λ (u : Words). u 0) last_is)

    -- a filled copy wasn't thrown away
    unlost : any_of S (λ h. fills g.grant h && h.stored) ≡ false
    unlost = by_false (any_of S (λ h. fills g.grant h && h.stored)) (λ e.
        let x = out_held (λ h. S h && (fills g.grant h && h.stored)) e in
        let y : (fills g.grant x.0 && x.0.stored) ≡ true = right (S x.0) _ x.1 in
        let at : put n x.0 (any_states o sound) n ≡ x.0 = here n x.0 (any_states o sound) in
        absurd (never (put n x.0 (any_states o sound)) (set_copies o.may n x.0 (any_states o sound) (left (S x.0) _ x.1) (any_copies o sound))
        (subst (λ h. fills g.grant h ≡ true) (sym at) (left (fills g.grant x.0) _ y)) n low (subst (λ (h : Held). h.stored ≡ true) (sym at) (right (fills g.grant x.0) _ y))))

    module _ (m : ℕ) (e : m ≢ n) (l : m < 32) (h k : Held) (x : S h ≡ true) (y : o.may m k ≡ true) where
      abbrev states : ℕ → Held
      states = put n h (put m k (any_states o sound))

      all : (i : ℕ) → i < 32 → o.may i (states i) ≡ true
      all = set_copies o.may n h (put m k (any_states o sound)) x (set_copies o.may m k (any_states o sound) y (any_copies o sound))

      at : states n ≡ h
      at = here n h (put m k (any_states o sound))

      other : states m ≡ k
      other = there n h (put m k (any_states o sound)) m e ∙ here m k (any_states o sound)

      fits_both : compatible (to h).copy k.copy ≡ true
      fits_both = subst (λ h. compatible (to h).copy k.copy ≡ true) at (subst (λ (k : Held). compatible (to (states n)).copy k.copy ≡ true) other (goes_by states all m e l))

      alone_k : needs_alone g.grant d ≡ true → same k.copy Invalid ≡ true
      alone_k a = subst (λ (k : Held). same k.copy Invalid ≡ true) other (alone_by states all a m e l)

      lost_k : fills g.grant h ≡ true → k.stored ≡ true → false ≡ true
      lost_k f s = absurd (never states all (subst (λ h. fills g.grant h ≡ true) (sym at) f) m l (subst (λ (k : Held). k.stored ≡ true) (sym other) s))

      were : beside h k ≡ true
      were = sound.pairs n m low l (λ z. e (sym z)) h k x y

      kept : renews g.grant d ≡ false → others_given g o.public k ≡ k
      kept r = shown_kept (renews g.grant d) k r

      -- no words of the home where the value is lost
      lost_fresh : (is_lost (to h) && is_fresh (others_given g o.public k)) ≡ false
      lost_fresh = by_false (is_lost (to h) && is_fresh (others_given g o.public k)) (λ z.
          let r : renews g.grant d ≡ false = by_false (renews g.grant d) (λ r. sym (lost_kept g.grant d q due h r) ∙ left (is_lost (to h)) _ z) in
          both_not (is_lost h) (is_fresh k) (left (not (is_lost h && is_fresh k)) _ (right (compatible h.copy k.copy) _ were))
          (lost_before g.grant d q due h (both (is_sane h) _ (sane o sound n low h x) (both (not (renews g.grant d)) _ (flip _ r) (left (is_lost (to h)) _ z))))
          (subst (λ k. is_fresh k ≡ true) (kept r) (right (is_lost (to h)) _ z)))

      fresh_lost : (is_fresh (to h) && is_lost (others_given g o.public k)) ≡ false
      fresh_lost = by_false (is_fresh (to h) && is_lost (others_given g o.public k)) (λ z. by_truth (renews g.grant d)
          (λ r. subst (λ k. is_lost k ≡ true) (shown_is (renews g.grant d) k r) (right (is_fresh (to h)) _ z))
          (λ r. let lost : is_lost k ≡ true = subst (λ k. is_lost k ≡ true) (kept r) (right (is_fresh (to h)) _ z) in
          either (is_fresh h) (fills g.grant h) (fresh_from g.grant d q due h (left (is_fresh (to h)) _ z))
          (λ f. both_not (is_fresh h) (is_lost k) (right (not (is_lost h && is_fresh k)) _ (right (compatible h.copy k.copy) _ were)) f lost)
          (λ f. lost_k f (left k.stored _ lost))))

      pub pair_goes : beside (to h) (others_given g o.public k) ≡ true
      pair_goes = both (compatible (to h).copy (others_given g o.public k).copy) _ (subst (λ s. compatible (to h).copy s ≡ true) (sym (shown_copy (renews g.grant d) k)) fits_both)
          (both (not (is_lost (to h) && is_fresh (others_given g o.public k))) _ (flip _ lost_fresh) (flip _ fresh_lost))

    none_else : needs_alone g.grant d ≡ true → (m : ℕ) → m ≢ n → m < 32 → any_of (given_of g o.public (o.may m)) (λ k. not (same k.copy Invalid)) ≡ false
    none_else a m e l = by_false (any_of (given_of g o.public (o.may m)) (λ k. not (same k.copy Invalid))) (λ z.
        let x = out_held (λ k. given_of g o.public (o.may m) k && not (same k.copy Invalid)) z in
        let s = out_held S (sound.some n low) in
        sym (turned _ (right (given_of g o.public (o.may m) x.0) _ x.1)) ∙ given_each o g sound low m (λ k. same k.copy Invalid ≡ true)
        (λ k y. subst (λ c. same c Invalid ≡ true) (sym (shown_copy (renews g.grant d) k)) (alone_k m e l s.0 k s.1 y a)) x.0 (left (given_of g o.public (o.may m) x.0) _ x.1))

    goes_else : (m : ℕ) → m ≢ n → m < 32 → is_beside (got o g) (needs_alone g.grant d) (given_of g o.public (o.may m)) ≡ true
    goes_else m e l = both _ _ (all_beside_in (got o g) (given_of g o.public (o.may m)) (λ h k x y. got_each o g sound low (λ h. beside h k ≡ true) (λ h x. given_each o g sound low m (λ k. beside (to h) k ≡ true) (λ k y. pair_goes m e l h k x y) k y) h x))
        (fit_in (needs_alone g.grant d) _ (λ a. flip _ (none_else a m e l)))

    pub taken : takes_home o g ≡ true
    taken = both (home_may o.public g) _ may (both (not (any_of S (shows g.grant)) || fits_home o.home g.shown) _ (fit_in (any_of S (shows g.grant)) _ (λ e. same_fits o.home g.shown (fit e)))
        (both (not (any_of S (λ h. fills g.grant h && h.stored))) _ (flip _ unlost)
        (below_all 32 (λ m. m == n || is_beside (got o g) (needs_alone g.grant d) (given_of g o.public (o.may m))) (λ m l. or_else (m == n) _ (λ z. goes_else m (differ m n z) l)))))

pub home_possible : HomeFlitsArePossible
home_possible o g sound low takes = possible o g sound low takes

pub safe_taken : SafeFlitsAreTaken
safe_taken o g sound low some safe = taken o g sound low some safe
