-- Each world behind a flit of the home comes from one before.
use Rattle.std.proofs.Common.{◌≡◌, ◌≢◌, ℕ, ◌<◌, refl, sym, ap, subst, ◌∙◌}
use Rattle.std.specs.Prelude.{true, false, ◌&&◌, not, Option, Some, List, if◌then◌else◌}
use Rattle.chi_observer.specs.declared.kinds.Snoop.{Snoop}
use Rattle.chi_observer.specs.declared.flits.Due.{Due}
use Rattle.chi_observer.specs.declared.flits.Stores.{Stores}
use Rattle.chi_observer.specs.declared.flits.HomeFlit.{HomeFlit}
use Rattle.chi_observer.specs.Copies.{holds_data, is_unique}
use Rattle.chi_observer.specs.Rules.{are_hidden, is_resending, is_due, needs_alone, makes, settles, due_granted, word_at}
use Rattle.chi_copies.specs.Copies.{Held, Copies, is_newer, same_held}
use Rattle.chi_copies.specs.Rules.{may_store, may_hide, granted, fills, shows, renews, waits_without_news}
use Rattle.chi_copies.specs.Worlds.{World, Words, Same, Shown, Gives, Informed, others_given, put}
use Rattle.chi_copies.specs.Observed.{Observed, Sound, Meaning, has_news, no_words, any_of, got, given_of, fits_home, takes_home, given}
use Rattle.chi_copies.specs.Laws.{MeaningComesByHome}
use Rattle.chi_copies.proofs.Finite.{no, left, right, both, implies, follow, or_right, by_truth, turned, flip, by_false, From, out_image}
use Rattle.chi_copies.proofs.Rows.{is_sane, same_held_is}
use Rattle.chi_copies.proofs.Means.{same_by, same_sym, same_trans, sane}
use Rattle.chi_copies.proofs.Put.{here, there, split}
use Rattle.chi_copies.proofs.Grants.{makes_newer, settles_none, fills_data, keeps_stored, newer_behind}
use Rattle.chi_copies.proofs.Given.{implied, not_left, shown_kept, shown_is, no_data, unhide, may, due, fitting, shows_some, renews_not, filled_shown, filled_else, renewed_alone, settles_not}
use Rattle.chi_copies.proofs.Top.{pick, some_last, last_current, last_known, fits_same}
use Rattle.chi_copies.proofs.Safe.{then_is, else_is, fit_or}

module _ (o : Observed) (g : HomeFlit) (sound : Sound o) (low : g.agent.0 < 32) (takes : takes_home o g ≡ true) (w' : World) (m : Meaning (given o g) w') where
  abbrev n : ℕ
  n = g.agent.0

  abbrev d : Due
  d = o.public.due n

  abbrev q : Option Snoop
  q = o.public.snooped n

  abbrev S : Copies
  S = o.may n

  abbrev z : Stores
  z = o.public.stores

  abbrev then_else : ℕ → Copies
  then_else i = given_of g o.public (o.may i)

  abbrev to : Held → Held
  to h = granted g.grant d h

  is : is_due g.grant d (o.public.snooped n) ≡ true
  is = due o g sound low (may o g sound low takes)

  -- the copies before
  came : From (λ h k. same_held (granted g.grant (o.public.due g.agent.0) h) k) S (w'.state n)
  came = out_image (λ h k. same_held (granted g.grant (o.public.due g.agent.0) h) k) S (w'.state n) (subst (λ X. X (w'.state n) ≡ true) (here n (got o g) then_else) (m.copies n low))

  abbrev h : Held
  h = came.held

  to_is : to h ≡ w'.state n
  to_is = same_held_is (to h) (w'.state n) came.leads

  abbrev leading : ℕ → Copies
  leading i k = o.may i k && same_held (others_given g o.public k) (w'.state i)

  abbrev before_of : ℕ → Held
  before_of i = (pick (leading i)).0

  leads_else : (i : ℕ) → i ≢ n → i < 32 → leading i (before_of i) ≡ true
  leads_else i e l = (pick (leading i)).1 (subst (λ X. X (w'.state i) ≡ true) (there n (got o g) then_else i e) (m.copies i l))

  abbrev states : ℕ → Held
  states = put n h before_of

  at : states n ≡ h
  at = here n h before_of

  other : (i : ℕ) → i ≢ n → states i ≡ before_of i
  other i e = there n h before_of i e

  all : (i : ℕ) → i < 32 → o.may i (states i) ≡ true
  all = split (λ i. i < 32 → o.may i (states i) ≡ true) n (λ _. subst (λ k. S k ≡ true) (sym at) came.has)
      (λ i e l. subst (λ k. o.may i k ≡ true) (sym (other i e)) (left (o.may i (before_of i)) _ (leads_else i e l)))

  others_are : (i : ℕ) → i ≢ n → i < 32 → others_given g o.public (states i) ≡ w'.state i
  others_are i e l = subst (λ k. others_given g o.public k ≡ w'.state i) (sym (other i e)) (same_held_is (others_given g o.public (before_of i)) (w'.state i) (right (o.may i (before_of i)) _ (leads_else i e l)))

  others_kept : renews g.grant d ≡ false → (i : ℕ) → i ≢ n → i < 32 → states i ≡ w'.state i
  others_kept r i e l = sym (shown_kept (renews g.grant d) (states i) r) ∙ others_are i e l

  -- the value before: any that fits where it is new
  abbrev last_before : Words
  last_before = if renews g.grant d then some_last o states w'.home else w'.last

  last_new : renews g.grant d ≡ true → last_before ≡ some_last o states w'.home
  last_new r = then_is (renews g.grant d) (some_last o states w'.home) w'.last r

  last_old : renews g.grant d ≡ false → last_before ≡ w'.last
  last_old r = else_is (renews g.grant d) (some_last o states w'.home) w'.last r

  abbrev old : World
  old = record { state = states; words = put n last_before w'.words; last = last_before; home = w'.home }

  -- the home's words
  home_shown : any_of S (shows g.grant) ≡ true → Same w'.home (word_at g.shown)
  home_shown e = m.home g.shown (then_is (any_of S (shows g.grant)) (Some g.shown) o.home e)

  home_before : (v : List ℕ) → o.home ≡ Some v → Same w'.home (word_at v)
  home_before v x = by_truth (any_of S (shows g.grant))
      (λ e. same_trans _ _ _ (home_shown e) (fits_same o.home g.shown v (fit_or (any_of S (shows g.grant)) (fits_home o.home g.shown) (fitting o g sound low takes) e) x))
      (λ e. m.home v (else_is (any_of S (shows g.grant)) (Some g.shown) o.home e ∙ x))

  informed_before : Informed g old
  informed_before e = home_shown (shows_some o g sound low (may o g sound low takes) h came.has (subst (λ k. shows g.grant k ≡ true) at e))

  -- WHAT IS MEANT
  words_before : (i : ℕ) → i < 32 → holds_data (states i).copy ≡ true → Same (put n last_before w'.words i) last_before
  words_before = split (λ i. i < 32 → holds_data (states i).copy ≡ true → Same (put n last_before w'.words i) last_before) n
      (λ _ _. same_by _ _ (here n last_before w'.words))
      (λ i e l x.
      let r : renews g.grant d ≡ false = by_false (renews g.grant d) (λ r. sym (no_data (states i).copy (renewed_alone o g sound low takes r i e l (states i) (all i l))) ∙ x) in
      same_trans _ _ _ (same_by _ _ (there n last_before w'.words i e)) (same_trans _ _ _ (m.words i l (subst (λ (k : Held). holds_data k.copy ≡ true) (others_kept r i e l) x)) (same_by _ _ (sym (last_old r)))))

  shown_then : renews g.grant d ≡ false → Shown old → Shown w'
  shown_then r shown = split (λ i. i < 32 → (w'.state i).stored ≡ false) n
      (λ l. ap (λ (k : Held). k.stored) (sym to_is) ∙ keeps_stored g.grant d q is h r ∙ ap (λ (k : Held). k.stored) (sym at) ∙ shown n l)
      (λ i e l. ap (λ (k : Held). k.stored) (sym (others_kept r i e l)) ∙ shown i l)

  current_before : Shown old → Same w'.home last_before
  current_before shown = by_truth (renews g.grant d)
      (λ r. same_trans _ _ _ (last_current o states w'.home shown) (same_by _ _ (sym (last_new r))))
      (λ r. same_trans _ _ _ (m.current (shown_then r shown)) (same_by _ _ (sym (last_old r))))

  -- a copy with the known words is left so
  news_at : renews g.grant d ≡ false → (k : Held) → S k ≡ true → has_news o.public n k ≡ true → (is_newer (to k) && not (may_hide z (due_granted g.grant d) (to k))) ≡ true
  news_at r k x e =
      let newer : is_newer k ≡ true = left (is_newer k) _ e in
      let reads : implies (waits_without_news d) k.cancelled ≡ true = implied (waits_without_news d) k.cancelled (λ i. by_truth k.cancelled (λ c. c) (λ c. no (sym (sound.seen n low i k x c) ∙ newer))) in
      let waits : implies (not (is_resending d)) (not k.cancelled) ≡ true = implied (not (is_resending d)) (not k.cancelled) (λ i. flip _ (sound.waits n low (turned _ i) k x)) in
      let facts = newer_behind g.grant d q is k (both (is_sane k) _ (sane o sound n low k x) (both (is_newer k) _ newer (both (not (renews g.grant d)) _ (flip _ r) (both (implies (waits_without_news d) k.cancelled) _ reads waits)))) in
      both (is_newer (to k)) _ (left (is_newer (to k)) _ facts)
      (unhide (are_hidden z) (may_store d k) (may_store (due_granted g.grant d) (to k)) (follow (not (may_store d k)) _ (right (is_newer (to k)) _ facts)) (right (is_newer k) _ e))

  news_is : renews g.grant d ≡ false → (i : ℕ) → i < 32 → has_news o.public i (states i) ≡ true → has_news (given o g).public i (w'.state i) ≡ true
  news_is r = split (λ i. i < 32 → has_news o.public i (states i) ≡ true → has_news (given o g).public i (w'.state i) ≡ true) n
      (λ _ e. subst (λ k. has_news (given o g).public n k ≡ true) to_is (subst (λ D. (is_newer (to h) && not (may_hide z D (to h))) ≡ true) (sym (here n (due_granted g.grant d) o.public.due))
      (news_at r h came.has (subst (λ k. has_news o.public n k ≡ true) at e))))
      (λ i x l e. subst (λ D. (is_newer (w'.state i) && not (may_hide z D (w'.state i))) ≡ true) (sym (there n (due_granted g.grant d) o.public.due i x))
      (subst (λ k. has_news o.public i k ≡ true) (others_kept r i x l) e))

  news_before : (i : ℕ) → i < 32 → has_news o.public i (states i) ≡ true → (p : ℕ) → p < 8 → (v : ℕ) → o.news p ≡ Some v → last_before p ≡ v
  news_before i l e p lp v x = by_truth (renews g.grant d)
      (λ r. ap (λ (u : Words). u p) (last_new r) ∙ last_known o states w'.home i l e p v x)
      (λ r. ap (λ (u : Words). u p) (last_old r) ∙ m.news i l (news_is r i l e) p lp v (ap (λ (u : ℕ → Option ℕ). u p) (else_is (makes g.grant d) no_words o.news (not_left (makes g.grant d) _ r)) ∙ x))

  meant_before : Meaning o old
  meant_before = record { copies = all; words = words_before; home = home_before; current = current_before; news = news_before }

  -- HOW IT IS LEFT
  data_at : holds_data (w'.state n).copy ≡ true → holds_data (to h).copy ≡ true
  data_at = subst (λ (k : Held). holds_data k.copy ≡ true) (sym to_is)

  last_home : Shown w' → Same w'.last w'.home
  last_home shown = same_sym _ _ (m.current shown)

  filled_then : fills g.grant h ≡ true → Shown w'
  filled_then f =
      let r : renews g.grant d ≡ false = turned _ (right (shows g.grant h) _ (right (holds_data (to h).copy) _ (fills_data g.grant d q is h f))) in
      split (λ i. i < 32 → (w'.state i).stored ≡ false) n
      (λ _. ap (λ (k : Held). k.stored) (sym to_is) ∙ keeps_stored g.grant d q is h r ∙ filled_shown o g sound low takes h came.has f)
      (λ i e l. ap (λ (k : Held). k.stored) (sym (others_kept r i e l)) ∙ filled_else o g sound low takes h came.has f i e l (states i) (all i l))

  settled_then : settles g.grant d ≡ true → Shown w'
  settled_then s = split (λ i. i < 32 → (w'.state i).stored ≡ false) n
      (λ _. ap (λ (k : Held). k.stored) (sym to_is) ∙ turned _ (right (not (holds_data (to h).copy)) _ (right (not (makes g.grant d)) _ (right (needs_alone g.grant d) _ (settles_none g.grant d q is h s)))))
      (λ i e l. ap (λ (k : Held). k.stored) (sym (others_are i e l) ∙ shown_is (renews g.grant d) (states i) (or_right (makes g.grant d) (settles g.grant d) s)))

  words_left : holds_data (w'.state n).copy ≡ true → makes g.grant d ≡ false → Same (w'.words n) (if fills g.grant (states n) then word_at g.shown else put n last_before w'.words n)
  words_left e mf = by_truth (fills g.grant (states n))
      (λ f. let f' : fills g.grant h ≡ true = subst (λ k. fills g.grant k ≡ true) at f in
      same_trans _ _ _ (m.words n low e) (same_trans _ _ _ (last_home (filled_then f')) (same_trans _ _ _
      (home_shown (shows_some o g sound low (may o g sound low takes) h came.has (left (shows g.grant h) _ (right (holds_data (to h).copy) _ (fills_data g.grant d q is h f')))))
      (same_by _ _ (sym (then_is (fills g.grant (states n)) (word_at g.shown) (put n last_before w'.words n) f))))))
      (λ f. same_trans _ _ _ (m.words n low e) (same_by _ _ (sym (else_is (fills g.grant (states n)) (word_at g.shown) (put n last_before w'.words n) f ∙ here n last_before w'.words
      ∙ last_old (renews_not o g sound low (may o g sound low takes) mf (settles_not o g sound low takes h (data_at e)))))))

  last_left : makes g.grant d ≡ false → Same w'.last (if settles g.grant d then w'.home else last_before)
  last_left mf = by_truth (settles g.grant d)
      (λ s. same_trans _ _ _ (last_home (settled_then s)) (same_by _ _ (sym (then_is (settles g.grant d) w'.home last_before s))))
      (λ sf. same_by _ _ (sym (else_is (settles g.grant d) w'.home last_before sf ∙ last_old (renews_not o g sound low (may o g sound low takes) mf sf))))

  gives_before : Gives o.public g old w'
  gives_before = record {
    state = sym to_is ∙ ap (λ (k : Held). granted g.grant (o.public.due g.agent.0) k) (sym at);
    home = refl;
    words = words_left;
    last = last_left;
    made = λ e. m.words n low (subst (λ (k : Held). holds_data k.copy ≡ true) to_is (left (holds_data (to h).copy) _ (right (is_unique (to h).copy) _ (makes_newer g.grant d q is h e))));
    others = record { state = λ i l e. sym (others_are i e l); words = λ i l e. sym (there n last_before w'.words i e) };
  }

pub home_comes : MeaningComesByHome
home_comes o g w' sound low takes m = record {
  before = old o g sound low takes w' m;
  meant = meant_before o g sound low takes w' m;
  informed = informed_before o g sound low takes w' m;
  gives = gives_before o g sound low takes w' m;
}
