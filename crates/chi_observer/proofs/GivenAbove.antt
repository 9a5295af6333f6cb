-- Behind a flit of the home, what an observer of a tail keeps stands above what an observer of the whole keeps.
use Rattle.std.proofs.Common.{◌≡◌, ◌≢◌, ◌⊎◌, inl, inr, ℕ, ◌<◌, List, refl, sym, ap, subst, ◌∙◌}
use Rattle.std.specs.Prelude.{Bool, true, false, ◌&&◌, ◌||◌, ◌==◌, not, nat_lt, Option, Some, None, if◌then◌else◌}
use Rattle.chi_observer.specs.declared.kinds.Snoop.{Snoop}
use Rattle.chi_observer.specs.declared.kinds.Snoop.TheVariants.{SnpOnce}
use Rattle.chi_observer.specs.declared.told.Told.{Told}
use Rattle.chi_observer.specs.declared.flits.Due.{Due}
use Rattle.chi_observer.specs.declared.flits.Stores.{Stores}
use Rattle.chi_observer.specs.declared.flits.Grant.{Grant}
use Rattle.chi_observer.specs.declared.flits.Grant.TheVariants.{RetryAck, Snp, CompData, CompUC, CompSC, CompI, CompDBIDResp}
use Rattle.chi_observer.specs.declared.flits.HomeFlit.{HomeFlit}
use Rattle.chi_observer.specs.declared.flits.Flit.TheVariants.{Down}
use Rattle.chi_observer.specs.declared.begun.Certainty.{Certainty}
use Rattle.chi_observer.specs.declared.begun.AgentBegun.{AgentBegun}
use Rattle.chi_observer.specs.Copies.{compatible, is_dirty, is_unique, same}
use Rattle.chi_observer.specs.Copies.Copy.{Invalid}
use Rattle.chi_observer.specs.Judged.{is_judged}
use Rattle.chi_observer.specs.Rules.{are_hidden, awaits_moment, due_granted, gives_copy, is_busy, is_due, makes, may_be_free, needs_alone, needs_duty, needs_moment, needs_overwriter, needs_quiet, overwrites, reads_once, settles, snooped_granted}
use Rattle.chi_observer.specs.Tables.{Known, fills_told, most, shows_told, strongest, told_by, told_granted}
use Rattle.chi_observer.specs.Worlds.{all_below, home_may, is_overwritten, put}
use Rattle.chi_observer.specs.Observed.{Observed, fits, goes, is_beside, next_home, takes_home}
use Rattle.chi_observer.specs.Moments.{has_moment, is_moment, may_be_dirty, may_be_stored, shown_after, tells_of, waits_after}
use Rattle.chi_observer.specs.Lines.{Watched, is_taken, watch}
use Rattle.chi_observer.specs.Begun.{Beginning, begun_after, certainty_given, due_kept, due_supposed, forgotten, grant_shows_older, is_left_over, kept, kept_in, known_kept, leaves_alone, left_over, mark_behind, marks_beside, receiver, supposed_in, supposed_of, takes_begun, told_kept, told_supposed, words_behind}
use Rattle.chi_observer.proofs.Finite.{no, left, right, both, implies, follow}
use Rattle.chi_observer.proofs.Facts.{and_false, flip, implied, same_truth, same_truth_is, turned}
use Rattle.chi_observer.proofs.Put.{alike, differ, here, there, split, unlike}
use Rattle.chi_observer.proofs.Copies.{below_all, each_below, goes_else, gone_else}
use Rattle.chi_observer.proofs.Waits.{grant_keeps, joined, some_waits}
use Rattle.chi_observer.proofs.Below.{IsBelow, dirty_at, implies_self, moment_below, or_first, stored_at, tells_none}
use Rattle.chi_observer.proofs.Supposed.{holds_by, is_alone, is_calmer, is_open_clean, may_stand, same_told, same_told_is}
use Rattle.chi_observer.proofs.Addressed.{alone_beside, due_to, fills_unique, given_alike, given_calm, given_told, gives_beside, gives_well, keeps_beside, keeps_calm, keeps_gone, may_give, none_open, told_to}
use Rattle.chi_observer.proofs.Above.{Above, Both, IsAbove, Well, beside_above, both_here, both_of, both_there, put_over, put_twice, told_so}
use Rattle.chi_observer.proofs.Sending.{told_known}
use Rattle.chi_observer.proofs.Giving.{busy_less, cancel_less, dirty_before, dirty_less, due_same, due_snooped, either, filled_by, fits_kept, moment_sent, needed_less, needed_more, not_more, over_more, plain_due, plain_given, resending_so, shown_fills, snoop_quiet, snooped_same, true_implies, uncancelled, value_less, words_given}
use Rattle.chi_observer.proofs.SentAbove.{not_dirty}

module _ (s : Watched) (b : Beginning) (f : HomeFlit) (above : Above s b) (well : Well s) (low : f.agent.0 < 32) (taken : is_taken s (Down f) ≡ true) (fresh : is_left_over (b.mark f.agent.0) (Down f) ≡ false) where
  abbrev n : ℕ
  n = f.agent.0

  abbrev g : Grant
  g = f.grant

  abbrev k : AgentBegun
  k = b.mark n

  abbrev c : Certainty
  c = k.copy

  abbrev asked : Bool
  asked = k.asked

  abbrev bz : Stores
  bz = b.seen.seen.public.stores

  abbrev z : Stores
  z = s.seen.public.stores

  abbrev d : Due
  d = s.seen.public.due n

  abbrev bd : Due
  bd = b.seen.seen.public.due n

  abbrev q : Option Snoop
  q = s.seen.public.snooped n

  abbrev bq : Option Snoop
  bq = b.seen.seen.public.snooped n

  abbrev t : Known
  t = s.seen.told n

  abbrev bt : Known
  bt = b.seen.seen.told n

  own : IsAbove (both_of s b n)
  own = above.agents n low

  timed_here : has_moment s.seen s.shown f ≡ true
  timed_here = left _ _ (right (nat_lt n 32) _ (right (is_judged (Down f)) _ taken))

  taken_here : takes_home s.seen f ≡ true
  taken_here = right (has_moment s.seen s.shown f) _ (right (nat_lt n 32) _ (right (is_judged (Down f)) _ taken))

  may_here : home_may s.seen.public f ≡ true
  may_here = left _ _ taken_here

  due_here : is_due g d q ≡ true
  due_here = left _ _ may_here

  shows_here : (not (shows_told g t) || fits s.seen.home f.shown) ≡ true
  shows_here = left _ _ (right (home_may s.seen.public f) _ taken_here)

  fills_here : (not (fills_told g t) || s.seen.current) ≡ true
  fills_here = left _ (goes s.seen f) (right (not (shows_told g t) || fits s.seen.home f.shown) _ (right (home_may s.seen.public f) _ taken_here))

  -- what is supposed
  abbrev e : Due
  e = due_to asked d

  abbrev u : Known
  u = record { told = told_to c asked g d t.told; cancelled = bt.cancelled }

  abbrev d2 : Due
  d2 = due_supposed k (Down f) bd

  abbrev t2 : Known
  t2 = told_supposed k (Down f) bd bt

  due_is : d2 ≡ e
  due_is = by asked bd d own.due
    where
      by : (asked : Bool) (e d : Due) → e ≡ (if asked then left_over else d) → (if asked then left_over else e) ≡ (if asked then left_over else d)
      by true e d h = refl
      by false e d h = h

  told_is : t2 ≡ u
  told_is = λ i. record { told = (ap (λ (v : Due). supposed_of c bt.told (receiver g v)) own.due ∙ told_known c t.told (receiver g e) bt.told own.told) i; cancelled = bt.cancelled }

  may : may_give c asked g d t ≡ true
  may = both (may_stand c asked d t.told) _ own.stands (both (holds_by (is_open_clean d) d t) _ (well.holds n low) (flip (asked && not (needs_quiet g)) (plain_given k g fresh)))

  facts : (given_alike asked g d q && (given_told c asked g d t.told && given_calm c asked g d t.told)) ≡ true
  facts = gives_well c asked g d q t due_here may

  alike_facts : given_alike asked g d q ≡ true
  alike_facts = left _ _ facts

  told_facts : given_told c asked g d t.told ≡ true
  told_facts = left _ (given_calm c asked g d t.told) (right (given_alike asked g d q) _ facts)

  calm_facts : given_calm c asked g d t.told ≡ true
  calm_facts = right (given_told c asked g d t.told) _ (right (given_alike asked g d q) _ facts)

  abbrev of_makes : Bool
  of_makes = same_truth (makes g e) (makes g d)

  abbrev of_settles : Bool
  of_settles = same_truth (settles g e) (settles g d)

  abbrev of_alone : Bool
  of_alone = same_truth (needs_alone g e) (needs_alone g d)

  abbrev of_moment : Bool
  of_moment = implies (needs_moment g e) (not asked && needs_moment g d)

  alike2 : (is_due g e None && (of_makes && (of_settles && (of_alone && of_moment)))) ≡ true
  alike2 = right (is_due g e q) _ alike_facts

  alike3 : (of_makes && (of_settles && (of_alone && of_moment))) ≡ true
  alike3 = right (is_due g e None) _ alike2

  alike4 : (of_settles && (of_alone && of_moment)) ≡ true
  alike4 = right of_makes _ alike3

  alike5 : (of_alone && of_moment) ≡ true
  alike5 = right of_settles _ alike4

  makes_same : makes g e ≡ makes g d
  makes_same = same_truth_is (makes g e) (makes g d) (left of_makes _ alike3)

  settles_same : settles g e ≡ settles g d
  settles_same = same_truth_is (settles g e) (settles g d) (left of_settles _ alike4)

  alone_same : needs_alone g e ≡ needs_alone g d
  alone_same = same_truth_is (needs_alone g e) (needs_alone g d) (left of_alone _ alike5)

  abbrev of_shows : Bool
  of_shows = implies (shows_told g u) (shows_told g t)

  abbrev of_fills : Bool
  of_fills = implies (fills_told g u) (fills_told g t)

  abbrev of_told : Bool
  of_told = same_told (told_kept (certainty_given c g e) (told_by g e u.told)) (told_kept (certainty_given c g e) (told_by g d t.told))

  abbrev of_one : Bool
  of_one = implies (is_alone (told_by g e u.told)) (is_alone (told_by g d t.told))

  abbrev of_stands : Bool
  of_stands = may_stand (certainty_given c g e) asked (due_granted g d) (told_by g d t.told)

  told2_facts : (of_fills && (of_told && (of_one && of_stands))) ≡ true
  told2_facts = right of_shows _ told_facts

  told3_facts : (of_told && (of_one && of_stands)) ≡ true
  told3_facts = right of_fills _ told2_facts

  told4_facts : (of_one && of_stands) ≡ true
  told4_facts = right of_told _ told3_facts

  shows_less : implies (shows_told g u) (shows_told g t) ≡ true
  shows_less = left of_shows _ told_facts

  fills_less : implies (fills_told g u) (fills_told g t) ≡ true
  fills_less = left of_fills _ told2_facts

  -- IT IS TAKEN
  abbrev seen2 : Observed
  seen2 = (supposed_in n b (Down f)).seen

  due_all : (m : ℕ) → m < 32 → seen2.public.due m ≡ due_to (b.mark m).asked (s.seen.public.due m)
  due_all = split (λ m. m < 32 → seen2.public.due m ≡ due_to (b.mark m).asked (s.seen.public.due m)) n
      (λ l. here n d2 b.seen.seen.public.due ∙ due_is)
      (λ m apart l. there n d2 b.seen.seen.public.due m apart ∙ (above.agents m l).due)

  due_at2 : seen2.public.due n ≡ e
  due_at2 = here n d2 b.seen.seen.public.due ∙ due_is

  told_at2 : seen2.told n ≡ u
  told_at2 = here n t2 b.seen.seen.told ∙ told_is

  quiet_here : (not (needs_quiet g) || all_below 32 (λ m. not (is_busy (seen2.public.due m)))) ≡ true
  quiet_here = needed_more (needs_quiet g) (all_below 32 (λ m. not (is_busy (s.seen.public.due m)))) _
      (implied _ _ (λ h. below_all 32 (λ m. not (is_busy (seen2.public.due m))) (λ m l. ap (λ (v : Due). not (is_busy v)) (due_all m l) ∙ busy_less (b.mark m).asked (s.seen.public.due m) (each_below 32 (λ m. not (is_busy (s.seen.public.due m))) h m l))))
      (left _ (not (needs_overwriter g) || is_overwritten s.seen.public n) (right (not (needs_duty g) || s.seen.public.duty) _ (right (is_due g d q) _ may_here)))

  over_here : (not (needs_overwriter g) || is_overwritten seen2.public n) ≡ true
  over_here = needed_more (needs_overwriter g) (is_overwritten s.seen.public n) _
      (implied _ _ (not_more (all_below 32 (λ m. m == n || not (overwrites (s.seen.public.due m)))) (all_below 32 (λ m. m == n || not (overwrites (seen2.public.due m))))
      (λ h. below_all 32 (λ m. m == n || not (overwrites (s.seen.public.due m))) (λ m l. over_more (m == n) (b.mark m).asked (s.seen.public.due m)
      (ap (λ (v : Due). m == n || not (overwrites v)) (sym (due_all m l)) ∙ each_below 32 (λ m. m == n || not (overwrites (seen2.public.due m))) h m l)))))
      (right (not (needs_quiet g) || all_below 32 (λ m. not (is_busy (s.seen.public.due m)))) _ (right (not (needs_duty g) || s.seen.public.duty) _ (right (is_due g d q) _ may_here)))

  may_now : home_may seen2.public f ≡ true
  may_now = both (is_due g (seen2.public.due n) bq) _
      (ap (λ (v : Due). is_due g v bq) due_at2 ∙ due_snooped g e q bq k.snooped own.snooped (left (is_due g e q) _ alike_facts) (left (is_due g e None) _ alike2))
      (both (not (needs_duty g) || b.seen.seen.public.duty) _
      (needed_more (needs_duty g) s.seen.public.duty b.seen.seen.public.duty above.duty (left _ _ (right (is_due g d q) _ may_here)))
      (both (not (needs_quiet g) || all_below 32 (λ m. not (is_busy (seen2.public.due m)))) _ quiet_here over_here))

  shows_now : (not (shows_told g (seen2.told n)) || fits b.seen.seen.home f.shown) ≡ true
  shows_now = ap (λ (v : Known). not (shows_told g v) || fits b.seen.seen.home f.shown) told_at2
      ∙ fits_kept b.seen.seen.home s.seen.home (shows_told g u) (shows_told g t) f.shown shows_less (λ v h. (above.words v h).0) shows_here

  fills_now : (not (fills_told g (seen2.told n)) || b.seen.seen.current) ≡ true
  fills_now = ap (λ (v : Known). not (fills_told g v) || b.seen.seen.current) told_at2
      ∙ needed_more (fills_told g u) s.seen.current b.seen.seen.current above.current (needed_less (fills_told g u) (fills_told g t) s.seen.current fills_less fills_here)

  beside_else : (m : ℕ) → m < 32 → m ≢ n → is_beside (told_granted g e u) (needs_alone g e) (b.seen.seen.told m) ≡ true
  beside_else m l apart =
      let it = above.agents m l in
      both (compatible (strongest (told_by g e u.told)) (most (b.seen.seen.told m))) _
      (ap (λ (v : Told). compatible (strongest (told_by g e u.told)) (strongest v)) it.told
      ∙ keeps_beside (strongest (told_by g e u.told)) (b.mark m).copy (b.mark m).asked (s.seen.public.due m) (s.seen.told m).told it.stands
      (gives_beside c asked g d q t (most (s.seen.told m)) due_here may (goes_else s.seen f well.sound low taken_here m apart l)))
      (alone_else (needs_alone g e) refl)
    where
      alone_else : (v : Bool) → needs_alone g e ≡ v → (not v || same (most (b.seen.seen.told m)) Invalid) ≡ true
      alone_else false h = refl
      alone_else true h = ap (λ (w : Told). same (strongest w) Invalid) (above.agents m l).told
          ∙ right _ _ (keeps_gone (b.mark m).copy (b.mark m).asked (s.seen.public.due m) (s.seen.told m).told (above.agents m l).stands (gone_else s.seen f well.sound low taken_here (sym alone_same ∙ h) m apart l))

  goes_now : goes seen2 f ≡ true
  goes_now = below_all 32 (λ m. m == n || is_beside (told_granted g (seen2.public.due n) (seen2.told n)) (needs_alone g (seen2.public.due n)) (seen2.told m))
      (λ m l. beside_it (m == n) _ (λ h. let apart : m ≢ n = differ m n h in
      (λ i. is_beside (told_granted g (due_at2 i) (told_at2 i)) (needs_alone g (due_at2 i)) (there n t2 b.seen.seen.told m apart i)) ∙ beside_else m l apart))
    where
      beside_it : (e v : Bool) → (e ≡ false → v ≡ true) → (e || v) ≡ true
      beside_it true v h = refl
      beside_it false v h = h refl

  timed_now : has_moment seen2 (put n (b.seen.shown n || asked) b.seen.shown) f ≡ true
  timed_now = by (needs_moment g (seen2.public.due n)) refl
    where
      needed : (v w : Bool) → (not v || w) ≡ true → v ≡ true → w ≡ true
      needed true w h e = h
      needed false w h e = no e

      not_false : (a : Bool) → not a ≡ true → a ≡ false
      not_false true h = no h
      not_false false h = refl

      by : (v : Bool) → needs_moment g (seen2.public.due n) ≡ v → (not v || put n (b.seen.shown n || asked) b.seen.shown n) ≡ true
      by false h = refl
      by true h =
          let facts = follow (needs_moment g e) _ (right of_alone _ alike5) (sym (ap (needs_moment g) due_at2) ∙ h) in
          let needs : needs_moment g d ≡ true = right (not asked) _ facts in
          here n (b.seen.shown n || asked) b.seen.shown ∙ or_first (b.seen.shown n) asked
          (above.shown n low (not_false asked (left (not asked) _ facts)) (resending_so d t (well.holds n low) (moment_sent g d needs)) (needed (needs_moment g d) (s.shown n) timed_here needs))

  or_there : (a b : Bool) → b ≡ true → (a || b) ≡ true
  or_there true b h = refl
  or_there false b h = h

  pub given_taken : takes_begun b (Down f) ≡ true
  given_taken = both (nat_lt n 32) _ low_here (or_there (is_left_over k (Down f)) _
      (both (is_judged (Down f)) _ (left _ _ taken) (both (nat_lt n 32) _ low_here (both (has_moment seen2 (put n (b.seen.shown n || asked) b.seen.shown) f) _ timed_now
      (both (home_may seen2.public f) _ may_now (both (not (shows_told g (seen2.told n)) || fits b.seen.seen.home f.shown) _ shows_now
      (both (not (fills_told g (seen2.told n)) || b.seen.seen.current) _ fills_now goes_now)))))))
    where
      low_here : nat_lt n 32 ≡ true
      low_here = left (nat_lt n 32) _ (right (is_judged (Down f)) _ taken)

  -- WHAT IS KEPT
  abbrev mk : AgentBegun
  mk = mark_behind k (Down f) e

  abbrev told3 : Known
  told3 = told_granted g e u

  abbrev seen3 : Observed
  seen3 = record {
    public = record { stores = bz; due = put n (due_granted g e) b.seen.seen.public.due; snooped = put n (snooped_granted g bq) b.seen.seen.public.snooped; duty = b.seen.seen.public.duty && not (needs_duty g); thrown = b.seen.seen.public.thrown && not (makes g e || settles g e) };
    told = put n told3 b.seen.seen.told;
    home = if shows_told g u then Some f.shown else b.seen.seen.home;
    current = settles g e || (b.seen.seen.current && not (makes g e));
  }

  seen_is : next_home seen2 f ≡ seen3
  seen_is = λ i. record {
    public = record {
      stores = bz;
      due = put_over n (λ v. due_granted g v) d2 e b.seen.seen.public.due due_at2 i;
      snooped = put n (snooped_granted g bq) b.seen.seen.public.snooped;
      duty = b.seen.seen.public.duty && not (needs_duty g);
      thrown = b.seen.seen.public.thrown && not (makes g (due_at2 i) || settles g (due_at2 i));
    };
    told = tolds i;
    home = if shows_told g (told_at2 i) then Some f.shown else b.seen.seen.home;
    current = settles g (due_at2 i) || (b.seen.seen.current && not (makes g (due_at2 i)));
  }
    where
      tolds : put n (told_granted g (seen2.public.due n) (seen2.told n)) (put n t2 b.seen.seen.told) ≡ put n told3 b.seen.seen.told
      tolds = (λ i. put n (told_granted g (due_at2 i) (told_at2 i)) (put n t2 b.seen.seen.told)) ∙ put_twice n told3 t2 b.seen.seen.told

  abbrev shown2 : ℕ → Bool
  shown2 = put n (b.seen.shown n || asked) b.seen.shown

  abbrev waits3 : Bool
  waits3 = waits_after seen3 (Down f) b.seen.waits

  abbrev alone3 : Bool
  alone3 = leaves_alone (Down f) e (told_by g e u.told)

  abbrev home3 : Option (List ℕ)
  home3 = words_behind (Down f) b.seen.seen.home (if shows_told g u then Some f.shown else b.seen.seen.home)

  abbrev kept3 : Beginning
  kept3 = record {
    seen = record {
      seen = record {
        public = record { stores = bz; due = put n (due_kept mk (due_granted g e)) b.seen.seen.public.due; snooped = put n (snooped_granted g bq) b.seen.seen.public.snooped; duty = b.seen.seen.public.duty && not (needs_duty g); thrown = b.seen.seen.public.thrown && not (makes g e || settles g e) };
        told = put n (known_kept mk told3) b.seen.seen.told;
        home = home3;
        current = (settles g e || (b.seen.seen.current && not (makes g e))) || false;
      };
      waits = waits3;
      shown = λ m. waits3 && shown_after seen3 (Down f) shown2 m;
    };
    mark = put n mk (marks_beside alone3 b.mark);
  }

  abbrev kept_from : Due → Observed → Beginning
  kept_from v o = kept n k (Down f) v bq b.seen.seen.home (record { seen = o; waits = waits_after o (Down f) b.seen.waits; shown = λ m. waits_after o (Down f) b.seen.waits && shown_after o (Down f) shown2 m }) b.mark

  kept_is : kept_from e seen3 ≡ kept3
  kept_is = λ i. record {
    seen = record {
      seen = record {
        public = record { stores = bz; due = put_over n (λ v. due_kept mk v) (due_granted g e) (due_granted g e) b.seen.seen.public.due (here n (due_granted g e) b.seen.seen.public.due) i; snooped = put n (snooped_granted g bq) b.seen.seen.public.snooped; duty = b.seen.seen.public.duty && not (needs_duty g); thrown = b.seen.seen.public.thrown && not (makes g e || settles g e) };
        told = put_over n (λ v. known_kept mk v) told3 told3 b.seen.seen.told (here n told3 b.seen.seen.told) i;
        home = home3;
        current = (settles g e || (b.seen.seen.current && not (makes g e))) || false;
      };
      waits = waits3;
      shown = λ m. waits3 && shown_after seen3 (Down f) shown2 m;
    };
    mark = put n mk (marks_beside (leaves_alone (Down f) e (here n told3 b.seen.seen.told i).told) b.mark);
  }

  pub given_kept : begun_after b (Down f) ≡ kept3
  given_kept = ap (λ (v : Bool). if v then forgotten n b else kept_in n b (Down f)) fresh ∙ (λ i. kept_from (own.due i) (seen_is i)) ∙ kept_is

  module _ (after : Well (watch s (Down f))) where
    abbrev s2 : Watched
    s2 = watch s (Down f)

    abbrev told2 : Known
    told2 = told_granted g d t

    -- THE AGENT
    abbrev receiver2 : Both
    receiver2 = record { mark = mk; due = due_granted g d; snooped = snooped_granted g q; told = told2; kept_due = due_kept mk (due_granted g e); kept_snooped = snooped_granted g bq; kept_told = known_kept mk told3 }

    plain : needs_quiet g ≡ false → asked ≡ false
    plain h = by asked (needs_quiet g) (plain_given k g fresh) h
      where
        by : (v w : Bool) → (v && not w) ≡ false → w ≡ false → v ≡ false
        by false w h e = refl
        by true true h e = no (sym e)
        by true false h e = no (sym h)

    receiver_above : IsAbove receiver2
    receiver_above = record {
      due = due_same asked g d;
      snooped = snooped_same g k.snooped (is_due g e (Some SnpOnce)) q bq own.snooped
          (λ h o. none_open g d q due_here (ap (λ (v : Due). is_due g v (Some SnpOnce)) (sym (plain_due asked d (plain h))) ∙ o))
          (snoop_quiet g e);
      told = same_told_is _ _ (left of_told _ told3_facts);
      cancelled = cancel_less g bt.cancelled t.cancelled (not asked) own.cancelled;
      stands = right of_one _ told4_facts;
    }

    alone_gone : (m : ℕ) → m < 32 → m ≢ n → alone3 ≡ true → same (strongest (s.seen.told m).told) Invalid ≡ true
    alone_gone m l apart h = by (three _ _ (needs_alone g e) h)
      where
        three : (v w r : Bool) → (v || (w || r)) ≡ true → ((v || w) ≡ true) ⊎ (r ≡ true)
        three true w r h = inl refl
        three false true r h = inl refl
        three false false r h = inr h

        by : (is_alone (told_by g e u.told) ≡ true) ⊎ (needs_alone g e ≡ true) → same (strongest (s.seen.told m).told) Invalid ≡ true
        by (inl v) = alone_beside (told_by g d t.told) (s.seen.told m).told (follow (is_alone (told_by g e u.told)) _ (left of_one _ told4_facts) v) (goes_else s.seen f well.sound low taken_here m apart l)
        by (inr v) = gone_else s.seen f well.sound low taken_here (sym alone_same ∙ v) m apart l

    agents_above : (m : ℕ) → m < 32 → IsAbove (both_of s2 kept3 m)
    agents_above = split (λ m. m < 32 → IsAbove (both_of s2 kept3 m)) n
        (λ l. both_here n receiver2 (marks_beside alone3 b.mark) s.seen.public.due s.seen.public.snooped s.seen.told b.seen.seen.public.due b.seen.seen.public.snooped b.seen.seen.told receiver_above)
        (λ m apart l. both_there n receiver2 (marks_beside alone3 b.mark) s.seen.public.due s.seen.public.snooped s.seen.told b.seen.seen.public.due b.seen.seen.public.snooped b.seen.seen.told m apart
        (beside_above alone3 (b.mark m) (s.seen.public.due m) (s.seen.public.snooped m) (s.seen.told m) (b.seen.seen.public.due m) (b.seen.seen.public.snooped m) (b.seen.seen.told m) (alone_gone m l apart) (above.agents m l)))

    -- THE VALUE
    current_less : implies (settles g d || (s.seen.current && not (makes g d))) (settles g e || (b.seen.seen.current && not (makes g e))) ≡ true
    current_less = (λ i. implies (settles g d || (s.seen.current && not (makes g d))) (settles_same i || (b.seen.seen.current && not (makes_same i))))
        ∙ value_less (settles g d) b.seen.seen.current s.seen.current (not (makes g d)) above.current

    words_less : (v : List ℕ) → home3 ≡ Some v → ((if shows_told g t then Some f.shown else s.seen.home) ≡ Some v) × (implies ((settles g e || (b.seen.seen.current && not (makes g e))) || false) (settles g d || (s.seen.current && not (makes g d))) ≡ true)
    words_less v h = subst (λ (w : Bool). ((if shows_told g t then Some f.shown else s.seen.home) ≡ Some v) × (implies w (settles g d || (s.seen.current && not (makes g d))) ≡ true))
        (sym (λ i. (settles_same i || (b.seen.seen.current && not (makes_same i))) || false))
        (words_given (grant_shows_older g) (shows_told g u) (shows_told g t) b.seen.seen.home s.seen.home f.shown v b.seen.seen.current s.seen.current (settles g d) (not (makes g d)) shows_less
        (λ o w. needed (fills_told g t) s.seen.current fills_here (follow (fills_told g u) _ fills_less (shown_fills g u o w)))
        above.words shows_here h)
      where
        needed : (v w : Bool) → (not v || w) ≡ true → v ≡ true → w ≡ true
        needed true w h e = h
        needed false w h e = no e

    -- MOMENTS
    mark_here : kept3.mark n ≡ mk
    mark_here = here n mk (marks_beside alone3 b.mark)

    asked_here : (kept3.mark n).asked ≡ false → asked ≡ false
    asked_here h = sym (ap (λ (j : AgentBegun). j.asked) mark_here) ∙ h

    asked_told : (alone : Bool) (j : AgentBegun) → (told_so alone j).asked ≡ j.asked
    asked_told true j = refl
    asked_told false j = refl

    asked_there : (m : ℕ) → m ≢ n → (kept3.mark m).asked ≡ (b.mark m).asked
    asked_there m apart = ap (λ (j : AgentBegun). j.asked) (there n mk (marks_beside alone3 b.mark) m apart) ∙ asked_told alone3 (b.mark m)

    due_at : (m : ℕ) → m < 32 → (kept3.mark m).asked ≡ false → seen3.public.due m ≡ s2.seen.public.due m
    due_at = split (λ m. m < 32 → (kept3.mark m).asked ≡ false → seen3.public.due m ≡ s2.seen.public.due m) n
        (λ l h. here n (due_granted g e) b.seen.seen.public.due ∙ ap (due_granted g) (plain_due asked d (asked_here h)) ∙ sym (here n (due_granted g d) s.seen.public.due))
        (λ m apart l h. there n (due_granted g e) b.seen.seen.public.due m apart
        ∙ (above.agents m l).due ∙ ap (λ (v : Bool). if v then left_over else s.seen.public.due m) (sym (asked_there m apart) ∙ h)
        ∙ sym (there n (due_granted g d) s.seen.public.due m apart))

    waited_at : (m : ℕ) → m < 32 → (kept3.mark m).asked ≡ false → awaits_moment (s2.seen.public.due m) ≡ true → b.seen.waits ≡ true
    waited_at = split (λ m. m < 32 → (kept3.mark m).asked ≡ false → awaits_moment (s2.seen.public.due m) ≡ true → b.seen.waits ≡ true) n
        (λ l h w. above.waits n l (asked_here h) (grant_keeps g d (sym (ap awaits_moment (here n (due_granted g d) s.seen.public.due)) ∙ w)))
        (λ m apart l h w. above.waits m l (sym (asked_there m apart) ∙ h) (sym (ap awaits_moment (there n (due_granted g d) s.seen.public.due m apart)) ∙ w))

    wakes_at : (m : ℕ) → m < 32 → (kept3.mark m).asked ≡ false → awaits_moment (s2.seen.public.due m) ≡ true → waits3 ≡ true
    wakes_at m l h w = joined false true b.seen.waits _ refl (λ _. waited_at m l h w)
        (some_waits (λ j. awaits_moment (seen3.public.due j)) m l (ap awaits_moment (due_at m l h) ∙ w))

    -- its agent's copy is calmer
    quiet_calm : fills_unique g d ≡ false → (v : Bool) → needs_quiet g ≡ v → is_calmer z (not v) (due_granted g d) (told_by g d t.told) (due_granted g e) (told_by g e u.told) ≡ true
    quiet_calm h false hv = both _ _ refl (dirty_less (is_dirty (strongest (told_by g d t.told))) (is_dirty (strongest (told_by g e u.told))) (subst (λ (w : Bool). (if w then not (may_be_free d) && (not (awaits_moment (due_granted g d)) && implies (is_dirty (strongest t.told)) (is_dirty (strongest (told_by g d t.told)))) else implies (is_dirty (strongest (told_by g e u.told))) (is_dirty (strongest (told_by g d t.told)))) ≡ true) h calm_facts))
    quiet_calm h true hv = snoop_calm g hv
      where
        snoop_calm : (g : Grant) → needs_quiet g ≡ true → is_calmer z false (due_granted g d) (told_by g d t.told) (due_granted g e) (told_by g e (supposed_of c t.told (receiver g e))) ≡ true
        snoop_calm (Snp x) h = right (is_calmer z false d t.told e (told_kept c t.told)) _ (keeps_calm z c asked false d t.told own.stands)
        snoop_calm RetryAck h = no h
        snoop_calm (CompData x) h = no h
        snoop_calm CompUC h = no h
        snoop_calm CompSC h = no h
        snoop_calm CompI h = no h
        snoop_calm CompDBIDResp h = no h

    calm_at : (m : ℕ) → m < 32 → fills_unique g d ≡ false → is_calmer z (tells_of (Down f) m) (s2.seen.public.due m) (s2.seen.told m).told (seen3.public.due m) (seen3.told m).told ≡ true
    calm_at = split (λ m. m < 32 → fills_unique g d ≡ false → is_calmer z (tells_of (Down f) m) (s2.seen.public.due m) (s2.seen.told m).told (seen3.public.due m) (seen3.told m).told ≡ true) n
        (λ l h. (λ i. is_calmer z (alike n i && not (needs_quiet g)) (here n (due_granted g d) s.seen.public.due i) (here n told2 s.seen.told i).told (here n (due_granted g e) b.seen.seen.public.due i) (here n told3 b.seen.seen.told i).told)
        ∙ quiet_calm h (needs_quiet g) refl)
        (λ m apart l h. (λ i. is_calmer z (tells_of (Down f) m) (there n (due_granted g d) s.seen.public.due m apart i) (there n told2 s.seen.told m apart i).told ((there n (due_granted g e) b.seen.seen.public.due m apart ∙ (above.agents m l).due) i) ((ap (λ (v : Known). v.told) (there n told3 b.seen.seen.told m apart) ∙ (above.agents m l).told) i))
        ∙ left _ _ (keeps_calm z (b.mark m).copy (b.mark m).asked (tells_of (Down f) m) (s.seen.public.due m) (s.seen.told m).told (above.agents m l).stands))

    calm_in : (m : ℕ) → m < 32 → fills_unique g d ≡ false → is_calmer bz (tells_of (Down f) m) (s2.seen.public.due m) (s2.seen.told m).told (seen3.public.due m) (seen3.told m).told ≡ true
    calm_in m l h = subst (λ (w : Stores). is_calmer w (tells_of (Down f) m) (s2.seen.public.due m) (s2.seen.told m).told (seen3.public.due m) (seen3.told m).told ≡ true) (sym above.stores) (calm_at m l h)

    below_here : (m : ℕ) → m < 32 → fills_unique g d ≡ false → (kept3.mark m).asked ≡ false → (s2.seen.told m).cancelled ≡ false → awaits_moment (s2.seen.public.due m) ≡ true → IsBelow (tells_of (Down f)) (tells_of (Down f)) s2.seen seen3 m
    below_here m l h ha hc w = record {
      reads = ap reads_once (sym (due_at m l ha));
      current = current_less;
      own = λ v. no (not_dirty (s2.seen.public.due m) (s2.seen.told m) (after.holds m l) w hc v);
      stored = λ j lj. subst (λ (w : Stores). implies (not (may_be_stored w (s2.seen.public.due j) (s2.seen.told j) (tells_of (Down f) j))) (not (may_be_stored bz (seen3.public.due j) (seen3.told j) (tells_of (Down f) j))) ≡ true) above.stores (left _ _ (calm_in j lj h));
      dirty = λ j lj _. subst (λ (w : Stores). implies (not (may_be_dirty w (s2.seen.public.due j) (s2.seen.told j) (tells_of (Down f) j))) (not (may_be_dirty bz (seen3.public.due j) (seen3.told j) (tells_of (Down f) j))) ≡ true) above.stores (right _ _ (calm_in j lj h));
    }

    -- behind data that make a copy unique there is a moment only where there was one before
    fill_facts : fills_unique g d ≡ true → (not (may_be_free d) && (not (awaits_moment (due_granted g d)) && implies (is_dirty (strongest t.told)) (is_dirty (strongest (told_by g d t.told))))) ≡ true
    fill_facts h = subst (λ (w : Bool). (if w then not (may_be_free d) && (not (awaits_moment (due_granted g d)) && implies (is_dirty (strongest t.told)) (is_dirty (strongest (told_by g d t.told)))) else implies (is_dirty (strongest (told_by g e u.told))) (is_dirty (strongest (told_by g d t.told)))) ≡ true) h calm_facts

    fill_stored : fills_unique g d ≡ true → stored_at tells_none s.seen n ≡ false
    fill_stored h = ap (λ (v : Bool). v && is_unique (most t)) (and_false (are_hidden z) (may_be_free d) (turned (may_be_free d) (left _ _ (fill_facts h))))

    fill_calm : fills_unique g d ≡ true → (m : ℕ) → m < 32 → (implies (not (stored_at (tells_of (Down f)) s2.seen m)) (not (stored_at tells_none s.seen m)) && implies (not (dirty_at (tells_of (Down f)) s2.seen m)) (not (dirty_at tells_none s.seen m))) ≡ true
    fill_calm h = split (λ m. m < 32 → (implies (not (stored_at (tells_of (Down f)) s2.seen m)) (not (stored_at tells_none s.seen m)) && implies (not (dirty_at (tells_of (Down f)) s2.seen m)) (not (dirty_at tells_none s.seen m))) ≡ true) n
        (λ l. both _ _ (true_implies (not (stored_at (tells_of (Down f)) s2.seen n)) _ (flip _ (fill_stored h)))
        (dirty_before (is_dirty (most (s2.seen.told n))) (is_dirty (most t)) (stored_at (tells_of (Down f)) s2.seen n) (stored_at tells_none s.seen n) (ap (λ (w : Known). implies (is_dirty (most t)) (is_dirty (most w))) (here n told2 s.seen.told) ∙ right _ _ (right (not (may_be_free d)) _ (fill_facts h))) (fill_stored h)))
        (λ m apart l. (λ i. implies (not (may_be_stored z (there n (due_granted g d) s.seen.public.due m apart i) (there n told2 s.seen.told m apart i) (unlike m n apart i && not (needs_quiet g)))) (not (stored_at tells_none s.seen m)) && implies (not (may_be_dirty z (there n (due_granted g d) s.seen.public.due m apart i) (there n told2 s.seen.told m apart i) (unlike m n apart i && not (needs_quiet g)))) (not (dirty_at tells_none s.seen m)))
        ∙ both _ _ (implies_self (not (stored_at tells_none s.seen m))) (implies_self (not (dirty_at tells_none s.seen m))))

    fill_current : fills_unique g d ≡ true → implies s2.seen.current s.seen.current ≡ true
    fill_current h = subst (λ (v : Bool). implies (v || (s.seen.current && not (makes g d))) s.seen.current ≡ true) (sym (filled_by g d (left (gives_copy g) _ h)).0) (by s.seen.current (not (makes g d)))
      where
        by : (c m : Bool) → implies (false || (c && m)) c ≡ true
        by true m = true_implies m true refl
        by false m = refl

    below_fill : (m : ℕ) → m ≢ n → fills_unique g d ≡ true → IsBelow (tells_of (Down f)) tells_none s2.seen s.seen m
    below_fill m apart h = record {
      reads = ap reads_once (there n (due_granted g d) s.seen.public.due m apart);
      current = fill_current h;
      own = λ v. or_first _ s.seen.current (sym (ap (λ (w : Known). is_dirty (most w)) (there n told2 s.seen.told m apart)) ∙ v);
      stored = λ j lj. left _ _ (fill_calm h j lj);
      dirty = λ j lj _. right _ _ (fill_calm h j lj);
    }

    shown_there : (m : ℕ) → m < 32 → m ≢ n → (kept3.mark m).asked ≡ false → (s2.seen.told m).cancelled ≡ false → s.shown m ≡ true → shown2 m ≡ true
    shown_there m l apart ha hc h = there n (b.seen.shown n || asked) b.seen.shown m apart
        ∙ above.shown m l (sym (asked_there m apart) ∙ ha) (sym (ap (λ (w : Known). w.cancelled) (there n told2 s.seen.told m apart)) ∙ hc) h

    shown_before : (m : ℕ) → m < 32 → (kept3.mark m).asked ≡ false → (s2.seen.told m).cancelled ≡ false → s.shown m ≡ true → shown2 m ≡ true
    shown_before = split (λ m. m < 32 → (kept3.mark m).asked ≡ false → (s2.seen.told m).cancelled ≡ false → s.shown m ≡ true → shown2 m ≡ true) n
        (λ l ha hc h. here n (b.seen.shown n || asked) b.seen.shown ∙ or_first (b.seen.shown n) asked
        (above.shown n l (asked_here ha) (uncancelled g d q t due_here (well.holds n low) (sym (ap (λ (w : Known). w.cancelled) (here n told2 s.seen.told)) ∙ hc)) h))
        (λ m apart l ha hc h. shown_there m l apart ha hc h)

    moment_fill : (m : ℕ) → m < 32 → fills_unique g d ≡ true → (kept3.mark m).asked ≡ false → (s2.seen.told m).cancelled ≡ false → awaits_moment (s2.seen.public.due m) ≡ true → is_moment s2.seen (Down f) m ≡ true → shown2 m ≡ true
    moment_fill = split (λ m. m < 32 → fills_unique g d ≡ true → (kept3.mark m).asked ≡ false → (s2.seen.told m).cancelled ≡ false → awaits_moment (s2.seen.public.due m) ≡ true → is_moment s2.seen (Down f) m ≡ true → shown2 m ≡ true) n
        (λ l h ha hc w v. no (sym (turned _ (left _ _ (right (not (may_be_free d)) _ (fill_facts h)))) ∙ sym (ap awaits_moment (here n (due_granted g d) s.seen.public.due)) ∙ w))
        (λ m apart l h ha hc w v. shown_there m l apart ha hc
        (well.still m l (sym (ap awaits_moment (there n (due_granted g d) s.seen.public.due m apart)) ∙ w) (moment_below (tells_of (Down f)) tells_none s2.seen s.seen m (below_fill m apart h) v)))

    shown_by : (m : ℕ) → m < 32 → (kept3.mark m).asked ≡ false → (s2.seen.told m).cancelled ≡ false → awaits_moment (s2.seen.public.due m) ≡ true
        → (s.shown m || is_moment s2.seen (Down f) m) ≡ true → (shown2 m || is_moment seen3 (Down f) m) ≡ true
    shown_by m l ha hc w h = by (either (s.shown m) (is_moment s2.seen (Down f) m) h) (fills_unique g d) refl
      where
        by : (s.shown m ≡ true) ⊎ (is_moment s2.seen (Down f) m ≡ true) → (fill : Bool) → fills_unique g d ≡ fill → (shown2 m || is_moment seen3 (Down f) m) ≡ true
        by (inl v) fill hf = or_first (shown2 m) _ (shown_before m l ha hc v)
        by (inr v) true hf = or_first (shown2 m) _ (moment_fill m l hf ha hc w v)
        by (inr v) false hf = or_there (shown2 m) _ (moment_below (tells_of (Down f)) (tells_of (Down f)) s2.seen seen3 m (below_here m l hf ha hc w) v)

    shown_at : (m : ℕ) → m < 32 → (kept3.mark m).asked ≡ false → (s2.seen.told m).cancelled ≡ false → s2.shown m ≡ true → kept3.seen.shown m ≡ true
    shown_at m l ha hc h =
        let rest = right (waits_after s2.seen (Down f) s.waits) _ h in
        let w : awaits_moment (s2.seen.public.due m) ≡ true = left _ _ rest in
        both waits3 _ (wakes_at m l ha w) (both (awaits_moment (seen3.public.due m)) _ (ap awaits_moment (due_at m l ha) ∙ w) (shown_by m l ha hc w (right (awaits_moment (s2.seen.public.due m)) _ rest)))

    duty_less : (v w x : Bool) → implies v w ≡ true → implies (v && x) (w && x) ≡ true
    duty_less true true x h = implies_self x
    duty_less true false x h = no h
    duty_less false w x h = refl

    kept_above : Above s2 kept3
    kept_above = record {
      stores = above.stores;
      agents = agents_above;
      duty = duty_less s.seen.public.duty b.seen.seen.public.duty (not (needs_duty g)) above.duty;
      current = or_false s2.seen.current _ current_less;
      words = words_less;
      waits = wakes_at;
      shown = shown_at;
    }
      where
        or_false : (v w : Bool) → implies v w ≡ true → implies v (w || false) ≡ true
        or_false true true h = refl
        or_false true false h = no h
        or_false false w h = refl

    pub given_above : Above s2 (begun_after b (Down f))
    given_above = subst (λ (v : Beginning). Above s2 v) (sym given_kept) kept_above
