-- Behind a flit of a cache, what an observer of a tail keeps stands above what an observer of the whole keeps.
use Rattle.std.proofs.Common.{◌≡◌, ◌≢◌, ◌⊎◌, inl, inr, ℕ, ◌<◌, List, refl, sym, ap, subst, ◌∙◌}
use Rattle.std.specs.Prelude.{Bool, true, false, ◌&&◌, ◌||◌, ◌==◌, not, nat_lt, Option, Some, None, if◌then◌else◌}
use Rattle.chi_observer.specs.declared.kinds.Snoop.{Snoop}
use Rattle.chi_observer.specs.declared.flits.Due.{Due}
use Rattle.chi_observer.specs.declared.flits.Stores.{Stores}
use Rattle.chi_observer.specs.declared.flits.Act.{Act}
use Rattle.chi_observer.specs.declared.flits.Act.TheVariants.{Request, Resend, SnpResp, CompAck, CopyBackWrData, NonCopyBackWrData, Load, Store}
use Rattle.chi_observer.specs.declared.flits.CacheFlit.{CacheFlit}
use Rattle.chi_observer.specs.declared.flits.Flit.TheVariants.{Up}
use Rattle.chi_observer.specs.declared.begun.Certainty.{Certainty}
use Rattle.chi_observer.specs.declared.begun.AgentBegun.{AgentBegun}
use Rattle.chi_observer.specs.Copies.{compatible, is_dirty, same}
use Rattle.chi_observer.specs.Copies.Copy.{Invalid}
use Rattle.chi_observer.specs.Judged.{is_judged}
use Rattle.chi_observer.specs.Rules.{allows, awaits_moment, due_after, has_data, has_word, hides_stores, is_request, lets_go, looks, opens_moment as opens_by, passes_duty, reads_any, reads_once, snooped_after, tells_words, throws}
use Rattle.chi_observer.specs.Tables.{Known, fits_told, is_cancelled, most, renews, strongest, told_after, told_behind}
use Rattle.chi_observer.specs.Worlds.{all_below, put}
use Rattle.chi_observer.specs.Observed.{Observed, current_after, differs, fits, fits_word, home_after, next, takes}
use Rattle.chi_observer.specs.Moments.{is_issue, is_moment, may_be_dirty, may_be_stored, shown_after, tells_of, waits_after}
use Rattle.chi_observer.specs.Lines.{Watched, is_taken, watch}
use Rattle.chi_observer.specs.Begun.{Beginning, act_left_over, asks, begun_after, blurs, certainty_sent, due_kept, due_supposed, forgotten, goes_beside, is_left_over, is_told, kept, kept_in, known_kept, leaves_alone, left_over, mark_behind, marks_beside, may_tell_stored, sender, stands, supposed_in, takes_begun, told_kept, told_supposed}
use Rattle.chi_observer.proofs.Finite.{no, left, right, both, implies, follow, all_dues, each_due}
use Rattle.chi_observer.proofs.Facts.{and_false, flip, implied, turned}
use Rattle.chi_observer.proofs.Words.{any_word}
use Rattle.chi_observer.proofs.Put.{alike, differ, here, there, split, unlike}
use Rattle.chi_observer.proofs.Copies.{below_all}
use Rattle.chi_observer.proofs.Waits.{act_opens, joined, some_waits}
use Rattle.chi_observer.proofs.Below.{IsBelow, dirty_at, implies_self, moment_below, or_first, stored_at, tells_none}
use Rattle.chi_observer.proofs.Supposed.{answers, cancel_stays, cancels_more, due_in, fits_besides, gone_well, holds_by, is_alone, is_calmer, is_open_clean, known_in, loaded_well, may_stand, renews_besides, same_told, same_told_is, sends_well, sent_well, stands_well, told_in}
use Rattle.chi_observer.proofs.Addressed.{alone_beside, keeps_beside, keeps_calm}
use Rattle.chi_observer.proofs.Above.{Above, Both, IsAbove, Well, beside_above, both_here, both_of, both_there, put_over, put_twice, snooped_kept, told_so}
use Rattle.chi_observer.proofs.Sending.{allows_known, current_sent, differs_less, due_known, due_plain, goes_known, or_both, or_more, plain_left, quiet_less, quiet_looks, quiet_renews, renews_told, shown_kept, snoop_known, told_known, told_plain, unblurred, word_kept, words_left, words_sent}

-- which flits are taken, by what is kept of the sender
abbrev takes_by : Stores → CacheFlit → Option Snoop → Due → Known → Option (List ℕ) → Bool → Bool
takes_by z f q d t h c = allows f.act q && (fits_told z f.act (lets_go q) d t
    && ((not (has_data f.act) || (renews z f.act (lets_go q) d t || (not c || fits h f.shown))) && (reads_any z d (most t) || (not c || fits_word h f.act))))

-- SMALL FACTS
due_same : (asked : Bool) (a : Act) (d : Due) → (if asked && not (asks a) then left_over else due_after a (due_in asked a d)) ≡ (if asked && not (asks a) then left_over else due_after a d)
due_same false a d = refl
due_same true (Request k) d = refl
due_same true (Resend k) d = refl
due_same true (SnpResp y) d = refl
due_same true CompAck d = refl
due_same true (CopyBackWrData y) d = refl
due_same true NonCopyBackWrData d = refl
due_same true (Load word) d = refl
due_same true (Store word) d = refl

due_alike : (asked : Bool) (a : Act) (d : Due) → (asked && not (asks a)) ≡ false → due_after a (due_in asked a d) ≡ due_after a d
due_alike false a d h = refl
due_alike true (Request k) d h = refl
due_alike true (Resend k) d h = refl
due_alike true (SnpResp y) d h = no (sym h)
due_alike true CompAck d h = no (sym h)
due_alike true (CopyBackWrData y) d h = no (sym h)
due_alike true NonCopyBackWrData d h = no (sym h)
due_alike true (Load word) d h = no (sym h)
due_alike true (Store word) d h = no (sym h)

snooped_same : (k : AgentBegun) (a : Act) (q p : Option Snoop) → p ≡ snooped_kept k.snooped q → act_left_over k a ≡ false → snooped_after a p ≡ snooped_kept k.snooped (snooped_after a q)
snooped_same k (SnpResp y) q p h e = sym (ap (λ (b : Bool). snooped_kept b None) e)
snooped_same k (Request y) q p h e = h
snooped_same k (Resend y) q p h e = h
snooped_same k CompAck q p h e = h
snooped_same k (CopyBackWrData y) q p h e = h
snooped_same k NonCopyBackWrData q p h e = h
snooped_same k (Load word) q p h e = h
snooped_same k (Store word) q p h e = h

asks_opens : (a : Act) (d : Due) → asks a ≡ true → awaits_moment (due_after a d) ≡ true → opens_by a ≡ true
asks_opens (Request k) d h e = e
asks_opens (Resend k) d h e = e
asks_opens (SnpResp y) d h e = no h
asks_opens CompAck d h e = no h
asks_opens (CopyBackWrData y) d h e = no h
asks_opens NonCopyBackWrData d h e = no h
asks_opens (Load word) d h e = no h
asks_opens (Store word) d h e = no h

looks_only : (a : Act) → looks a ≡ true → (tells_words a ≡ false) × (asks a ≡ false)
looks_only (Load word) h = (refl, refl)
looks_only (Request k) h = no h
looks_only (Resend k) h = no h
looks_only (SnpResp y) h = no h
looks_only CompAck h = no h
looks_only (CopyBackWrData y) h = no h
looks_only NonCopyBackWrData h = no h
looks_only (Store word) h = no h

load_calm : (z : Stores) (a : Act) (x : Bool) (d : Due) (t : Known) (b : Bool) → looks a ≡ true → fits_told z a x d t ≡ true
    → (implies (not (may_be_stored z (due_after a d) (told_after a d t b) false)) (not (may_be_stored z d t false)) && implies (not (may_be_dirty z (due_after a d) (told_after a d t b) false)) (not (may_be_dirty z d t false))) ≡ true
load_calm z (Load word) x d t b h f = loaded_well (hides_stores z d) t.told f
load_calm z (Request k) x d t b h f = no h
load_calm z (Resend k) x d t b h f = no h
load_calm z (SnpResp y) x d t b h f = no h
load_calm z CompAck x d t b h f = no h
load_calm z (CopyBackWrData y) x d t b h f = no h
load_calm z NonCopyBackWrData x d t b h f = no h
load_calm z (Store word) x d t b h f = no h

clean_in : Due → Bool
clean_in d = implies (awaits_moment d) (is_open_clean d)

clean_holds : all_dues clean_in ≡ true
unfolding clean_in
clean_holds = refl

pub clean_open : (d : Due) → awaits_moment d ≡ true → is_open_clean d ≡ true
unfolding clean_in
clean_open d h = follow (awaits_moment d) _ (each_due clean_in clean_holds d) h

-- while a moment is awaited, of a request that isn't cancelled, its agent's copy isn't dirty
pub not_dirty : (d : Due) (t : Known) → holds_by (is_open_clean d) d t ≡ true → awaits_moment d ≡ true → t.cancelled ≡ false → is_dirty (most t) ≡ true → false ≡ true
not_dirty d t h w c e = sym (turned _ (follow (is_open_clean d && not t.cancelled) _ (left _ _ h) (both (is_open_clean d) _ (clean_open d w) (flip t.cancelled c)))) ∙ e

or_none : (a b : Bool) → (a || (b || false)) ≡ true → (a || b) ≡ true
or_none true b h = refl
or_none false true h = refl
or_none false false h = h

either : (a b : Bool) → (a || b) ≡ true → (a ≡ true) ⊎ (b ≡ true)
either true b h = inl refl
either false b h = inr h

not_false : (a : Bool) → not a ≡ true → a ≡ false
not_false true h = no h
not_false false h = refl

open_and : (a b c : Bool) → (a && b) ≡ true → (a && not b) ≡ false
open_and true true c h = refl
open_and true false c h = no h
open_and false b c h = refl

to_false : (b : Bool) → (b ≡ true → false ≡ true) → b ≡ false
to_false true h = no (h refl)
to_false false h = refl

module _ (s : Watched) (b : Beginning) (f : CacheFlit) (above : Above s b) (well : Well s) (low : f.agent.0 < 32) (taken : is_taken s (Up f) ≡ true) (fresh : is_left_over (b.mark f.agent.0) (Up f) ≡ false) where
  abbrev n : ℕ
  n = f.agent.0

  abbrev a : Act
  a = f.act

  abbrev k : AgentBegun
  k = b.mark n

  abbrev c : Certainty
  c = k.copy

  abbrev asked : Bool
  asked = k.asked

  abbrev z : Stores
  z = s.seen.public.stores

  abbrev bz : Stores
  bz = b.seen.seen.public.stores

  abbrev d : Due
  d = s.seen.public.due n

  abbrev bd : Due
  bd = b.seen.seen.public.due n

  abbrev q : Option Snoop
  q = s.seen.public.snooped n

  abbrev bq : Option Snoop
  bq = b.seen.seen.public.snooped n

  abbrev t : Known
  t = s.seen.told n

  abbrev bt : Known
  bt = b.seen.seen.told n

  -- whether the snoop lets dirty data be thrown away
  abbrev x : Bool
  x = lets_go q

  abbrev y : Bool
  y = lets_go bq

  own : IsAbove (both_of s b n)
  own = above.agents n low

  taken_here : takes s.seen f ≡ true
  taken_here = right (nat_lt n 32) _ (right (is_judged (Up f)) _ taken)

  fits_here : fits_told z a x d t ≡ true
  fits_here = left _ _ (right (allows a q) _ taken_here)

  words_here : ((not (has_data a) || (renews z a x d t || (not s.seen.current || fits s.seen.home f.shown))) && (reads_any z d (most t) || (not s.seen.current || fits_word s.seen.home a))) ≡ true
  words_here = right (fits_told z a x d t) _ (right (allows a q) _ taken_here)

  known_snoop : (answers a ≡ false) ⊎ (bq ≡ q)
  known_snoop = snoop_known k a q bq own.snooped fresh

  fits_y : fits_told z a y d t ≡ true
  fits_y = fits_besides z a x y d t (goes_known a q bq known_snoop) fits_here

  renews_y : renews z a y d t ≡ renews z a x d t
  renews_y = renews_besides z a x y d t (goes_known a q bq known_snoop) fits_here

  -- what is supposed
  abbrev e : Due
  e = due_in asked a d

  abbrev u : Known
  u = record { told = told_in c a t.told; cancelled = bt.cancelled }

  abbrev d2 : Due
  d2 = due_supposed k (Up f) bd

  abbrev t2 : Known
  t2 = told_supposed k (Up f) bd bt

  due_is : d2 ≡ e
  due_is = due_known asked a d bd own.due

  told_is : t2 ≡ u
  told_is = λ i. record { told = told_known c t.told (sender a) bt.told own.told i; cancelled = bt.cancelled }

  abbrev blurred : Bool
  blurred = blurs k (Up f) bq

  abbrev home2 : Option (List ℕ)
  home2 = words_left blurred b.seen.seen.home

  facts : sent_well z c asked a y d t ≡ true
  facts = sends_well z c asked a y d t (both (fits_told z a y d t) _ fits_y (both (may_stand c asked d t.told) _ own.stands (flip _ (plain_left k a fresh))))

  abbrev of_fits : Bool
  of_fits = fits_told z a y e (known_in c asked a t) && fits_told z a y e (record { told = told_in c a t.told; cancelled = false })

  abbrev of_renews : Bool
  of_renews = implies (not (tells_words a)) (implies (renews z a y e (known_in c asked a t)) (renews z a y d t))

  abbrev of_told : Bool
  of_told = same_told (told_kept (certainty_sent c a) (told_behind a e (told_in c a t.told))) (told_kept (certainty_sent c a) (told_behind a d t.told))

  abbrev of_alone : Bool
  of_alone = implies (is_alone (told_behind a e (told_in c a t.told))) (is_alone (told_behind a d t.told))

  abbrev of_calm : Bool
  of_calm = implies (not (looks a && asked)) (is_calmer z (not (looks a)) (due_after a d) (told_behind a d t.told) (due_after a e) (told_behind a e (told_in c a t.told)))

  abbrev of_stands : Bool
  of_stands = may_stand (certainty_sent c a) (asked && not (asks a)) (due_after a d) (told_behind a d t.told)

  facts2 : (of_renews && (of_told && (of_alone && (of_calm && of_stands)))) ≡ true
  facts2 = right of_fits _ facts

  facts3 : (of_told && (of_alone && (of_calm && of_stands))) ≡ true
  facts3 = right of_renews _ facts2

  facts4 : (of_alone && (of_calm && of_stands)) ≡ true
  facts4 = right of_told _ facts3

  facts5 : (of_calm && of_stands) ≡ true
  facts5 = right of_alone _ facts4

  -- IT IS TAKEN
  fits_by : (cancelled : Bool) → implies cancelled (t.cancelled && not asked) ≡ true → fits_told z a y e (record { told = told_in c a t.told; cancelled = cancelled }) ≡ true
  fits_by true h = subst (λ (v : Bool). fits_told z a y e (record { told = told_in c a t.told; cancelled = v }) ≡ true) h (left _ (fits_told z a y e (record { told = told_in c a t.told; cancelled = false })) (left of_fits _ facts))
  fits_by false h = right (fits_told z a y e (known_in c asked a t)) _ (left of_fits _ facts)

  fitting : fits_told z a y e u ≡ true
  fitting = fits_by bt.cancelled own.cancelled

  abbrev r : Bool
  r = renews z a y e u

  -- what was told of the sender is supposed, or the flit tells of no store
  known_so : blurred ≡ false → ((asked ≡ false) × (is_told c ≡ true)) ⊎ (may_tell_stored a y ≡ false)
  known_so h = unblurred asked (is_told c) (may_tell_stored a y) h

  renews_same : (asked ≡ false) × (is_told c ≡ true) → r ≡ renews z a x d t
  renews_same h = ap (λ (v : Due). renews z a y v u) (due_plain asked a d h.0) ∙ renews_told z a y d u t (told_plain c a t.told h.1) ∙ renews_y

  reads_same : (asked ≡ false) × (is_told c ≡ true) → reads_any z e (most u) ≡ reads_any z d (most t)
  reads_same h = (λ i. reads_any z (due_plain asked a d h.0 i) (strongest (told_plain c a t.told h.1 i)))

  shown_by_words : (v : List ℕ) → blurred ≡ false → b.seen.seen.home ≡ Some v → b.seen.seen.current ≡ true → has_data a ≡ true → r ≡ false → fits (Some v) f.shown ≡ true
  shown_by_words v hb hh hc hd hr =
      let known = above.words v hh in
      let current : s.seen.current ≡ true = follow b.seen.seen.current _ known.1 hc in
      shown_so (has_data a) (renews z a x d t) s.seen.current s.seen.home f.shown v
      (left _ (reads_any z d (most t) || (not s.seen.current || fits_word s.seen.home a)) words_here) hd (by (known_so hb)) current known.0
    where
      by : ((asked ≡ false) × (is_told c ≡ true)) ⊎ (may_tell_stored a y ≡ false) → renews z a x d t ≡ false
      by (inl h) = sym (renews_same h) ∙ hr
      by (inr h) = sym renews_y ∙ quiet_renews z a y d t h hd

      shown_so : (d r c : Bool) (o : Option (List ℕ)) (x v : List ℕ) → (not d || (r || (not c || fits o x))) ≡ true → d ≡ true → r ≡ false → c ≡ true → o ≡ Some v → fits (Some v) x ≡ true
      shown_so false r c o x v h e g k l = no e
      shown_so true true c o x v h e g k l = no (sym g)
      shown_so true false false o x v h e g k l = no k
      shown_so true false true o x v h e g k l = ap (λ (w : Option (List ℕ)). fits w x) (sym l) ∙ h

  read_by_words : (v : List ℕ) → blurred ≡ false → b.seen.seen.home ≡ Some v → b.seen.seen.current ≡ true → reads_any z e (most u) ≡ false → has_word a v ≡ true
  read_by_words v hb hh hc hr = by (known_so hb)
    where
      read_so : (r c : Bool) (o : Option (List ℕ)) → (r || (not c || fits_word o a)) ≡ true → r ≡ false → c ≡ true → o ≡ Some v → has_word a v ≡ true
      read_so true c o h g k l = no (sym g)
      read_so false false o h g k l = no k
      read_so false true o h g k l = ap (λ (w : Option (List ℕ)). fits_word w a) (sym l) ∙ h

      by : ((asked ≡ false) × (is_told c ≡ true)) ⊎ (may_tell_stored a y ≡ false) → has_word a v ≡ true
      by (inl h) = read_so (reads_any z d (most t)) s.seen.current s.seen.home (right (not (has_data a) || (renews z a x d t || (not s.seen.current || fits s.seen.home f.shown))) _ words_here)
          (sym (reads_same h) ∙ hr) (follow b.seen.seen.current _ (above.words v hh).1 hc) (above.words v hh).0
      by (inr h) = any_word a v (quiet_looks a y h)

  taken_so : takes_by z f bq e u home2 b.seen.seen.current ≡ true
  taken_so = both (allows a bq) _ (allows_known a q bq known_snoop (left _ _ taken_here)) (both (fits_told z a y e u) _ fitting
      (both (not (has_data a) || (r || (not b.seen.seen.current || fits home2 f.shown))) _
      (shown_kept blurred b.seen.seen.home b.seen.seen.current (has_data a) r f.shown shown_by_words)
      (word_kept blurred b.seen.seen.home b.seen.seen.current (reads_any z e (most u)) a read_by_words)))

  taken_is : takes (supposed_in n b (Up f)).seen f ≡ takes_by z f bq e u home2 b.seen.seen.current
  taken_is = (λ i. takes_by (above.stores i) f bq ((here n d2 b.seen.seen.public.due ∙ due_is) i) ((here n t2 b.seen.seen.told ∙ told_is) i) home2 b.seen.seen.current)

  stands_at : (m : ℕ) → m < 32 → (m == n || (compatible (strongest (sender a)) (strongest (b.seen.seen.told m).told) && (not false || same (strongest (b.seen.seen.told m).told) Invalid))) ≡ true
  stands_at m l = beside_it (m == n) _ (λ h. (λ i. compatible (strongest (sender a)) (strongest ((above.agents m l).told i)) && true)
      ∙ ap (λ (v : Bool). v && true) (keeps_beside (strongest (sender a)) (b.mark m).copy (b.mark m).asked (s.seen.public.due m) (s.seen.told m).told (above.agents m l).stands
      (stands_well z a x d t (s.seen.told m).told fits_here (well.sound.pairs n m low l (λ v. differ m n h (sym v))))))
    where
      beside_it : (e v : Bool) → (e ≡ false → v ≡ true) → (e || v) ≡ true
      beside_it true v h = refl
      beside_it false v h = h refl

  goes_here : goes_beside n (sender a) b.seen.seen ≡ true
  goes_here = below_all 32 (λ m. m == n || (compatible (strongest (sender a)) (strongest (b.seen.seen.told m).told) && (not false || same (strongest (b.seen.seen.told m).told) Invalid))) stands_at

  or_there : (a b : Bool) → b ≡ true → (a || b) ≡ true
  or_there true b h = refl
  or_there false b h = h

  pub sent_taken : takes_begun b (Up f) ≡ true
  sent_taken = both (nat_lt n 32) _ (left (nat_lt n 32) _ (right (is_judged (Up f)) _ taken)) (or_there (is_left_over k (Up f)) _
      (both (stands b (Up f)) _ (or_there (is_told c) _ goes_here)
      (both (is_judged (Up f)) _ (left _ _ taken) (both (nat_lt n 32) _ (left (nat_lt n 32) _ (right (is_judged (Up f)) _ taken)) (taken_is ∙ taken_so)))))

  -- WHAT IS KEPT
  abbrev differ3 : Bool
  differ3 = has_data a && (b.seen.seen.current && not (fits home2 f.shown))

  abbrev mk : AgentBegun
  mk = mark_behind k (Up f) bd

  abbrev told3 : Known
  told3 = told_after a e u differ3

  abbrev r3 : Bool
  r3 = renews bz a y e u

  abbrev thrown3 : Bool
  thrown3 = if tells_words a then false else b.seen.seen.public.thrown || throws a y

  abbrev seen3 : Observed
  seen3 = record {
    public = record { stores = bz; due = put n (due_after a e) b.seen.seen.public.due; snooped = put n (snooped_after a bq) b.seen.seen.public.snooped; duty = b.seen.seen.public.duty || passes_duty a; thrown = thrown3 };
    told = put n told3 b.seen.seen.told;
    home = home_after f home2;
    current = current_after f r3 b.seen.seen.current;
  }

  seen_is : next (supposed_in n b (Up f)).seen f ≡ seen3
  seen_is = λ i. record {
    public = record {
      stores = bz;
      due = put_over n (λ v. due_after a v) d2 e b.seen.seen.public.due (here n d2 b.seen.seen.public.due ∙ due_is) i;
      snooped = put n (snooped_after a bq) b.seen.seen.public.snooped;
      duty = b.seen.seen.public.duty || passes_duty a;
      thrown = thrown3;
    };
    told = tolds i;
    home = home_after f home2;
    current = current_after f (renews bz a y ((here n d2 b.seen.seen.public.due ∙ due_is) i) ((here n t2 b.seen.seen.told ∙ told_is) i)) b.seen.seen.current;
  }
    where
      tolds : put n (told_after a (put n d2 b.seen.seen.public.due n) (put n t2 b.seen.seen.told n) differ3) (put n t2 b.seen.seen.told) ≡ put n told3 b.seen.seen.told
      tolds = (λ i. put n (told_after a ((here n d2 b.seen.seen.public.due ∙ due_is) i) ((here n t2 b.seen.seen.told ∙ told_is) i) differ3) (put n t2 b.seen.seen.told))
          ∙ put_twice n told3 t2 b.seen.seen.told

  abbrev shown2 : ℕ → Bool
  shown2 = put n (b.seen.shown n || asked) b.seen.shown

  abbrev waits3 : Bool
  waits3 = waits_after seen3 (Up f) b.seen.waits

  abbrev alone3 : Bool
  alone3 = leaves_alone (Up f) bd (told_behind a e u.told)

  abbrev kept3 : Beginning
  kept3 = record {
    seen = record {
      seen = record {
        public = record { stores = bz; due = put n (due_kept mk (due_after a e)) b.seen.seen.public.due; snooped = put n (snooped_after a bq) b.seen.seen.public.snooped; duty = b.seen.seen.public.duty || passes_duty a; thrown = thrown3 };
        told = put n (known_kept mk told3) b.seen.seen.told;
        home = home_after f home2;
        current = current_after f r3 b.seen.seen.current || blurred;
      };
      waits = waits3;
      shown = λ m. waits3 && shown_after seen3 (Up f) shown2 m;
    };
    mark = put n mk (marks_beside alone3 b.mark);
  }

  abbrev kept_from : Observed → Beginning
  kept_from o = kept n k (Up f) bd bq b.seen.seen.home (record { seen = o; waits = waits_after o (Up f) b.seen.waits; shown = λ m. waits_after o (Up f) b.seen.waits && shown_after o (Up f) shown2 m }) b.mark

  kept_is : kept_from seen3 ≡ kept3
  kept_is = λ i. record {
    seen = record {
      seen = record {
        public = record { stores = bz; due = put_over n (λ v. due_kept mk v) (due_after a e) (due_after a e) b.seen.seen.public.due (here n (due_after a e) b.seen.seen.public.due) i; snooped = put n (snooped_after a bq) b.seen.seen.public.snooped; duty = b.seen.seen.public.duty || passes_duty a; thrown = thrown3 };
        told = put_over n (λ v. known_kept mk v) told3 told3 b.seen.seen.told (here n told3 b.seen.seen.told) i;
        home = home_after f home2;
        current = current_after f r3 b.seen.seen.current || blurred;
      };
      waits = waits3;
      shown = λ m. waits3 && shown_after seen3 (Up f) shown2 m;
    };
    mark = put n mk (marks_beside (leaves_alone (Up f) bd (here n told3 b.seen.seen.told i).told) b.mark);
  }

  pub sent_kept : begun_after b (Up f) ≡ kept3
  sent_kept = ap (λ (v : Bool). if v then forgotten n b else kept_in n b (Up f)) fresh ∙ ap kept_from seen_is ∙ kept_is

  module _ (after : Well (watch s (Up f))) where
    abbrev s2 : Watched
    s2 = watch s (Up f)

    abbrev differ2 : Bool
    differ2 = differs s.seen f

    abbrev told2 : Known
    told2 = told_after a d t differ2

    -- THE SENDER
    abbrev sender2 : Both
    sender2 = record { mark = mk; due = due_after a d; snooped = snooped_after a q; told = told2; kept_due = due_kept mk (due_after a e); kept_snooped = snooped_after a bq; kept_told = known_kept mk told3 }

    cancel_known : is_cancelled a e u differ3 ≡ true → (is_cancelled a d t differ2 && not (asked && not (asks a))) ≡ true
    cancel_known h = gone_well z a y d t c asked bt.cancelled differ2 fits_y own.cancelled
        (cancels_more a e u differ3 (differ2 && not blurred) (differs_less blurred b.seen.seen.home s.seen.home b.seen.seen.current s.seen.current (has_data a) f.shown above.words) h)

    sender_above : IsAbove sender2
    sender_above = record {
      due = due_same asked a d;
      snooped = snooped_same k a q bq own.snooped fresh;
      told = same_told_is _ _ (left of_told _ facts3);
      cancelled = implied (is_cancelled a e u differ3) _ cancel_known;
      stands = right of_calm _ facts5;
    }

    alone_gone : (m : ℕ) → m < 32 → m ≢ n → alone3 ≡ true → same (strongest (s.seen.told m).told) Invalid ≡ true
    alone_gone m l apart h = alone_beside (told_behind a d t.told) (s.seen.told m).told
        (follow (is_alone (told_behind a e (told_in c a t.told))) _ (left of_alone _ facts4) (or_none _ _ h))
        (sym (λ i. compatible (most (here n told2 s.seen.told i)) (most (there n told2 s.seen.told m apart i))) ∙ after.sound.pairs n m low l (λ v. apart (sym v)))

    agents_above : (m : ℕ) → m < 32 → IsAbove (both_of s2 kept3 m)
    agents_above = split (λ m. m < 32 → IsAbove (both_of s2 kept3 m)) n
        (λ l. both_here n sender2 (marks_beside alone3 b.mark) s.seen.public.due s.seen.public.snooped s.seen.told b.seen.seen.public.due b.seen.seen.public.snooped b.seen.seen.told sender_above)
        (λ m apart l. both_there n sender2 (marks_beside alone3 b.mark) s.seen.public.due s.seen.public.snooped s.seen.told b.seen.seen.public.due b.seen.seen.public.snooped b.seen.seen.told m apart
        (beside_above alone3 (b.mark m) (s.seen.public.due m) (s.seen.public.snooped m) (s.seen.told m) (b.seen.seen.public.due m) (b.seen.seen.public.snooped m) (b.seen.seen.told m) (alone_gone m l apart) (above.agents m l)))

    -- THE VALUE
    renews_less : tells_words a ≡ false → implies r3 (renews z a x d t) ≡ true
    renews_less h = subst (λ (v : Bool). implies v (renews z a x d t) ≡ true) (sym (ap (λ (w : Stores). renews w a y e u) above.stores ∙ renews_told z a y e u (known_in c asked a t) refl))
        (subst (λ (v : Bool). implies (renews z a y e (known_in c asked a t)) v ≡ true) renews_y (follow (not (tells_words a)) _ (left of_renews _ facts2) (flip (tells_words a) h)))

    current_less : implies (current_after f (renews z a x d t) s.seen.current) (current_after f r3 b.seen.seen.current) ≡ true
    current_less = current_sent b.seen.seen.current s.seen.current (tells_words a) r3 (renews z a x d t) above.current renews_less

    stored_less : blurred ≡ false → r3 ≡ false → renews z a x d t ≡ false
    stored_less hb hr = by (known_so hb)
      where
        still : r ≡ false
        still = sym (ap (λ (w : Stores). renews w a y e u) above.stores) ∙ hr

        by : ((asked ≡ false) × (is_told c ≡ true)) ⊎ (may_tell_stored a y ≡ false) → renews z a x d t ≡ false
        by (inl h) = sym (renews_same h) ∙ still
        by (inr h) = sym renews_y ∙ quiet_less z a y d e t u h still

    -- MOMENTS
    mark_here : kept3.mark n ≡ mk
    mark_here = here n mk (marks_beside alone3 b.mark)

    asked_told : (alone : Bool) (j : AgentBegun) → (told_so alone j).asked ≡ j.asked
    asked_told true j = refl
    asked_told false j = refl

    asked_there : (m : ℕ) → m ≢ n → (kept3.mark m).asked ≡ (b.mark m).asked
    asked_there m apart = ap (λ (j : AgentBegun). j.asked) (there n mk (marks_beside alone3 b.mark) m apart) ∙ asked_told alone3 (b.mark m)

    -- what is due of an agent, but of a request from before
    due_at : (m : ℕ) → m < 32 → (kept3.mark m).asked ≡ false → seen3.public.due m ≡ s2.seen.public.due m
    due_at = split (λ m. m < 32 → (kept3.mark m).asked ≡ false → seen3.public.due m ≡ s2.seen.public.due m) n
        (λ l h. here n (due_after a e) b.seen.seen.public.due ∙ due_alike asked a d (sym (ap (λ (j : AgentBegun). j.asked) mark_here) ∙ h) ∙ sym (here n (due_after a d) s.seen.public.due))
        (λ m apart l h. there n (due_after a e) b.seen.seen.public.due m apart
        ∙ (above.agents m l).due ∙ ap (λ (v : Bool). if v then left_over else s.seen.public.due m) (sym (asked_there m apart) ∙ h)
        ∙ sym (there n (due_after a d) s.seen.public.due m apart))

    opened_by : (asked2 : Bool) → asked ≡ asked2 → (asked && not (asks a)) ≡ false → awaits_moment (due_after a d) ≡ true → (opens_by a ≡ true) ⊎ (b.seen.waits ≡ true)
    opened_by true ha h w = inl (asks_opens a d (not_false_is (asks a) (ap (λ (v : Bool). v && not (asks a)) (sym ha) ∙ h)) w)
      where
        not_false_is : (v : Bool) → (true && not v) ≡ false → v ≡ true
        not_false_is true h = refl
        not_false_is false h = no (sym h)
    opened_by false ha h w = by (either (opens_by a) (awaits_moment d) (act_opens a d w))
      where
        by : (opens_by a ≡ true) ⊎ (awaits_moment d ≡ true) → (opens_by a ≡ true) ⊎ (b.seen.waits ≡ true)
        by (inl g) = inl g
        by (inr g) = inr (above.waits n low ha g)

    opened_at : (m : ℕ) → m < 32 → (kept3.mark m).asked ≡ false → awaits_moment (s2.seen.public.due m) ≡ true → (opens_by a ≡ true) ⊎ (b.seen.waits ≡ true)
    opened_at = split (λ m. m < 32 → (kept3.mark m).asked ≡ false → awaits_moment (s2.seen.public.due m) ≡ true → (opens_by a ≡ true) ⊎ (b.seen.waits ≡ true)) n
        (λ l h w. opened_by asked refl (sym (ap (λ (j : AgentBegun). j.asked) mark_here) ∙ h) (sym (ap awaits_moment (here n (due_after a d) s.seen.public.due)) ∙ w))
        (λ m apart l h w. inr (above.waits m l (sym (asked_there m apart) ∙ h) (sym (ap awaits_moment (there n (due_after a d) s.seen.public.due m apart)) ∙ w)))

    wakes_at : (m : ℕ) → m < 32 → (kept3.mark m).asked ≡ false → awaits_moment (s2.seen.public.due m) ≡ true → waits3 ≡ true
    wakes_at m l h w = by (opened_at m l h w)
      where
        more : not (all_below 32 (λ j. not (awaits_moment (seen3.public.due j)))) ≡ true
        more = some_waits (λ j. awaits_moment (seen3.public.due j)) m l (ap awaits_moment (due_at m l h) ∙ w)

        by : (opens_by a ≡ true) ⊎ (b.seen.waits ≡ true) → waits3 ≡ true
        by (inl g) = or_first (opens_by a) _ g
        by (inr g) = joined (opens_by a) true b.seen.waits _ (or_last (opens_by a)) (λ _. g) more
          where
            or_last : (v : Bool) → (v || true) ≡ true
            or_last true = refl
            or_last false = refl

    calm_at : (m : ℕ) → m < 32 → (looks a && asked) ≡ false → is_calmer z (tells_of (Up f) m) (s2.seen.public.due m) (s2.seen.told m).told (seen3.public.due m) (seen3.told m).told ≡ true
    calm_at = split (λ m. m < 32 → (looks a && asked) ≡ false → is_calmer z (tells_of (Up f) m) (s2.seen.public.due m) (s2.seen.told m).told (seen3.public.due m) (seen3.told m).told ≡ true) n
        (λ l h. (λ i. is_calmer z (alike n i && not (looks a)) (here n (due_after a d) s.seen.public.due i) (here n told2 s.seen.told i).told (here n (due_after a e) b.seen.seen.public.due i) (here n told3 b.seen.seen.told i).told)
        ∙ follow (not (looks a && asked)) _ (left of_calm _ facts5) (flip (looks a && asked) h))
        (λ m apart l h. (λ i. is_calmer z (tells_of (Up f) m) (there n (due_after a d) s.seen.public.due m apart i) (there n told2 s.seen.told m apart i).told ((there n (due_after a e) b.seen.seen.public.due m apart ∙ (above.agents m l).due) i) ((ap (λ (v : Known). v.told) (there n told3 b.seen.seen.told m apart) ∙ (above.agents m l).told) i))
        ∙ left _ _ (keeps_calm z (b.mark m).copy (b.mark m).asked (tells_of (Up f) m) (s.seen.public.due m) (s.seen.told m).told (above.agents m l).stands))

    calm_in : (m : ℕ) → m < 32 → (looks a && asked) ≡ false → is_calmer bz (tells_of (Up f) m) (s2.seen.public.due m) (s2.seen.told m).told (seen3.public.due m) (seen3.told m).told ≡ true
    calm_in m l h = subst (λ (w : Stores). is_calmer w (tells_of (Up f) m) (s2.seen.public.due m) (s2.seen.told m).told (seen3.public.due m) (seen3.told m).told ≡ true) (sym above.stores) (calm_at m l h)

    -- a moment of the whole is one of the tail
    below_here : (m : ℕ) → m < 32 → (looks a && asked) ≡ false → (kept3.mark m).asked ≡ false → (s2.seen.told m).cancelled ≡ false → awaits_moment (s2.seen.public.due m) ≡ true → IsBelow (tells_of (Up f)) (tells_of (Up f)) s2.seen seen3 m
    below_here m l h ha hc w = record {
      reads = ap reads_once (sym (due_at m l ha));
      current = current_less;
      own = λ v. no (not_dirty (s2.seen.public.due m) (s2.seen.told m) (after.holds m l) w hc v);
      stored = λ j lj. subst (λ (w : Stores). implies (not (may_be_stored w (s2.seen.public.due j) (s2.seen.told j) (tells_of (Up f) j))) (not (may_be_stored bz (seen3.public.due j) (seen3.told j) (tells_of (Up f) j))) ≡ true) above.stores (left _ _ (calm_in j lj h));
      dirty = λ j lj _. subst (λ (w : Stores). implies (not (may_be_dirty w (s2.seen.public.due j) (s2.seen.told j) (tells_of (Up f) j))) (not (may_be_dirty bz (seen3.public.due j) (seen3.told j) (tells_of (Up f) j))) ≡ true) above.stores (right _ _ (calm_in j lj h));
    }

    -- behind a load of a copy there is a moment only where there was one before
    load_tells : looks a ≡ true → (m : ℕ) → tells_of (Up f) m ≡ false
    load_tells h m = and_false (m == n) _ (ap not h)

    load_stored : looks a ≡ true → (m : ℕ) → m < 32 → (implies (not (stored_at (tells_of (Up f)) s2.seen m)) (not (stored_at tells_none s.seen m)) && implies (not (dirty_at (tells_of (Up f)) s2.seen m)) (not (dirty_at tells_none s.seen m))) ≡ true
    load_stored h m l = subst (λ (v : Bool). (implies (not (may_be_stored z (s2.seen.public.due m) (s2.seen.told m) v)) (not (stored_at tells_none s.seen m)) && implies (not (may_be_dirty z (s2.seen.public.due m) (s2.seen.told m) v)) (not (dirty_at tells_none s.seen m))) ≡ true) (sym (load_tells h m))
        (split (λ m. (implies (not (may_be_stored z (s2.seen.public.due m) (s2.seen.told m) false)) (not (stored_at tells_none s.seen m)) && implies (not (may_be_dirty z (s2.seen.public.due m) (s2.seen.told m) false)) (not (dirty_at tells_none s.seen m))) ≡ true) n
        ((λ i. implies (not (may_be_stored z (here n (due_after a d) s.seen.public.due i) (here n told2 s.seen.told i) false)) (not (stored_at tells_none s.seen n)) && implies (not (may_be_dirty z (here n (due_after a d) s.seen.public.due i) (here n told2 s.seen.told i) false)) (not (dirty_at tells_none s.seen n)))
        ∙ load_calm z a x d t differ2 h fits_here)
        (λ m apart. (λ i. implies (not (may_be_stored z (there n (due_after a d) s.seen.public.due m apart i) (there n told2 s.seen.told m apart i) false)) (not (stored_at tells_none s.seen m)) && implies (not (may_be_dirty z (there n (due_after a d) s.seen.public.due m apart i) (there n told2 s.seen.told m apart i) false)) (not (dirty_at tells_none s.seen m)))
        ∙ both _ _ (implies_self (not (stored_at tells_none s.seen m))) (implies_self (not (dirty_at tells_none s.seen m)))) m)

    load_current : looks a ≡ true → implies s2.seen.current s.seen.current ≡ true
    load_current h = subst (λ (v : Bool). implies (if v then true else (if renews z a x d t then false else s.seen.current)) s.seen.current ≡ true) (sym (looks_only a h).0) (by (renews z a x d t) s.seen.current)
      where
        by : (r c : Bool) → implies (if r then false else c) c ≡ true
        by true c = refl
        by false c = implies_self c

    below_load : (m : ℕ) → m ≢ n → looks a ≡ true → IsBelow (tells_of (Up f)) tells_none s2.seen s.seen m
    below_load m apart h = record {
      reads = ap reads_once (there n (due_after a d) s.seen.public.due m apart);
      current = load_current h;
      own = λ v. or_first _ s.seen.current (sym (ap (λ (w : Known). is_dirty (most w)) (there n told2 s.seen.told m apart)) ∙ v);
      stored = λ j lj. left _ _ (load_stored h j lj);
      dirty = λ j lj _. right _ _ (load_stored h j lj);
    }

    issue_there : (m : ℕ) → m ≢ n → not (is_issue (Up f) m) ≡ true
    issue_there m apart = ap (λ (v : Bool). not v) (and_false (is_request a) (m == n) (unlike m n apart))

    shown_there : (m : ℕ) → m < 32 → m ≢ n → (kept3.mark m).asked ≡ false → (s2.seen.told m).cancelled ≡ false → s.shown m ≡ true → shown2 m ≡ true
    shown_there m l apart ha hc h = there n (b.seen.shown n || asked) b.seen.shown m apart
        ∙ above.shown m l (sym (asked_there m apart) ∙ ha) (sym (ap (λ (w : Known). w.cancelled) (there n told2 s.seen.told m apart)) ∙ hc) h

    issued_here : not (is_issue (Up f) n) ≡ true → is_request a ≡ false
    issued_here h = not_false (is_request a) (sym (ap (λ (v : Bool). not v) (ap (λ (v : Bool). is_request a && v) (alike n) ∙ and_true (is_request a))) ∙ h)
      where
        and_true : (v : Bool) → (v && true) ≡ v
        and_true true = refl
        and_true false = refl

    shown_of_own : (asked2 : Bool) → asked ≡ asked2 → is_cancelled a d t differ2 ≡ false → is_request a ≡ false → s.shown n ≡ true → (b.seen.shown n || asked2) ≡ true
    shown_of_own true ha hc hi h = or_last (b.seen.shown n)
      where
        or_last : (v : Bool) → (v || true) ≡ true
        or_last true = refl
        or_last false = refl
    shown_of_own false ha hc hi h = or_first (b.seen.shown n) false (above.shown n low ha (to_false t.cancelled (λ v. sym hc ∙ cancel_stays z a x d t differ2 fits_here (well.holds n low) (both t.cancelled _ v (flip (is_request a) hi)))) h)

    shown_before : (m : ℕ) → m < 32 → (kept3.mark m).asked ≡ false → (s2.seen.told m).cancelled ≡ false → not (is_issue (Up f) m) ≡ true → s.shown m ≡ true → shown2 m ≡ true
    shown_before = split (λ m. m < 32 → (kept3.mark m).asked ≡ false → (s2.seen.told m).cancelled ≡ false → not (is_issue (Up f) m) ≡ true → s.shown m ≡ true → shown2 m ≡ true) n
        (λ l ha hc hi h. here n (b.seen.shown n || asked) b.seen.shown ∙ shown_of_own asked refl (sym (ap (λ (w : Known). w.cancelled) (here n told2 s.seen.told)) ∙ hc) (issued_here hi) h)
        (λ m apart l ha hc hi h. shown_there m l apart ha hc h)

    -- behind a load of one of whom a request may be open from before
    moment_load : (m : ℕ) → m < 32 → (looks a && asked) ≡ true → (kept3.mark m).asked ≡ false → (s2.seen.told m).cancelled ≡ false → awaits_moment (s2.seen.public.due m) ≡ true → is_moment s2.seen (Up f) m ≡ true → (not (is_issue (Up f) m) && shown2 m) ≡ true
    moment_load = split (λ m. m < 32 → (looks a && asked) ≡ true → (kept3.mark m).asked ≡ false → (s2.seen.told m).cancelled ≡ false → awaits_moment (s2.seen.public.due m) ≡ true → is_moment s2.seen (Up f) m ≡ true → (not (is_issue (Up f) m) && shown2 m) ≡ true) n
        (λ l h ha hc w v. no (sym (sym (ap (λ (j : AgentBegun). j.asked) mark_here) ∙ ha) ∙ both asked _ (right (looks a) asked h) (flip (asks a) (looks_only a (left (looks a) asked h)).1)))
        (λ m apart l h ha hc w v. both (not (is_issue (Up f) m)) _ (issue_there m apart) (shown_there m l apart ha hc
        (well.still m l (sym (ap awaits_moment (there n (due_after a d) s.seen.public.due m apart)) ∙ w) (moment_below (tells_of (Up f)) tells_none s2.seen s.seen m (below_load m apart (left (looks a) asked h)) v))))

    shown_by : (m : ℕ) → m < 32 → (kept3.mark m).asked ≡ false → (s2.seen.told m).cancelled ≡ false → awaits_moment (s2.seen.public.due m) ≡ true
        → ((not (is_issue (Up f) m) && s.shown m) || is_moment s2.seen (Up f) m) ≡ true → ((not (is_issue (Up f) m) && shown2 m) || is_moment seen3 (Up f) m) ≡ true
    shown_by m l ha hc w h = by (either (not (is_issue (Up f) m) && s.shown m) (is_moment s2.seen (Up f) m) h) (looks a && asked) refl
      where
        or_there2 : (a b : Bool) → b ≡ true → (a || b) ≡ true
        or_there2 true b h = refl
        or_there2 false b h = h

        by : ((not (is_issue (Up f) m) && s.shown m) ≡ true) ⊎ (is_moment s2.seen (Up f) m ≡ true) → (late : Bool) → (looks a && asked) ≡ late → ((not (is_issue (Up f) m) && shown2 m) || is_moment seen3 (Up f) m) ≡ true
        by (inl g) late hl = or_first (not (is_issue (Up f) m) && shown2 m) _ (both (not (is_issue (Up f) m)) _ (left _ _ g) (shown_before m l ha hc (left _ _ g) (right (not (is_issue (Up f) m)) _ g)))
        by (inr g) true hl = or_first (not (is_issue (Up f) m) && shown2 m) _ (moment_load m l hl ha hc w g)
        by (inr g) false hl = or_there2 (not (is_issue (Up f) m) && shown2 m) _ (moment_below (tells_of (Up f)) (tells_of (Up f)) s2.seen seen3 m (below_here m l hl ha hc w) g)

    shown_at : (m : ℕ) → m < 32 → (kept3.mark m).asked ≡ false → (s2.seen.told m).cancelled ≡ false → s2.shown m ≡ true → kept3.seen.shown m ≡ true
    shown_at m l ha hc h =
        let rest = right (waits_after s2.seen (Up f) s.waits) _ h in
        let w : awaits_moment (s2.seen.public.due m) ≡ true = left _ _ rest in
        both waits3 _ (wakes_at m l ha w) (both (awaits_moment (seen3.public.due m)) _ (ap awaits_moment (due_at m l ha) ∙ w) (shown_by m l ha hc w (right (awaits_moment (s2.seen.public.due m)) _ rest)))

    kept_above : Above s2 kept3
    kept_above = record {
      stores = above.stores;
      agents = agents_above;
      duty = or_both s.seen.public.duty b.seen.seen.public.duty (passes_duty a) above.duty;
      current = or_more s2.seen.current (current_after f r3 b.seen.seen.current) blurred current_less;
      words = λ v h. words_sent blurred b.seen.seen.home s.seen.home b.seen.seen.current s.seen.current (tells_words a) r3 (renews z a x d t) f.shown v above.words stored_less h;
      waits = wakes_at;
      shown = shown_at;
    }

    pub sent_above : Above s2 (begun_after b (Up f))
    sent_above = subst (λ (v : Beginning). Above s2 v) (sym sent_kept) kept_above
