-- What the words of data change.
use Rattle.std.proofs.Common.{rules, arith, ◌≡◌, ◌≢◌, ℕ, List, refl, sym, ap, ◌∙◌}
use Rattle.std.specs.Prelude.{Bool, true, false, ◌&&◌, ◌||◌, not, nat_lt, Option, Some, None, is_some, if◌then◌else◌}
use Rattle.chi_flit.specs.declared.numbers.Agent.{Agent}
use Rattle.chi_flit.specs.declared.state.State.TheVariants as states
use Rattle.chi_observer.specs.declared.flits.Act.{Act}
use Rattle.chi_observer.specs.declared.flits.Act.TheVariants.{Request, Resend, SnpResp, CompAck, CopyBackWrData, NonCopyBackWrData, Load, Store}
use Rattle.chi_observer.specs.declared.flits.Answer.TheVariants.{SnpRespI, SnpRespSC, SnpRespUC}
use Rattle.chi_observer.specs.declared.flits.CacheFlit.{CacheFlit}
use Rattle.chi_observer.specs.declared.flits.HomeFlit.{HomeFlit}
use Rattle.chi_observer.specs.declared.flits.Stores.{Stores}
use Rattle.chi_observer.specs.declared.flits.Stores.TheVariants.{Hidden, Listed}
use Rattle.chi_observer.specs.declared.flits.Due.{Due}
use Rattle.chi_observer.specs.declared.flits.Due.TheVariants.{Resending}
use Rattle.chi_observer.specs.declared.flits.Flit.{Flit}
use Rattle.chi_observer.specs.declared.flits.Flit.TheVariants.{Up, Down}
use Rattle.chi_observer.specs.declared.flits.Grant.{Grant}
use Rattle.chi_observer.specs.declared.flits.Grant.TheVariants.{RetryAck, Snp, CompData, CompUC, CompSC, CompI, CompDBIDResp}
use Rattle.chi_observer.specs.declared.wanted.Wanted.{Wanted}
use Rattle.chi_observer.specs.declared.wanted.Wanted.TheVariants.{Nothing, Known, Any, Free}
use Rattle.chi_observer.specs.Copies.{is_unique, same}
use Rattle.chi_observer.specs.Copies.Copy.{UniqueDirty}
use Rattle.chi_observer.specs.Rules.{allows, are_hidden, gives_data, has_data, lets_go, looks, makes, reads_any, settles, stores, tells_words, word_at, writes}
use Rattle.chi_observer.specs.Tables.{Known as Told, answer_tells_dirty, fills_told, fits_told, is_cancelled, most, renews, shows_told, told_behind, told_granted}
use Rattle.chi_observer.specs.Judged.{is_judged}
use Rattle.chi_observer.specs.Moments.{has_moment, shown_after, waits_after}
use Rattle.chi_observer.specs.Observed.{Observed, current_after, differs, fits, fits_word, goes}
use Rattle.chi_observer.specs.Worlds.{home_may, public_after, public_granted, put}
use Rattle.chi_observer.specs.Lines.{Watched, is_taken, watch, watch_as}
use Rattle.chi_observer.specs.Worded.{Worded, Words, agree, all_words, copy_words, counts_later, differs_by_word, fits_known, fits_load, fits_words, forgets, is_placed, known_words, may_be_empty, may_read_any, no_words, renewed, words_after, words_by, words_granted}
use Rattle.chi_observer.specs.WordedLines.{WatchedWords, counted_by_word, is_taken_worded, watch_worded, worded_in}
use Rattle.chi_observer.specs.Wanted.{AnyWordsAreTaken, FreeWordsAreTaken, KnownWordsAreTaken, WordlessFlitsAreApart, cancelled_if, flit_with, flit_words, homed, is_wordless, may_differ, none_known, tells_cancelled, wanted, wanted_if, with_home}
use Rattle.chi_observer.proofs.Finite.{no, left, right}
use Rattle.chi_observer.proofs.Copies.{each_below}
use Rattle.chi_observer.proofs.ListedWords.{agree_by}

-- flits without words
Apart : Watched → List ℕ → Flit → Type 0
Apart s words e = (is_taken (with_home words s) e ≡ is_taken s e) × (watch (with_home words s) e ≡ with_home words (watch s e))

abbrev with_known : Option (List ℕ) → Watched → Watched
with_known known s = record s { seen = record s.seen { home = known } }

each_home : (P : Option (List ℕ) → Type 0) → P None → ((u : List ℕ) → P (Some u)) → (known : Option (List ℕ)) → P known
each_home P none some None = none
each_home P none some (Some u) = some u

-- whether the home's words are known or not
by_home : (s : Watched) (words : List ℕ) (e : Flit) → Apart (with_known None s) words e → ((u : List ℕ) → Apart (with_known (Some u) s) words e) → Apart s words e
by_home s words e none some = each_home (λ known. Apart (with_known known s) words e) none some s.seen.home

apart_sent : (s : Watched) (words : List ℕ) (n : Agent) (v : List ℕ) (a : Act) → not (tells_words a || looks a) ≡ true → Apart s words (Up (record { agent = n; act = a; shown = v }))
unfolding Apart
apart_sent s words n v (Request k) h = by_home s words (Up (record { agent = n; act = Request k; shown = v })) (refl, refl) (λ u. (refl, refl))
apart_sent s words n v (Resend k) h = by_home s words (Up (record { agent = n; act = Resend k; shown = v })) (refl, refl) (λ u. (refl, refl))
apart_sent s words n v (SnpResp SnpRespI) h = by_home s words (Up (record { agent = n; act = SnpResp SnpRespI; shown = v })) (refl, refl) (λ u. (refl, refl))
apart_sent s words n v (SnpResp SnpRespSC) h = by_home s words (Up (record { agent = n; act = SnpResp SnpRespSC; shown = v })) (refl, refl) (λ u. (refl, refl))
apart_sent s words n v (SnpResp SnpRespUC) h = by_home s words (Up (record { agent = n; act = SnpResp SnpRespUC; shown = v })) (refl, refl) (λ u. (refl, refl))
apart_sent s words n v (SnpResp other) h = no h
apart_sent s words n v CompAck h = by_home s words (Up (record { agent = n; act = CompAck; shown = v })) (refl, refl) (λ u. (refl, refl))
apart_sent s words n v (CopyBackWrData states.I) h = by_home s words (Up (record { agent = n; act = CopyBackWrData states.I; shown = v })) (refl, refl) (λ u. (refl, refl))
apart_sent s words n v (CopyBackWrData other) h = no h
apart_sent s words n v NonCopyBackWrData h = no h
apart_sent s words n v (Load word) h = no h
apart_sent s words n v (Store word) h = by_home s words (Up (record { agent = n; act = Store word; shown = v })) (refl, refl) (λ u. (refl, refl))

apart_given : (s : Watched) (words : List ℕ) (n : Agent) (v : List ℕ) (g : Grant) → not (gives_data g) ≡ true → Apart s words (Down (record { agent = n; grant = g; shown = v }))
unfolding Apart
apart_given s words n v RetryAck h = (refl, refl)
apart_given s words n v (Snp x) h = (refl, refl)
apart_given s words n v (CompData form) h = no h
apart_given s words n v CompUC h = (refl, refl)
apart_given s words n v CompSC h = (refl, refl)
apart_given s words n v CompI h = (refl, refl)
apart_given s words n v CompDBIDResp h = (refl, refl)

apart_itself : (s : Watched) (words : List ℕ) (e : Flit) → is_wordless e ≡ true → (is_taken (with_home words s) e ≡ is_taken s e) × (watch (with_home words s) e ≡ with_home words (watch s e))
unfolding Apart
apart_itself s words (Up f) h = apart_sent s words f.agent f.shown f.act h
apart_itself s words (Down g) h = apart_given s words g.agent g.shown g.grant h

-- what has to hold of a flit whose words may be any, or have to be known
wanted_any : (b k : Bool) → (if b then Nothing else wanted_if k) ≡ Any → (b ≡ false) × (k ≡ false)
wanted_any true k h = absurd (search (rules, arith))
wanted_any false true h = absurd (search (rules, arith))
wanted_any false false h = (refl, refl)

wanted_known : (b k : Bool) → (if b then Nothing else wanted_if k) ≡ Known → (b ≡ false) × (k ≡ true)
wanted_known true k h = absurd (search (rules, arith))
wanted_known false false h = absurd (search (rules, arith))
wanted_known false true h = (refl, refl)

in_reach : (b : Bool) (w x : Wanted) → (if b then w else Nothing) ≡ x → x ≢ Nothing → (b ≡ true) × (w ≡ x)
in_reach true w x h n = (refl, h)
in_reach false w x h n = absurd (n (sym h))

given_reach : (b c : Bool) (w x : Wanted) → (if b then w else (if c then Free else Nothing)) ≡ x → x ≢ Nothing → x ≢ Free → (b ≡ true) × (w ≡ x)
given_reach true c w x h n f = (refl, h)
given_reach false true w x h n f = absurd (f (sym h))
given_reach false false w x h n f = absurd (n (sym h))

none_of : (a b : Bool) → (a || b) ≡ false → (a ≡ false) × (b ≡ false)
none_of true b h = absurd (search (rules, arith))
none_of false b h = (refl, h)

turned : (b : Bool) → not b ≡ false → b ≡ true
turned true h = refl
turned false h = sym h

-- words that have to be known
held : (worded renewed current known fit : Bool) → (worded && (not renewed && (current && known))) ≡ true → (not worded || (renewed || (not current || fit))) ≡ true → fit ≡ true
held true false true known fit k t = t
held true false false known fit k t = no k
held true true current known fit k t = no k
held false renewed current known fit k t = no k

shown_fits : (b fit : Bool) → b ≡ true → (not b || fit) ≡ true → fit ≡ true
shown_fits true fit h t = t
shown_fits false fit h t = no h

known_sent : (l : WatchedWords) (f : CacheFlit) → wanted l (Up f) ≡ Known → is_taken l.line (Up f) ≡ true → fits l.line.seen.home f.shown ≡ true
known_sent l f h t =
    let o = l.line.seen in
    let n = f.agent.0 in
    let renewed = renews o.public.stores f.act (lets_go (o.public.snooped n)) (o.public.due n) (o.told n) in
    let k = (wanted_known (not (tells_words f.act) || tells_cancelled (worded_in l) f) _ (in_reach (nat_lt n 32) _ Known h (λ e. absurd (search (rules, arith)))).1).1 in
    held (has_data f.act) renewed o.current (is_some o.home) _ k
    (left _ _ (right (fits_told o.public.stores f.act (lets_go (o.public.snooped n)) (o.public.due n) (o.told n)) _ (right (allows f.act (o.public.snooped n)) _ (right (nat_lt n 32) _ (right (is_judged (Up f)) _ t)))))

known_given : (l : WatchedWords) (g : HomeFlit) → wanted l (Down g) ≡ Known → is_taken l.line (Down g) ≡ true → fits l.line.seen.home g.shown ≡ true
known_given l g h t =
    let s = l.line in
    let o = s.seen in
    let n = g.agent.0 in
    let shows = (given_reach (shows_told g.grant (o.told n)) (gives_data g.grant) _ Known (in_reach (nat_lt n 32) _ Known h (λ e. absurd (search (rules, arith)))).1 (λ e. absurd (search (rules, arith))) (λ e. absurd (search (rules, arith)))).0 in
    shown_fits (shows_told g.grant (o.told n)) _ shows
    (left _ _ (right (home_may o.public g) _ (right (has_moment o s.shown g) _ (right (nat_lt n 32) _ (right (is_judged (Down g)) _ t)))))

known_taken_itself : (l : WatchedWords) (e : Flit) → wanted l e ≡ Known → is_taken l.line e ≡ true → fits l.line.seen.home (flit_words e) ≡ true
known_taken_itself l (Up f) = known_sent l f
known_taken_itself l (Down g) = known_given l g

-- words that may be any
any_fits : (worded renewed current : Bool) (home : Option (List ℕ)) (v : List ℕ) → (worded && (not renewed && (current && is_some home))) ≡ false → (not worded || (renewed || (not current || fits home v))) ≡ true
any_fits false renewed current home v k = refl
any_fits true true current home v k = refl
any_fits true false false home v k = refl
any_fits true false true None v k = refl
any_fits true false true (Some u) v k = no (sym k)

none_fits : (home : Option (List ℕ)) (v : List ℕ) → is_some home ≡ false → fits home v ≡ true
none_fits None v h = refl
none_fits (Some u) v h = no (sym h)

wanted_none : (k : Bool) → wanted_if k ≡ Any → k ≡ false
wanted_none true h = absurd (search (rules, arith))
wanted_none false h = refl

one_of : (a b c d x : Bool) → ((a || (b && (c && (true || d)))) && not (a || (b && (c && (false || d))))) ≡ false → (a || (b && (c && (x || d)))) ≡ (a || (b && (c && (false || d))))
one_of true b c d x h = refl
one_of false false c d x h = refl
one_of false true false d x h = refl
one_of false true true true true h = refl
one_of false true true true false h = refl
one_of false true true false x h = no (sym h)

cancelled_same : (a : Act) (d : Due) (k : Told) (x : Bool) → (is_cancelled a d k true && not (is_cancelled a d k false)) ≡ false → is_cancelled a d k x ≡ is_cancelled a d k false
cancelled_same (SnpResp z) (Resending q) k x h = one_of k.cancelled (answer_tells_dirty z) (is_unique (most k)) (not (same (most k) UniqueDirty)) x h
cancelled_same (SnpResp z) other k x h = refl
cancelled_same (Load z) (Resending q) k x h = refl
cancelled_same (Load z) other k x h = refl
cancelled_same (Store z) (Resending q) k x h = refl
cancelled_same (Store z) other k x h = refl
cancelled_same other d k x h = refl

-- where no word is known, or that is asked of none
fits_unknown : (o : Option ℕ) (v : ℕ) → not (is_some o) ≡ true → fits_known o v ≡ true
fits_unknown None v h = refl
fits_unknown (Some u) v h = no h

unknown_agrees : (k : Words) (v : List ℕ) → none_known k ≡ true → agree k v ≡ true
unknown_agrees k v h = agree_by k v (λ p low. fits_unknown (k p) (word_at v p) (each_below 8 (λ q. not (is_some (k q))) h p low))

none_apart : (b c g k : Bool) (home : Option (List ℕ)) (v : List ℕ) → (if c then is_some home else not k) ≡ false → (k ≡ true → g ≡ true) → ((b && (not c && not g)) || (b && (c && not (fits home v)))) ≡ false
none_apart false c g k home v h e = refl
none_apart true true g k None v h e = refl
none_apart true true g k (Some u) v h e = no (sym h)
none_apart true false true k home v h e = refl
none_apart true false false true home v h e = no (e refl)
none_apart true false false false home v h e = no (sym h)

-- whatever its words are
cancelled_alike : (l : Worded) (f : CacheFlit) (v : List ℕ) → tells_cancelled l f ≡ false
    → cancelled_if l.seen f (differs_by_word l (record f { shown = v }) || differs l.seen (record f { shown = v })) ≡ cancelled_if l.seen f (differs_by_word l f || differs l.seen f)
cancelled_alike l f v h = by (may_differ l) refl h
  where
    none : (u : List ℕ) → may_differ l ≡ false → (differs_by_word l (record f { shown = u }) || differs l.seen (record f { shown = u })) ≡ false
    none u m = none_apart (has_data f.act) l.seen.current (agree l.words u) (none_known l.words) l.seen.home u m (unknown_agrees l.words u)

    by : (m : Bool) → may_differ l ≡ m → (m && (cancelled_if l.seen f true && not (cancelled_if l.seen f false))) ≡ false
        → cancelled_if l.seen f (differs_by_word l (record f { shown = v }) || differs l.seen (record f { shown = v })) ≡ cancelled_if l.seen f (differs_by_word l f || differs l.seen f)
    by true m h = cancelled_same f.act (l.seen.public.due f.agent.0) (l.seen.told f.agent.0) _ h ∙ sym (cancelled_same f.act (l.seen.public.due f.agent.0) (l.seen.told f.agent.0) _ h)
    by false m h = ap (cancelled_if l.seen f) (none v m ∙ sym (none f.shown m))

any_sent : (l : WatchedWords) (words : List ℕ) (f : CacheFlit) → wanted l (Up f) ≡ Any
    → (is_taken l.line (flit_with (Up f) words) ≡ is_taken l.line (Up f))
    × (watch_as l.line (flit_with (Up f) words) (differs_by_word (worded_in l) (record f { shown = words })) ≡ with_home words (watch_as l.line (Up f) (differs_by_word (worded_in l) f)))
any_sent l words f h =
    let s = l.line in
    let o = s.seen in
    let n = f.agent.0 in
    let renewed = renews o.public.stores f.act (lets_go (o.public.snooped n)) (o.public.due n) (o.told n) in
    let free = wanted_any (not (tells_words f.act) || tells_cancelled (worded_in l) f) _ (in_reach (nat_lt n 32) _ Any h (λ e. absurd (search (rules, arith)))).1 in
    let form = none_of (not (tells_words f.act)) (tells_cancelled (worded_in l) f) free.0 in
    let tells : tells_words f.act ≡ true = turned (tells_words f.act) form.0 in
    let alike = any_fits (has_data f.act) renewed o.current o.home words free.1 ∙ sym (any_fits (has_data f.act) renewed o.current o.home f.shown free.1) in
    let cancelled = cancelled_alike (worded_in l) f words form.1 in
    let home : (if tells_words f.act then Some words else o.home) ≡ Some words = ap (λ (b : Bool). if b then Some words else o.home) tells in
    let next_so : Bool → Option (List ℕ) → Observed = λ c u. record {
      public = public_after f o.public;
      told = put n (record { told = told_behind f.act (o.public.due n) (o.told n).told; cancelled = c }) o.told;
      home = u;
      current = current_after f renewed o.current;
    } in
    let so : Bool → Option (List ℕ) → Watched = λ c u. record {
      seen = next_so c u;
      waits = waits_after (next_so c u) (Up f) s.waits;
      shown = λ m. waits_after (next_so c u) (Up f) s.waits && shown_after (next_so c u) (Up f) s.shown m;
    } in (
      ap (λ (x : Bool). is_judged (Up f) && (nat_lt n 32 && (allows f.act (o.public.snooped n) && (fits_told o.public.stores f.act (lets_go (o.public.snooped n)) (o.public.due n) (o.told n) && (x && (reads_any o.public.stores (o.public.due n) (most (o.told n)) || (not o.current || fits_word o.home f.act))))))) alike,
      λ i. so (cancelled i) (home i),
    )

any_given : (l : WatchedWords) (words : List ℕ) (g : HomeFlit) → wanted l (Down g) ≡ Any → (is_taken l.line (flit_with (Down g) words) ≡ is_taken l.line (Down g)) × (watch l.line (flit_with (Down g) words) ≡ with_home words (watch l.line (Down g)))
any_given l words g h =
    let s = l.line in
    let o = s.seen in
    let n = g.agent.0 in
    let given = given_reach (shows_told g.grant (o.told n)) (gives_data g.grant) _ Any (in_reach (nat_lt n 32) _ Any h (λ e. absurd (search (rules, arith)))).1 (λ e. absurd (search (rules, arith))) (λ e. absurd (search (rules, arith))) in
    let unknown = wanted_none (is_some o.home) given.1 in
    let alike = none_fits o.home words unknown ∙ sym (none_fits o.home g.shown unknown) in
    let home : (if shows_told g.grant (o.told n) then Some words else o.home) ≡ Some words = ap (λ (b : Bool). if b then Some words else o.home) given.0 in
    let next_so : Option (List ℕ) → Observed = λ u. record {
      public = public_granted g o.public;
      told = put n (told_granted g.grant (o.public.due n) (o.told n)) o.told;
      home = u;
      current = settles g.grant (o.public.due n) || (o.current && not (makes g.grant (o.public.due n)));
    } in
    let so : Option (List ℕ) → Watched = λ u. record {
      seen = next_so u;
      waits = waits_after (next_so u) (Down g) s.waits;
      shown = λ m. waits_after (next_so u) (Down g) s.waits && shown_after (next_so u) (Down g) s.shown m;
    } in (
      ap (λ (x : Bool). is_judged (Down g) && (nat_lt n 32 && (has_moment o s.shown g && (home_may o.public g && ((not (shows_told g.grant (o.told n)) || x) && ((not (fills_told g.grant (o.told n)) || o.current) && goes o g)))))) alike,
      λ i. so (home i),
    )

-- words that tell nothing
not_free : (b k : Bool) → (if b then Nothing else wanted_if k) ≢ Free
not_free true k h = absurd (search (rules, arith))
not_free false true h = absurd (search (rules, arith))
not_free false false h = absurd (search (rules, arith))

free_reach : (b c k : Bool) → (if b then wanted_if k else (if c then Free else Nothing)) ≡ Free → b ≡ false
free_reach true c true h = absurd (search (rules, arith))
free_reach true c false h = absurd (search (rules, arith))
free_reach false c k h = refl

free_taken_itself : (l : WatchedWords) (words : List ℕ) (e : Flit) → wanted l e ≡ Free → (is_taken l.line (flit_with e words) ≡ is_taken l.line e) × (watch l.line (flit_with e words) ≡ watch l.line e)
free_taken_itself l words (Up f) h = absurd (not_free (not (tells_words f.act) || tells_cancelled (worded_in l) f) _ (in_reach (nat_lt f.agent.0 32) _ Free h (λ e. absurd (search (rules, arith)))).1)
free_taken_itself l words (Down g) h =
    let s = l.line in
    let o = s.seen in
    let n = g.agent.0 in
    let untold = free_reach (shows_told g.grant (o.told n)) (gives_data g.grant) (is_some o.home) (in_reach (nat_lt n 32) _ Free h (λ e. absurd (search (rules, arith)))).1 in
    let home : (v : List ℕ) → (if shows_told g.grant (o.told n) then Some v else o.home) ≡ o.home = λ v. ap (λ (b : Bool). if b then Some v else o.home) untold in
    let next_so : Option (List ℕ) → Observed = λ u. record {
      public = public_granted g o.public;
      told = put n (told_granted g.grant (o.public.due n) (o.told n)) o.told;
      home = u;
      current = settles g.grant (o.public.due n) || (o.current && not (makes g.grant (o.public.due n)));
    } in
    let so : Option (List ℕ) → Watched = λ u. record {
      seen = next_so u;
      waits = waits_after (next_so u) (Down g) s.waits;
      shown = λ m. waits_after (next_so u) (Down g) s.waits && shown_after (next_so u) (Down g) s.shown m;
    } in
    let takes : List ℕ → Bool → Bool = λ v b. is_judged (Down g) && (nat_lt n 32 && (has_moment o s.shown g && (home_may o.public g && ((not b || fits o.home v) && ((not (fills_told g.grant (o.told n)) || o.current) && goes o g))))) in (
      ap (takes words) untold ∙ sym (ap (takes g.shown) untold),
      (λ i. so (home words i)) ∙ sym (λ i. so (home g.shown i)),
    )

-- WHAT IS NO LOAD COUNTS AS ITSELF
no_look : (a b : Bool) → not (a || b) ≡ true → b ≡ false
no_look true b h = no h
no_look false true h = no h
no_look false false h = refl

plain_act : (l : WatchedWords) (n : Agent) (a : Act) (v : List ℕ) → looks a ≡ false → counted_by_word l (Up (record { agent = n; act = a; shown = v })) ≡ Up (record { agent = n; act = a; shown = v })
plain_act l n (Load word) v h = no (sym h)
plain_act l n other v h = refl

plain_wordless : (l : WatchedWords) (e : Flit) → is_wordless e ≡ true → counted_by_word l e ≡ e
plain_wordless l (Up f) h = plain_act l f.agent f.act f.shown (no_look (tells_words f.act) (looks f.act) h)
plain_wordless l (Down g) h = refl

pub either_way : (b : Bool) → (if b then Nothing else Nothing) ≡ Nothing
either_way true = refl
either_way false = refl

wanted_act : (l w : WatchedWords) (n : Agent) (a : Act) (v : List ℕ) → wanted w (Up (record { agent = n; act = a; shown = v })) ≢ Nothing
    → counted_by_word l (Up (record { agent = n; act = a; shown = v })) ≡ Up (record { agent = n; act = a; shown = v })
wanted_act l w n (Load word) v some = absurd (some (either_way (nat_lt n.0 32)))
wanted_act l w n other v some = refl

plain_wanted : (l w : WatchedWords) (e : Flit) → wanted w e ≢ Nothing → counted_by_word l e ≡ e
plain_wanted l w (Up f) some = wanted_act l w f.agent f.act f.shown some
plain_wanted l w (Down g) some = refl

pub wanted_as : (w : WatchedWords) (e : Flit) (words : List ℕ) → wanted w (flit_with e words) ≡ wanted w e
wanted_as w (Up f) words = refl
wanted_as w (Down g) words = refl

plain_with : (l w : WatchedWords) (e : Flit) (words : List ℕ) → wanted w e ≢ Nothing → counted_by_word l (flit_with e words) ≡ flit_with e words
plain_with l w e words some = plain_wanted l w (flit_with e words) (λ none. some (sym (wanted_as w e words) ∙ none))

is_some_wanted : (w : WatchedWords) (e : Flit) (x : Wanted) → x ≢ Nothing → wanted w e ≡ x → wanted w e ≢ Nothing
is_some_wanted w e x some is none = some (sym is ∙ none)

-- WORDS THAT LOADS AND STORES TOLD
-- a store is none of those of which words are kept
kept_words : (z : Stores) (a : Act) (forget later empty : Bool) (known other words : Words) → (not (are_hidden z) && stores a) ≡ false → words_by z a forget later empty known words ≡ words_by z a forget later empty other words
kept_words Hidden (Store word) forget later empty known other words h = refl
kept_words Listed (Store word) forget later empty known other words h = no (sym h)
kept_words z act forget later empty known other words h = refl

-- what has no words doesn't differ by them
wordless_bare : (a : Act) → not (tells_words a || looks a) ≡ true → has_data a ≡ false
wordless_bare a h = by (has_data a) (writes a) (looks a) h
  where
    by : (d w k : Bool) → not ((d || w) || k) ≡ true → d ≡ false
    by true w k h = no h
    by false w k h = refl

wordless_alike : (l : Worded) (f : CacheFlit) → is_wordless (Up f) ≡ true → differs_by_word l f ≡ false
wordless_alike l f h = ap (λ (b : Bool). b && (not l.seen.current && not (agree l.words f.shown))) (wordless_bare f.act h)

pub apart : WordlessFlitsAreApart
apart l words (Up f) h none =
    let s = l.line in
    let same = apart_itself s words (Up f) h in
    let here = plain_wordless l (Up f) h in
    let there = plain_wordless (homed words l) (Up f) h in
    let o = worded_in l in
    let home = worded_in (homed words l) in (
      ap (is_taken_worded (homed words l)) there ∙ ((λ i. same.0 i && fits_words o f) ∙ sym (ap (is_taken_worded l) here)),
      ap (watch_worded (homed words l)) there
          ∙ (ap (λ (b : Bool). record { line = watch_as (with_home words s) (Up f) b; words = words_after f home }) (wordless_alike home f h)
          ∙ (λ i. record { line = same.1 i; words = words_after f home })
          ∙ ap (λ (b : Bool). record { line = with_home words (watch_as s (Up f) b); words = words_after f home }) (sym (wordless_alike o f h))
          ∙ (ap (λ (k : Words). record { line = with_home words (watch_as s (Up f) (differs_by_word o f)); words = k })
          (kept_words s.seen.public.stores f.act (forgets o f) (counts_later o f) (may_be_empty (s.seen.told f.agent.0).told) (known_words home) (known_words o) l.words none)
          ∙ sym (ap (λ (x : Flit). homed words (watch_worded l x)) here))),
    )
apart l words (Down g) h none = let same = apart_itself l.line words (Down g) h in (
  ap (λ (b : Bool). b && true) same.0,
  ap (λ (s : Watched). record { line = s; words = words_granted g (worded_in l) }) same.1,
)

pub and_true : (a : Bool) → (a && true) ≡ a
and_true true = refl
and_true false = refl

or_true : (a : Bool) → (a || true) ≡ true
or_true true = refl
or_true false = refl

-- the words fit where they are what is wanted
fit_is : (shows whole fresh current any placed fit : Bool) (home : Option (List ℕ)) (k : Words) (v : List ℕ) → placed ≡ true → fit ≡ true → (shows || whole) ≡ true → (whole ≡ true → shows ≡ false)
    → (shows && (not fresh && (current && is_some home))) ≡ false
    → (placed && (current || ((not shows || (fresh || agree k v)) && (any || fit)))) ≡ agree (if whole || fresh then no_words else (if current then all_words home else k)) v
fit_is shows whole fresh current any false fit home k v p f t w e = no p
fit_is shows whole fresh current any true false home k v p f t w e = no f
fit_is false false fresh current any true true home k v p f t w e = no t
fit_is true true fresh current any true true home k v p f t w e = no (sym (w refl))
fit_is false true fresh true any true true home k v p f t w e = refl
fit_is false true fresh false any true true home k v p f t w e = or_true any
fit_is true false true true any true true home k v p f t w e = refl
fit_is true false true false any true true home k v p f t w e = or_true any
fit_is true false false true any true true None k v p f t w e = refl
fit_is true false false true any true true (Some u) k v p f t w e = no (sym e)
fit_is true false false false any true true home k v p f t w e = ap (λ (b : Bool). agree k v && b) (or_true any) ∙ and_true (agree k v)

told_placed : (a : Act) → tells_words a ≡ true → is_placed a ≡ true
told_placed (Load word) h = no h
told_placed (Store word) h = no h
told_placed other h = refl

told_fits : (a : Act) (k : Words) → tells_words a ≡ true → fits_load a k ≡ true
told_fits (Load word) k h = no h
told_fits other k h = refl

whole_bare : (a : Act) → writes a ≡ true → has_data a ≡ false
whole_bare NonCopyBackWrData h = refl
whole_bare other h = no h

any_worded : (l : WatchedWords) (words : List ℕ) (f : CacheFlit) → wanted l (Up f) ≡ Any → fits_words (worded_in l) (record f { shown = words }) ≡ agree (copy_words (worded_in l) f) words
any_worded l words f h =
    let o = l.line.seen in
    let n = f.agent.0 in
    let free = wanted_any (not (tells_words f.act) || tells_cancelled (worded_in l) f) _ (in_reach (nat_lt n 32) _ Any h (λ e. absurd (search (rules, arith)))).1 in
    let tells : tells_words f.act ≡ true = turned (tells_words f.act) (none_of (not (tells_words f.act)) (tells_cancelled (worded_in l) f) free.0).0 in
    fit_is (has_data f.act) (writes f.act) (renewed (worded_in l) f) o.current (may_read_any (worded_in l) f) (is_placed f.act) (fits_load f.act l.words) o.home l.words words
    (told_placed f.act tells) (told_fits f.act l.words tells) tells (whole_bare f.act) free.1

pub any_taken : AnyWordsAreTaken
any_taken l words (Up f) h =
    let s = l.line in
    let some = is_some_wanted l (Up f) Any (λ none. absurd (search (rules, arith))) h in
    let o = worded_in l in
    let same = any_sent l words f h in
    let here = plain_wanted l l (Up f) some in
    let there = plain_with l l (Up f) words some in (
      ap (is_taken_worded l) there ∙ ((λ i. same.0 i && fits_words o (record f { shown = words })) ∙ ap (λ (b : Bool). is_taken s (Up f) && b) (any_worded l words f h)),
      ap (watch_worded l) there
          ∙ ((λ i. record { line = same.1 i; words = words_after f o })
          ∙ sym (ap (λ (x : Flit). homed words (watch_worded l x)) here)),
    )
any_taken l words (Down g) h = let same = any_given l words g h in (
  ap (λ (b : Bool). b && true) same.0,
  ap (λ (s : Watched). record { line = s; words = words_granted g (worded_in l) }) same.1,
)

pub free_taken : FreeWordsAreTaken
free_taken l words (Up f) h = absurd (not_free (not (tells_words f.act) || tells_cancelled (worded_in l) f) _ (in_reach (nat_lt f.agent.0 32) _ Free h (λ e. absurd (search (rules, arith)))).1)
free_taken l words (Down g) h = let same = free_taken_itself l words (Down g) h in (
  ap (λ (b : Bool). b && true) same.0,
  ap (λ (s : Watched). record { line = s; words = words_granted g (worded_in l) }) same.1,
)

pub known_taken : KnownWordsAreTaken
known_taken l e h t =
    let some = is_some_wanted l e Known (λ none. absurd (search (rules, arith))) h in
    known_taken_itself l e h (left (is_taken l.line e) _ (ap (is_taken_worded l) (sym (plain_wanted l l e some)) ∙ t))
