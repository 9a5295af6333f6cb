-- Data in beats whose words may be any, beside whole data in the place of their first beat.
use Rattle.std.proofs.Common.{rules, arith, ◌≡◌, ◌≢◌, ◌==◌, ℕ, List, refl, sym, ap, subst, ◌∙◌}
use Rattle.std.specs.Prelude.{Bool, true, false, ◌&&◌, ◌||◌, not, Option, Some, None, is_some, unwrap_or, [], ◌∷◌, ◌++◌}
use Rattle.std.specs.List.{slice_index_or}
use Rattle.chi_trace.specs.declared.fields.NodeId.{NodeId}
use Rattle.chi_observer.specs.declared.flits.Flit.{Flit}
use Rattle.chi_observer.specs.declared.wanted.Wanted.{Wanted}
use Rattle.chi_observer.specs.declared.wanted.Wanted.TheVariants as wants
use Rattle.chi_observer.specs.Worlds.{all_below}
use Rattle.chi_observer.specs.Worded.{Words, agree, fits_known}
use Rattle.chi_observer.specs.WordedLines.{WatchedWords, takes_by_word, watch_by_word}
use Rattle.chi_observer.specs.Lines.{is_taken}
use Rattle.chi_observer.specs.Wanted.{AnyWordsAreTaken, FreeWordsAreTaken, KnownWordsAreTaken, WordlessFlitsAreApart, flit_with, flit_words, homed, wanted, wanted_words}
use Rattle.chi_observe.specs.declared.lacking.Lacking.TheVariants as lacks
use Rattle.chi_observe.specs.declared.lines.LineNews.TheVariants as news
use Rattle.chi_observe.specs.Judges.{Before, known_if}
use Rattle.chi_observe.specs.Judges.Judged.{FromStart}
use Rattle.chi_observe.specs.Lacking.{lacking_with}
use Rattle.chi_observe.specs.Lines.{LineState, begun_next, early_by, early_of, is_given, line_next, marked_words, next_by, presented, shown_more, shown_words, takes_begun, takes_line}
use Rattle.chi_observe.specs.Marks.{Marked, marks_after}
use Rattle.chi_observe.specs.InBeats.{BeatsAreOneFlit, all_wordless, behind_all, in_one, in_two, is_told_any, judged_line, takes_all, told_of}
use Rattle.chi_observe.specs.Words.{agrees, agrees_at, agrees_word, but_known, left_of, none_lack, with_known, word_at, word_with, words_with}
use Rattle.chi_observe.proofs.BeatLemmas.{Alike, IsData, Runs, all_run, all_taken, and_true, any_is_wanted, behind_both, both, both_left, both_right, grouped, hides, is_data, line_of, neither, of_free, of_known, opened, passed_by, same_mode, shut, takes_both, takes_whole, through, untrue}

-- WORDS THAT MAY BE ANY, BUT FOR THOSE THAT LOADS TOLD
abbrev home_words : WatchedWords → Flit → List ℕ
home_words w e = unwrap_or w.line.seen.home (shown_words e)

abbrev first_words : WatchedWords → Flit → List Bool → List ℕ
first_words w e lacking = words_with (words_with (shown_words e) (with_known (wanted_words w e) (home_words w e)) lacking) (home_words w e) none_lack

presented_is : (own : NodeId) (w : WatchedWords) (m : Marked) (e : Flit) (lacking : List Bool) → IsData e → presented (judged_line own w m) e lacking ≡ flit_with e (first_words w e lacking)
presented_is own w m e lacking d = d.shown (first_words w e lacking)

-- the home's words behind the first beat, and those that no flit has shown
abbrev begun_words : WatchedWords → Flit → List Bool → List ℕ
begun_words w e lacking = words_with (first_words w e lacking) (shown_words e) (left_of none_lack lacking)

abbrev left_unknown : WatchedWords → Flit → List Bool → List Bool
left_unknown w e lacking = but_known (wanted_words w e) lacking

-- the first beat is taken, and all of the data
abbrev takes_first : WatchedWords → Flit → List Bool → Bool
takes_first w e lacking = is_taken w.line e && agree (wanted_words w e) (first_words w e lacking)

takes_begin : AnyWordsAreTaken → (before : Before) (own home : NodeId) (w : WatchedWords) (m : Marked) (n : ℕ) (e : Flit) (lacking : List Bool) → wanted w e ≡ wants.Any
    → takes_line before (judged_line own w m) home n (news.Begun e lacking) ≡ (own.0 == home.0 && takes_first w e lacking)
unfolding takes_line
takes_begin any before own home w m n e lacking is =
    let d = is_data w e (λ none. any_is_wanted (sym is ∙ none)) in
    let f = presented (judged_line own w m) e lacking in
    ap (λ (x : Wanted). takes_begun (lacking_with lacks.Nothing x (is_given e) lacking (wanted_words w e)) before (judged_line own w m) home n f) is
    ∙ ap (λ (b : Bool). own.0 == home.0 && b) (passed_by (takes_by_word w f) (FromStart (watch_by_word w f)) ∙ (ap (takes_by_word w) (presented_is own w m e lacking d) ∙ (any w (first_words w e lacking) e is).0))

begin_runs : AnyWordsAreTaken → (before : Before) (own : NodeId) (w : WatchedWords) (m : Marked) (n : ℕ) (e : Flit) (lacking : List Bool) → wanted w e ≡ wants.Any → hides w ≡ true → takes_first w e lacking ≡ true
    → Runs (line_next before (judged_line own w m) n (news.Begun e lacking)) own (lacks.Words (left_unknown w e lacking) 0 (is_given e)) (begun_words w e lacking) (watch_by_word w e)
unfolding line_next
begin_runs any before own w m n e lacking is q taken =
    let d = is_data w e (λ none. any_is_wanted (sym is ∙ none)) in
    let u = first_words w e lacking in
    let f = presented (judged_line own w m) e lacking in
    let as_it = presented_is own w m e lacking d in
    let takes = ap (takes_by_word w) as_it ∙ ((any w u e is).0 ∙ taken) in
    let next = ap (watch_by_word w) as_it ∙ (any w u e is).1 in
    let s = judged_line own w m in
    record {
      marks = record (marks_after n f (Some u) m) { words = n };
      is = ap (λ (x : Wanted). begun_next (lacking_with lacks.Nothing x (is_given e) lacking (wanted_words w e)) before s n e lacking) is
          ∙ (λ i. marked_words n (record (shown_more (next_by (known_if (takes i) (FromStart (next i))) s n f) e lacking) { lacking = lacks.Words (left_unknown w e lacking) 0 (is_given e) }));
      hidden = same_mode w e ∙ q;
    }

whole_runs : AnyWordsAreTaken → (before : Before) (own : NodeId) (w : WatchedWords) (m : Marked) (n : ℕ) (e : Flit) (v : List ℕ) → wanted w e ≡ wants.Any → hides w ≡ true → (is_taken w.line e && agree (wanted_words w e) v) ≡ true
    → Runs (line_next before (judged_line own w m) n (news.Flit (Some (flit_with e v)))) own lacks.Nothing v (watch_by_word w e)
unfolding line_next
whole_runs any before own w m n e v is q taken =
    let takes = (any w v e is).0 ∙ taken in
    let next = (any w v e is).1 in
    record {
      marks = marks_after n (flit_with e v) (Some v) m;
      is = λ i. next_by (known_if (takes i) (FromStart (next i))) (judged_line own w m) n (flit_with e v);
      hidden = same_mode w e ∙ q;
    }

takes_last : (before : Before) (home h : NodeId) (u : List Bool) (had : Bool) (v : List ℕ) (y : WatchedWords) (m : Marked) (k : ℕ) (f : Flit)
    → takes_line before (line_of h (lacks.Words u 0 had) v y m) home k (news.Ended (Some f)) ≡ agrees u (Some v) (shown_words f)
unfolding takes_line
takes_last before home h u had v y m k f = refl

told_last : (before : Before) (h : NodeId) (u : List Bool) (had : Bool) (v : List ℕ) (y : WatchedWords) (m : Marked) (k : ℕ) (f : Flit)
    → (line_next before (line_of h (lacks.Words u 0 had) v y m) k (news.Ended (Some f))).told ≡ FromStart (homed (shown_words f) y)
unfolding line_next
told_last before h u had v y m k f = refl

same_number : (a : ℕ) → (a == a) ≡ true
same_number a = search (rules, arith)

-- a word is as known where the first beat's is, which has the known one where it lacks, and the last one's is the first one's
-- where that was known
one_place : (l : Bool) (k : Option ℕ) (a h x : ℕ) → x ≡ word_with a x l
    → (fits_known k (word_with a (unwrap_or k h) l) && agrees_word (l && not (is_some k)) (word_with a (unwrap_or k h) l) x) ≡ fits_known k x
one_place false k a h x e = ap (λ (b : Bool). fits_known k a && b) (ap (λ (y : ℕ). a == y) e ∙ same_number a) ∙ (and_true (fits_known k a) ∙ ap (fits_known k) (sym e))
one_place true None a h x e = refl
one_place true (Some c) a h x e = ap (λ (b : Bool). b && (c == x)) (same_number c)

-- eight that are true
record All (a b c d e f g h : Bool) : Type 0 where
  pub p0 : a ≡ true
  pub p1 : b ≡ true
  pub p2 : c ≡ true
  pub p3 : d ≡ true
  pub p4 : e ≡ true
  pub p5 : f ≡ true
  pub p6 : g ≡ true
  pub p7 : h ≡ true

all_of : (a b c d e f g h : Bool) → All a b c d e f g h → (a && b && c && d && e && f && g && h) ≡ true
all_of a b c d e f g h p = λ i. p.p0 i && p.p1 i && p.p2 i && p.p3 i && p.p4 i && p.p5 i && p.p6 i && p.p7 i

all_in : (a b c d e f g h : Bool) → (a && b && c && d && e && f && g && h) ≡ true → All a b c d e f g h
all_in true true true true true true true true p = record { p0 = refl; p1 = refl; p2 = refl; p3 = refl; p4 = refl; p5 = refl; p6 = refl; p7 = refl }
all_in false b c d e f g h p = untrue p
all_in true false c d e f g h p = untrue p
all_in true true false d e f g h p = untrue p
all_in true true true false e f g h p = untrue p
all_in true true true true false f g h p = untrue p
all_in true true true true true false g h p = untrue p
all_in true true true true true true false h p = untrue p
all_in true true true true true true true false p = untrue p

below_of : (f : ℕ → Bool) → All (f 0) (f 1) (f 2) (f 3) (f 4) (f 5) (f 6) (f 7) → all_below 8 f ≡ true
below_of f p = λ i. p.p7 i && (p.p6 i && (p.p5 i && (p.p4 i && (p.p3 i && (p.p2 i && (p.p1 i && (p.p0 i && true)))))))

below_nest : (a b c d e f g h : Bool) → (h && (g && (f && (e && (d && (c && (b && (a && true)))))))) ≡ true → All a b c d e f g h
below_nest true true true true true true true true p = record { p0 = refl; p1 = refl; p2 = refl; p3 = refl; p4 = refl; p5 = refl; p6 = refl; p7 = refl }
below_nest a b c d e f g false p = untrue p
below_nest a b c d e f false true p = untrue p
below_nest a b c d e false true true p = untrue p
below_nest a b c d false true true true p = untrue p
below_nest a b c false true true true true p = untrue p
below_nest a b false true true true true true p = untrue p
below_nest a false true true true true true true p = untrue p
below_nest false true true true true true true true p = untrue p

below_in : (f : ℕ → Bool) → all_below 8 f ≡ true → All (f 0) (f 1) (f 2) (f 3) (f 4) (f 5) (f 6) (f 7)
below_in f p = below_nest (f 0) (f 1) (f 2) (f 3) (f 4) (f 5) (f 6) (f 7) p

same_bool : (a b : Bool) → (a ≡ true → b ≡ true) → (b ≡ true → a ≡ true) → a ≡ b
same_bool true b h k = sym (h refl)
same_bool false true h k = k refl
same_bool false false h k = refl

-- the words of all beats are as known where those of the first one are, and the last one's agree
module _ (w : WatchedWords) (e : Flit) (lacking : List Bool) (words : List ℕ) (d : IsData e) (own : words_with (flit_words e) words lacking ≡ words) where
  abbrev known : Words
  known = wanted_words w e

  abbrev word : ℕ → ℕ
  word n = slice_index_or (shown_words e) n 0

  abbrev told : ℕ → ℕ
  told n = slice_index_or words n 0

  abbrev old : ℕ → ℕ
  old n = slice_index_or (home_words w e) n 0

  abbrev first_fits : ℕ → Bool
  first_fits n = fits_known (known n) (slice_index_or (first_words w e lacking) n 0)

  abbrev whole_fits : ℕ → Bool
  whole_fits n = fits_known (known n) (told n)

  abbrev last_fits : ℕ → Bool
  last_fits n = agrees_at (left_unknown w e lacking) (begun_words w e lacking) words n

  there : (n : ℕ) → told n ≡ slice_index_or (words_with (shown_words e) words lacking) n 0
  there n = ap (λ (v : List ℕ). slice_index_or v n 0) (sym (ap (λ (v : List ℕ). words_with v words lacking) d.words ∙ own))

  at : (n : ℕ) → told n ≡ word_with (word n) (told n) (word_at lacking n)
      → (fits_known (known n) (word_with (word n) (unwrap_or (known n) (old n)) (word_at lacking n)) && agrees_word (word_at lacking n && not (is_some (known n))) (word_with (word n) (unwrap_or (known n) (old n)) (word_at lacking n)) (told n)) ≡ whole_fits n
  at n same = one_place (word_at lacking n) (known n) (word n) (old n) (told n) same

  at0 : (first_fits 0 && last_fits 0) ≡ whole_fits 0
  at0 = at 0 (there 0)

  at1 : (first_fits 1 && last_fits 1) ≡ whole_fits 1
  at1 = at 1 (there 1)

  at2 : (first_fits 2 && last_fits 2) ≡ whole_fits 2
  at2 = at 2 (there 2)

  at3 : (first_fits 3 && last_fits 3) ≡ whole_fits 3
  at3 = at 3 (there 3)

  at4 : (first_fits 4 && last_fits 4) ≡ whole_fits 4
  at4 = at 4 (there 4)

  at5 : (first_fits 5 && last_fits 5) ≡ whole_fits 5
  at5 = at 5 (there 5)

  at6 : (first_fits 6 && last_fits 6) ≡ whole_fits 6
  at6 = at 6 (there 6)

  at7 : (first_fits 7 && last_fits 7) ≡ whole_fits 7
  at7 = at 7 (there 7)

  joined : (agree known (first_words w e lacking) && agrees (left_unknown w e lacking) (Some (begun_words w e lacking)) words) ≡ true → agree known words ≡ true
  joined h =
      let p = below_in first_fits (both_left (agree known (first_words w e lacking)) _ h) in
      let q = all_in (last_fits 0) (last_fits 1) (last_fits 2) (last_fits 3) (last_fits 4) (last_fits 5) (last_fits 6) (last_fits 7) (both_right (agree known (first_words w e lacking)) _ h) in
      below_of whole_fits (record {
        p0 = sym at0 ∙ both _ _ p.p0 q.p0;
        p1 = sym at1 ∙ both _ _ p.p1 q.p1;
        p2 = sym at2 ∙ both _ _ p.p2 q.p2;
        p3 = sym at3 ∙ both _ _ p.p3 q.p3;
        p4 = sym at4 ∙ both _ _ p.p4 q.p4;
        p5 = sym at5 ∙ both _ _ p.p5 q.p5;
        p6 = sym at6 ∙ both _ _ p.p6 q.p6;
        p7 = sym at7 ∙ both _ _ p.p7 q.p7;
      })

  parted : agree known words ≡ true → (agree known (first_words w e lacking) && agrees (left_unknown w e lacking) (Some (begun_words w e lacking)) words) ≡ true
  parted h =
      let r = below_in whole_fits h in
      let b0 = at0 ∙ r.p0 in
      let b1 = at1 ∙ r.p1 in
      let b2 = at2 ∙ r.p2 in
      let b3 = at3 ∙ r.p3 in
      let b4 = at4 ∙ r.p4 in
      let b5 = at5 ∙ r.p5 in
      let b6 = at6 ∙ r.p6 in
      let b7 = at7 ∙ r.p7 in
      both _ _
      (below_of first_fits (record {
        p0 = both_left (first_fits 0) (last_fits 0) b0;
        p1 = both_left (first_fits 1) (last_fits 1) b1;
        p2 = both_left (first_fits 2) (last_fits 2) b2;
        p3 = both_left (first_fits 3) (last_fits 3) b3;
        p4 = both_left (first_fits 4) (last_fits 4) b4;
        p5 = both_left (first_fits 5) (last_fits 5) b5;
        p6 = both_left (first_fits 6) (last_fits 6) b6;
        p7 = both_left (first_fits 7) (last_fits 7) b7;
      }))
      (all_of (last_fits 0) (last_fits 1) (last_fits 2) (last_fits 3) (last_fits 4) (last_fits 5) (last_fits 6) (last_fits 7) (record {
        p0 = both_right (first_fits 0) (last_fits 0) b0;
        p1 = both_right (first_fits 1) (last_fits 1) b1;
        p2 = both_right (first_fits 2) (last_fits 2) b2;
        p3 = both_right (first_fits 3) (last_fits 3) b3;
        p4 = both_right (first_fits 4) (last_fits 4) b4;
        p5 = both_right (first_fits 5) (last_fits 5) b5;
        p6 = both_right (first_fits 6) (last_fits 6) b6;
        p7 = both_right (first_fits 7) (last_fits 7) b7;
      }))

  last_agrees : (agree known (first_words w e lacking) && agrees (left_unknown w e lacking) (Some (begun_words w e lacking)) words) ≡ agree known words
  last_agrees = same_bool _ _ joined parted

-- whether the first beat is taken, and whether the last one agrees
abbrev agrees_last : WatchedWords → Flit → List Bool → List ℕ → Bool
agrees_last w e lacking words = agrees (left_unknown w e lacking) (Some (begun_words w e lacking)) words

takes_words : AnyWordsAreTaken → (w : WatchedWords) (e : Flit) (lacking : List Bool) (words : List ℕ) → wanted w e ≡ wants.Any → words_with (flit_words e) words lacking ≡ words
    → takes_by_word w (flit_with e words) ≡ (takes_first w e lacking && agrees_last w e lacking words)
takes_words any w e lacking words is own =
    let d = is_data w e (λ none. any_is_wanted (sym is ∙ none)) in
    (any w words e is).0
    ∙ (ap (λ (b : Bool). is_taken w.line e && b) (sym (last_agrees w e lacking words d own))
    ∙ grouped (is_taken w.line e) (agree (wanted_words w e) (first_words w e lacking)) (agrees_last w e lacking words))

begun_alike : WordlessFlitsAreApart → AnyWordsAreTaken → (before : Before) (own home : NodeId) (w : WatchedWords) (m : Marked) (n k : ℕ) (e : Flit) (lacking : List Bool) (words : List ℕ) (ps : List (ℕ × Flit)) (t a : Bool)
    → wanted w e ≡ wants.Any → words_with (flit_words e) words lacking ≡ words → hides w ≡ true → all_wordless ps ≡ true → takes_first w e lacking ≡ t → agrees_last w e lacking words ≡ a
    → Alike before own home w m n k e lacking words ps None
begun_alike apart any before own home w m n k e lacking words ps false a is fit q ws taken ends =
    let s = judged_line own w m in
    let c = own.0 == home.0 in
    let end = flit_with e words in
    neither before home s (in_two None n k e lacking words (told_of ps)) (in_one n e words ps)
    (ap (λ (b : Bool). b && takes_all before home (line_next before s n (news.Begun e lacking)) (told_of ps ++ ((k, news.Ended (Some end)) ∷ []))) (takes_begin any before own home w m n e lacking is ∙ shut c (takes_first w e lacking) taken))
    (ap (λ (b : Bool). b && takes_all before home (line_next before s n (news.Flit (Some end))) (told_of ps))
    (takes_whole before own home w m n end ∙ shut c (takes_by_word w end) (takes_words any w e lacking words is fit ∙ ap (λ (b : Bool). b && agrees_last w e lacking words) taken)))
begun_alike apart any before own home w m n k e lacking words ps true false is fit q ws taken ends =
    let s = judged_line own w m in
    let c = own.0 == home.0 in
    let end = flit_with e words in
    let d = is_data w e (λ none. any_is_wanted (sym is ∙ none)) in
    let z = watch_by_word w e in
    let v = begun_words w e lacking in
    let begun = line_next before s n (news.Begun e lacking) in
    let run = begin_runs any before own w m n e lacking is q taken in
    let behind = all_run apart before own (lacks.Words (left_unknown w e lacking) 0 (is_given e)) v refl ps ws begun z run in
    let first = takes_line before s home n (news.Begun e lacking) in
    let last : (takes_line before (behind_all before begun (told_of ps)) home k (news.Ended (Some end)) && true) ≡ false =
    ap (λ (y : LineState). takes_line before y home k (news.Ended (Some end)) && true) behind.is
    ∙ ap (λ (b : Bool). b && true) (takes_last before home own (left_unknown w e lacking) (is_given e) v (through z ps) behind.marks k end ∙ (ap (λ (x : List ℕ). agrees (left_unknown w e lacking) (Some v) x) (d.all words) ∙ ends)) in
    let rest = takes_both before home begun (told_of ps) ((k, news.Ended (Some end)) ∷ [])
    ∙ shut (takes_all before home begun (told_of ps)) (takes_line before (behind_all before begun (told_of ps)) home k (news.Ended (Some end)) && true) last in
    neither before home s (in_two None n k e lacking words (told_of ps)) (in_one n e words ps)
    (shut first (takes_all before home begun (told_of ps ++ ((k, news.Ended (Some end)) ∷ []))) rest)
    (ap (λ (b : Bool). b && takes_all before home (line_next before s n (news.Flit (Some end))) (told_of ps))
    (takes_whole before own home w m n end ∙ shut c (takes_by_word w end) (takes_words any w e lacking words is fit ∙ shut (takes_first w e lacking) (agrees_last w e lacking words) ends)))
begun_alike apart any before own home w m n k e lacking words ps true true is fit q ws taken ends =
    let s = judged_line own w m in
    let c = own.0 == home.0 in
    let end = flit_with e words in
    let d = is_data w e (λ none. any_is_wanted (sym is ∙ none)) in
    let z = watch_by_word w e in
    let v = begun_words w e lacking in
    let begun = line_next before s n (news.Begun e lacking) in
    let whole = line_next before s n (news.Flit (Some end)) in
    let all_taken_here = takes_words any w e lacking words is fit ∙ both (takes_first w e lacking) (agrees_last w e lacking words) taken ends in
    let run = begin_runs any before own w m n e lacking is q taken in
    let run_whole = whole_runs any before own w m n e words is q (sym (any w words e is).0 ∙ all_taken_here) in
    let behind = all_run apart before own (lacks.Words (left_unknown w e lacking) 0 (is_given e)) v refl ps ws begun z run in
    let behind_whole = all_run apart before own lacks.Nothing words refl ps ws whole z run_whole in
    let first = takes_begin any before own home w m n e lacking is ∙ ap (λ (b : Bool). c && b) taken in
    let entire = takes_whole before own home w m n end ∙ ap (λ (b : Bool). c && b) all_taken_here in
    let last : (takes_line before (behind_all before begun (told_of ps)) home k (news.Ended (Some end)) && true) ≡ true =
    ap (λ (y : LineState). takes_line before y home k (news.Ended (Some end)) && true) behind.is
    ∙ ap (λ (b : Bool). b && true) (takes_last before home own (left_unknown w e lacking) (is_given e) v (through z ps) behind.marks k end ∙ (ap (λ (x : List ℕ). agrees (left_unknown w e lacking) (Some v) x) (d.all words) ∙ ends)) in
    let rest = takes_both before home begun (told_of ps) ((k, news.Ended (Some end)) ∷ [])
    ∙ (opened (takes_all before home begun (told_of ps)) (takes_line before (behind_all before begun (told_of ps)) home k (news.Ended (Some end)) && true) last
    ∙ all_taken apart before home own (lacks.Words (left_unknown w e lacking) 0 (is_given e)) v refl ps ws begun z run) in
    let others = all_taken apart before home own lacks.Nothing words refl ps ws whole z run_whole in
    record {
      taken = (λ i. first i && rest i) ∙ sym (λ i. entire i && others i);
      told = λ h. ap (λ (y : LineState). y.told) (behind_both before begun (told_of ps) ((k, news.Ended (Some end)) ∷ []))
          ∙ (ap (λ (y : LineState). (line_next before y k (news.Ended (Some end))).told) behind.is
          ∙ (told_last before own (left_unknown w e lacking) (is_given e) v (through z ps) behind.marks k end
          ∙ (ap (λ (x : List ℕ). FromStart (homed x (through z ps))) (d.all words) ∙ sym (ap (λ (y : LineState). y.told) behind_whole.is))));
    }

of_any : WordlessFlitsAreApart → AnyWordsAreTaken → (before : Before) (own home : NodeId) (w : WatchedWords) (m : Marked) (n k : ℕ) (e : Flit) (lacking : List Bool) (words : List ℕ) (ps : List (ℕ × Flit))
    → wanted w e ≡ wants.Any → words_with (flit_words e) words lacking ≡ words → (not (is_told_any (wanted w e)) || (hides w && all_wordless ps)) ≡ true → Alike before own home w m n k e lacking words ps (early_of (judged_line own w m) e lacking)
of_any apart any before own home w m n k e lacking words ps is agree ws =
    let so = sym (ap (λ (y : Wanted). not (is_told_any y) || (hides w && all_wordless ps)) is) ∙ ws in
    subst (Alike before own home w m n k e lacking words ps) (sym (ap (λ (y : Wanted). early_by y (judged_line own w m) e lacking) is))
    (begun_alike apart any before own home w m n k e lacking words ps (takes_first w e lacking) (agrees_last w e lacking words) is agree (both_left (hides w) _ so) (both_right (hides w) _ so) refl refl)

-- THE LAW
by_wanted : {P : Type 0} (x : Wanted) → x ≢ wants.Nothing → (x ≡ wants.Known → P) → (x ≡ wants.Any → P) → (x ≡ wants.Free → P) → P
by_wanted wants.Nothing n known any free = absurd (n refl)
by_wanted wants.Known n known any free = known refl
by_wanted wants.Any n known any free = any refl
by_wanted wants.Free n known any free = free refl

pub one_flit : WordlessFlitsAreApart → AnyWordsAreTaken → FreeWordsAreTaken → KnownWordsAreTaken → BeatsAreOneFlit
one_flit apart any free known before own home w m e lacking words ps n k some agree ws = by_wanted (wanted w e) some
    (λ is. of_known known before own home w m n k e lacking words ps is agree)
    (λ is. of_any apart any before own home w m n k e lacking words ps is agree ws)
    (λ is. of_free free before own home w m n k e lacking words ps is)
