-- Data in beats beside whole data in the place of their first beat.
use Rattle.std.proofs.Common.{rules, arith, ◌≡◌, ◌≢◌, ◌==◌, ℕ, List, refl, sym, ap, subst, ◌∙◌, true≢false}
use Rattle.std.specs.Prelude.{Bool, true, false, ◌&&◌, ◌||◌, not, nat_lt, nat_eq, Option, Some, None, is_some, option_map, [], ◌∷◌, ◌++◌, if◌then◌else◌}
use Rattle.std.specs.Cmp.Lexicographic.{bytes_decides, pointwise}
use Rattle.chi_trace.specs.declared.fields.NodeId.{NodeId}
use Rattle.chi_flit.specs.declared.numbers.Agent.{Agent}
use Rattle.chi_observer.specs.declared.flits.Act.{Act}
use Rattle.chi_observer.specs.declared.flits.Act.TheVariants.{Load}
use Rattle.chi_observer.specs.declared.flits.Flit.{Flit}
use Rattle.chi_observer.specs.declared.flits.Flit.TheVariants.{Up, Down}
use Rattle.chi_observer.specs.declared.wanted.Wanted.{Wanted}
use Rattle.chi_observer.specs.declared.wanted.Wanted.TheVariants as wants
use Rattle.chi_observer.specs.Rules.{are_hidden, gives_data, has_data, lets_go, looks, stores, tells_words}
use Rattle.chi_observer.specs.Tables.{renews, shows_told}
use Rattle.chi_observer.specs.Worded.{agree}
use Rattle.chi_observer.specs.WordedLines.{WatchedWords, takes_by_word, watch_by_word, worded_in}
use Rattle.chi_observer.specs.Observed.{fits}
use Rattle.chi_observer.specs.Lines.{Watched}
use Rattle.chi_observer.specs.Counted.{may_tell, may_tell_store}
use Rattle.chi_observer.specs.Wanted.{FreeWordsAreTaken, KnownWordsAreTaken, WordlessFlitsAreApart, flit_with, flit_words, homed, is_listed_store, is_wordless, reads_home, tells_cancelled, wanted, wanted_given, wanted_if, wanted_sent, with_home}
use Rattle.chi_observer.proofs.DataInBeats.{either_way, wanted_as}
use Rattle.chi_observe.specs.declared.ids.Later.{Later}
use Rattle.chi_observe.specs.declared.ids.Later.TheVariants as laters
use Rattle.chi_observe.specs.declared.lacking.Lacking.{Lacking}
use Rattle.chi_observe.specs.declared.lacking.Lacking.TheVariants as lacks
use Rattle.chi_observe.specs.declared.lines.LineNews.{LineNews}
use Rattle.chi_observe.specs.declared.lines.LineNews.TheVariants as news
use Rattle.chi_observe.specs.Judges.{Before, Judged, known_if}
use Rattle.chi_observe.specs.Judges.Judged.{FromStart}
use Rattle.chi_observe.specs.Lacking.{lacking_shown, may_show}
use Rattle.chi_observe.specs.Lines.{LineState, apart_of, early_by, early_of, flit_next, is_given, is_passed, is_wanted_free, is_wanted_known, lacks_of, line_next, marked_words, next_by, presented, put_aside, shown_next, shown_words, showing_by, takes_flit, takes_line, wanted_of, with_shown}
use Rattle.chi_observe.specs.Marks.{Marked, marks_after, shows_words}
use Rattle.chi_observe.specs.InBeats.{AreAlike, all_wordless, behind_all, in_one, in_two, judged_line, takes_all, told_of}
use Rattle.chi_observe.specs.Words.{lacks_some, left_of, words_with}

-- marks
pub untrue : {A : Type 0} → false ≡ true → A
untrue h = absurd (true≢false (sym h))

pub both_left : (a b : Bool) → (a && b) ≡ true → a ≡ true
both_left true b h = refl
both_left false b h = untrue h

pub both : (a b : Bool) → a ≡ true → b ≡ true → (a && b) ≡ true
both true b h e = e
both false b h e = h

pub both_right : (a b : Bool) → (a && b) ≡ true → b ≡ true
both_right true b h = h
both_right false b h = untrue h

no_left : (a b : Bool) → not (a || b) ≡ true → a ≡ false
no_left true b h = sym h
no_left false b h = refl

no_right : (a b : Bool) → not (a || b) ≡ true → b ≡ false
no_right true b h = untrue h
no_right false true h = sym h
no_right false false h = refl

turned : (a : Bool) → not a ≡ true → a ≡ false
turned true h = sym h
turned false h = refl

pub shut : (a b : Bool) → b ≡ false → (a && b) ≡ false
shut true b h = h
shut false b h = refl

pub opened : (a b : Bool) → b ≡ true → (a && b) ≡ a
opened true b h = h
opened false b h = refl

pub and_true : (a : Bool) → (a && true) ≡ a
and_true true = refl
and_true false = refl

pub grouped : (a b c : Bool) → (a && (b && c)) ≡ ((a && b) && c)
grouped true b c = refl
grouped false b c = refl

by_bool : {P : Type 0} (b : Bool) → (b ≡ true → P) → (b ≡ false → P) → P
by_bool true up down = up refl
by_bool false up down = down refl

pub any_is_wanted : wants.Any ≢ wants.Nothing
any_is_wanted h = search (rules, arith)

known_is_wanted : wants.Known ≢ wants.Nothing
known_is_wanted h = search (rules, arith)

-- one part of what a line is told after the other
pub takes_both : (before : Before) (home : NodeId) (s : LineState) (xs ys : List (ℕ × LineNews)) → takes_all before home s (xs ++ ys) ≡ (takes_all before home s xs && takes_all before home (behind_all before s xs) ys)
takes_both before home s [] ys = refl
takes_both before home s (x ∷ xs) ys =
    ap (λ (b : Bool). takes_line before s home x.0 x.1 && b) (takes_both before home (line_next before s x.0 x.1) xs ys)
    ∙ grouped (takes_line before s home x.0 x.1) (takes_all before home (line_next before s x.0 x.1) xs) (takes_all before home (behind_all before (line_next before s x.0 x.1) xs) ys)

pub behind_both : (before : Before) (s : LineState) (xs ys : List (ℕ × LineNews)) → behind_all before s (xs ++ ys) ≡ behind_all before (behind_all before s xs) ys
behind_both before s [] ys = refl
behind_both before s (x ∷ xs) ys = behind_both before (line_next before s x.0 x.1) xs ys

-- flits without words have none that are wanted, and read none
some_if : (b : Bool) (v : List ℕ) → is_some (if b then Some v else None) ≡ b
some_if true v = refl
some_if false v = refl

shows_none : (f : Flit) → is_wordless f ≡ true → is_some (shows_words f) ≡ false
shows_none (Up f) w = some_if (tells_words f.act) f.shown ∙ no_left (tells_words f.act) (looks f.act) w
shows_none (Down g) w = some_if (gives_data g.grant) g.shown ∙ turned (gives_data g.grant) w

unsent : (reach told other : Bool) (k : Wanted) → told ≡ false → is_wanted_known (if reach then (if not told || other then wants.Nothing else k) else wants.Nothing) ≡ false
unsent true false other k h = refl
unsent true true other k h = untrue (sym h)
unsent false told other k h = refl

ungiven : (reach gives other : Bool) (k : Wanted) → gives ≡ false → is_wanted_known (if reach then (if gives && other then k else (if gives then wants.Free else wants.Nothing)) else wants.Nothing) ≡ false
ungiven true false other k h = refl
ungiven true true other k h = untrue (sym h)
ungiven false gives other k h = refl

wants_none : (y : WatchedWords) (f : Flit) → is_wordless f ≡ true → is_wanted_known (wanted y f) ≡ false
wants_none y (Up f) w = unsent (nat_lt f.agent.0 32) (tells_words f.act) (tells_cancelled (worded_in y) f) _ (no_left (tells_words f.act) (looks f.act) w)
wants_none y (Down g) w = ungiven (nat_lt g.agent.0 32) (gives_data g.grant) _ _ (turned (gives_data g.grant) w)

unread : (reach look any : Bool) → look ≡ false → (reach && (look && any)) ≡ false
unread true look any h = ap (λ (b : Bool). b && any) h
unread false look any h = refl

reads_none : (y : Watched) (f : Flit) → is_wordless f ≡ true → reads_home y f ≡ false
reads_none y (Up f) w = unread (nat_lt f.agent.0 32) (looks f.act) _ (no_right (tells_words f.act) (looks f.act) w)
reads_none y (Down g) w = refl

tells_none : (y : Watched) (f : Flit) → is_wordless f ≡ true → may_tell y f ≡ false
tells_none y (Up f) w = unread (nat_lt f.agent.0 32) (looks f.act) (may_tell_store y.seen f.agent.0) (no_right (tells_words f.act) (looks f.act) w)
tells_none y (Down g) w = refl

shows_nothing : (y : WatchedWords) (f : Flit) → is_wordless f ≡ true → (is_wanted_known (wanted y f) || reads_home y.line f) ≡ false
shows_nothing y f w =
    let known = wants_none y f w in
    let read = reads_none y.line f w in
    λ i. known i || read i

-- a line that is judged, but for its marks: the home has these words beside what else is told
abbrev pub line_of : NodeId → Lacking → List ℕ → WatchedWords → Marked → LineState
line_of h l v y m = record { home = h; aside = false; why = None; lacking = l; told = FromStart (homed v y); marks = m }

-- where stores may be hidden no store is kept
abbrev pub hides : WatchedWords → Bool
hides y = are_hidden y.line.seen.public.stores

unlisted : (y : WatchedWords) (f : Flit) → hides y ≡ true → is_listed_store y f ≡ false
unlisted y (Up f) q = ap (λ (b : Bool). not b && stores f.act) q
unlisted y (Down g) q = refl

pub same_mode : (y : WatchedWords) (f : Flit) → hides (watch_by_word y f) ≡ hides y
same_mode y (Up f) = refl
same_mode y (Down g) = refl

pub record Runs (s : LineState) (h : NodeId) (l : Lacking) (v : List ℕ) (y : WatchedWords) : Type 0 where
  pub marks : Marked
  pub is : s ≡ line_of h l v y marks
  pub hidden : hides y ≡ true

abbrev behind_it : WatchedWords → Flit → WatchedWords
behind_it y f = if takes_by_word y f then watch_by_word y f else y

hides_behind : (y : WatchedWords) (f : Flit) → hides y ≡ true → hides (behind_it y f) ≡ true
hides_behind y f q = go (takes_by_word y f)
  where
    go : (b : Bool) → hides (if b then watch_by_word y f else y) ≡ true
    go true = same_mode y f ∙ q
    go false = q

abbrev is_early : Lacking → Bool
is_early lacks.Data = false
is_early other = true

not_showing : (l : Lacking) (h : NodeId) (v : List ℕ) (y : WatchedWords) (m : Marked) (f : Flit) → is_wordless f ≡ true → showing_by l (line_of h l v y m) f ≡ false
not_showing lacks.Nothing h v y m f w = refl
not_showing lacks.Data h v y m f w = refl
not_showing (lacks.Words unknown others had) h v y m f w = ap (λ (b : Bool). b && may_show (lacks.Words unknown others had) (is_given f) (lacks_of f)) (shows_nothing (homed v y) f w)

goes_apart : (l : Lacking) (h : NodeId) (v : List ℕ) (y : WatchedWords) (m : Marked) (f : Flit) → is_early l ≡ true → is_wordless f ≡ true → hides y ≡ true → apart_of l (line_of h l v y m) f ≡ true
goes_apart lacks.Nothing h v y m f e w q = refl
goes_apart lacks.Data h v y m f e w q = untrue e
goes_apart (lacks.Words unknown others had) h v y m f e w q =
    let none = shows_none f w in
    let kept = unlisted (homed v y) f q in
    let asks = tells_none (with_home v y.line) f w in
    λ i. (not (none i) || is_wanted_free (wanted_of (line_of h (lacks.Words unknown others had) v y m) f)) && (not (kept i) && not (asks i && lacks_some (left_of unknown (lacks_of f))))

pub passed_by : (b : Bool) (t : Judged) → is_passed (known_if b t) ≡ b
passed_by true t = refl
passed_by false t = refl

takes_step : WordlessFlitsAreApart → (before : Before) (home h : NodeId) (l : Lacking) (v : List ℕ) (y : WatchedWords) (m : Marked) (n : ℕ) (f : Flit)
    → is_early l ≡ true → is_wordless f ≡ true → hides y ≡ true → takes_line before (line_of h l v y m) home n (news.Flit (Some f)) ≡ (h.0 == home.0 && takes_by_word y f)
unfolding takes_line
takes_step apart before home h l v y m n f e w q =
    let s = line_of h l v y m in
    let here : Flit → Bool = λ x. h.0 == home.0 && is_passed (known_if (takes_by_word (homed v y) x) (FromStart (watch_by_word (homed v y) x))) in
    ap (λ (b : Bool). if b then takes_flit before s home n (Some (presented s f (lacks_of f))) else not (apart_of l s f) || here f) (not_showing l h v y m f w)
    ∙ (ap (λ (b : Bool). not b || here f) (goes_apart l h v y m f e w q)
    ∙ ap (λ (b : Bool). h.0 == home.0 && b) (passed_by (takes_by_word (homed v y) f) (FromStart (watch_by_word (homed v y) f)) ∙ (apart y v f w (unlisted y f q)).0))

abbrev marks_at : Bool → ℕ → Flit → List ℕ → Marked → Marked
marks_at b n f v m = if b then marks_after n f (Some v) m else m

next_at : (b : Bool) (h : NodeId) (l : Lacking) (v : List ℕ) (y z : WatchedWords) (m : Marked) (n : ℕ) (f : Flit)
    → next_by (known_if b (FromStart (homed v z))) (line_of h l v y m) n f ≡ line_of h l v (if b then z else y) (marks_at b n f v m)
next_at true h l v y z m n f = refl
next_at false h l v y z m n f = refl

next_step : WordlessFlitsAreApart → (before : Before) (h : NodeId) (l : Lacking) (v : List ℕ) (y : WatchedWords) (m : Marked) (n : ℕ) (f : Flit)
    → is_early l ≡ true → is_wordless f ≡ true → hides y ≡ true → line_next before (line_of h l v y m) n (news.Flit (Some f)) ≡ line_of h l v (behind_it y f) (marks_at (takes_by_word y f) n f v m)
unfolding line_next
next_step apart before h l v y m n f e w q =
    let s = line_of h l v y m in
    let same = apart y v f w (unlisted y f q) in
    ap (λ (b : Bool). if b then shown_next before s n f (lacks_of f) (lacking_shown l (lacks_of f)) else (if apart_of l s f then flit_next before s n (Some f) else put_aside s)) (not_showing l h v y m f w)
    ∙ (ap (λ (b : Bool). if b then flit_next before s n (Some f) else put_aside s) (goes_apart l h v y m f e w q)
    ∙ ((λ i. next_by (known_if (same.0 i) (FromStart (same.1 i))) s n f)
    ∙ next_at (takes_by_word y f) h l v y (watch_by_word y f) m n f))

runs_step : WordlessFlitsAreApart → (before : Before) (h : NodeId) (l : Lacking) (v : List ℕ) (y : WatchedWords) (s : LineState) (n : ℕ) (f : Flit)
    → is_early l ≡ true → is_wordless f ≡ true → Runs s h l v y → Runs (line_next before s n (news.Flit (Some f))) h l v (behind_it y f)
runs_step apart before h l v y s n f e w r = record {
  marks = marks_at (takes_by_word y f) n f v r.marks;
  is = ap (λ (x : LineState). line_next before x n (news.Flit (Some f))) r.is ∙ next_step apart before h l v y r.marks n f e w r.hidden;
  hidden = hides_behind y f r.hidden;
}

-- and all of them
abbrev pub through : WatchedWords → List (ℕ × Flit) → WatchedWords
through y [] = y
through y (p ∷ ps) = through (behind_it y p.1) ps

abbrev taken_through : NodeId → NodeId → WatchedWords → List (ℕ × Flit) → Bool
taken_through h home y [] = true
taken_through h home y (p ∷ ps) = (h.0 == home.0 && takes_by_word y p.1) && taken_through h home (behind_it y p.1) ps

pub all_taken : WordlessFlitsAreApart → (before : Before) (home h : NodeId) (l : Lacking) (v : List ℕ) → is_early l ≡ true
    → (ps : List (ℕ × Flit)) → all_wordless ps ≡ true → (s : LineState) (y : WatchedWords) → Runs s h l v y → takes_all before home s (told_of ps) ≡ taken_through h home y ps
all_taken apart before home h l v e [] w s y r = refl
all_taken apart before home h l v e (p ∷ ps) w s y r =
    let own = both_left (is_wordless p.1) (all_wordless ps) w in
    let here = ap (λ (x : LineState). takes_line before x home p.0 (news.Flit (Some p.1))) r.is ∙ takes_step apart before home h l v y r.marks p.0 p.1 e own r.hidden in
    let rest = all_taken apart before home h l v e ps (both_right (is_wordless p.1) (all_wordless ps) w) (line_next before s p.0 (news.Flit (Some p.1))) (behind_it y p.1) (runs_step apart before h l v y s p.0 p.1 e own r) in
    λ i. here i && rest i

pub all_run : WordlessFlitsAreApart → (before : Before) (h : NodeId) (l : Lacking) (v : List ℕ) → is_early l ≡ true
    → (ps : List (ℕ × Flit)) → all_wordless ps ≡ true → (s : LineState) (y : WatchedWords) → Runs s h l v y → Runs (behind_all before s (told_of ps)) h l v (through y ps)
all_run apart before h l v e [] w s y r = r
all_run apart before h l v e (p ∷ ps) w s y r =
    all_run apart before h l v e ps (both_right (is_wordless p.1) (all_wordless ps) w) (line_next before s p.0 (news.Flit (Some p.1))) (behind_it y p.1)
    (runs_step apart before h l v y s p.0 p.1 e (both_left (is_wordless p.1) (all_wordless ps) w) r)

-- data have the words that they show
words_as : (e : Flit) (words : List ℕ) → flit_words (flit_with e words) ≡ words
words_as (Up f) words = refl
words_as (Down g) words = refl

with_own : (e : Flit) → flit_with e (flit_words e) ≡ e
with_own (Up f) = refl
with_own (Down g) = refl

pub record IsData (e : Flit) : Type 0 where
  pub words : shown_words e ≡ flit_words e
  pub shown : (v : List ℕ) → with_shown e v ≡ flit_with e v
  pub all : (v : List ℕ) → shown_words (flit_with e v) ≡ v

data_of : (n : Agent) (act : Act) (v : List ℕ) (w : WatchedWords) → wanted w (Up (record { agent = n; act = act; shown = v })) ≢ wants.Nothing → IsData (Up (record { agent = n; act = act; shown = v }))
data_of n (Load word) v w some = absurd (some (either_way (nat_lt n.0 32)))
data_of n act v w some = record { words = refl; shown = λ u. refl; all = λ u. refl }

pub is_data : (w : WatchedWords) (e : Flit) → wanted w e ≢ wants.Nothing → IsData e
is_data w (Up f) some = data_of f.agent f.act f.shown w some
is_data w (Down g) some = record { words = refl; shown = λ u. refl; all = λ u. refl }

-- where one is no more taken than the other
pub neither : (before : Before) (home : NodeId) (s : LineState) (one other : List (ℕ × LineNews)) → takes_all before home s one ≡ false → takes_all before home s other ≡ false → AreAlike before home s one other
neither before home s one other a b = record {
  taken = a ∙ sym b;
  told = λ h. absurd (true≢false (sym h ∙ a));
}

pub takes_whole : (before : Before) (own home : NodeId) (w : WatchedWords) (m : Marked) (n : ℕ) (e : Flit) → takes_line before (judged_line own w m) home n (news.Flit (Some e)) ≡ (own.0 == home.0 && takes_by_word w e)
unfolding takes_line
takes_whole before own home w m n e = ap (λ (b : Bool). own.0 == home.0 && b) (passed_by (takes_by_word w e) (FromStart (watch_by_word w e)))

-- ANY FLITS OF A LINE OF WHICH NO WORD LACKS
record Stands (s : LineState) (h : NodeId) (x : WatchedWords) : Type 0 where
  pub marks : Marked
  pub is : s ≡ judged_line h x marks

marks_of : Bool → WatchedWords → ℕ → Flit → Marked → Marked
marks_of b x n f m = if b then marks_after n f x.line.seen.home m else m

leads_at : (b : Bool) (h : NodeId) (x z : WatchedWords) (m : Marked) (n : ℕ) (f : Flit) → next_by (known_if b (FromStart z)) (judged_line h x m) n f ≡ judged_line h (if b then z else x) (marks_of b z n f m)
unfolding marks_of
leads_at true h x z m n f = refl
leads_at false h x z m n f = refl

stands_step : (before : Before) (h : NodeId) (x : WatchedWords) (s : LineState) (n : ℕ) (f : Flit) (r : Stands s h x) → Stands (line_next before s n (news.Flit (Some f))) h (behind_it x f)
unfolding line_next
stands_step before h x s n f r = record {
  marks = marks_of (takes_by_word x f) (watch_by_word x f) n f r.marks;
  is = ap (λ (y : LineState). line_next before y n (news.Flit (Some f))) r.is ∙ leads_at (takes_by_word x f) h x (watch_by_word x f) r.marks n f;
}

stand_all : (before : Before) (h : NodeId) (ps : List (ℕ × Flit)) (s : LineState) (x : WatchedWords) → Stands s h x → Stands (behind_all before s (told_of ps)) h (through x ps)
stand_all before h [] s x r = r
stand_all before h (p ∷ ps) s x r = stand_all before h ps (line_next before s p.0 (news.Flit (Some p.1))) (behind_it x p.1) (stands_step before h x s p.0 p.1 r)

taken_all : (before : Before) (home h : NodeId) (ps : List (ℕ × Flit)) (s : LineState) (x : WatchedWords) → Stands s h x → takes_all before home s (told_of ps) ≡ taken_through h home x ps
taken_all before home h [] s x r = refl
taken_all before home h (p ∷ ps) s x r =
    let here = ap (λ (y : LineState). takes_line before y home p.0 (news.Flit (Some p.1))) r.is ∙ takes_whole before h home x r.marks p.0 p.1 in
    let rest = taken_all before home h ps (line_next before s p.0 (news.Flit (Some p.1))) (behind_it x p.1) (stands_step before h x s p.0 p.1 r) in
    λ i. here i && rest i

takes_held : (before : Before) (home h : NodeId) (x : WatchedWords) (m : Marked) (k : ℕ) (same : Bool) → takes_line before (judged_line h x m) home k (news.Held same) ≡ same
unfolding takes_line
takes_held before home h x m k same = refl

leaves_held : (before : Before) (s : LineState) (k : ℕ) (same : Bool) → line_next before s k (news.Held same) ≡ s
unfolding line_next
leaves_held before s k same = refl

takes_early : (before : Before) (own home : NodeId) (w : WatchedWords) (m : Marked) (n : ℕ) (e : Flit) → takes_line before (judged_line own w m) home n (news.Early e) ≡ (own.0 == home.0 && takes_by_word w e)
unfolding takes_line
takes_early before own home w m n e = ap (λ (b : Bool). own.0 == home.0 && b) (passed_by (takes_by_word w e) (FromStart (watch_by_word w e)))

stands_early : (before : Before) (h : NodeId) (x : WatchedWords) (m : Marked) (n : ℕ) (e : Flit) → Stands (line_next before (judged_line h x m) n (news.Early e)) h (behind_it x e)
unfolding line_next
stands_early before h x m n e = record {
  marks = record (marks_of (takes_by_word x e) (watch_by_word x e) n e m) { words = m.words };
  is = ap (marked_words m.words) (leads_at (takes_by_word x e) h x (watch_by_word x e) m n e);
}

-- data that the line is told of with all words, and whose later beats have them or others, beside the same data
abbrev told_first : ℕ → ℕ → Flit → Bool → List (ℕ × Flit) → List (ℕ × LineNews)
told_first n k e same ps = (n, news.Early e) ∷ (told_of ps ++ ((k, news.Held same) ∷ []))

taken_first : (before : Before) (own home : NodeId) (w : WatchedWords) (m : Marked) (n k : ℕ) (e : Flit) (same : Bool) (ps : List (ℕ × Flit))
    → takes_all before home (judged_line own w m) (told_first n k e same ps) ≡ ((own.0 == home.0 && takes_by_word w e) && (taken_through own home (behind_it w e) ps && same))
taken_first before own home w m n k e same ps =
    let s = judged_line own w m in
    let next = line_next before s n (news.Early e) in
    let run = stands_early before own w m n e in
    let behind = stand_all before own ps next (behind_it w e) run in
    let first = takes_early before own home w m n e in
    let between = taken_all before home own ps next (behind_it w e) run in
    let last : (takes_line before (behind_all before next (told_of ps)) home k (news.Held same) && true) ≡ same =
    ap (λ (y : LineState). takes_line before y home k (news.Held same) && true) behind.is
    ∙ (ap (λ (b : Bool). b && true) (takes_held before home own (through (behind_it w e) ps) behind.marks k same) ∙ and_true same) in
    let rest = takes_both before home next (told_of ps) ((k, news.Held same) ∷ []) ∙ (λ i. between i && last i) in
    λ i. first i && rest i

-- and flits behind are taken alike, and tell the same, where what is told behind the data is the same
beside : (before : Before) (own home : NodeId) (w : WatchedWords) (m : Marked) (n k : ℕ) (e f : Flit) (ps : List (ℕ × Flit))
    → takes_by_word w e ≡ takes_by_word w f → watch_by_word w e ≡ watch_by_word w f → AreAlike before home (judged_line own w m) (told_first n k e true ps) ((n, news.Flit (Some f)) ∷ told_of ps)
beside before own home w m n k e f ps taken next =
    let s = judged_line own w m in
    let one = line_next before s n (news.Early e) in
    let other = line_next before s n (news.Flit (Some f)) in
    let at : WatchedWords → WatchedWords → (b : Bool) → WatchedWords = λ y z b. if b then y else z in
    let same : behind_it w e ≡ behind_it w f = λ i. at (next i) w (taken i) in
    let run = stands_early before own w m n e in
    let run_other = stands_step before own w s n f (record { marks = m; is = refl }) in
    let behind = stand_all before own ps one (behind_it w e) run in
    let behind_other = stand_all before own ps other (behind_it w f) run_other in
    record {
      taken = taken_first before own home w m n k e true ps
          ∙ ((λ i. (own.0 == home.0 && taken i) && and_true (taken_through own home (same i) ps) i)
          ∙ sym (λ i. takes_whole before own home w m n f i && taken_all before home own ps other (behind_it w f) run_other i));
      told = λ h. ap (λ (y : LineState). y.told) (behind_both before one (told_of ps) ((k, news.Held true) ∷ []) ∙ leaves_held before (behind_all before one (told_of ps)) k true)
          ∙ (ap (λ (y : LineState). y.told) behind.is ∙ (ap (λ (x : WatchedWords). FromStart (through x ps)) same ∙ sym (ap (λ (y : LineState). y.told) behind_other.is)));
    }

-- WORDS THAT HAVE TO BE KNOWN, AND THAT TELL NOTHING
reach : (b : Bool) (x y : Wanted) → (if b then x else wants.Nothing) ≡ y → y ≢ wants.Nothing → (b ≡ true) × (x ≡ y)
reach true x y h n = (refl, h)
reach false x y h n = absurd (n (sym h))

given_reach : (b c : Bool) (x : Wanted) → (if b then x else (if c then wants.Free else wants.Nothing)) ≡ wants.Known → x ≡ wants.Known
given_reach true c x h = h
given_reach false true x h = absurd (search (rules, arith))
given_reach false false x h = absurd (search (rules, arith))

unbarred : (b : Bool) (x y : Wanted) → (if b then wants.Nothing else x) ≡ y → y ≢ wants.Nothing → x ≡ y
unbarred true x y h n = absurd (n (sym h))
unbarred false x y h n = h

known_by : (k : Bool) → wanted_if k ≡ wants.Known → k ≡ true
known_by true h = refl
known_by false h = absurd (search (rules, arith))

known_home : (w : WatchedWords) (e : Flit) → wanted w e ≡ wants.Known → is_some w.line.seen.home ≡ true
known_home w (Up f) h =
    let o = w.line.seen in
    let n = f.agent.0 in
    let renewed = renews o.public.stores f.act (lets_go (o.public.snooped n)) (o.public.due n) (o.told n) in
    let k = has_data f.act && (not renewed && (o.current && is_some o.home)) in
    let sent = (reach (nat_lt n 32) (wanted_sent (worded_in w) f) wants.Known h known_is_wanted).1 in
    let yes = known_by k (unbarred (not (tells_words f.act) || tells_cancelled (worded_in w) f) (wanted_if k) wants.Known sent known_is_wanted) in
    both_right o.current (is_some o.home) (both_right (not renewed) (o.current && is_some o.home) (both_right (has_data f.act) (not renewed && (o.current && is_some o.home)) yes))
known_home w (Down g) h =
    let o = w.line.seen in
    let given = (reach (nat_lt g.agent.0 32) (wanted_given o g) wants.Known h known_is_wanted).1 in
    known_by (is_some o.home) (given_reach (shows_told g.grant (o.told g.agent.0)) (gives_data g.grant) (wanted_if (is_some o.home)) given)

fits_home : (home : Option (List ℕ)) (u v : List ℕ) → home ≡ Some u → fits home v ≡ true → u ≡ v
fits_home home u v is h = (bytes_decides u v).0 (subst (λ (o : Option (List ℕ)). fits o v ≡ true) is h)

each_home : {P : Type 0} (home : Option (List ℕ)) → is_some home ≡ true → ((u : List ℕ) → home ≡ Some u → P) → P
each_home None h give = untrue h
each_home (Some u) h give = give u refl

-- what is held against the later beats says what the data in beats are told as
abbrev pub Alike : Before → NodeId → NodeId → WatchedWords → Marked → ℕ → ℕ → Flit → List Bool → List ℕ → List (ℕ × Flit) → Option (Later × List ℕ) → Type 0
Alike before own home w m n k e lacking words ps early = AreAlike before home (judged_line own w m) (in_two early n k e lacking words (told_of ps)) (in_one n e words ps)

of_held : KnownWordsAreTaken → (before : Before) (own home : NodeId) (w : WatchedWords) (m : Marked) (n k : ℕ) (e : Flit) (lacking : List Bool) (words u : List ℕ) (ps : List (ℕ × Flit)) (same : Bool)
    → wanted w e ≡ wants.Known → w.line.seen.home ≡ Some u → IsData e → words_with (flit_words e) words lacking ≡ words
    → pointwise nat_eq (words_with (shown_words e) u lacking) words ≡ same
    → AreAlike before home (judged_line own w m) (told_first n k (flit_with e (words_with (shown_words e) u lacking)) same ps) (in_one n e words ps)
of_held known before own home w m n k e lacking words u ps true is has d agree held =
    let x = words_with (shown_words e) u lacking in
    let as_it = (bytes_decides x words).0 held in
    beside before own home w m n k (flit_with e x) (flit_with e words) ps (ap (λ (v : List ℕ). takes_by_word w (flit_with e v)) as_it) (ap (λ (v : List ℕ). watch_by_word w (flit_with e v)) as_it)
of_held known before own home w m n k e lacking words u ps false is has d agree held =
    let x = words_with (shown_words e) u lacking in
    let c = own.0 == home.0 in
    let s = judged_line own w m in
    let end = flit_with e words in
    let other : u ≡ words → x ≡ words = λ h. (λ i. words_with (d.words i) (h i) lacking) ∙ agree in
    let refused : takes_by_word w end ≡ false = by_bool (takes_by_word w end)
    (λ h. absurd (true≢false (sym ((bytes_decides x words).1 (other (fits_home w.line.seen.home u words has (subst (λ (y : List ℕ). fits w.line.seen.home y ≡ true) (words_as e words) (known w end (wanted_as w e words ∙ is) h))))) ∙ held)))
    (λ h. h) in
    let rest = taken_through own home (behind_it w (flit_with e x)) ps in
    neither before home s (told_first n k (flit_with e x) false ps) (in_one n e words ps)
    (taken_first before own home w m n k (flit_with e x) false ps ∙ shut (c && takes_by_word w (flit_with e x)) (rest && false) (shut rest false refl))
    (ap (λ (b : Bool). b && takes_all before home (line_next before s n (news.Flit (Some end))) (told_of ps)) (takes_whole before own home w m n end ∙ shut c (takes_by_word w end) refused))

early_held : (w : WatchedWords) (s : LineState) (e : Flit) (lacking : List Bool) (u : List ℕ) (l : Lacking) → l ≡ lacks.Nothing → wanted w e ≡ wants.Known → w.line.seen.home ≡ Some u
    → early_by (wanted w e) (record s { lacking = lacks.Nothing; told = FromStart w }) e lacking ≡ Some (laters.Held, words_with (shown_words e) u lacking)
early_held w s e lacking u l none is has =
    ap (λ (x : Wanted). early_by x (record s { lacking = lacks.Nothing; told = FromStart w }) e lacking) is
    ∙ ap (λ (o : Option (List ℕ)). option_map (λ (home : List ℕ). (laters.Held, words_with (shown_words e) home lacking)) o) has

pub of_known : KnownWordsAreTaken → (before : Before) (own home : NodeId) (w : WatchedWords) (m : Marked) (n k : ℕ) (e : Flit) (lacking : List Bool) (words : List ℕ) (ps : List (ℕ × Flit))
    → wanted w e ≡ wants.Known → words_with (flit_words e) words lacking ≡ words → Alike before own home w m n k e lacking words ps (early_of (judged_line own w m) e lacking)
of_known known before own home w m n k e lacking words ps is agree =
    each_home w.line.seen.home (known_home w e is) (λ u has.
    let d = is_data w e (λ none. known_is_wanted (sym is ∙ none)) in
    subst (Alike before own home w m n k e lacking words ps) (sym (early_held w (judged_line own w m) e lacking u lacks.Nothing refl is has))
    (of_held known before own home w m n k e lacking words u ps (pointwise nat_eq (words_with (shown_words e) u lacking) words) is has d agree refl))

pub of_free : FreeWordsAreTaken → (before : Before) (own home : NodeId) (w : WatchedWords) (m : Marked) (n k : ℕ) (e : Flit) (lacking : List Bool) (words : List ℕ) (ps : List (ℕ × Flit))
    → wanted w e ≡ wants.Free → Alike before own home w m n k e lacking words ps (early_of (judged_line own w m) e lacking)
of_free free before own home w m n k e lacking words ps is =
    let x = shown_words e in
    subst (Alike before own home w m n k e lacking words ps) (sym (ap (λ (y : Wanted). early_by y (judged_line own w m) e lacking) is))
    (beside before own home w m n k (flit_with e x) (flit_with e words) ps
    ((free w x e is).0 ∙ sym (free w words e is).0) ((free w x e is).1 ∙ sym (free w words e is).1))
