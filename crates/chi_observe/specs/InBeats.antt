-- Data in beats are judged as whole data in the place of their first beat (docs/OBSERVER.md, "Data in beats").
use Rattle.std.specs.Prelude.{◌≡◌, ◌≢◌, ℕ, Bool, true, false, ◌&&◌, ◌||◌, not, List, [], ◌∷◌, ◌++◌, Option, Some, None, nat_eq}
use Rattle.std.specs.Cmp.Lexicographic.{pointwise}
use Rattle.chi_trace.specs.declared.fields.NodeId.{NodeId}
use Rattle.chi_observer.specs.declared.flits.Flit.{Flit}
use Rattle.chi_observer.specs.declared.wanted.Wanted.{Wanted}
use Rattle.chi_observer.specs.declared.wanted.Wanted.TheVariants as wants
use Rattle.chi_observer.specs.Rules.{are_hidden}
use Rattle.chi_observer.specs.WordedLines.{WatchedWords}
use Rattle.chi_observer.specs.Wanted.{flit_with, flit_words, is_wordless, wanted}
use Rattle.chi_observe.specs.declared.ids.Later.{Later}
use Rattle.chi_observe.specs.declared.ids.Later.TheVariants as laters
use Rattle.chi_observe.specs.declared.lacking.Lacking.TheVariants as lacks
use Rattle.chi_observe.specs.declared.lines.LineNews.{LineNews}
use Rattle.chi_observe.specs.declared.lines.LineNews.TheVariants as news
use Rattle.chi_observe.specs.Judges.{Before}
use Rattle.chi_observe.specs.Judges.Judged.{FromStart}
use Rattle.chi_observe.specs.Lines.{LineState, early_of, line_next, takes_line}
use Rattle.chi_observe.specs.Marks.{Marked}
use Rattle.chi_observe.specs.Words.{words_with}

-- a line is told of flits between this home and caches, each with its number in the trace: whether it takes them all, and
-- what it is behind them
abbrev pub takes_all : Before → NodeId → LineState → List (ℕ × LineNews) → Bool
takes_all before home s [] = true
takes_all before home s (told ∷ rest) = takes_line before s home told.0 told.1 && takes_all before home (line_next before s told.0 told.1) rest

abbrev pub behind_all : Before → LineState → List (ℕ × LineNews) → LineState
behind_all before s [] = s
behind_all before s (told ∷ rest) = behind_all before (line_next before s told.0 told.1) rest

-- a line that is judged from the trace's beginning, where no data lack words
abbrev pub judged_line : NodeId → WatchedWords → Marked → LineState
judged_line home w marks = record { home = home; aside = false; why = None; lacking = lacks.Nothing; told = FromStart w; marks = marks }

abbrev pub told_of : List (ℕ × Flit) → List (ℕ × LineNews)
told_of [] = []
told_of (flit ∷ rest) = (flit.0, news.Flit (Some flit.1)) ∷ told_of rest

-- flits of the line between the first beat of data and the last one: the line is told of the data at the first, and the
-- last one's words are the known ones or others; or they may be any, and are known with the last
abbrev pub are_held : Later → List ℕ → List ℕ → Bool
are_held laters.Held known words = pointwise nat_eq known words
are_held other known words = true

abbrev pub in_two : Option (Later × List ℕ) → ℕ → ℕ → Flit → List Bool → List ℕ → List (ℕ × LineNews) → List (ℕ × LineNews)
in_two None first last flit lacking words between = (first, news.Begun flit lacking) ∷ (between ++ ((last, news.Ended (Some (flit_with flit words))) ∷ []))
in_two (Some early) first last flit lacking words between = (first, news.Early (flit_with flit early.1)) ∷ (between ++ ((last, news.Held (are_held early.0 early.1 words)) ∷ []))

abbrev pub in_beats : LineState → ℕ → ℕ → Flit → List Bool → List ℕ → List (ℕ × Flit) → List (ℕ × LineNews)
in_beats s first last flit lacking words between = in_two (early_of s flit lacking) first last flit lacking words (told_of between)

-- and behind the whole data
abbrev pub in_one : ℕ → Flit → List ℕ → List (ℕ × Flit) → List (ℕ × LineNews)
in_one first flit words between = (first, news.Flit (Some (flit_with flit words))) ∷ told_of between

abbrev pub all_wordless : List (ℕ × Flit) → Bool
all_wordless [] = true
all_wordless (flit ∷ rest) = is_wordless flit.1 && all_wordless rest

abbrev pub is_told_any : Wanted → Bool
is_told_any wants.Any = true
is_told_any other = false

-- all of the one are taken where all of the other are, and what is told behind them is the same
pub record AreAlike (before : Before) (home : NodeId) (s : LineState) (one other : List (ℕ × LineNews)) : Type 0 where
  pub taken : takes_all before home s one ≡ takes_all before home s other
  pub told : takes_all before home s one ≡ true → (behind_all before s one).told ≡ (behind_all before s other).told

-- THE LAW
-- of data that the line is told of at their first beat, which has the words that don't lack, and of any flits between their
-- beats; where the words may be any and are told, of a line whose stores may be hidden, and of such as have no words of it and
-- are no loads
abbrev pub BeatsAreOneFlit : Type 0
BeatsAreOneFlit = (before : Before) (own home : NodeId) (w : WatchedWords) (marks : Marked) (flit : Flit) (lacking : List Bool) (words : List ℕ) (between : List (ℕ × Flit)) (first last : ℕ)
    → wanted w flit ≢ wants.Nothing → words_with (flit_words flit) words lacking ≡ words
    → (not (is_told_any (wanted w flit)) || (are_hidden w.line.seen.public.stores && all_wordless between)) ≡ true
    → AreAlike before home (judged_line own w marks) (in_beats (judged_line own w marks) first last flit lacking words between) (in_one first flit words between)
