-- The code's observer of a line that knows words, as what is kept of it; a flit of either side; reasons (docs/OBSERVER.md,
-- "Words that are known", "Faults").
use Rattle.std.specs.Prelude.{Bool, true, false, ◌&&◌, ◌||◌, not, Some, None, if◌then◌else◌}
use Rattle.std.specs.List.{slice_index_or}
use Rattle.chi_observer.specs.declared.flits.Stores.{Stores}
use Rattle.chi_observer.specs.declared.flits.CacheFlit.{CacheFlit}
use Rattle.chi_observer.specs.declared.flits.Flit.{Flit}
use Rattle.chi_observer.specs.declared.flits.Flit.TheVariants.{Up, Down}
use Rattle.chi_observer.specs.declared.observer.Reason.{Reason}
use Rattle.chi_observer.specs.declared.observer.Reason.TheVariants.{NotSent, OtherWords}
use Rattle.chi_observer.specs.declared.worded.KnownWords.{KnownWords}
use Rattle.chi_observer.specs.declared.worded.WordedObserver.{WordedObserver}
use Rattle.chi_observer.specs.Rules.{word_at}
use Rattle.chi_observer.specs.Lines.{Watched, is_reason, is_taken, nothing_watched, watch_as, watched}
use Rattle.chi_observer.specs.Worded.{Worded, Words, counted_load, differs_by_word, fits_words, is_placed, no_words, words_after, words_granted}

-- those of the line that are known; none beyond the eight
abbrev pub words_of : KnownWords → Words
words_of s p = if slice_index_or s.known p false then Some (word_at s.words p) else None

-- all that is kept: what an observer keeps, and the words of the value last stored that are known beside
pub record WatchedWords : Type 0 where
  pub line : Watched
  pub words : Words

abbrev pub words_watched : WordedObserver → WatchedWords
words_watched s = record { line = watched s.seen; words = words_of s.words }

abbrev pub nothing_worded : Stores → WatchedWords
nothing_worded z = record { line = nothing_watched z; words = no_words }

abbrev pub worded_in : WatchedWords → Worded
worded_in s = record { seen = s.line.seen; words = s.words }

-- a flit of either side
abbrev pub fits_worded : Worded → Flit → Bool
fits_worded l (Up f) = fits_words l f
fits_worded l (Down g) = true

abbrev pub is_taken_worded : WatchedWords → Flit → Bool
is_taken_worded s e = is_taken s.line e && fits_worded (worded_in s) e

abbrev pub words_behind : Worded → Flit → Words
words_behind l (Up f) = words_after f l
words_behind l (Down g) = words_granted g l

abbrev pub differs_worded : Worded → Flit → Bool
differs_worded l (Up f) = differs_by_word l f
differs_worded l (Down g) = false

abbrev pub watch_worded : WatchedWords → Flit → WatchedWords
watch_worded s e = record { line = watch_as s.line e (differs_worded (worded_in s) e); words = words_behind (worded_in s) e }

-- a line that is told of each flit as which it counts
abbrev pub counted_by_word : WatchedWords → Flit → Flit
counted_by_word s (Up f) = Up (counted_load f.act (worded_in s) f)
counted_by_word s (Down g) = Down g

abbrev pub takes_by_word : WatchedWords → Flit → Bool
takes_by_word s e = is_taken_worded s (counted_by_word s e)

abbrev pub watch_by_word : WatchedWords → Flit → WatchedWords
watch_by_word s e = watch_worded s (counted_by_word s e)

-- which reasons hold: an observer's; or a word is none of the line's eight, or known to be another
abbrev pub is_word_reason : Worded → CacheFlit → Reason → Bool
is_word_reason l f NotSent = not (is_placed f.act)
is_word_reason l f OtherWords = is_placed f.act && not (fits_words l f)
is_word_reason l f other = false

abbrev pub is_words_reason : Worded → Flit → Reason → Bool
is_words_reason l (Up f) r = is_word_reason l f r
is_words_reason l (Down g) r = false

abbrev pub is_worded_reason : WatchedWords → Flit → Reason → Bool
is_worded_reason s e r = is_reason s.line e r || is_words_reason (worded_in s) e r
