-- The words of a line of a trace: what stands between blanks (docs/TRACES.md, "Traces").
use Rattle.std.specs.Prelude.{ℕ, ◌==◌, ◌||◌, Bool, true, false, not, List, [], ◌∷◌, filter}
use Rattle.std.specs.List.{slice_split}

-- a space, a tab, or the carriage return before a line end
abbrev pub is_blank : ℕ → Bool
is_blank b = (b == 32 || b == 9) || b == 13

abbrev pub has_bytes : List ℕ → Bool
has_bytes [] = false
has_bytes (b ∷ bs) = true

-- one blank or more stand between two words
unfoldable pub blank_words : List ℕ → List (List ℕ)
blank_words line = filter has_bytes (slice_split is_blank line)

-- no blank stands in front
abbrev pub begins_in_word : List ℕ → Bool
begins_in_word [] = true
begins_in_word (b ∷ bs) = not (is_blank b)

-- the first of some words; an empty one where there is none
abbrev pub word_or_empty : List (List ℕ) → List ℕ
word_or_empty [] = []
word_or_empty (word ∷ words) = word

-- the words behind the first
abbrev pub words_behind : List (List ℕ) → List (List ℕ)
words_behind [] = []
words_behind (word ∷ words) = words
