-- The words of a line, some of which lack (docs/OBSERVER.md, "Data in beats").
use Rattle.std.specs.Prelude.{ℕ, ◌==◌, ◌&&◌, ◌||◌, Bool, false, not, List, [], ◌∷◌, Option, Some, None, if◌then◌else◌, is_some, replicate, unwrap_or}
use Rattle.std.specs.List.{list_any, slice_index_or}
use Rattle.chi_observer.specs.Worded.{Words}

-- words in the places of those that are there
abbrev pub word_at : List Bool → ℕ → Bool
word_at words n = slice_index_or words n false

abbrev pub word_with : ℕ → ℕ → Bool → ℕ
word_with old new there = if there then new else old

abbrev pub word_behind : List ℕ → List ℕ → List Bool → ℕ → ℕ
word_behind old new there n = word_with (slice_index_or old n 0) (slice_index_or new n 0) (word_at there n)

abbrev pub words_with : List ℕ → List ℕ → List Bool → List ℕ
words_with old new there =
    word_behind old new there 0 ∷ word_behind old new there 1 ∷ word_behind old new there 2 ∷ word_behind old new there 3
    ∷ word_behind old new there 4 ∷ word_behind old new there 5 ∷ word_behind old new there 6 ∷ word_behind old new there 7 ∷ []

-- which lack still behind those that are there, and whether some do
abbrev pub lacking : Bool → Bool → Bool
lacking lacks there = lacks && not there

abbrev pub left_at : List Bool → List Bool → ℕ → Bool
left_at lacks there n = lacking (word_at lacks n) (word_at there n)

abbrev pub left_of : List Bool → List Bool → List Bool
left_of lacks there =
    left_at lacks there 0 ∷ left_at lacks there 1 ∷ left_at lacks there 2 ∷ left_at lacks there 3
    ∷ left_at lacks there 4 ∷ left_at lacks there 5 ∷ left_at lacks there 6 ∷ left_at lacks there 7 ∷ []

abbrev pub lacks_some : List Bool → Bool
lacks_some left = list_any (λ lacks. lacks) left

-- none, and all but one
abbrev pub none_lack : List Bool
none_lack = replicate 8 false

abbrev pub but_one : ℕ → List Bool
but_one place =
    not (place == 0) ∷ not (place == 1) ∷ not (place == 2) ∷ not (place == 3)
    ∷ not (place == 4) ∷ not (place == 5) ∷ not (place == 6) ∷ not (place == 7) ∷ []

-- of those that no flit has shown, those behind one that lacks such words
abbrev pub unknown_behind : List Bool → List Bool → List Bool
unknown_behind unknown lacking = left_of unknown (left_of unknown lacking)

-- words that are known in the place of others, and which lack but for those
abbrev pub known_at : Words → List ℕ → ℕ → ℕ
known_at known words n = unwrap_or (known n) (slice_index_or words n 0)

abbrev pub with_known : Words → List ℕ → List ℕ
with_known known words =
    known_at known words 0 ∷ known_at known words 1 ∷ known_at known words 2 ∷ known_at known words 3
    ∷ known_at known words 4 ∷ known_at known words 5 ∷ known_at known words 6 ∷ known_at known words 7 ∷ []

abbrev pub unknown_at : Words → List Bool → ℕ → Bool
unknown_at known lacks n = lacking (word_at lacks n) (is_some (known n))

abbrev pub but_known : Words → List Bool → List Bool
but_known known lacks =
    unknown_at known lacks 0 ∷ unknown_at known lacks 1 ∷ unknown_at known lacks 2 ∷ unknown_at known lacks 3
    ∷ unknown_at known lacks 4 ∷ unknown_at known lacks 5 ∷ unknown_at known lacks 6 ∷ unknown_at known lacks 7 ∷ []

-- words are those that are known, but for some
abbrev pub agrees_word : Bool → ℕ → ℕ → Bool
agrees_word unknown known shown = unknown || (known == shown)

abbrev pub agrees_at : List Bool → List ℕ → List ℕ → ℕ → Bool
agrees_at unknown known shown n = agrees_word (word_at unknown n) (slice_index_or known n 0) (slice_index_or shown n 0)

abbrev pub agrees : List Bool → Option (List ℕ) → List ℕ → Bool
agrees unknown None shown = false
agrees unknown (Some known) shown =
    agrees_at unknown known shown 0 && agrees_at unknown known shown 1 && agrees_at unknown known shown 2 && agrees_at unknown known shown 3
    && agrees_at unknown known shown 4 && agrees_at unknown known shown 5 && agrees_at unknown known shown 6 && agrees_at unknown known shown 7
