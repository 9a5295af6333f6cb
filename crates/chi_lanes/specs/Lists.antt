-- Words of 64 bits that a text lists (docs/TRACES.md, "Traces").
use Rattle.std.specs.Prelude.{ℕ, ◌≡◌, ◌==◌, List, [], ◌∷◌, drop, take, length, slice_index, Some}
use Rattle.std.specs.List.{slice_split}
use Rattle.chi_lanes.specs.Numbers.{number_of}

-- a text of sixteen digits writes this word
abbrev pub Writes : List ℕ → ℕ → Type 0
Writes text word = (length text ≡ 16) × (number_of text ≡ Some word)

-- each of some texts writes the word in its place
abbrev pub AllWrite : List (List ℕ) → List ℕ → Type 0
AllWrite [] [] = Unit {0}
AllWrite [] (word ∷ words) = ⊥
AllWrite (text ∷ texts) [] = ⊥
AllWrite (text ∷ texts) (word ∷ words) = Writes text word × AllWrite texts words

-- what stands between commas (`comma_parts` of chi_trace)
abbrev pub parts_of : List ℕ → List (List ℕ)
parts_of text = slice_split (λ b. b == 44) text

-- a text lists words of sixteen digits each, a comma between two of them
abbrev pub Lists : List ℕ → List ℕ → Type 0
Lists text words = AllWrite (parts_of text) words

-- sixteen digits and a comma stand in front
pub record Begins (text : List ℕ) (word : ℕ) (rest : List ℕ) : Type 0 where
  pub writes : Writes (take 16 text) word
  pub comma : slice_index text 16 ≡ 44
  pub behind : rest ≡ drop 17 text
