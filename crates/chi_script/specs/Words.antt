-- Words of a line, and the numbers among them (docs/FORMATS.md, "Replay files").
use Rattle.std.specs.Prelude.{ℕ, ◌+◌, ◌-◌, ◌*◌, ◌^◌, ◌==◌, ◌&&◌, min, nat_lt, not, Bool, true, List, [], ◌∷◌, Option, Some, None, if◌then◌else◌, map, bytes_eq}
use Rattle.std.specs.List.{slice_split}
use denote.Ref.{Bor}
use Rattle.std.specs.Char.{is_ascii_digit}

infixl 10 ◌>>=◌
abbrev pub ◌>>=◌ : {A B : Type 0} → Option A → (A → Option B) → Option B
None >>= next = None
(Some x) >>= next = next x

-- one space stands between two words
abbrev pub words_of : List ℕ → List (List ℕ)
words_of line = slice_split (λ b. b == 32) line

-- whether a text may be one word
abbrev pub has_no_space : List ℕ → Bool
has_no_space [] = true
has_no_space (b ∷ bs) = not (b == 32) && has_no_space bs

-- what references to words point to
abbrev pub texts_of : List (Bor (List ℕ)) → List (List ℕ)
texts_of words = map (λ word. word.now) words

-- whether a word is this text
abbrev pub is_text : List ℕ → List ℕ → Bool
is_text word text = bytes_eq word text

-- one more digit at the end of a number below 2 ^ 64
abbrev pub with_digit : ℕ → ℕ → Option ℕ
with_digit n d = if is_ascii_digit d && nat_lt (10 * n + (d - 48)) (2 ^ 64) then Some (10 * n + (d - 48)) else None

-- digits that follow a number
unfoldable pub digits_of : ℕ → List ℕ → Option ℕ
digits_of n [] = Some n
digits_of n (d ∷ ds) = with_digit n d >>= λ m. digits_of m ds

-- no leading zero
abbrev pub number_of : List ℕ → Option ℕ
number_of [] = None
number_of (d ∷ []) = digits_of 0 (d ∷ [])
number_of (d ∷ e ∷ ds) = if d == 48 then None else digits_of 0 (d ∷ e ∷ ds)

-- above 255 all numbers are read alike: no range reaches there
abbrev pub small_of : List ℕ → Option ℕ
small_of word = number_of word >>= λ n. Some (min n 255)
