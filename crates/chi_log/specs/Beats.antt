-- The words of a cache line that DATA has (docs/TRACES.md, "Traces").
use Rattle.std.specs.Prelude.{ℕ, ◌+◌, ◌*◌, ◌==◌, ◌&&◌, not, Bool, List, [], ◌∷◌, Option, Some, None, if◌then◌else◌, bytes_eq, codes, is_some, length, replicate, slice_range}
use Rattle.std.specs.List.{list_any, slice_index_or, slice_split}
use Rattle.std.specs.Option.{option_map, unwrap_or}
use Rattle.chi_issue_b.specs.declared.beat.Beat.{Beat}
use Rattle.chi_issue_b.specs.Beat.{whole_beat}
use Rattle.chi_lanes.specs.Numbers.{number_of}
use Rattle.chi_log.specs.Kinds.{◌>>=◌}
use Rattle.chi_log.specs.Numbers.{unmarked, word_of}

-- a word of a list, or none where it is in another beat
abbrev pub part_of : List ℕ → Option (Option ℕ)
part_of text = if bytes_eq text (codes "x") then Some None else option_map Some (word_of text)

-- a comma stands between two
abbrev pub comma_parts : List ℕ → List (List ℕ)
comma_parts text = slice_split (λ b. b == 44) text

abbrev pub first_part : List (List ℕ) → Option (Option ℕ × List (List ℕ))
first_part (part ∷ next ∷ rest) = part_of part >>= λ w. Some (w, next ∷ rest)
first_part fewer = None

abbrev pub only_of : List (List ℕ) → Option (Option ℕ)
only_of (part ∷ []) = part_of part
only_of other = None

-- a beat's words, with 0 in place of each that it hasn't; and which of them it has: bit 0 of word 0, and so on
abbrev pub word_at : List (Option ℕ) → ℕ → Option ℕ
word_at ws n = slice_index_or ws n None

abbrev pub word_or_zero : List (Option ℕ) → ℕ → ℕ
word_or_zero ws n = unwrap_or (word_at ws n) 0

abbrev pub bit_of : List (Option ℕ) → ℕ → ℕ
bit_of ws n = if is_some (word_at ws n) then 1 else 0

abbrev pub given_of : List (Option ℕ) → ℕ
given_of ws =
    bit_of ws 0 + 2 * bit_of ws 1 + 4 * bit_of ws 2 + 8 * bit_of ws 3
    + 16 * bit_of ws 4 + 32 * bit_of ws 5 + 64 * bit_of ws 6 + 128 * bit_of ws 7

abbrev pub beat_with : List (Option ℕ) → Beat
beat_with ws = record {
  words =
      word_or_zero ws 0 ∷ word_or_zero ws 1 ∷ word_or_zero ws 2 ∷ word_or_zero ws 3
      ∷ word_or_zero ws 4 ∷ word_or_zero ws 5 ∷ word_or_zero ws 6 ∷ word_or_zero ws 7 ∷ [];
  given = given_of ws;
}

-- eight words with commas between them
unfoldable pub listed_of : List (List ℕ) → Option Beat
listed_of parts = do
  w0 ← first_part parts
  w1 ← first_part w0.1
  w2 ← first_part w1.1
  w3 ← first_part w2.1
  w4 ← first_part w3.1
  w5 ← first_part w4.1
  w6 ← first_part w5.1
  w7 ← only_of w6.1
  Some (beat_with (w0.0 ∷ w1.0 ∷ w2.0 ∷ w3.0 ∷ w4.0 ∷ w5.0 ∷ w6.0 ∷ w7 ∷ []))

-- one number of 128 digits, word 7 first
unfoldable pub vector_of : List ℕ → Option Beat
vector_of digits = do
  w0 ← number_of (slice_range digits 112 128)
  w1 ← number_of (slice_range digits 96 112)
  w2 ← number_of (slice_range digits 80 96)
  w3 ← number_of (slice_range digits 64 80)
  w4 ← number_of (slice_range digits 48 64)
  w5 ← number_of (slice_range digits 32 48)
  w6 ← number_of (slice_range digits 16 32)
  w7 ← number_of (slice_range digits 0 16)
  Some (whole_beat (w0 ∷ w1 ∷ w2 ∷ w3 ∷ w4 ∷ w5 ∷ w6 ∷ w7 ∷ []))

abbrev pub is_vector : List ℕ → Bool
is_vector text = length (unmarked text) == 128 && not (list_any (λ b. b == 44) text)

abbrev pub beat_of : List ℕ → Option Beat
beat_of text = if is_vector text then vector_of (unmarked text) else listed_of (comma_parts text)

-- the words of a log that lists none
abbrev pub zeros : Beat
zeros = whole_beat (replicate 8 0)
