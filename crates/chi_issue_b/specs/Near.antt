-- The opcode that a wrong word nearly is (docs/TRACES.md, "Other opcodes").
use Rattle.std.specs.Prelude.{ℕ, ◌==◌, ◌&&◌, ◌||◌, Bool, true, false, List, [], ◌∷◌, Option, bytes_eq, if◌then◌else◌, map}
use Rattle.std.specs.Char.{to_ascii_lowercase}
use Rattle.chi_issue_b.specs.declared.channels.Channel.{Channel}
use Rattle.chi_issue_b.specs.declared.opcodes.Opcode.{Opcode}
use Rattle.chi_issue_b.specs.Opcodes.{Row, first_of, rows_of}

-- they differ by the case of letters alone
abbrev pub is_alike : List ℕ → List ℕ → Bool
is_alike word name = bytes_eq (map to_ascii_lowercase word) (map to_ascii_lowercase name)

-- the first two letters stand in the other order, and all else is equal
abbrev pub is_swapped : List ℕ → List ℕ → Bool
is_swapped (first ∷ second ∷ rest) (third ∷ fourth ∷ more) = first == fourth && second == third && bytes_eq rest more
is_swapped word name = false

-- of words whose first letters differ: one of these stands for the other, or is too many; or two letters are swapped
abbrev pub differ_at_front : List ℕ → List ℕ → Bool
differ_at_front (one ∷ rest) (other ∷ more) =
    bytes_eq rest more || bytes_eq rest (other ∷ more) || bytes_eq (one ∷ rest) more || is_swapped (one ∷ rest) (other ∷ more)
differ_at_front word name = false

abbrev pub is_one : List ℕ → Bool
is_one (letter ∷ []) = true
is_one word = false

-- behind the letters that both begin with they differ by one letter, or by two that are swapped
abbrev pub is_one_off : List ℕ → List ℕ → Bool
is_one_off [] name = is_one name
is_one_off (one ∷ rest) [] = is_one (one ∷ rest)
is_one_off (one ∷ rest) (other ∷ more) =
    if one == other then is_one_off rest more else differ_at_front (one ∷ rest) (other ∷ more)

abbrev pub is_near : List ℕ → Row → Bool
is_near word row = is_alike word row.word || is_one_off word row.word

-- the first opcode of the channel that the word nearly is
abbrev pub opcode_near : Channel → List ℕ → Option Opcode
opcode_near channel word = first_of (is_near word) (rows_of channel)
