-- A wrong word of a line, as a message shows it (docs/TRACES.md, "Other opcodes").
use Rattle.std.specs.Prelude.{ℕ, List, [], ◌++◌, codes, length, map, nat_lt, take, if◌then◌else◌}
use Rattle.std.specs.Char.{is_ascii_graphic}

-- a byte that isn't printable is shown as ?
abbrev pub shown_byte : ℕ → ℕ
shown_byte byte = if is_ascii_graphic byte then byte else 63

-- at most 40 bytes, and .. where there are more
abbrev pub shown_rest : List ℕ → List ℕ
shown_rest word = if nat_lt 40 (length word) then codes ".." else []

abbrev pub shown_word : List ℕ → List ℕ
shown_word word = map shown_byte (take 40 word) ++ shown_rest word
