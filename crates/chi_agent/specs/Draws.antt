-- The words that an agent draws (docs/FORMATS.md, "A turn").
use Rattle.std.specs.Prelude.{ℕ, List, ◌++◌, replicate}
use Rattle.std.specs.Int.{w64, to_le_bytes}
use Rattle.rand_chacha.specs.ChaCha.{ChaCha, word_at, key_of}

-- the seed in 8 bytes, low byte first, and then zeros
abbrev pub bytes_of : ℕ → List ℕ
bytes_of seed = to_le_bytes w64 seed ++ replicate 24 0

-- the stream of the agent's number, at its first word
abbrev pub stream_of : ℕ → ℕ → ChaCha
stream_of seed agent = record { key = key_of (bytes_of seed); stream = agent; word_pos = 0 }

-- the word at the place, of ChaCha with 8 rounds, which are 4 double ones
abbrev pub word_after : ChaCha → ℕ
word_after g = word_at 4 g.key g.stream g.word_pos
