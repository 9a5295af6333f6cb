-- Data in more than one beat: each has words of the line, none twice (docs/TRACES.md, "Traces").
use Rattle.std.specs.Prelude.{ℕ, ◌==◌, ◌&&◌, ◌||◌, Bool, true, false, List, [], ◌∷◌, Option, Some, None, Result, Ok, Err}
use Rattle.std.specs.Map.{lookup, values_of}
use Rattle.std.specs.List.{list_all, position, slice_get}
use Rattle.chi_flit.specs.declared.numbers.WordNo.{WordNo}
use Rattle.chi_resolution.specs.declared.beats.OpenData.{OpenData}
use Rattle.chi_resolution.specs.declared.ids.KeyNumbers.{KeyNumbers}
use Rattle.chi_resolution.specs.declared.ids.OpenKey.{OpenKey}
use Rattle.chi_resolution.specs.declared.ids.OpenKey.TheVariants as keys
use Rattle.chi_resolution.specs.declared.lines.CacheLine.{CacheLine}
use Rattle.chi_trace.specs.Fields.{beat_with, word_at}
use Rattle.chi_trace.specs.declared.fields.Beat.{Beat}
use Rattle.chi_trace.specs.declared.opcodes.Opcode.{Opcode}
use Rattle.chi_trace.specs.declared.opcodes.Opcode.TheVariants as opcodes
use Rattle.chi_resolution.specs.declared.reasons.IdReason.{IdReason}
use Rattle.chi_resolution.specs.declared.reasons.IdReason.TheVariants.{WordAgain}
use Rattle.chi_resolution.specs.Ids.{has_numbers_of}
use Rattle.chi_resolution.specs.Reasons.{◌>>=◌}

-- the unfinished data that frees an id
abbrev pub data_of : OpenKey → List (KeyNumbers × OpenData) → Option OpenData
data_of key unfinished = lookup (has_numbers_of key) unfinished

-- the home completes a request once it has all answers and all write data of the line, and snoops once it has the
-- write data
abbrev pub completes_data : Opcode → Bool
completes_data opcodes.Comp = true
completes_data opcodes.CompDBIDResp = true
completes_data opcodes.CompData = true
completes_data other = false

abbrev pub snoops : Opcode → Bool
snoops (opcodes.Snoop snoop) = true
snoops other = false

abbrev pub waits_for : Opcode → OpenKey → Bool
waits_for opcode (keys.Snoop node txn) = completes_data opcode
waits_for opcode (keys.Buffer node dbid) = completes_data opcode || snoops opcode
waits_for opcode other = false

abbrev pub is_before : Opcode → CacheLine → OpenData → Bool
is_before opcode line begun = begun.line.0 == line.0 && waits_for opcode begun.key

abbrev pub data_at : List OpenData → Option ℕ → Option OpenData
data_at unfinished None = None
data_at unfinished (Some place) = slice_get unfinished place

-- the unfinished data that comes before a flit of the opcode at the line
abbrev pub data_before : Opcode → CacheLine → List (KeyNumbers × OpenData) → Option OpenData
data_before opcode line unfinished = data_at (values_of unfinished) (position (is_before opcode line) (values_of unfinished))

-- whether no word lacks
abbrev pub is_whole : Beat → Bool
is_whole beat = list_all (λ there. there) beat.there

abbrev pub merged_one : OpenKey → WordNo → Option ℕ → Option ℕ → Result (Option ℕ) IdReason
merged_one key number None new = Ok new
merged_one key number (Some value) None = Ok (Some value)
merged_one key number (Some value) (Some again) = Err (WordAgain key number)

abbrev pub merged_word : OpenKey → ℕ → Beat → Beat → Result (Option ℕ) IdReason
merged_word key n begun more = merged_one key (record { 0 = n }) (word_at begun n) (word_at more n)

-- the eight words that the beats so far have, and a further one
unfoldable pub joined : OpenKey → Beat → Beat → Result Beat IdReason
joined key begun more = do
  w0 ← merged_word key 0 begun more
  w1 ← merged_word key 1 begun more
  w2 ← merged_word key 2 begun more
  w3 ← merged_word key 3 begun more
  w4 ← merged_word key 4 begun more
  w5 ← merged_word key 5 begun more
  w6 ← merged_word key 6 begun more
  w7 ← merged_word key 7 begun more
  Ok (beat_with (w0 ∷ w1 ∷ w2 ∷ w3 ∷ w4 ∷ w5 ∷ w6 ∷ w7 ∷ []))
