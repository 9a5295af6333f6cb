-- What the columns of a flit hold (docs/TRACES.md, "Traces").
use Rattle.std.specs.Prelude.{ℕ, ◌==◌, ◌&&◌, Bool, true, false, List, [], ◌∷◌, Option, Some, None, if◌then◌else◌, codes, is_none, is_some, length, replicate, slice_range}
use Rattle.std.specs.List.{position, slice_index_or, slice_split}
use Rattle.std.specs.Option.{unwrap_or}
use Rattle.chi_script.specs.Words.{◌>>=◌, is_text}
use Rattle.chi_trace.specs.Numbers.{hex_of, plain_of, unmarked}
use Rattle.chi_trace.specs.declared.fields.NodeId.{NodeId}
use Rattle.chi_trace.specs.declared.fields.TxnId.{TxnId}
use Rattle.chi_trace.specs.declared.fields.DbId.{DbId}
use Rattle.chi_trace.specs.declared.fields.PcrdType.{PcrdType}
use Rattle.chi_trace.specs.declared.fields.Address.{Address}
use Rattle.chi_trace.specs.declared.fields.Resp.{Resp}
use Rattle.chi_trace.specs.declared.fields.Resp.TheVariants.{I, SC, UC, UD, SD, IPD, SCPD, UCPD, UDPD, SDPD}
use Rattle.chi_trace.specs.declared.fields.Beat.{Beat}

-- there is nothing
abbrev pub is_dash : List ℕ → Bool
is_dash word = is_text word (codes "-")

-- numbers of 16 bits, of 4 and of 64
abbrev pub node_of : List ℕ → Option NodeId
node_of word = hex_of 0xffff word >>= λ n. Some (record { 0 = n })

abbrev pub txn_of : List ℕ → Option TxnId
txn_of word = hex_of 0xffff word >>= λ n. Some (record { 0 = n })

abbrev pub dbid_of : List ℕ → Option DbId
dbid_of word = hex_of 0xffff word >>= λ n. Some (record { 0 = n })

abbrev pub pcrd_of : List ℕ → Option PcrdType
pcrd_of word = hex_of 0xf word >>= λ n. Some (record { 0 = n })

abbrev pub address_of : List ℕ → Option Address
address_of word = hex_of 0xffff_ffff_ffff_ffff word >>= λ n. Some (record { 0 = n })

-- whether AllowRetry is asserted
abbrev pub allow_of : List ℕ → Option Bool
allow_of word = if is_text word (codes "1") then Some true else (if is_text word (codes "0") then Some false else None)

abbrev pub resp_text : Resp → List ℕ
resp_text I = codes "I"
resp_text SC = codes "SC"
resp_text UC = codes "UC"
resp_text UD = codes "UD"
resp_text SD = codes "SD"
resp_text IPD = codes "I_PD"
resp_text SCPD = codes "SC_PD"
resp_text UCPD = codes "UC_PD"
resp_text UDPD = codes "UD_PD"
resp_text SDPD = codes "SD_PD"

unfoldable pub resp_of : List ℕ → Option Resp
resp_of word =
    if is_text word (resp_text I) then Some I else (
    if is_text word (resp_text SC) then Some SC else (
    if is_text word (resp_text UC) then Some UC else (
    if is_text word (resp_text UD) then Some UD else (
    if is_text word (resp_text SD) then Some SD else (
    if is_text word (resp_text IPD) then Some IPD else (
    if is_text word (resp_text SCPD) then Some SCPD else (
    if is_text word (resp_text UCPD) then Some UCPD else (
    if is_text word (resp_text UDPD) then Some UDPD else (
    if is_text word (resp_text SDPD) then Some SDPD else None)))))))))

-- a word of the line, or none where it is in another beat
abbrev pub word_in : List ℕ → Option (Option ℕ)
word_in part = if is_text part (codes "x") then Some None else (hex_of 0xffff_ffff_ffff_ffff part >>= λ n. Some (Some n))

-- a comma stands between two words of a list
abbrev pub comma_parts : List ℕ → List (List ℕ)
comma_parts list = slice_split (λ b. b == 44) list

abbrev pub first_part : List (List ℕ) → Option (Option ℕ × List (List ℕ))
first_part [] = None
first_part (part ∷ []) = None
first_part (part ∷ next ∷ rest) = word_in part >>= λ w. Some (w, next ∷ rest)

abbrev pub only_of : List (List ℕ) → Option (Option ℕ)
only_of [] = None
only_of (part ∷ []) = word_in part
only_of (part ∷ next ∷ rest) = None

-- eight words
unfoldable pub listed_of : List (List ℕ) → Option (List (Option ℕ))
listed_of parts = do
  w0 ← first_part parts
  w1 ← first_part w0.1
  w2 ← first_part w1.1
  w3 ← first_part w2.1
  w4 ← first_part w3.1
  w5 ← first_part w4.1
  w6 ← first_part w5.1
  w7 ← only_of w6.1
  Some (w0.0 ∷ w1.0 ∷ w2.0 ∷ w3.0 ∷ w4.0 ∷ w5.0 ∷ w6.0 ∷ w7 ∷ [])

-- one number of 512 bits, word 7 first
unfoldable pub vector_of : List ℕ → Option (List (Option ℕ))
vector_of digits = do
  w0 ← plain_of 0xffff_ffff_ffff_ffff (slice_range digits 112 128)
  w1 ← plain_of 0xffff_ffff_ffff_ffff (slice_range digits 96 112)
  w2 ← plain_of 0xffff_ffff_ffff_ffff (slice_range digits 80 96)
  w3 ← plain_of 0xffff_ffff_ffff_ffff (slice_range digits 64 80)
  w4 ← plain_of 0xffff_ffff_ffff_ffff (slice_range digits 48 64)
  w5 ← plain_of 0xffff_ffff_ffff_ffff (slice_range digits 32 48)
  w6 ← plain_of 0xffff_ffff_ffff_ffff (slice_range digits 16 32)
  w7 ← plain_of 0xffff_ffff_ffff_ffff (slice_range digits 0 16)
  Some (Some w0 ∷ Some w1 ∷ Some w2 ∷ Some w3 ∷ Some w4 ∷ Some w5 ∷ Some w6 ∷ Some w7 ∷ [])

-- a list, or one number of 128 digits
abbrev pub line_words_of : List ℕ → Option (List (Option ℕ))
line_words_of word = if length (unmarked word) == 128 && is_none (position (λ b. b == 44) word) then vector_of (unmarked word) else listed_of (comma_parts word)

-- a beat: its words, with 0 in place of each that it hasn't, and which of them it has
abbrev pub word_or_zero : List (Option ℕ) → ℕ → ℕ
word_or_zero ws n = unwrap_or (slice_index_or ws n None) 0

abbrev pub has_word : List (Option ℕ) → ℕ → Bool
has_word ws n = is_some (slice_index_or ws n None)

abbrev pub beat_with : List (Option ℕ) → Beat
beat_with ws = record {
  words =
      word_or_zero ws 0 ∷ word_or_zero ws 1 ∷ word_or_zero ws 2 ∷ word_or_zero ws 3
      ∷ word_or_zero ws 4 ∷ word_or_zero ws 5 ∷ word_or_zero ws 6 ∷ word_or_zero ws 7 ∷ [];
  there =
      has_word ws 0 ∷ has_word ws 1 ∷ has_word ws 2 ∷ has_word ws 3
      ∷ has_word ws 4 ∷ has_word ws 5 ∷ has_word ws 6 ∷ has_word ws 7 ∷ [];
}

-- a word, where the beat has it
abbrev pub word_at : Beat → ℕ → Option ℕ
word_at beat n = if slice_index_or beat.there n false then Some (slice_index_or beat.words n 0) else None

abbrev pub beat_of : List ℕ → Option Beat
beat_of word = line_words_of word >>= λ ws. Some (beat_with ws)

-- the data of a copy that is lost
abbrev pub zeros : Beat
zeros = record { words = replicate 8 0; there = replicate 8 true }

-- write data of a copy that is lost is 0, and may be left out
abbrev pub written_of : Resp → List ℕ → Option Beat
written_of I word = if is_dash word then Some zeros else beat_of word
written_of resp word = beat_of word

-- one word
abbrev pub value_of : List ℕ → Option ℕ
value_of word = hex_of 0xffff_ffff_ffff_ffff word
