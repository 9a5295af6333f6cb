-- What is told of a line that is none of a trace (docs/TRACES.md, "What is printed" and "Other opcodes").
use Rattle.std.specs.Prelude.{ℕ, ◌==◌, ◌&&◌, Bool, true, false, List, [], ◌∷◌, ◌++◌, ◌≡◌, Option, Some, None, if◌then◌else◌, codes}
use Rattle.std.specs.Fmt.{decimal}
use Rattle.std.specs.List.{slice_index_or}
use Rattle.chi_issue_b.specs.declared.channels.Channel.{Channel}
use Rattle.chi_issue_b.specs.declared.opcodes.Opcode.{Opcode}
use Rattle.chi_issue_b.specs.Near.{opcode_near}
use Rattle.chi_issue_b.specs.Opcodes.{word_of}
use Rattle.chi_lanes.specs.Columns.{columns_of}
use Rattle.chi_log.specs.declared.columns.LineColumn.{LineColumn}
use Rattle.chi_log.specs.declared.columns.LineColumn.TheVariants.{Channel as ChannelColumn, Source, Target, Txn, Opcode as OpcodeColumn, Address, Resp, Dbid, AllowRetry, Pcrd, Data}
use Rattle.chi_log.specs.declared.kinds.Port.{Port}
use Rattle.chi_log.specs.declared.kinds.Port.TheVariants.{Link, Processor}
use Rattle.chi_log.specs.declared.lines.Malformed.{Malformed}
use Rattle.chi_log.specs.declared.lines.Malformed.TheVariants.{Gzip, LongLine, FewWords, BadWord}
use Rattle.chi_log.specs.declared.malformed.BadText.{BadText}
use Rattle.chi_log.specs.declared.options.Listing.{Listing}
use Rattle.chi_log.specs.declared.options.Listing.TheVariants as listings
use Rattle.chi_log.specs.declared.options.Opcodes.{Opcodes}
use Rattle.chi_log.specs.declared.options.Opcodes.TheVariants as options
use Rattle.chi_log.specs.declared.options.Options.{Options}
use Rattle.chi_log.specs.Kinds.{port_of}
use Rattle.chi_log.specs.Shown.{shown_word}

-- a column, by its name at the head of a trace and its place in a line
abbrev pub column_name : LineColumn → List ℕ
column_name ChannelColumn = codes "CH"
column_name Source = codes "SRC"
column_name Target = codes "TGT"
column_name Txn = codes "TXN"
column_name OpcodeColumn = codes "OPCODE"
column_name Address = codes "ADDR"
column_name Resp = codes "RESP"
column_name Dbid = codes "DBID"
column_name AllowRetry = codes "AR"
column_name Pcrd = codes "PCRD"
column_name Data = codes "DATA"

abbrev pub place_of : LineColumn → ℕ
place_of ChannelColumn = 0
place_of Source = 1
place_of Target = 2
place_of Txn = 3
place_of OpcodeColumn = 4
place_of Address = 5
place_of Resp = 6
place_of Dbid = 7
place_of AllowRetry = 8
place_of Pcrd = 9
place_of Data = 10

abbrev pub word_in : List ℕ → LineColumn → List ℕ
word_in line column = slice_index_or (columns_of line) (place_of column) []

-- an opcode: the one that the word nearly is, or any
abbrev pub near_text : Option Opcode → List ℕ
near_text (Some opcode) = word_of opcode
near_text None = codes "an opcode of Issue B (--opcodes any takes others)"

abbrev pub opcode_wanted : Opcodes → Channel → List ℕ → List ℕ
opcode_wanted options.Any channel word = codes "an opcode: letters and digits, a capital first"
opcode_wanted options.IssueB channel word = near_text (opcode_near channel word)

abbrev pub wanted_opcode : Opcodes → Option Port → List ℕ → List ℕ
wanted_opcode opcodes (Some Processor) word = codes "Load or Store"
wanted_opcode opcodes (Some (Link channel)) word = opcode_wanted opcodes channel word
wanted_opcode opcodes None word = codes "an opcode of Issue B (--opcodes any takes others)"

-- data
abbrev pub is_processor : Option Port → Bool
is_processor (Some Processor) = true
is_processor other = false

abbrev pub payload_wanted : Listing → Option Port → List ℕ
payload_wanted listings.None port = codes "-, as the log has no data"
payload_wanted listings.Listed port =
    if is_processor port then codes "a hexadecimal number of 64 bits"
    else codes "eight hexadecimal words or x with commas between them, or 128 digits"

abbrev pub wanted_in : Options → List ℕ → LineColumn → List ℕ
wanted_in options line ChannelColumn = codes "REQ, SNP, RSP, DAT or CPU"
wanted_in options line Source = codes "a hexadecimal number, ffff at most"
wanted_in options line Target = codes "a hexadecimal number, ffff at most"
wanted_in options line Txn = codes "a hexadecimal number, ffff at most"
wanted_in options line OpcodeColumn = wanted_opcode options.opcodes (port_of (word_in line ChannelColumn)) (word_in line OpcodeColumn)
wanted_in options line Address = codes "a hexadecimal number of 64 bits"
wanted_in options line Resp = codes "I, SC, UC, UD, SD, I_PD, SC_PD, UC_PD, UD_PD or SD_PD"
wanted_in options line Dbid = codes "a hexadecimal number, ffff at most"
wanted_in options line AllowRetry = codes "0 or 1"
wanted_in options line Pcrd = codes "a hexadecimal number, f at most"
wanted_in options line Data = payload_wanted options.listing (port_of (word_in line ChannelColumn))

-- where the first line is wrong, a byte-order mark before it is named
abbrev pub begins_marked : List ℕ → Bool
begins_marked (a ∷ b ∷ c ∷ rest) = a == 0xef && (b == 0xbb && c == 0xbf)
begins_marked line = false

abbrev pub mark_text : ℕ → List ℕ → List ℕ
mark_text number line = if number == 1 && begins_marked line then codes "; the trace begins with a byte-order mark" else []

-- the whole text
abbrev pub line_front : ℕ → List ℕ
line_front number = codes "chihome: line " ++ decimal number

unfoldable pub long_text : ℕ → List ℕ
long_text number = codes "chihome: line " ++ (decimal number ++ codes ": longer than 4096 bytes")

unfoldable pub few_text : ℕ → List ℕ → List ℕ
few_text number mark =
    codes "chihome: line "
    ++ (decimal number ++ (codes ": fewer than eleven words, expected CH SRC TGT TXN OPCODE ADDR RESP DBID AR PCRD DATA" ++ mark))

unfoldable pub bad_text : ℕ → List ℕ → List ℕ → List ℕ → List ℕ → List ℕ
bad_text number name word wanted mark =
    codes "chihome: line "
    ++ (decimal number ++ (codes ": " ++ (name ++ (codes " " ++ (word ++ (codes ", expected " ++ (wanted ++ mark)))))))

abbrev pub malformed_text : Malformed → ℕ → List ℕ → Options → List ℕ
malformed_text Gzip number line options = codes "chihome: is gzip: zcat FILE | chihome observe -"
malformed_text LongLine number line options = long_text number
malformed_text FewWords number line options = few_text number (mark_text number line)
malformed_text (BadWord column) number line options =
    bad_text number (column_name column) (shown_word (word_in line column)) (wanted_in options line column) (mark_text number line)

-- the parts of what is told of a wrong word
pub record IsBadText (text : BadText) (at : ℕ) (line : List ℕ) (options : Options) (column : LineColumn) : Type 0 where
  pub number : text.number ≡ at
  pub name : text.name.now ≡ column_name column
  pub word : text.word.now ≡ word_in line column
  pub wanted : text.wanted.now ≡ wanted_in options line column
  pub mark : text.mark.now ≡ mark_text at line
