-- What a line of a trace is, or why it is none (docs/TRACES.md, "Traces").
use Rattle.std.specs.Prelude.{ℕ, ◌==◌, ◌&&◌, nat_lt, Bool, true, false, List, [], ◌∷◌, Option, Some, None, Result, Ok, Err, if◌then◌else◌, is_none, length}
use Rattle.std.specs.List.{find}
use Rattle.std.specs.Option.{unwrap_or}
use Rattle.chi_issue_b.specs.declared.beat.Beat.{Beat}
use Rattle.chi_lanes.specs.Columns.{columns_of}
use Rattle.chi_log.specs.declared.columns.LineColumn.{LineColumn}
use Rattle.chi_log.specs.declared.columns.LineColumn.TheVariants.{Channel, Source, Target, Txn, Opcode, Address, Resp as RespColumn, Dbid, AllowRetry, Pcrd, Data}
use Rattle.chi_log.specs.declared.forms.Form.{Form}
use Rattle.chi_log.specs.declared.kinds.Kind.{Kind}
use Rattle.chi_log.specs.declared.kinds.Kind.TheVariants.{Load}
use Rattle.chi_log.specs.declared.lines.TheConstants.{COLUMNS}
use Rattle.chi_log.specs.declared.lines.Malformed.{Malformed}
use Rattle.chi_log.specs.declared.lines.Malformed.TheVariants.{Gzip, LongLine, FewWords, BadWord}
use Rattle.chi_log.specs.declared.options.Options.{Options}
use Rattle.chi_log.specs.declared.rows.Row.{Row}
use Rattle.chi_log.specs.declared.seen.Seen.{Seen}
use Rattle.chi_log.specs.Fields.{address_as, allow_as, credit_as, dbid_need, id_as, pcrd_need, resp_as}
use Rattle.chi_log.specs.Forms.{form_of}
use Rattle.chi_log.specs.Kinds.{◌>>=◌, kind_of, port_of}
use Rattle.chi_log.specs.Numbers.{id_of}
use Rattle.chi_log.specs.Rows.{row_of}
use Rattle.chi_log.specs.Seen.{Read, beat_after, read_of}

-- what an earlier column says, if it says something
abbrev pub said : {A : Type 0} → Option (Option A) → Option A
said told = unwrap_or told None

-- whether DBID is wrong beside RESP, and PCRD beside AR
abbrev pub is_dbid_wrong : Form → Row → Bool
is_dbid_wrong form row = is_none (id_as (dbid_need form.dbid (said (resp_as form.resp row.resp))) row.dbid)

abbrev pub is_credit_wrong : Form → Row → Bool
is_credit_wrong form row =
    is_none (credit_as (pcrd_need form.pcrd (said (allow_as form.allow_retry row.allow_retry))) row.pcrd)

-- whether a column is wrong, where none before it is
abbrev pub row_kind : Options → Row → Option Kind
row_kind options row = kind_of options.opcodes row.channel row.opcode

abbrev pub row_form : Options → Row → Form
row_form options row = form_of (unwrap_or (row_kind options row) Load)

abbrev pub is_wrong : Options → Row → LineColumn → Bool
is_wrong options row Channel = is_none (port_of row.channel)
is_wrong options row Opcode = is_none (row_kind options row)
is_wrong options row Source = is_none (id_of row.source)
is_wrong options row Target = is_none (id_as (row_form options row).target row.target)
is_wrong options row Txn = is_none (id_as (row_form options row).txn row.txn)
is_wrong options row Address = is_none (address_as (row_form options row).address row.address)
is_wrong options row RespColumn = is_none (resp_as (row_form options row).resp row.resp)
is_wrong options row Dbid = is_dbid_wrong (row_form options row) row
is_wrong options row AllowRetry = is_none (allow_as (row_form options row).allow_retry row.allow_retry)
is_wrong options row Pcrd = is_credit_wrong (row_form options row) row
is_wrong options row Data = false

-- the first that is wrong: where no other is, DATA
unfoldable pub first_wrong : Options → Row → LineColumn
first_wrong options row = unwrap_or (find (is_wrong options row) COLUMNS) Data

-- a line without words, or one whose first word begins with #
abbrev pub begins_hash : List ℕ → Bool
begins_hash [] = false
begins_hash (b ∷ bs) = b == 35

abbrev pub is_comment : List (List ℕ) → Bool
is_comment [] = true
is_comment (first ∷ rest) = begins_hash first

-- what a line with these words is, or the first column that is wrong
abbrev pub told_by : Options → Row → Option Read → Result (Option Seen) Malformed
told_by options row (Some read) = Ok (Some read.seen)
told_by options row None = Err (BadWord (first_wrong options row))

abbrev pub told_of : Options → Option Row → Result (Option Seen) Malformed
told_of options None = Err FewWords
told_of options (Some row) = told_by options row (read_of options row)

unfoldable pub words_told : Options → List (List ℕ) → Result (Option Seen) Malformed
words_told options words = if is_comment words then Ok None else told_of options (row_of words)

-- what is read of a line with these words, where no column is wrong
unfoldable pub words_read : Options → List (List ℕ) → Option Read
words_read options words = row_of words >>= read_of options

-- how a compressed file begins
abbrev pub is_gzip : List ℕ → Bool
is_gzip (first ∷ second ∷ rest) = first == 0x1f && second == 0x8b
is_gzip line = false

-- THE GRAMMAR of a line: it is a flit, a load or a store; or nothing, as a comment; or malformed
unfoldable pub line_of : Options → List ℕ → Result (Option Seen) Malformed
line_of options line =
    if is_gzip line then Err Gzip else (if nat_lt 4096 (length line) then Err LongLine else words_told options (columns_of line))

-- the words of data that are lent behind a line: its own, where it has some
unfoldable pub beat_behind : Options → List ℕ → Beat → Beat
beat_behind options line before =
    if is_gzip line then before
    else (if nat_lt 4096 (length line) then before else beat_after (words_read options (columns_of line)) before)
