-- The flit of any home or any cache that a line is (docs/TRACES.md, "Other opcodes").
use Rattle.std.specs.Prelude.{ℕ, ◌==◌, ◌&&◌, nat_lt, Bool, false, List, [], ◌∷◌, Option, Some, None, Result, Ok, Err, if◌then◌else◌, codes, length, ok_or}
use Rattle.chi_trace.specs.declared.any_flits.AnyFlit.{AnyFlit}
use Rattle.chi_trace.specs.declared.any_flits.AnyFlit.TheVariants as any
use Rattle.chi_trace.specs.declared.any_flits.AnySeen.{AnySeen}
use Rattle.chi_trace.specs.declared.any_opcodes.AnyOpcode.{AnyOpcode}
use Rattle.chi_trace.specs.declared.any_opcodes.AnyOpcode.TheVariants as codes_any
use Rattle.chi_trace.specs.declared.any_opcodes.OtherKind.{OtherKind}
use Rattle.chi_trace.specs.declared.any_opcodes.OtherSnoop.{OtherSnoop}
use Rattle.chi_trace.specs.declared.columns.Column.{Column}
use Rattle.chi_trace.specs.declared.columns.Column.TheVariants as columns
use Rattle.chi_trace.specs.declared.faults.TraceFault.{TraceFault}
use Rattle.chi_trace.specs.declared.faults.TraceFault.TheVariants.{BadWord, FewWords, Gzip, LongLine}
use Rattle.chi_trace.specs.declared.fields.DbId.{DbId}
use Rattle.chi_trace.specs.declared.fields.Resp.{Resp}
use Rattle.chi_trace.specs.declared.fields.Resp.TheVariants.{UC}
use Rattle.chi_trace.specs.declared.flits.Flit.TheVariants as flits
use Rattle.chi_trace.specs.declared.flits.Transaction.{Transaction}
use Rattle.chi_trace.specs.declared.forms.Listing.{Listing}
use Rattle.chi_trace.specs.declared.forms.Listing.TheVariants as listings
use Rattle.chi_trace.specs.declared.forms.Opcodes.{Opcodes}
use Rattle.chi_trace.specs.declared.forms.TraceForm.{TraceForm}
use Rattle.chi_trace.specs.declared.opcodes.Opcode.{Opcode}
use Rattle.chi_trace.specs.declared.opcodes.Opcode.TheVariants as opcodes
use Rattle.chi_trace.specs.declared.other_opcodes.OtherOpcode.{OtherOpcode}
use Rattle.chi_trace.specs.AnyOpcodes.{any_opcode_in}
use Rattle.chi_trace.specs.Columns.{Row, first_word_of, row_behind}
use Rattle.chi_trace.specs.Fields.{is_dash}
use Rattle.chi_trace.specs.Flits.{◌>>=◌, beat_in, dbid_in, flit_by, flit_opcode, is_comment_word, request_fields_in, resp_in, snoop_fields_in, source_in, transaction_in}
use Rattle.chi_trace.specs.Opcodes.{channel_in}
use Rattle.chi_trace.specs.Words.{blank_words}

abbrev pub any_opcode_of : Opcodes → Row → Result AnyOpcode Column
any_opcode_of opcodes row = ok_or (channel_in row.channel) columns.Channel >>= λ channel. ok_or (any_opcode_in opcodes channel row.opcode) columns.Opcode

-- a request and a snoop that the profile hasn't have the columns of any other
abbrev pub other_request_in : OtherKind → Row → Result AnyFlit Column
other_request_in kind row = request_fields_in row >>= λ fields. Ok (any.Request kind fields)

abbrev pub other_snoop_flit : OtherSnoop → Row → Result AnyFlit Column
other_snoop_flit snoop row = snoop_fields_in row >>= λ fields. Ok (any.Snoop snoop fields)

-- so has write data
unfoldable pub other_write_in : Row → Result AnyFlit Column
other_write_in row = do
  transaction ← transaction_in row
  resp ← resp_in row
  beat ← beat_in row
  Ok (any.NonCopyBackWrData resp transaction beat)

-- a Comp and CompData that leave their DBID out
abbrev pub bare_comp_by : Resp → Transaction → AnyFlit
bare_comp_by UC transaction = any.CompUC transaction
bare_comp_by resp transaction = any.Profile (flits.Comp resp transaction)

unfoldable pub bare_comp_in : Row → Result AnyFlit Column
bare_comp_in row = do
  transaction ← transaction_in row
  resp ← resp_in row
  Ok (bare_comp_by resp transaction)

unfoldable pub bare_data_in : Row → Result AnyFlit Column
bare_data_in row = do
  transaction ← transaction_in row
  resp ← resp_in row
  beat ← beat_in row
  Ok (any.CompData resp transaction beat)

abbrev pub whole_in : Opcode → Row → Result AnyFlit Column
whole_in opcode row = flit_by opcode row >>= λ flit. Ok (any.Profile flit)

abbrev pub any_comp_in : Row → Result AnyFlit Column
any_comp_in row = if is_dash row.dbid then bare_comp_in row else whole_in opcodes.Comp row

abbrev pub any_data_in : Row → Result AnyFlit Column
any_data_in row = if is_dash row.dbid then bare_data_in row else whole_in opcodes.CompData row

abbrev pub profile_in : Opcode → Row → Result AnyFlit Column
profile_in opcodes.Comp row = any_comp_in row
profile_in opcodes.CompData row = any_data_in row
profile_in opcode row = whole_in opcode row

-- a request and a snoop that aren't judged have the columns of any other; a response and data have a transaction, and may
-- name a DBID
abbrev pub unknown_request_in : OtherOpcode → Row → Result AnyFlit Column
unknown_request_in opcode row = request_fields_in row >>= λ fields. Ok (any.UnknownRequest opcode fields)

abbrev pub unknown_snoop_in : OtherOpcode → Row → Result AnyFlit Column
unknown_snoop_in opcode row = snoop_fields_in row >>= λ fields. Ok (any.UnknownSnoop opcode fields)

abbrev pub unknown_answer_in : OtherOpcode → Row → Result AnyFlit Column
unknown_answer_in opcode row = transaction_in row >>= λ transaction. Ok (any.UnknownAnswer opcode transaction)

abbrev pub named_dbid_in : Row → Result (Option DbId) Column
named_dbid_in row = if is_dash row.dbid then Ok None else dbid_in row >>= λ dbid. Ok (Some dbid)

abbrev pub unknown_reply_in : OtherOpcode → Row → Result AnyFlit Column
unknown_reply_in opcode row = transaction_in row >>= λ transaction. named_dbid_in row >>= λ dbid. Ok (any.UnknownReply opcode transaction dbid)

-- the flit of each opcode
abbrev pub any_flit_by : AnyOpcode → Row → Result AnyFlit Column
any_flit_by (codes_any.Profile opcode) row = profile_in opcode row
any_flit_by (codes_any.Request kind) row = other_request_in kind row
any_flit_by (codes_any.Snoop snoop) row = other_snoop_flit snoop row
any_flit_by codes_any.NonCopyBackWrData row = other_write_in row
any_flit_by (codes_any.UnknownRequest opcode) row = unknown_request_in opcode row
any_flit_by (codes_any.UnknownSnoop opcode) row = unknown_snoop_in opcode row
any_flit_by (codes_any.UnknownAnswer opcode) row = unknown_answer_in opcode row
any_flit_by (codes_any.UnknownReply opcode) row = unknown_reply_in opcode row

-- a log may list no data: then a dash stands for those of each flit that has some, and all its words are there and 0
abbrev pub zeros_of : AnyOpcode → Option (List ℕ)
zeros_of (codes_any.Profile opcodes.CompData) = Some (codes "0,0,0,0,0,0,0,0")
zeros_of (codes_any.Profile opcodes.SnpRespData) = Some (codes "0,0,0,0,0,0,0,0")
zeros_of (codes_any.Profile opcodes.CopyBackWrData) = Some (codes "0,0,0,0,0,0,0,0")
zeros_of codes_any.NonCopyBackWrData = Some (codes "0,0,0,0,0,0,0,0")
zeros_of (codes_any.Profile opcodes.Load) = Some (codes "0")
zeros_of (codes_any.Profile opcodes.Store) = Some (codes "0")
zeros_of other = None

abbrev pub with_payload : List ℕ → Row → Row
with_payload payload row = record {
  channel = row.channel;
  source = row.source;
  target = row.target;
  txn = row.txn;
  opcode = row.opcode;
  address = row.address;
  resp = row.resp;
  dbid = row.dbid;
  allow_retry = row.allow_retry;
  pcrd = row.pcrd;
  payload = payload;
}

abbrev pub with_dash : Row → AnyFlit → Result AnyFlit Column
with_dash row flit = if is_dash row.payload then Ok flit else Err columns.Data

abbrev pub unlisted_in : AnyOpcode → List ℕ → Row → Result AnyFlit Column
unlisted_in opcode zeros row = any_flit_by opcode (with_payload zeros row) >>= with_dash row

abbrev pub dataless_with : AnyOpcode → Option (List ℕ) → Row → Result AnyFlit Column
dataless_with opcode (Some zeros) row = unlisted_in opcode zeros row
dataless_with opcode None row = any_flit_by opcode row

abbrev pub dataless_flit_by : AnyOpcode → Row → Result AnyFlit Column
dataless_flit_by opcode row = dataless_with opcode (zeros_of opcode) row

abbrev pub formed_flit_by : Listing → AnyOpcode → Row → Result AnyFlit Column
formed_flit_by listings.Listed opcode row = any_flit_by opcode row
formed_flit_by listings.None opcode row = dataless_flit_by opcode row

-- the opcode of a flit
abbrev pub any_opcode : AnyFlit → AnyOpcode
any_opcode (any.Profile flit) = codes_any.Profile (flit_opcode flit)
any_opcode (any.Request kind fields) = codes_any.Request kind
any_opcode (any.Snoop snoop fields) = codes_any.Snoop snoop
any_opcode (any.CompUC transaction) = codes_any.Profile opcodes.Comp
any_opcode (any.CompData resp transaction beat) = codes_any.Profile opcodes.CompData
any_opcode (any.NonCopyBackWrData resp transaction beat) = codes_any.NonCopyBackWrData
any_opcode (any.UnknownRequest opcode fields) = codes_any.UnknownRequest opcode
any_opcode (any.UnknownSnoop opcode fields) = codes_any.UnknownSnoop opcode
any_opcode (any.UnknownAnswer opcode transaction) = codes_any.UnknownAnswer opcode
any_opcode (any.UnknownReply opcode transaction dbid) = codes_any.UnknownReply opcode

-- the flit of line n with these columns, or the first column that is wrong
unfoldable pub any_seen_in : TraceForm → ℕ → Row → Result AnySeen Column
any_seen_in form n row = do
  opcode ← any_opcode_of form.opcodes row
  source ← source_in row
  flit ← formed_flit_by form.listing opcode row
  Ok (record { line = n; source = source; flit = flit })

-- which column of line n is wrong
abbrev pub any_told_at : ℕ → Result AnySeen Column → Result (Option AnySeen) TraceFault
any_told_at n (Ok seen) = Ok (Some seen)
any_told_at n (Err column) = Err (BadWord n column)

-- the flit of line n with these columns, if there are so many
abbrev pub any_flit_of_row : TraceForm → ℕ → Option Row → Result (Option AnySeen) TraceFault
any_flit_of_row form n None = Err (FewWords n)
any_flit_of_row form n (Some row) = any_told_at n (any_seen_in form n row)

-- the same of a first word and those behind it; none where it is a comment or there is no word
abbrev pub any_flit_from : TraceForm → ℕ → Option (List ℕ × List (List ℕ)) → Result (Option AnySeen) TraceFault
any_flit_from form n None = Ok None
any_flit_from form n (Some found) = if is_comment_word found.0 then Ok None else any_flit_of_row form n (row_behind found.0 found.1)

-- the flit of line n with these words
abbrev pub any_flit_of_words : TraceForm → ℕ → List (List ℕ) → Result (Option AnySeen) TraceFault
any_flit_of_words form n words = any_flit_from form n (first_word_of words)

-- how a compressed file begins
abbrev pub is_gzip : List ℕ → Bool
is_gzip [] = false
is_gzip (first ∷ []) = false
is_gzip (first ∷ second ∷ rest) = first == 0x1f && second == 0x8b

-- the flit of line n
unfoldable pub any_flit_at : TraceForm → ℕ → List ℕ → Result (Option AnySeen) TraceFault
any_flit_at form n line = if is_gzip line then Err Gzip else (if nat_lt 4096 (length line) then Err (LongLine n) else any_flit_of_words form n (blank_words line))
