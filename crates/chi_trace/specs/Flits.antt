-- The flit that a line is (docs/TRACES.md, "Traces").
use Rattle.std.specs.Prelude.{ℕ, ◌==◌, Bool, true, false, List, [], ◌∷◌, Option, Some, None, Result, Ok, Err, if◌then◌else◌, ok_or}
use Rattle.chi_flit.specs.declared.kind.Kind.{Kind}
use Rattle.chi_flit.specs.declared.snoop.Snoop.{Snoop}
use Rattle.chi_trace.specs.declared.columns.Column.{Column}
use Rattle.chi_trace.specs.declared.columns.Column.TheVariants as columns
use Rattle.chi_trace.specs.declared.faults.TraceFault.{TraceFault}
use Rattle.chi_trace.specs.declared.faults.TraceFault.TheVariants.{BadWord, FewWords}
use Rattle.chi_trace.specs.declared.fields.Address.{Address}
use Rattle.chi_trace.specs.declared.fields.DbId.{DbId}
use Rattle.chi_trace.specs.declared.fields.NodeId.{NodeId}
use Rattle.chi_trace.specs.declared.fields.PcrdType.{PcrdType}
use Rattle.chi_trace.specs.declared.fields.Beat.{Beat}
use Rattle.chi_trace.specs.declared.fields.Resp.{Resp}
use Rattle.chi_trace.specs.declared.fields.Resp.TheVariants.{UC}
use Rattle.chi_trace.specs.declared.fields.TxnId.{TxnId}
use Rattle.chi_trace.specs.declared.flits.Flit.{Flit}
use Rattle.chi_trace.specs.declared.flits.Flit.TheVariants as flits
use Rattle.chi_trace.specs.declared.flits.RequestFields.{RequestFields}
use Rattle.chi_trace.specs.declared.flits.Seen.{Seen}
use Rattle.chi_trace.specs.declared.flits.SnoopFields.{SnoopFields}
use Rattle.chi_trace.specs.declared.flits.Transaction.{Transaction}
use Rattle.chi_trace.specs.declared.opcodes.Opcode.{Opcode}
use Rattle.chi_trace.specs.declared.opcodes.Opcode.TheVariants as opcodes
use Rattle.chi_trace.specs.Columns.{Row, first_word_of, row_behind}
use Rattle.chi_trace.specs.Fields.{address_of, allow_of, beat_of, dbid_of, is_dash, node_of, pcrd_of, resp_of, txn_of, value_of, written_of}
use Rattle.chi_trace.specs.Opcodes.{channel_in, opcode_in}

infixl 10 ◌>>=◌
abbrev pub ◌>>=◌ : {A B : Type 0} → Result A Column → (A → Result B Column) → Result B Column
(Ok x) >>= next = next x
(Err column) >>= next = Err column

abbrev pub opcode_of : Row → Result Opcode Column
opcode_of row = ok_or (channel_in row.channel) columns.Channel >>= λ channel. ok_or (opcode_in channel row.opcode) columns.Opcode

-- a column, as each flit has it that has it
abbrev pub source_in : Row → Result NodeId Column
source_in row = ok_or (node_of row.source) columns.Source

abbrev pub target_in : Row → Result NodeId Column
target_in row = ok_or (node_of row.target) columns.Target

abbrev pub txn_in : Row → Result TxnId Column
txn_in row = ok_or (txn_of row.txn) columns.Txn

abbrev pub address_in : Row → Result Address Column
address_in row = ok_or (address_of row.address) columns.Address

abbrev pub resp_in : Row → Result Resp Column
resp_in row = ok_or (resp_of row.resp) columns.Resp

abbrev pub dbid_in : Row → Result DbId Column
dbid_in row = ok_or (dbid_of row.dbid) columns.Dbid

abbrev pub allow_in : Row → Result Bool Column
allow_in row = ok_or (allow_of row.allow_retry) columns.AllowRetry

abbrev pub pcrd_in : Row → Result PcrdType Column
pcrd_in row = ok_or (pcrd_of row.pcrd) columns.Pcrd

abbrev pub beat_in : Row → Result Beat Column
beat_in row = ok_or (beat_of row.payload) columns.Data

abbrev pub written_in : Resp → Row → Result Beat Column
written_in resp row = ok_or (written_of resp row.payload) columns.Data

abbrev pub value_in : Row → Result ℕ Column
value_in row = ok_or (value_of row.payload) columns.Data

-- a response, or data, may leave its address out
abbrev pub named_in : Row → Result (Option Address) Column
named_in row = if is_dash row.address then Ok None else address_in row >>= λ address. Ok (Some address)

-- a request names a credit type where it spends a credit: without AllowRetry
abbrev pub spent_by : Bool → Row → Result (Option PcrdType) Column
spent_by true row = Ok None
spent_by false row = pcrd_in row >>= λ pcrd. Ok (Some pcrd)

-- what ties a response, or data, to its transaction
unfoldable pub transaction_in : Row → Result Transaction Column
transaction_in row = do
  target ← target_in row
  txn ← txn_in row
  address ← named_in row
  Ok (record { target = target; txn = txn; address = address })

-- a Comp has a DBID where a CompAck is to follow
abbrev pub comp_by : Resp → Transaction → Row → Result Flit Column
comp_by UC transaction row = dbid_in row >>= λ dbid. Ok (flits.CompUC dbid transaction)
comp_by resp transaction row = Ok (flits.Comp resp transaction)

-- the flit of each opcode, by its columns in their order
unfoldable pub request_fields_in : Row → Result RequestFields Column
request_fields_in row = do
  target ← target_in row
  txn ← txn_in row
  address ← address_in row
  allow ← allow_in row
  spends ← spent_by allow row
  Ok (record { spends = spends; target = target; txn = txn; address = address })

abbrev pub request_in : Kind → Row → Result Flit Column
request_in kind row = request_fields_in row >>= λ f. Ok (flits.Request kind f.spends f.target f.txn f.address)

unfoldable pub return_in : Row → Result Flit Column
return_in row = do
  target ← target_in row
  pcrd ← pcrd_in row
  Ok (flits.PCrdReturn pcrd target)

unfoldable pub snoop_fields_in : Row → Result SnoopFields Column
snoop_fields_in row = do
  target ← target_in row
  txn ← txn_in row
  address ← address_in row
  Ok (record { target = target; txn = txn; address = address })

abbrev pub snoop_in : Snoop → Row → Result Flit Column
snoop_in snoop row = snoop_fields_in row >>= λ f. Ok (flits.Snoop snoop f.target f.txn f.address)

unfoldable pub retry_in : Row → Result Flit Column
retry_in row = do
  transaction ← transaction_in row
  pcrd ← pcrd_in row
  Ok (flits.RetryAck pcrd transaction)

unfoldable pub comp_in : Row → Result Flit Column
comp_in row = do
  transaction ← transaction_in row
  resp ← resp_in row
  comp_by resp transaction row

unfoldable pub comp_dbid_in : Row → Result Flit Column
comp_dbid_in row = do
  transaction ← transaction_in row
  dbid ← dbid_in row
  Ok (flits.CompDBIDResp dbid transaction)

unfoldable pub grant_in : Row → Result Flit Column
grant_in row = do
  target ← target_in row
  pcrd ← pcrd_in row
  Ok (flits.PCrdGrant pcrd target)

unfoldable pub answer_in : Row → Result Flit Column
answer_in row = do
  transaction ← transaction_in row
  resp ← resp_in row
  Ok (flits.SnpResp resp transaction)

unfoldable pub ack_in : Row → Result Flit Column
ack_in row = transaction_in row >>= λ transaction. Ok (flits.CompAck transaction)

unfoldable pub read_data_in : Row → Result Flit Column
read_data_in row = do
  transaction ← transaction_in row
  resp ← resp_in row
  dbid ← dbid_in row
  beat ← beat_in row
  Ok (flits.CompData resp dbid transaction beat)

unfoldable pub snoop_data_in : Row → Result Flit Column
snoop_data_in row = do
  transaction ← transaction_in row
  resp ← resp_in row
  beat ← beat_in row
  Ok (flits.SnpRespData resp transaction beat)

unfoldable pub write_data_in : Row → Result Flit Column
write_data_in row = do
  transaction ← transaction_in row
  resp ← resp_in row
  beat ← written_in resp row
  Ok (flits.CopyBackWrData resp transaction beat)

unfoldable pub load_in : Row → Result Flit Column
load_in row = do
  address ← address_in row
  value ← value_in row
  Ok (flits.Load address value)

unfoldable pub store_in : Row → Result Flit Column
store_in row = do
  address ← address_in row
  value ← value_in row
  Ok (flits.Store address value)

abbrev pub flit_by : Opcode → Row → Result Flit Column
flit_by (opcodes.Request kind) row = request_in kind row
flit_by opcodes.PCrdReturn row = return_in row
flit_by (opcodes.Snoop snoop) row = snoop_in snoop row
flit_by opcodes.RetryAck row = retry_in row
flit_by opcodes.Comp row = comp_in row
flit_by opcodes.CompDBIDResp row = comp_dbid_in row
flit_by opcodes.PCrdGrant row = grant_in row
flit_by opcodes.SnpResp row = answer_in row
flit_by opcodes.CompAck row = ack_in row
flit_by opcodes.CompData row = read_data_in row
flit_by opcodes.SnpRespData row = snoop_data_in row
flit_by opcodes.CopyBackWrData row = write_data_in row
flit_by opcodes.Load row = load_in row
flit_by opcodes.Store row = store_in row

-- the opcode of a flit
abbrev pub flit_opcode : Flit → Opcode
flit_opcode (flits.Request kind spends target txn address) = opcodes.Request kind
flit_opcode (flits.PCrdReturn pcrd target) = opcodes.PCrdReturn
flit_opcode (flits.Snoop snoop target txn address) = opcodes.Snoop snoop
flit_opcode (flits.RetryAck pcrd transaction) = opcodes.RetryAck
flit_opcode (flits.CompUC dbid transaction) = opcodes.Comp
flit_opcode (flits.Comp resp transaction) = opcodes.Comp
flit_opcode (flits.CompDBIDResp dbid transaction) = opcodes.CompDBIDResp
flit_opcode (flits.PCrdGrant pcrd target) = opcodes.PCrdGrant
flit_opcode (flits.SnpResp resp transaction) = opcodes.SnpResp
flit_opcode (flits.CompAck transaction) = opcodes.CompAck
flit_opcode (flits.CompData resp dbid transaction beat) = opcodes.CompData
flit_opcode (flits.SnpRespData resp transaction beat) = opcodes.SnpRespData
flit_opcode (flits.CopyBackWrData resp transaction beat) = opcodes.CopyBackWrData
flit_opcode (flits.Load address value) = opcodes.Load
flit_opcode (flits.Store address value) = opcodes.Store

-- the flit of line n with these columns, or the first column that is wrong
unfoldable pub seen_in : ℕ → Row → Result Seen Column
seen_in n row = do
  opcode ← opcode_of row
  source ← source_in row
  flit ← flit_by opcode row
  Ok (record { line = n; source = source; flit = flit })

-- a line whose first word begins with #
abbrev pub is_comment_word : List ℕ → Bool
is_comment_word [] = false
is_comment_word (b ∷ bs) = b == 35

-- which column of line n is wrong
abbrev pub told_at : ℕ → Result Seen Column → Result (Option Seen) TraceFault
told_at n (Ok seen) = Ok (Some seen)
told_at n (Err column) = Err (BadWord n column)

-- the flit of line n with these columns, if there are so many
abbrev pub flit_of_row : ℕ → Option Row → Result (Option Seen) TraceFault
flit_of_row n None = Err (FewWords n)
flit_of_row n (Some row) = told_at n (seen_in n row)

-- the same of a first word and those behind it; none where it is a comment or there is no word
abbrev pub flit_from : ℕ → Option (List ℕ × List (List ℕ)) → Result (Option Seen) TraceFault
flit_from n None = Ok None
flit_from n (Some found) = if is_comment_word found.0 then Ok None else flit_of_row n (row_behind found.0 found.1)

-- the flit of line n with these words
abbrev pub flit_at : ℕ → List (List ℕ) → Result (Option Seen) TraceFault
flit_at n words = flit_from n (first_word_of words)
