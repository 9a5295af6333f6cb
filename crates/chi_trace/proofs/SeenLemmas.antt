-- A line is read as a flit exactly where it is a spelling of it.
use Rattle.std.proofs.Common.{◌≡◌, ℕ, false, Result, Ok, refl, sym, subst}
use Rattle.chi_flit.specs.declared.kind.Kind.{Kind}
use Rattle.chi_flit.specs.declared.snoop.Snoop.{Snoop}
use Rattle.chi_trace.specs.declared.columns.Column.{Column}
use Rattle.chi_trace.specs.declared.columns.Column.TheVariants as columns
use Rattle.chi_trace.specs.declared.fields.Address.{Address}
use Rattle.chi_trace.specs.declared.fields.Beat.{Beat}
use Rattle.chi_trace.specs.declared.fields.DbId.{DbId}
use Rattle.chi_trace.specs.declared.fields.NodeId.{NodeId}
use Rattle.chi_trace.specs.declared.fields.PcrdType.{PcrdType}
use Rattle.chi_trace.specs.declared.fields.Resp.{Resp}
use Rattle.chi_trace.specs.declared.fields.Resp.TheVariants.{UC}
use Rattle.chi_trace.specs.declared.fields.TxnId.{TxnId}
use Rattle.chi_trace.specs.declared.flits.Flit.{Flit}
use Rattle.chi_trace.specs.declared.flits.Flit.TheVariants as flits
use Rattle.chi_trace.specs.declared.flits.RequestFields.{RequestFields}
use Rattle.chi_trace.specs.declared.flits.Seen.{Seen}
use Rattle.chi_trace.specs.declared.flits.SnoopFields.{SnoopFields}
use Rattle.chi_trace.specs.declared.flits.Transaction.{Transaction}
use Rattle.chi_trace.specs.declared.opcodes.Opcode.{Opcode}
use Rattle.chi_trace.specs.declared.opcodes.Opcode.TheVariants as opcodes
use Rattle.chi_trace.specs.Columns.{Row}
use Rattle.chi_trace.specs.Fields.{address_of, beat_of, dbid_of, node_of, pcrd_of, resp_of, txn_of, value_of, written_of}
use Rattle.chi_trace.specs.Flits.{ack_in, address_in, allow_in, answer_in, beat_in, comp_by, comp_dbid_in, comp_in, dbid_in, flit_by, flit_opcode, grant_in, load_in, named_in, opcode_of, pcrd_in, read_data_in, request_fields_in, request_in, resp_in, retry_in, return_in, seen_in, snoop_data_in, snoop_fields_in, snoop_in, source_in, spent_by, store_in, target_in, transaction_in, txn_in, value_in, write_data_in, written_in}
use Rattle.chi_trace.specs.Opcodes.{channel_word, opcode_channel, opcode_text}
use Rattle.chi_trace.specs.Spelling.{HasColumns, IsAddress, IsBeat, IsDbid, IsFlit, IsNode, IsPcrd, IsResp, IsSpent, IsTransaction, IsTxn, IsValue, is_unique}
use Rattle.chi_trace.proofs.DataLemmas.{beat_again, beat_read, written_again, written_read}
use Rattle.chi_trace.proofs.FieldLemmas.{address_again, address_read, dbid_again, dbid_read, given, named_again, named_read, node_again, node_read, pcrd_again, pcrd_read, resp_again, resp_read, spent_again, spent_read, taken, txn_again, txn_read}
use Rattle.chi_trace.proofs.HexLemmas.{hex_again, hex_read}
use Rattle.chi_trace.proofs.OpcodeLemmas.{bound, opcode_again, opcode_read}

-- each column, read
target_read : (row : Row) (x : NodeId) → target_in row ≡ Ok x → IsNode x row.target
target_read row x e = node_read row.target x (taken (node_of row.target) columns.Target x e)

txn_read_in : (row : Row) (x : TxnId) → txn_in row ≡ Ok x → IsTxn x row.txn
txn_read_in row x e = txn_read row.txn x (taken (txn_of row.txn) columns.Txn x e)

address_read_in : (row : Row) (x : Address) → address_in row ≡ Ok x → IsAddress x row.address
address_read_in row x e = address_read row.address x (taken (address_of row.address) columns.Address x e)

resp_read_in : (row : Row) (x : Resp) → resp_in row ≡ Ok x → IsResp x row.resp
resp_read_in row x e = resp_read row.resp x (taken (resp_of row.resp) columns.Resp x e)

dbid_read_in : (row : Row) (x : DbId) → dbid_in row ≡ Ok x → IsDbid x row.dbid
dbid_read_in row x e = dbid_read row.dbid x (taken (dbid_of row.dbid) columns.Dbid x e)

pcrd_read_in : (row : Row) (x : PcrdType) → pcrd_in row ≡ Ok x → IsPcrd x row.pcrd
pcrd_read_in row x e = pcrd_read row.pcrd x (taken (pcrd_of row.pcrd) columns.Pcrd x e)

beat_read_in : (row : Row) (x : Beat) → beat_in row ≡ Ok x → IsBeat x row.payload
beat_read_in row x e = beat_read row.payload x (taken (beat_of row.payload) columns.Data x e)

value_read_in : (row : Row) (x : ℕ) → value_in row ≡ Ok x → IsValue x row.payload
value_read_in row x e = hex_read 0xffff_ffff_ffff_ffff x row.payload (taken (value_of row.payload) columns.Data x e)

transaction_read : (row : Row) (x : Transaction) → transaction_in row ≡ Ok x → IsTransaction x row
unfolding transaction_in
transaction_read row x e =
    let target = bound (target_in row) _ x e in
    let txn = bound (txn_in row) _ x target.2 in
    let address = bound (named_in row) _ x txn.2 in
    let same : record { target = target.0; txn = txn.0; address = address.0 } ≡ x = let last = address.2 in cc in
    subst (λ (t : Transaction). IsTransaction t row) same (record { target = target_read row target.0 target.1; txn = txn_read_in row txn.0 txn.1; address = named_read row address.0 address.1 })

-- the flit of each opcode, read
record IsRead (opcode : Opcode) (flit : Flit) (row : Row) : Type 0 where
  named : flit_opcode flit ≡ opcode
  columns : HasColumns flit row

-- the columns of a request and of a snoop, read
record AreRequestFields (fields : RequestFields) (row : Row) : Type 0 where
  target : IsNode fields.target row.target
  txn : IsTxn fields.txn row.txn
  address : IsAddress fields.address row.address
  spends : IsSpent fields.spends row

request_fields_read : (row : Row) (fields : RequestFields) → request_fields_in row ≡ Ok fields → AreRequestFields fields row
unfolding request_fields_in
request_fields_read row fields e =
    let target = bound (target_in row) _ fields e in
    let txn = bound (txn_in row) _ fields target.2 in
    let address = bound (address_in row) _ fields txn.2 in
    let allow = bound (allow_in row) _ fields address.2 in
    let spends = bound (spent_by allow.0 row) _ fields allow.2 in
    let same : record { spends = spends.0; target = target.0; txn = txn.0; address = address.0 } ≡ fields = let last = spends.2 in cc in
    subst (λ (f : RequestFields). AreRequestFields f row) same (record {
      target = target_read row target.0 target.1;
      txn = txn_read_in row txn.0 txn.1;
      address = address_read_in row address.0 address.1;
      spends = spent_read allow.0 row spends.0 allow.1 spends.1;
    })

record AreSnoopFields (fields : SnoopFields) (row : Row) : Type 0 where
  target : IsNode fields.target row.target
  txn : IsTxn fields.txn row.txn
  address : IsAddress fields.address row.address

snoop_fields_read : (row : Row) (fields : SnoopFields) → snoop_fields_in row ≡ Ok fields → AreSnoopFields fields row
unfolding snoop_fields_in
snoop_fields_read row fields e =
    let target = bound (target_in row) _ fields e in
    let txn = bound (txn_in row) _ fields target.2 in
    let address = bound (address_in row) _ fields txn.2 in
    let same : record { target = target.0; txn = txn.0; address = address.0 } ≡ fields = let last = address.2 in cc in
    subst (λ (f : SnoopFields). AreSnoopFields f row) same (record {
      target = target_read row target.0 target.1;
      txn = txn_read_in row txn.0 txn.1;
      address = address_read_in row address.0 address.1;
    })

request_read : (kind : Kind) (row : Row) (flit : Flit) → request_in kind row ≡ Ok flit → IsRead (opcodes.Request kind) flit row
request_read kind row flit e =
    let fields = bound (request_fields_in row) _ flit e in
    let are = request_fields_read row fields.0 fields.1 in
    let same : flits.Request kind fields.0.spends fields.0.target fields.0.txn fields.0.address ≡ flit = let last = fields.2 in cc in
    subst (λ (f : Flit). IsRead (opcodes.Request kind) f row) same (record { named = refl; columns = (are.target, are.txn, are.address, are.spends) })

comp_case : (resp : Resp) (transaction : Transaction) (row : Row) (flit : Flit) → is_unique resp ≡ false → ◌≡◌ {A = Result Flit Column} (Ok (flits.Comp resp transaction)) (Ok flit) → IsTransaction transaction row → IsResp resp row.resp → IsRead opcodes.Comp flit row
comp_case resp transaction row flit other e is_transaction is_resp =
    let same : flits.Comp resp transaction ≡ flit = cc in
    subst (λ (f : Flit). IsRead opcodes.Comp f row) same (record { named = refl; columns = (is_transaction, is_resp, other) })

unique_case : (transaction : Transaction) (row : Row) (flit : Flit) → comp_by UC transaction row ≡ Ok flit → IsTransaction transaction row → IsResp UC row.resp → IsRead opcodes.Comp flit row
unique_case transaction row flit e is_transaction is_resp =
    let dbid = bound (dbid_in row) (λ dbid. Ok (flits.CompUC dbid transaction)) flit e in
    let same : flits.CompUC dbid.0 transaction ≡ flit = let last = dbid.2 in cc in
    subst (λ (f : Flit). IsRead opcodes.Comp f row) same (record { named = refl; columns = (is_transaction, is_resp, dbid_read_in row dbid.0 dbid.1) })

comp_by_read : (resp : Resp) (transaction : Transaction) (row : Row) (flit : Flit) → comp_by resp transaction row ≡ Ok flit → IsTransaction transaction row → IsResp resp row.resp → IsRead opcodes.Comp flit row
comp_by_read UC transaction row flit e is_transaction is_resp = unique_case transaction row flit e is_transaction is_resp
comp_by_read other transaction row flit e is_transaction is_resp = comp_case other transaction row flit refl e is_transaction is_resp

comp_read : (row : Row) (flit : Flit) → comp_in row ≡ Ok flit → IsRead opcodes.Comp flit row
unfolding comp_in
comp_read row flit e =
    let transaction = bound (transaction_in row) _ flit e in
    let resp = bound (resp_in row) _ flit transaction.2 in
    comp_by_read resp.0 transaction.0 row flit resp.2 (transaction_read row transaction.0 transaction.1) (resp_read_in row resp.0 resp.1)

write_data_read : (row : Row) (flit : Flit) → write_data_in row ≡ Ok flit → IsRead opcodes.CopyBackWrData flit row
unfolding write_data_in
write_data_read row flit e =
    let transaction = bound (transaction_in row) _ flit e in
    let resp = bound (resp_in row) _ flit transaction.2 in
    let beat = bound (written_in resp.0 row) _ flit resp.2 in
    let same : flits.CopyBackWrData resp.0 transaction.0 beat.0 ≡ flit = let last = beat.2 in cc in
    subst (λ (f : Flit). IsRead opcodes.CopyBackWrData f row) same (record {
      named = refl;
      columns = (transaction_read row transaction.0 transaction.1, resp_read_in row resp.0 resp.1, written_read resp.0 row.payload beat.0 (taken (written_of resp.0 row.payload) columns.Data beat.0 beat.1));
    })

return_read : (row : Row) (flit : Flit) → return_in row ≡ Ok flit → IsRead opcodes.PCrdReturn flit row
unfolding return_in
return_read row flit e =
    let target = bound (target_in row) _ flit e in
    let pcrd = bound (pcrd_in row) _ flit target.2 in
    let same : flits.PCrdReturn pcrd.0 target.0 ≡ flit = let last = pcrd.2 in cc in
    subst (λ (f : Flit). IsRead opcodes.PCrdReturn f row) same (record { named = refl; columns = (target_read row target.0 target.1, pcrd_read_in row pcrd.0 pcrd.1) })

snoop_read : (snoop : Snoop) (row : Row) (flit : Flit) → snoop_in snoop row ≡ Ok flit → IsRead (opcodes.Snoop snoop) flit row
snoop_read snoop row flit e =
    let fields = bound (snoop_fields_in row) _ flit e in
    let are = snoop_fields_read row fields.0 fields.1 in
    let same : flits.Snoop snoop fields.0.target fields.0.txn fields.0.address ≡ flit = let last = fields.2 in cc in
    subst (λ (f : Flit). IsRead (opcodes.Snoop snoop) f row) same (record { named = refl; columns = (are.target, are.txn, are.address) })

retry_read : (row : Row) (flit : Flit) → retry_in row ≡ Ok flit → IsRead opcodes.RetryAck flit row
unfolding retry_in
retry_read row flit e =
    let transaction = bound (transaction_in row) _ flit e in
    let pcrd = bound (pcrd_in row) _ flit transaction.2 in
    let same : flits.RetryAck pcrd.0 transaction.0 ≡ flit = let last = pcrd.2 in cc in
    subst (λ (f : Flit). IsRead opcodes.RetryAck f row) same (record { named = refl; columns = (transaction_read row transaction.0 transaction.1, pcrd_read_in row pcrd.0 pcrd.1) })

comp_dbid_read : (row : Row) (flit : Flit) → comp_dbid_in row ≡ Ok flit → IsRead opcodes.CompDBIDResp flit row
unfolding comp_dbid_in
comp_dbid_read row flit e =
    let transaction = bound (transaction_in row) _ flit e in
    let dbid = bound (dbid_in row) _ flit transaction.2 in
    let same : flits.CompDBIDResp dbid.0 transaction.0 ≡ flit = let last = dbid.2 in cc in
    subst (λ (f : Flit). IsRead opcodes.CompDBIDResp f row) same (record { named = refl; columns = (transaction_read row transaction.0 transaction.1, dbid_read_in row dbid.0 dbid.1) })

grant_read : (row : Row) (flit : Flit) → grant_in row ≡ Ok flit → IsRead opcodes.PCrdGrant flit row
unfolding grant_in
grant_read row flit e =
    let target = bound (target_in row) _ flit e in
    let pcrd = bound (pcrd_in row) _ flit target.2 in
    let same : flits.PCrdGrant pcrd.0 target.0 ≡ flit = let last = pcrd.2 in cc in
    subst (λ (f : Flit). IsRead opcodes.PCrdGrant f row) same (record { named = refl; columns = (target_read row target.0 target.1, pcrd_read_in row pcrd.0 pcrd.1) })

answer_read : (row : Row) (flit : Flit) → answer_in row ≡ Ok flit → IsRead opcodes.SnpResp flit row
unfolding answer_in
answer_read row flit e =
    let transaction = bound (transaction_in row) _ flit e in
    let resp = bound (resp_in row) _ flit transaction.2 in
    let same : flits.SnpResp resp.0 transaction.0 ≡ flit = let last = resp.2 in cc in
    subst (λ (f : Flit). IsRead opcodes.SnpResp f row) same (record { named = refl; columns = (transaction_read row transaction.0 transaction.1, resp_read_in row resp.0 resp.1) })

ack_read : (row : Row) (flit : Flit) → ack_in row ≡ Ok flit → IsRead opcodes.CompAck flit row
unfolding ack_in
ack_read row flit e =
    let transaction = bound (transaction_in row) _ flit e in
    let same : flits.CompAck transaction.0 ≡ flit = let last = transaction.2 in cc in
    subst (λ (f : Flit). IsRead opcodes.CompAck f row) same (record { named = refl; columns = transaction_read row transaction.0 transaction.1 })

read_data_read : (row : Row) (flit : Flit) → read_data_in row ≡ Ok flit → IsRead opcodes.CompData flit row
unfolding read_data_in
read_data_read row flit e =
    let transaction = bound (transaction_in row) _ flit e in
    let resp = bound (resp_in row) _ flit transaction.2 in
    let dbid = bound (dbid_in row) _ flit resp.2 in
    let beat = bound (beat_in row) _ flit dbid.2 in
    let same : flits.CompData resp.0 dbid.0 transaction.0 beat.0 ≡ flit = let last = beat.2 in cc in
    subst (λ (f : Flit). IsRead opcodes.CompData f row) same (record { named = refl; columns = (transaction_read row transaction.0 transaction.1, resp_read_in row resp.0 resp.1, dbid_read_in row dbid.0 dbid.1, beat_read_in row beat.0 beat.1) })

snoop_data_read : (row : Row) (flit : Flit) → snoop_data_in row ≡ Ok flit → IsRead opcodes.SnpRespData flit row
unfolding snoop_data_in
snoop_data_read row flit e =
    let transaction = bound (transaction_in row) _ flit e in
    let resp = bound (resp_in row) _ flit transaction.2 in
    let beat = bound (beat_in row) _ flit resp.2 in
    let same : flits.SnpRespData resp.0 transaction.0 beat.0 ≡ flit = let last = beat.2 in cc in
    subst (λ (f : Flit). IsRead opcodes.SnpRespData f row) same (record { named = refl; columns = (transaction_read row transaction.0 transaction.1, resp_read_in row resp.0 resp.1, beat_read_in row beat.0 beat.1) })

load_read : (row : Row) (flit : Flit) → load_in row ≡ Ok flit → IsRead opcodes.Load flit row
unfolding load_in
load_read row flit e =
    let address = bound (address_in row) _ flit e in
    let value = bound (value_in row) _ flit address.2 in
    let same : flits.Load address.0 value.0 ≡ flit = let last = value.2 in cc in
    subst (λ (f : Flit). IsRead opcodes.Load f row) same (record { named = refl; columns = (address_read_in row address.0 address.1, value_read_in row value.0 value.1) })

store_read : (row : Row) (flit : Flit) → store_in row ≡ Ok flit → IsRead opcodes.Store flit row
unfolding store_in
store_read row flit e =
    let address = bound (address_in row) _ flit e in
    let value = bound (value_in row) _ flit address.2 in
    let same : flits.Store address.0 value.0 ≡ flit = let last = value.2 in cc in
    subst (λ (f : Flit). IsRead opcodes.Store f row) same (record { named = refl; columns = (address_read_in row address.0 address.1, value_read_in row value.0 value.1) })

by_read : (opcode : Opcode) (row : Row) (flit : Flit) → flit_by opcode row ≡ Ok flit → IsRead opcode flit row
by_read (opcodes.Request kind) row flit e = request_read kind row flit e
by_read opcodes.PCrdReturn row flit e = return_read row flit e
by_read (opcodes.Snoop snoop) row flit e = snoop_read snoop row flit e
by_read opcodes.RetryAck row flit e = retry_read row flit e
by_read opcodes.Comp row flit e = comp_read row flit e
by_read opcodes.CompDBIDResp row flit e = comp_dbid_read row flit e
by_read opcodes.PCrdGrant row flit e = grant_read row flit e
by_read opcodes.SnpResp row flit e = answer_read row flit e
by_read opcodes.CompAck row flit e = ack_read row flit e
by_read opcodes.CompData row flit e = read_data_read row flit e
by_read opcodes.SnpRespData row flit e = snoop_data_read row flit e
by_read opcodes.CopyBackWrData row flit e = write_data_read row flit e
by_read opcodes.Load row flit e = load_read row flit e
by_read opcodes.Store row flit e = store_read row flit e

pub flit_read : (n : ℕ) (row : Row) (seen : Seen) → seen_in n row ≡ Ok seen → IsFlit n seen row
unfolding seen_in
flit_read n row seen e =
    let opcode = bound (opcode_of row) _ seen e in
    let source = bound (source_in row) _ seen opcode.2 in
    let flit = bound (flit_by opcode.0 row) _ seen source.2 in
    let same : record { line = n; source = source.0; flit = flit.0 } ≡ seen = let last = flit.2 in cc in
    let named = opcode_read row opcode.0 opcode.1 in
    let is = by_read opcode.0 row flit.0 flit.1 in
    subst (λ (s : Seen). IsFlit n s row) same (record {
      line = refl;
      channel = subst (λ (o : Opcode). row.channel ≡ channel_word (opcode_channel o)) (sym is.named) named.channel;
      opcode = subst (λ (o : Opcode). row.opcode ≡ opcode_text o) (sym is.named) named.word;
      source = node_read row.source source.0 (taken (node_of row.source) columns.Source source.0 source.1);
      columns = is.columns;
    })

-- and again: what is written is read
transaction_again : (x : Transaction) (row : Row) → IsTransaction x row → transaction_in row ≡ Ok x
unfolding transaction_in
transaction_again x row is = rw (node_again x.target row.target is.target, txn_again x.txn row.txn is.txn, named_again x.address row is.address) refl

value_again : (n : ℕ) (row : Row) → IsValue n row.payload → value_in row ≡ Ok n
value_again n row is = given (value_of row.payload) columns.Data n (hex_again 0xffff_ffff_ffff_ffff n row.payload is)

comp_again : (resp : Resp) (transaction : Transaction) (row : Row) → is_unique resp ≡ false → comp_by resp transaction row ≡ Ok (flits.Comp resp transaction)
comp_again UC transaction row other = cc
comp_again resp transaction row other = refl

request_fields_again : (fields : RequestFields) (row : Row) → AreRequestFields fields row → request_fields_in row ≡ Ok fields
unfolding request_fields_in
request_fields_again fields row are =
    rw (node_again fields.target row.target are.target, txn_again fields.txn row.txn are.txn, address_again fields.address row.address are.address) (spent_again fields.spends row (λ s. Ok (record fields { spends = s })) are.spends)

snoop_fields_again : (fields : SnoopFields) (row : Row) → AreSnoopFields fields row → snoop_fields_in row ≡ Ok fields
unfolding snoop_fields_in
snoop_fields_again fields row are = rw (node_again fields.target row.target are.target, txn_again fields.txn row.txn are.txn, address_again fields.address row.address are.address) refl

by_again : (flit : Flit) (row : Row) → HasColumns flit row → flit_by (flit_opcode flit) row ≡ Ok flit
unfolding return_in retry_in comp_in comp_dbid_in grant_in answer_in ack_in read_data_in snoop_data_in write_data_in load_in store_in
by_again (flits.Request kind spends target txn address) row is =
    rw (request_fields_again (record { spends = spends; target = target; txn = txn; address = address }) row (record { target = is.0; txn = is.1; address = is.2; spends = is.3 })) refl
by_again (flits.PCrdReturn pcrd target) row is = rw (node_again target row.target is.0, pcrd_again pcrd row.pcrd is.1) refl
by_again (flits.Snoop snoop target txn address) row is =
    rw (snoop_fields_again (record { target = target; txn = txn; address = address }) row (record { target = is.0; txn = is.1; address = is.2 })) refl
by_again (flits.RetryAck pcrd transaction) row is = rw (transaction_again transaction row is.0, pcrd_again pcrd row.pcrd is.1) refl
by_again (flits.CompUC dbid transaction) row is = rw (transaction_again transaction row is.0, resp_again UC row.resp is.1, dbid_again dbid row.dbid is.2) refl
by_again (flits.Comp resp transaction) row is = rw (transaction_again transaction row is.0, resp_again resp row.resp is.1) (comp_again resp transaction row is.2)
by_again (flits.CompDBIDResp dbid transaction) row is = rw (transaction_again transaction row is.0, dbid_again dbid row.dbid is.1) refl
by_again (flits.PCrdGrant pcrd target) row is = rw (node_again target row.target is.0, pcrd_again pcrd row.pcrd is.1) refl
by_again (flits.SnpResp resp transaction) row is = rw (transaction_again transaction row is.0, resp_again resp row.resp is.1) refl
by_again (flits.CompAck transaction) row is = rw (transaction_again transaction row is) refl
by_again (flits.CompData resp dbid transaction beat) row is = rw (transaction_again transaction row is.0, resp_again resp row.resp is.1, dbid_again dbid row.dbid is.2, beat_again beat row.payload is.3) refl
by_again (flits.SnpRespData resp transaction beat) row is = rw (transaction_again transaction row is.0, resp_again resp row.resp is.1, beat_again beat row.payload is.2) refl
by_again (flits.CopyBackWrData resp transaction beat) row is = rw (transaction_again transaction row is.0, resp_again resp row.resp is.1, written_again resp beat row.payload is.2) refl
by_again (flits.Load address value) row is = rw (address_again address row.address is.0, value_again value row is.1) refl
by_again (flits.Store address value) row is = rw (address_again address row.address is.0, value_again value row is.1) refl

pub flit_again : (n : ℕ) (seen : Seen) (row : Row) → IsFlit n seen row → seen_in n row ≡ Ok seen
unfolding seen_in
flit_again n seen row is =
    let opcode = opcode_again row (flit_opcode seen.flit) is.channel is.opcode in
    let source = node_again seen.source row.source is.source in
    rw (opcode, source, by_again seen.flit row is.columns) (λ i. Ok (record seen { line = sym is.line i }))
