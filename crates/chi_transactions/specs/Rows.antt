-- What each opcode expects and brings, by the rows of the code's tables (docs/TRANSACTIONS.md, "The rule").
use Rattle.std.specs.Prelude.{ℕ, Bool, true, false, List, Option, Some, None, fold, if◌then◌else◌}
use Rattle.std.specs.List.{slice_index_or}
use denote.Enum.Declared.{tag_of}
use Rattle.chi_issue_b.specs.contracts.opcodes.RequestOpcode as requests
use Rattle.chi_issue_b.specs.contracts.opcodes.ResponseOpcode as responses
use Rattle.chi_issue_b.specs.contracts.opcodes.DataOpcode as datas
use Rattle.chi_issue_b.specs.declared.opcodes.Opcode.{Opcode}
use Rattle.chi_issue_b.specs.declared.opcodes.Opcode.TheVariants.{Req, Snp, Rsp, Dat}
use Rattle.chi_issue_b.specs.declared.opcodes.RequestOpcode.{RequestOpcode}
use Rattle.chi_issue_b.specs.declared.opcodes.ResponseOpcode.{ResponseOpcode}
use Rattle.chi_issue_b.specs.declared.opcodes.DataOpcode.{DataOpcode}
use Rattle.chi_issue_b.specs.declared.opcodes.RequestOpcode.TheVariants.{PrefetchTgt}
use Rattle.chi_issue_b.specs.declared.opcodes.ResponseOpcode.TheVariants.{RespLCrdReturn}
use Rattle.chi_issue_b.specs.declared.opcodes.DataOpcode.TheVariants.{DataLCrdReturn}
use Rattle.chi_issue_b.specs.declared.resp.Resp.{Resp}
use Rattle.chi_issue_b.specs.declared.resp.Resp.TheVariants.{UC}
use Rattle.chi_transactions.specs.declared.entries.CreditTypes.{CreditTypes}
use Rattle.chi_transactions.specs.declared.entries.CreditTypes.TheVariants.{Two, Four, Any}
use Rattle.chi_transactions.specs.declared.parts.Parts.{Parts}
use Rattle.chi_transactions.specs.declared.rows.DbidUse.{DbidUse}
use Rattle.chi_transactions.specs.declared.rows.DbidUse.TheVariants as rows
use Rattle.chi_transactions.specs.declared.rows.TheConstants.{REQUESTS, RESPONSES, DATA_FLITS}
use Rattle.chi_transactions.specs.Parts.{either, has, no_parts, parts_of, without}

-- THE TABLES, each in the order of its opcodes
unfoldable pub request_row : RequestOpcode → RequestOpcode × ℕ × ℕ × ℕ × ℕ × ℕ
request_row kind = slice_index_or REQUESTS (tag_of requests.the_type kind) (PrefetchTgt, 0, 0, 0, 0, 0)

unfoldable pub response_row : ResponseOpcode → ResponseOpcode × ℕ × DbidUse
response_row kind = slice_index_or RESPONSES (tag_of responses.the_type kind) (RespLCrdReturn, 0, rows.Never)

unfoldable pub data_row : DataOpcode → DataOpcode × ℕ × DbidUse
data_row kind = slice_index_or DATA_FLITS (tag_of datas.the_type kind) (DataLCrdReturn, 0, rows.Never)

-- what a request expects, and what follows by its DBID
abbrev pub expects_of : Opcode → Parts
expects_of (Req kind) = parts_of (request_row kind).1
expects_of (Snp kind) = no_parts
expects_of (Rsp kind) = no_parts
expects_of (Dat kind) = no_parts

abbrev pub follows_of : Opcode → Parts
follows_of (Req kind) = parts_of (request_row kind).2
follows_of (Snp kind) = no_parts
follows_of (Rsp kind) = no_parts
follows_of (Dat kind) = no_parts

-- which of both need not come
abbrev pub may_lack : Opcode → Parts
may_lack (Req kind) = parts_of (request_row kind).3
may_lack (Snp kind) = no_parts
may_lack (Rsp kind) = no_parts
may_lack (Dat kind) = no_parts

-- the type that a RetryAck of the request has to name, if that isn't open
abbrev pub type_of : CreditTypes → Opcode → Option ℕ
type_of Two (Req kind) = Some (request_row kind).4
type_of Four (Req kind) = Some (request_row kind).5
type_of Any (Req kind) = None
type_of types (Snp kind) = None
type_of types (Rsp kind) = None
type_of types (Dat kind) = None

-- what a flit brings, and whether it names a DBID, which is opened then if something follows by it
abbrev pub brings : Opcode → Parts
brings (Req kind) = no_parts
brings (Snp kind) = no_parts
brings (Rsp kind) = parts_of (response_row kind).1
brings (Dat kind) = parts_of (data_row kind).1

abbrev pub dbid_use : Opcode → DbidUse
dbid_use (Req kind) = rows.Never
dbid_use (Snp kind) = rows.Never
dbid_use (Rsp kind) = (response_row kind).2
dbid_use (Dat kind) = (data_row kind).2

abbrev pub is_uc : Option Resp → Bool
is_uc (Some UC) = true
is_uc other = false

abbrev pub names_by : DbidUse → Option Resp → Bool
names_by rows.Never resp = false
names_by rows.OfUnique resp = is_uc resp
names_by rows.Always resp = true

abbrev pub names_buffer : Opcode → Option Resp → Bool
names_buffer opcode resp = names_by (dbid_use opcode) resp

-- what may be left beside parts that have come, where it isn't known of which request: what some request has beside them, of what it
-- expects or of what follows by its DBID
abbrev pub rest_of : Parts → Parts → Parts
rest_of came all = if has all came then without all came else no_parts

abbrev pub row_beside : Parts → RequestOpcode × ℕ × ℕ × ℕ × ℕ × ℕ → Parts
row_beside came row = either (rest_of came (parts_of row.1)) (rest_of came (parts_of row.2))

abbrev pub rows_beside : Parts → List (RequestOpcode × ℕ × ℕ × ℕ × ℕ × ℕ) → Parts
rows_beside came rows = fold (λ parts row. either parts (row_beside came row)) no_parts rows

unfoldable pub beside : Parts → Parts
beside came = rows_beside came REQUESTS
