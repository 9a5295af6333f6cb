-- A flit that C gives an observer, as a line of a trace (docs/LIBRARY.md, "An observer").
use Rattle.std.specs.Prelude.{ℕ, ◌-◌, ◌==◌, ◌/◌, ◌%◌, ◌&&◌, ◌||◌, Bool, nat_le, nat_lt, List, [], ◌∷◌, Option, Some, None, if◌then◌else◌, option_map}
use Rattle.std.specs.List.{slice_index_or}
use Rattle.chi_flit.specs.declared.kind.Kind.{Kind}
use Rattle.chi_flit.specs.declared.kind.Kind.TheVariants as kinds
use Rattle.chi_flit.specs.declared.snoop.Snoop.{Snoop}
use Rattle.chi_flit.specs.declared.snoop.Snoop.TheVariants as snoops
use Rattle.chi_trace.specs.declared.any_flits.AnyFlit.{AnyFlit}
use Rattle.chi_trace.specs.declared.any_flits.AnyFlit.TheVariants as any
use Rattle.chi_trace.specs.declared.any_flits.AnySeen.{AnySeen}
use Rattle.chi_trace.specs.declared.any_opcodes.OtherKind.{OtherKind}
use Rattle.chi_trace.specs.declared.any_opcodes.OtherKind.TheVariants as others
use Rattle.chi_trace.specs.declared.any_opcodes.OtherSnoop.{OtherSnoop}
use Rattle.chi_trace.specs.declared.any_opcodes.OtherSnoop.TheVariants as other_snoops
use Rattle.chi_trace.specs.declared.fields.Address.{Address}
use Rattle.chi_trace.specs.declared.fields.Beat.{Beat}
use Rattle.chi_trace.specs.declared.fields.DbId.{DbId}
use Rattle.chi_trace.specs.declared.fields.PcrdType.{PcrdType}
use Rattle.chi_trace.specs.declared.fields.Resp.{Resp}
use Rattle.chi_trace.specs.declared.fields.Resp.TheVariants.{I, SC, UC, UD, SD, IPD, SCPD, UCPD, UDPD, SDPD}
use Rattle.chi_trace.specs.declared.flits.Flit.TheVariants as flits
use Rattle.chi_trace.specs.declared.flits.RequestFields.{RequestFields}
use Rattle.chi_trace.specs.declared.flits.SnoopFields.{SnoopFields}
use Rattle.chi_trace.specs.declared.flits.Transaction.{Transaction}
use Rattle.chi_trace.specs.declared.other_opcodes.OtherOpcode.{OtherOpcode}
use Rattle.chi_library.specs.declared.opcodes.TheConstants as opcodes
use Rattle.chi_library.specs.declared.seen_flits.ChiSeen.{ChiSeen}

-- an opcode of a design's own
abbrev pub own : OtherOpcode
own = record { 0 = 255 }

-- a RESP, and a credit type
abbrev pub resp_at : ℕ → Option Resp
resp_at n =
    if n == 0 then Some I else (
    if n == 1 then Some SC else (
    if n == 2 then Some UC else (
    if n == 3 then Some UD else (
    if n == 4 then Some SD else (
    if n == 5 then Some IPD else (
    if n == 6 then Some SCPD else (
    if n == 7 then Some UCPD else (
    if n == 8 then Some UDPD else (
    if n == 9 then Some SDPD else None)))))))))

abbrev pub pcrd_at : ℕ → Option PcrdType
pcrd_at n = if nat_lt n 16 then Some (record { 0 = n }) else None

-- the words of a beat: that of a bit which is worth so much is there where the bit is set, and is 0 elsewhere
abbrev pub is_there : ℕ → ℕ → Bool
is_there mask worth = mask / worth % 2 == 1

abbrev pub words_there : ℕ → List Bool
words_there mask =
    is_there mask 1 ∷ is_there mask 2 ∷ is_there mask 4 ∷ is_there mask 8
    ∷ is_there mask 16 ∷ is_there mask 32 ∷ is_there mask 64 ∷ is_there mask 128 ∷ []

abbrev pub word_at : ℕ → Bool → ℕ
word_at word there = if there then word else 0

abbrev pub word_of : ChiSeen → ℕ → ℕ → ℕ
word_of s n worth = word_at (slice_index_or s.words n 0) (is_there s.mask worth)

abbrev pub words_of : ChiSeen → List ℕ
words_of s =
    word_of s 0 1 ∷ word_of s 1 2 ∷ word_of s 2 4 ∷ word_of s 3 8
    ∷ word_of s 4 16 ∷ word_of s 5 32 ∷ word_of s 6 64 ∷ word_of s 7 128 ∷ []

abbrev pub beat_at : ChiSeen → Option Beat
beat_at s = if s.mask == 0 then None else Some (record { words = words_of s; there = words_there s.mask })

-- the address and the DBID, where there are some
abbrev pub address_named : ChiSeen → Option Address
address_named s = if s.has_address == 0 then None else Some (record { 0 = s.address })

abbrev pub dbid_named : ChiSeen → Option DbId
dbid_named s = if s.has_dbid == 0 then None else Some (record { 0 = s.dbid })

abbrev pub transaction_at : ChiSeen → Transaction
transaction_at s = record { target = record { 0 = s.target }; txn = record { 0 = s.txn }; address = address_named s }

-- requests: without AllowRetry they spend a credit of the type
abbrev pub request_fields_of : ChiSeen → Option PcrdType → RequestFields
request_fields_of s spends = record { spends = spends; target = record { 0 = s.target }; txn = record { 0 = s.txn }; address = record { 0 = s.address } }

abbrev pub spending : ChiSeen → PcrdType → RequestFields
spending s pcrd = request_fields_of s (Some pcrd)

abbrev pub request_fields_at : ChiSeen → Option RequestFields
request_fields_at s = if s.allow_retry == 0 then option_map (spending s) (pcrd_at s.credit) else Some (request_fields_of s None)

abbrev pub snoop_fields_at : ChiSeen → SnoopFields
snoop_fields_at s = record { target = record { 0 = s.target }; txn = record { 0 = s.txn }; address = record { 0 = s.address } }

abbrev pub kind_flit : Kind → RequestFields → AnyFlit
kind_flit kind fields = any.Profile (flits.Request kind fields.spends fields.target fields.txn fields.address)

abbrev pub other_kind_flit : OtherKind → RequestFields → AnyFlit
other_kind_flit kind fields = any.Request kind fields

abbrev pub request_flit : ℕ → RequestFields → Option AnyFlit
request_flit opcode fields =
    if opcode == opcodes.READ_NOT_SHARED_DIRTY then Some (kind_flit kinds.ReadNotSharedDirty fields) else (
    if opcode == opcodes.READ_SHARED then Some (kind_flit kinds.ReadShared fields) else (
    if opcode == opcodes.READ_CLEAN then Some (other_kind_flit others.ReadClean fields) else (
    if opcode == opcodes.READ_ONCE then Some (other_kind_flit others.ReadOnce fields) else (
    if opcode == opcodes.READ_UNIQUE then Some (kind_flit kinds.ReadUnique fields) else (
    if opcode == opcodes.CLEAN_UNIQUE then Some (kind_flit kinds.CleanUnique fields) else (
    if opcode == opcodes.MAKE_UNIQUE then Some (other_kind_flit others.MakeUnique fields) else (
    if opcode == opcodes.CLEAN_SHARED then Some (other_kind_flit others.CleanShared fields) else (
    if opcode == opcodes.CLEAN_INVALID then Some (other_kind_flit others.CleanInvalid fields) else (
    if opcode == opcodes.MAKE_INVALID then Some (other_kind_flit others.MakeInvalid fields) else (
    if opcode == opcodes.EVICT then Some (kind_flit kinds.Evict fields) else (
    if opcode == opcodes.WRITE_BACK_FULL then Some (kind_flit kinds.WriteBackFull fields) else (
    if opcode == opcodes.WRITE_CLEAN_FULL then Some (kind_flit kinds.WriteCleanFull fields) else (
    if opcode == opcodes.WRITE_EVICT_FULL then Some (kind_flit kinds.WriteEvictFull fields) else (
    if opcode == opcodes.WRITE_UNIQUE_FULL then Some (other_kind_flit others.WriteUniqueFull fields) else (
    if opcode == opcodes.OTHER_REQUEST then Some (any.UnknownRequest own fields) else None)))))))))))))))

abbrev pub requesting : ℕ → Option RequestFields → Option AnyFlit
requesting opcode None = None
requesting opcode (Some fields) = request_flit opcode fields

abbrev pub request_at : ChiSeen → Option AnyFlit
request_at s = requesting s.opcode (request_fields_at s)

-- snoops
abbrev pub asking_flit : Snoop → SnoopFields → AnyFlit
asking_flit snoop fields = any.Profile (flits.Snoop snoop fields.target fields.txn fields.address)

abbrev pub other_asking_flit : OtherSnoop → SnoopFields → AnyFlit
other_asking_flit snoop fields = any.Snoop snoop fields

abbrev pub snoop_flit : ℕ → SnoopFields → Option AnyFlit
snoop_flit opcode fields =
    if opcode == opcodes.SNP_ONCE then Some (other_asking_flit other_snoops.SnpOnce fields) else (
    if opcode == opcodes.SNP_CLEAN then Some (other_asking_flit other_snoops.SnpClean fields) else (
    if opcode == opcodes.SNP_SHARED then Some (asking_flit snoops.SnpShared fields) else (
    if opcode == opcodes.SNP_NOT_SHARED_DIRTY then Some (asking_flit snoops.SnpNotSharedDirty fields) else (
    if opcode == opcodes.SNP_CLEAN_SHARED then Some (other_asking_flit other_snoops.SnpCleanShared fields) else (
    if opcode == opcodes.SNP_UNIQUE then Some (asking_flit snoops.SnpUnique fields) else (
    if opcode == opcodes.SNP_CLEAN_INVALID then Some (asking_flit snoops.SnpCleanInvalid fields) else (
    if opcode == opcodes.SNP_MAKE_INVALID then Some (other_asking_flit other_snoops.SnpMakeInvalid fields) else (
    if opcode == opcodes.OTHER_SNOOP then Some (any.UnknownSnoop own fields) else None))))))))

-- responses and credits
abbrev pub retrying : ChiSeen → PcrdType → AnyFlit
retrying s pcrd = any.Profile (flits.RetryAck pcrd (transaction_at s))

abbrev pub granting : ChiSeen → PcrdType → AnyFlit
granting s pcrd = any.Profile (flits.PCrdGrant pcrd (record { 0 = s.target }))

abbrev pub returning : ChiSeen → PcrdType → AnyFlit
returning s pcrd = any.Profile (flits.PCrdReturn pcrd (record { 0 = s.target }))

abbrev pub completion_of : Resp → Option DbId → Transaction → AnyFlit
completion_of UC (Some dbid) t = any.Profile (flits.CompUC dbid t)
completion_of UC None t = any.CompUC t
completion_of resp dbid t = any.Profile (flits.Comp resp t)

abbrev pub completing : ChiSeen → Resp → AnyFlit
completing s resp = completion_of resp (dbid_named s) (transaction_at s)

abbrev pub completion_flit : ChiSeen → Option AnyFlit
completion_flit s = option_map (completing s) (resp_at s.resp)

abbrev pub buffering : ChiSeen → DbId → AnyFlit
buffering s dbid = any.Profile (flits.CompDBIDResp dbid (transaction_at s))

abbrev pub answering : ChiSeen → Resp → AnyFlit
answering s resp = any.Profile (flits.SnpResp resp (transaction_at s))

abbrev pub response_at : ChiSeen → Option AnyFlit
response_at s =
    if s.opcode == opcodes.PCRD_RETURN then option_map (returning s) (pcrd_at s.credit) else (
    if s.opcode == opcodes.RETRY_ACK then option_map (retrying s) (pcrd_at s.credit) else (
    if s.opcode == opcodes.COMP then completion_flit s else (
    if s.opcode == opcodes.COMP_DBID_RESP then option_map (buffering s) (dbid_named s) else (
    if s.opcode == opcodes.PCRD_GRANT then option_map (granting s) (pcrd_at s.credit) else (
    if s.opcode == opcodes.SNP_RESP then option_map (answering s) (resp_at s.resp) else (
    if s.opcode == opcodes.COMP_ACK then Some (any.Profile (flits.CompAck (transaction_at s))) else None))))))

-- data
abbrev pub read_of : Resp → Option DbId → Transaction → Beat → AnyFlit
read_of resp (Some dbid) t beat = any.Profile (flits.CompData resp dbid t beat)
read_of resp None t beat = any.CompData resp t beat

abbrev pub data_of : ChiSeen → Resp → Beat → Option AnyFlit
data_of s resp beat =
    if s.opcode == opcodes.COMP_DATA then Some (read_of resp (dbid_named s) (transaction_at s) beat) else (
    if s.opcode == opcodes.SNP_RESP_DATA then Some (any.Profile (flits.SnpRespData resp (transaction_at s) beat)) else (
    if s.opcode == opcodes.COPY_BACK_WR_DATA then Some (any.Profile (flits.CopyBackWrData resp (transaction_at s) beat)) else (
    if s.opcode == opcodes.NON_COPY_BACK_WR_DATA then Some (any.NonCopyBackWrData resp (transaction_at s) beat) else None)))

abbrev pub data_with : ChiSeen → Option Resp → Option Beat → Option AnyFlit
data_with s None beat = None
data_with s (Some resp) None = None
data_with s (Some resp) (Some beat) = data_of s resp beat

abbrev pub data_at : ChiSeen → Option AnyFlit
data_at s = data_with s (resp_at s.resp) (beat_at s)

-- those of Issue B that aren't judged, in the order of their table
abbrev pub is_between : ℕ → ℕ → ℕ → Bool
is_between first last n = nat_le first n && nat_le n last

abbrev pub row_of : ℕ → OtherOpcode
row_of n = record { 0 = n - opcodes.REQ_LCRD_RETURN }

abbrev pub unjudged_request : ChiSeen → Option AnyFlit
unjudged_request s = option_map (λ fields. any.UnknownRequest (row_of s.opcode) fields) (request_fields_at s)

abbrev pub is_unjudged_answer : ℕ → Bool
is_unjudged_answer n = n == opcodes.SNP_RESP_FWDED || is_between opcodes.SNP_RESP_DATA_PTL opcodes.SNP_RESP_DATA_FWDED n

abbrev pub unjudged_reply : ChiSeen → AnyFlit
unjudged_reply s =
    if is_unjudged_answer s.opcode
    then any.UnknownAnswer (row_of s.opcode) (transaction_at s)
    else any.UnknownReply (row_of s.opcode) (transaction_at s) (dbid_named s)

abbrev pub unjudged_at : ChiSeen → Option AnyFlit
unjudged_at s =
    if is_between opcodes.REQ_LCRD_RETURN opcodes.PREFETCH_TGT s.opcode then unjudged_request s else (
    if is_between opcodes.SNP_LCRD_RETURN opcodes.SNP_UNIQUE_FWD s.opcode then Some (any.UnknownSnoop (row_of s.opcode) (snoop_fields_at s)) else (
    if is_between opcodes.RESP_LCRD_RETURN opcodes.WRITE_DATA_CANCEL s.opcode then Some (unjudged_reply s) else None))

-- loads and stores, and what has no number of its own
abbrev pub other_at : ChiSeen → Option AnyFlit
other_at s =
    if s.opcode == opcodes.LOAD then Some (any.Profile (flits.Load (record { 0 = s.address }) (slice_index_or s.words 0 0))) else (
    if s.opcode == opcodes.STORE then Some (any.Profile (flits.Store (record { 0 = s.address }) (slice_index_or s.words 0 0))) else (
    if s.opcode == opcodes.OTHER_ANSWER then Some (any.UnknownAnswer own (transaction_at s)) else (
    if s.opcode == opcodes.OTHER_REPLY then Some (any.UnknownReply own (transaction_at s) (dbid_named s)) else unjudged_at s)))

-- each opcode by its channel
abbrev pub is_request : ℕ → Bool
is_request n = is_between opcodes.READ_NOT_SHARED_DIRTY opcodes.WRITE_UNIQUE_FULL n || n == opcodes.OTHER_REQUEST

abbrev pub is_snoop : ℕ → Bool
is_snoop n = is_between opcodes.SNP_ONCE opcodes.SNP_MAKE_INVALID n || n == opcodes.OTHER_SNOOP

abbrev pub is_response : ℕ → Bool
is_response n = n == opcodes.PCRD_RETURN || is_between opcodes.RETRY_ACK opcodes.COMP_ACK n

abbrev pub is_data : ℕ → Bool
is_data n = is_between opcodes.COMP_DATA opcodes.NON_COPY_BACK_WR_DATA n

abbrev pub flit_at : ChiSeen → Option AnyFlit
flit_at s =
    if is_request s.opcode then request_at s else (
    if is_snoop s.opcode then snoop_flit s.opcode (snoop_fields_at s) else (
    if is_response s.opcode then response_at s else (
    if is_data s.opcode then data_at s else other_at s)))

-- a line of a trace; number 0 is no flit's
abbrev pub line_with : ChiSeen → AnyFlit → AnySeen
line_with s flit = record { line = s.number; source = record { 0 = s.source }; flit = flit }

abbrev pub seen_of : ChiSeen → Option AnySeen
seen_of s = if s.number == 0 then None else option_map (line_with s) (flit_at s)
