-- A flit that C observed, by its numbers (docs/PROTOCOL.md, "Messages"; docs/LIBRARY.md, "Numbers").
use Rattle.std.specs.Prelude.{ℕ, not, nat_lt, Option, Some, None, true, false, ◌==◌, if◌then◌else◌}
use Rattle.chi_flit.specs.Numbers.{agent_at, credit_of, slot_at}
use Rattle.chi_flit.specs.declared.credit.CreditType.{CreditType}
use Rattle.chi_flit.specs.declared.kind.Kind.{Kind}
use Rattle.chi_flit.specs.declared.message.DatUp.TheVariants.{SnpRespDataIPD, SnpRespDataSCPD, SnpRespDataSD, CopyBackWrData}
use Rattle.chi_flit.specs.declared.message.Msg.{Msg}
use Rattle.chi_flit.specs.declared.message.Msg.TheVariants.{Req, Snp, RspDown, DatDown, RspUp, DatUp}
use Rattle.chi_flit.specs.declared.message.RspDown.TheVariants.{RetryAck, CompUC, CompI, CompDBIDResp}
use Rattle.chi_flit.specs.declared.message.RspUp.TheVariants.{SnpRespI, SnpRespSC, CompAck}
use Rattle.chi_flit.specs.declared.snoop.Snoop.TheVariants.{SnpShared, SnpNotSharedDirty, SnpUnique, SnpCleanInvalid}
use Rattle.chi_flit.specs.declared.state.State.TheVariants.{I, SC, UC, UD, SD}
use Rattle.chi_explain.specs.declared.sent.SentFlit.{SentFlit}
use Rattle.chi_library.specs.declared.flits.ChiFlit.{ChiFlit}
use Rattle.chi_library.specs.declared.flits.ChiSent.{ChiSent}
use Rattle.chi_library.specs.declared.messages.TheConstants as numbers
use Rattle.chi_flit.specs.Kind.{kind_numbered}

-- a request needs a kind, and a RetryAck a credit type; a request's slot isn't read
abbrev pub request_if : Option Kind → ChiFlit → Option Msg
request_if None flit = None
request_if (Some kind) flit = Some (Req (record { kind = kind; slot = slot_at 0; allow_retry = not (flit.allow_retry == 0) }))

abbrev pub retry_if : Option CreditType → Option Msg
retry_if None = None
retry_if (Some ty) = Some (RspDown (RetryAck ty))

-- a request or a snoop
abbrev pub asked_of : ChiFlit → Option Msg
asked_of flit =
    if flit.message == numbers.REQUEST then request_if (kind_numbered flit.kind) flit else (
    if flit.message == numbers.SNP_SHARED then Some (Snp SnpShared) else (
    if flit.message == numbers.SNP_NOT_SHARED_DIRTY then Some (Snp SnpNotSharedDirty) else (
    if flit.message == numbers.SNP_UNIQUE then Some (Snp SnpUnique) else (
    if flit.message == numbers.SNP_CLEAN_INVALID then Some (Snp SnpCleanInvalid) else None))))

-- a response to a requester, or the data of a read
abbrev pub response_of : ChiFlit → Option Msg
response_of flit =
    if flit.message == numbers.RETRY_ACK then retry_if (credit_of flit.credit) else (
    if flit.message == numbers.COMP_UC then Some (RspDown CompUC) else (
    if flit.message == numbers.COMP_I then Some (RspDown CompI) else (
    if flit.message == numbers.COMP_DBID_RESP then Some (RspDown CompDBIDResp) else (
    if flit.message == numbers.COMP_DATA_SC then Some (DatDown (record { words = flit.words; unique = false })) else (
    if flit.message == numbers.COMP_DATA_UC then Some (DatDown (record { words = flit.words; unique = true })) else None)))))

-- a response of a requester, with or without data
abbrev pub answered_of : ChiFlit → Option Msg
answered_of flit =
    if flit.message == numbers.SNP_RESP_I then Some (RspUp SnpRespI) else (
    if flit.message == numbers.SNP_RESP_SC then Some (RspUp SnpRespSC) else (
    if flit.message == numbers.COMP_ACK then Some (RspUp CompAck) else (
    if flit.message == numbers.SNP_RESP_DATA_I_PD then Some (DatUp (SnpRespDataIPD flit.words)) else (
    if flit.message == numbers.SNP_RESP_DATA_SC_PD then Some (DatUp (SnpRespDataSCPD flit.words)) else (
    if flit.message == numbers.SNP_RESP_DATA_SD then Some (DatUp (SnpRespDataSD flit.words)) else None)))))

-- write data
abbrev pub write_of : ChiFlit → Option Msg
write_of flit =
    if flit.message == numbers.COPY_BACK_WR_DATA_I then Some (DatUp (CopyBackWrData I flit.words)) else (
    if flit.message == numbers.COPY_BACK_WR_DATA_SC then Some (DatUp (CopyBackWrData SC flit.words)) else (
    if flit.message == numbers.COPY_BACK_WR_DATA_UC then Some (DatUp (CopyBackWrData UC flit.words)) else (
    if flit.message == numbers.COPY_BACK_WR_DATA_UD_PD then Some (DatUp (CopyBackWrData UD flit.words)) else (
    if flit.message == numbers.COPY_BACK_WR_DATA_SD_PD then Some (DatUp (CopyBackWrData SD flit.words)) else None))))

-- the message that C's numbers name
abbrev pub observed_message : ChiFlit → Option Msg
observed_message flit =
    if nat_lt flit.message numbers.RETRY_ACK then asked_of flit else (
    if nat_lt flit.message numbers.SNP_RESP_I then response_of flit else (
    if nat_lt flit.message numbers.COPY_BACK_WR_DATA_I then answered_of flit else write_of flit))

abbrev pub observed_if : ℕ → Option Msg → Option SentFlit
observed_if n None = None
observed_if n (Some message) = Some (record { agent = agent_at n; message = message })

-- the flit that they name; its channel is that of its message, and isn't read
abbrev pub observed_of : ChiSent → Option SentFlit
observed_of sent = observed_if sent.agent (observed_message sent.flit)
