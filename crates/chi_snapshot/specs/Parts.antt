-- The bytes of each part of a line: numbers for what is named, and the parts of a whole one after the
-- other (docs/SNAPSHOTS.md). What a form lacks is written as 0.
use Rattle.std.specs.Prelude.{ℕ, List, [], ◌∷◌, ◌++◌}
use Rattle.chi_flit.specs.declared.numbers.Agent.{Agent}
use Rattle.chi_flit.specs.declared.state.State.{State}
use Rattle.chi_flit.specs.declared.kind.Kind.{Kind}
use Rattle.chi_flit.specs.declared.snoop.Snoop.{Snoop}
use Rattle.chi_flit.specs.declared.message.Request.{Request}
use Rattle.chi_flit.specs.declared.message.RspDown.{RspDown}
use Rattle.chi_flit.specs.declared.message.RspDown.TheVariants.{RetryAck, CompUC, CompI, CompDBIDResp}
use Rattle.chi_flit.specs.declared.message.CompData.{CompData}
use Rattle.chi_flit.specs.declared.message.RspUp.{RspUp}
use Rattle.chi_flit.specs.declared.message.RspUp.TheVariants.{SnpRespI, SnpRespSC, CompAck}
use Rattle.chi_flit.specs.declared.message.DatUp.{DatUp}
use Rattle.chi_flit.specs.declared.message.DatUp.TheVariants.{SnpRespDataIPD, SnpRespDataSCPD, SnpRespDataSD, CopyBackWrData}
use Rattle.chi_flit.specs.Credit.{credit_number}
use Rattle.chi_flit.specs.Kind.{kind_number}
use Rattle.chi_flit.specs.Snoop.{snoop_number}
use Rattle.chi_flit.specs.State.{state_number}
use Rattle.chi_rnline.specs.declared.pending.Pending.{Pending}
use Rattle.chi_rnline.specs.declared.pending.Phase.{Phase}
use Rattle.chi_rnline.specs.declared.pending.Phase.TheVariants.{Sent, Retried}
use Rattle.chi_rnline.specs.Rn.{Rn}
use Rattle.chi_filter.specs.Filter.{FilterState}
use Rattle.chi_homeline.specs.declared.serving.Serving.{Serving}
use Rattle.chi_homeline.specs.declared.serving.Serving.TheVariants.{Idle, Snooping, AwaitingCompAck, AwaitingWriteData}
use Rattle.chi_homeline.specs.declared.serving.Waiting.{Waiting}
use Rattle.chi_homeline.specs.Home.{Home}
use Rattle.chi_wires.specs.declared.cells.Cells.{Cells}
use Rattle.chi_line.specs.LineState.{LineState}
use Rattle.chi_snapshot.specs.Bytes.{one_byte, eight_bytes, mark_bytes, option_bytes, list_bytes}

-- phases by the order of their declarations
abbrev pub phase_byte : Phase → ℕ
phase_byte Sent = 0
phase_byte Retried = 1

-- the words of a line
abbrev pub words_bytes : List ℕ → List ℕ
words_bytes words = list_bytes eight_bytes words

-- a request that its requester waits for
unfoldable pub pending_bytes : Pending → List ℕ
pending_bytes pending = one_byte (kind_number pending.kind) ++ one_byte pending.slot.0 ++ one_byte (phase_byte pending.phase)

-- one requester's side of a line
unfoldable pub rn_bytes : Rn → List ℕ
rn_bytes rn = one_byte (state_number rn.state) ++ words_bytes rn.words ++ option_bytes pending_bytes rn.pending

-- the snoop filter
unfoldable pub filter_bytes : FilterState → List ℕ
filter_bytes filter = list_bytes mark_bytes filter.named ++ mark_bytes filter.unique ++ option_bytes (λ (agent : Agent). one_byte agent.0) filter.owner

-- a request that waits at the home
unfoldable pub waiting_bytes : Waiting → List ℕ
waiting_bytes waiting = one_byte (kind_number waiting.kind) ++ one_byte waiting.slot.0

-- what is served: the number of the form, the agent, the kind and the slot
unfoldable pub served_bytes : ℕ → ℕ → ℕ → ℕ → List ℕ
served_bytes form agent kind slot = one_byte form ++ one_byte agent ++ one_byte kind ++ one_byte slot

abbrev pub serving_bytes : Serving → List ℕ
serving_bytes Idle = served_bytes 0 0 0 0
serving_bytes (Snooping agent kind slot) = served_bytes 1 agent.0 (kind_number kind) slot.0
serving_bytes (AwaitingCompAck agent slot) = served_bytes 2 agent.0 0 slot.0
serving_bytes (AwaitingWriteData agent kind slot) = served_bytes 3 agent.0 (kind_number kind) slot.0

-- what the home keeps of a line
unfoldable pub home_bytes : Home → List ℕ
home_bytes home =
    words_bytes home.memory
    ++ filter_bytes home.filter
    ++ serving_bytes home.serving
    ++ list_bytes mark_bytes home.awaited
    ++ list_bytes (option_bytes waiting_bytes) home.waiting

-- a request in flight
unfoldable pub request_bytes : Request → List ℕ
request_bytes request = one_byte (kind_number request.kind) ++ one_byte request.slot.0 ++ mark_bytes request.allow_retry

-- a response without data to a requester: the number of the form, and a credit type
abbrev pub rsp_down_bytes : RspDown → List ℕ
rsp_down_bytes (RetryAck credit) = 0 ∷ credit_number credit ∷ []
rsp_down_bytes CompUC = 1 ∷ 0 ∷ []
rsp_down_bytes CompI = 2 ∷ 0 ∷ []
rsp_down_bytes CompDBIDResp = 3 ∷ 0 ∷ []

-- the data of a read
unfoldable pub data_down_bytes : CompData → List ℕ
data_down_bytes sent = words_bytes sent.words ++ mark_bytes sent.unique

-- a response without data to the home
abbrev pub rsp_up_byte : RspUp → ℕ
rsp_up_byte SnpRespI = 0
rsp_up_byte SnpRespSC = 1
rsp_up_byte CompAck = 2

-- a response with data to the home: the number of the form, a state, and the words
unfoldable pub data_up_parts : ℕ → ℕ → List ℕ → List ℕ
data_up_parts form state words = one_byte form ++ one_byte state ++ words_bytes words

abbrev pub data_up_bytes : DatUp → List ℕ
data_up_bytes (SnpRespDataIPD words) = data_up_parts 0 0 words
data_up_bytes (SnpRespDataSCPD words) = data_up_parts 1 0 words
data_up_bytes (SnpRespDataSD words) = data_up_parts 2 0 words
data_up_bytes (CopyBackWrData state words) = data_up_parts 3 (state_number state) words

-- what is in flight to and from one agent
unfoldable pub cells_bytes : Cells → List ℕ
cells_bytes cells =
    option_bytes request_bytes cells.req
    ++ option_bytes (λ (snoop : Snoop). one_byte (snoop_number snoop)) cells.snp
    ++ option_bytes rsp_down_bytes cells.rsp_down
    ++ option_bytes data_down_bytes cells.dat_down
    ++ option_bytes (λ (response : RspUp). one_byte (rsp_up_byte response)) cells.rsp_up
    ++ option_bytes data_up_bytes cells.dat_up

-- a line
unfoldable pub line_bytes : LineState → List ℕ
line_bytes line = list_bytes rn_bytes line.requesters ++ home_bytes line.home ++ list_bytes cells_bytes line.flits
