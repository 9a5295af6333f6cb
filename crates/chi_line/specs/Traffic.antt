-- The flits that an action takes and sends, and that none is lost or made (docs/PROTOCOL.md, "Messages", "The
-- actions", "Start", "Answers to snoops", "Completion" and "Write data").
use Rattle.std.specs.Prelude.{List, [], ◌∷◌, ◌++◌, true, false, Option, Some, None, option_map}
use Rattle.std.specs.List.Sorted.{IsPermutation}
use Rattle.chi_flit.specs.declared.numbers.Agent.{Agent}
use Rattle.chi_flit.specs.declared.action.Action.{Action}
use Rattle.chi_flit.specs.declared.action.Step.{Step}
use Rattle.chi_flit.specs.declared.action.Step.TheVariants as steps
use Rattle.chi_flit.specs.declared.credit.Profile.{Profile}
use Rattle.chi_flit.specs.declared.message.Channel.{Channel}
use Rattle.chi_flit.specs.declared.message.Channel.TheVariants as channels
use Rattle.chi_flit.specs.declared.message.Msg.{Msg}
use Rattle.chi_flit.specs.declared.message.Msg.TheVariants as messages
use Rattle.chi_flit.specs.declared.message.Request.{Request}
use Rattle.chi_flit.specs.declared.message.RspDown.{RspDown}
use Rattle.chi_flit.specs.declared.message.RspDown.TheVariants.{RetryAck, CompUC, CompI}
use Rattle.chi_flit.specs.declared.message.RspUp.TheVariants.{CompAck}
use Rattle.chi_flit.specs.declared.snoop.Snoop.{Snoop}
use Rattle.chi_flit.specs.Credit.{credit_type_of}
use Rattle.chi_flit.specs.Message.{write_data_of}
use Rattle.chi_flit.specs.Snoop.{answer_of}
use Rattle.chi_wires.specs.Flight.{Flit, cell_flit, flit, flit_of, in_flight, snoop_flits}
use Rattle.chi_rnline.specs.declared.pending.Pending.{Pending}
use Rattle.chi_rnline.specs.Rn.{Rn, request_message}
use Rattle.chi_homeline.specs.declared.serving.Completion.{Completion}
use Rattle.chi_homeline.specs.declared.serving.SnoopAnswer.{SnoopAnswer}
use Rattle.chi_homeline.specs.Home.{Started}
use Rattle.chi_homeline.specs.Home.Started.{Sends, Evicted, Snoops}
use Rattle.chi_homeline.specs.declared.serving.Waiting.{Waiting}
use Rattle.chi_homeline.specs.Home.{Home, snoop_answered_sends, started_sends, waiting_of}
use Rattle.chi_line.specs.LineState.{LineState, cells_of, rn_of}
use Rattle.chi_line.specs.Snooped.{answer_channel}
use Rattle.chi_line.specs.Step.{answer_in}

-- the flit of an agent that is in flight on a channel, if there is one
abbrev pub flit_on : LineState → Agent → Channel → List Flit
flit_on s agent channel = cell_flit s.flits agent channel

-- RecvSnpResp: the answer to a snoop, which is a response or data
abbrev pub answer_flit : LineState → Agent → Option SnoopAnswer → List Flit
answer_flit s agent None = []
answer_flit s agent (Some answer) = flit_on s agent (answer_channel answer)

-- the flit that a step takes: its agent's on the step's channel
abbrev pub flit_taken : LineState → Agent → Step → List Flit
flit_taken s agent steps.Admit = flit_on s agent channels.Req
flit_taken s agent steps.Retry = flit_on s agent channels.Req
flit_taken s agent steps.RecvRetry = flit_on s agent channels.RspDown
flit_taken s agent steps.RecvSnp = flit_on s agent channels.Snp
flit_taken s agent steps.RecvSnpResp = answer_flit s agent (answer_in (cells_of s agent.0))
flit_taken s agent steps.RecvData = flit_on s agent channels.DatDown
flit_taken s agent steps.RecvComp = flit_on s agent channels.RspDown
flit_taken s agent steps.RecvAck = flit_on s agent channels.RspUp
flit_taken s agent steps.RecvDbid = flit_on s agent channels.RspDown
flit_taken s agent steps.RecvWrData = flit_on s agent channels.DatUp
flit_taken s agent other = []

-- Retry: RetryAck of the request's credit type
abbrev pub retry_ack : Profile → Option Request → Option Msg
retry_ack profile request = option_map (λ (taken : Request). messages.RspDown (RetryAck (credit_type_of profile taken.kind))) request

-- Resend: the request, without AllowRetry
abbrev pub request_again : Option Pending → Option Msg
request_again request = option_map (λ (pending : Pending). request_message pending.kind pending.slot false) request

-- RecvSnp: the answer of the copy
abbrev pub snoop_answer : Rn → Option Snoop → Option Msg
snoop_answer rn snoop = option_map (λ (taken : Snoop). (answer_of rn.state taken rn.words).1) snoop

-- RecvComp: CompAck to Comp_UC, and nothing to Comp_I
abbrev pub completion_ack : Option RspDown → Option Msg
completion_ack (Some CompUC) = Some (messages.RspUp CompAck)
completion_ack other = None

-- Start: a completion or CompDBIDResp, or Comp_I to an Evict, or the snoops
abbrev pub start_flits : Agent → Started → List Flit
start_flits agent (Sends message) = flit agent message ∷ []
start_flits agent (Evicted slot) = flit agent (messages.RspDown CompI) ∷ []
start_flits agent (Snoops snoop agents) = snoop_flits 0 agents snoop

abbrev pub started_flits : Home → Agent → Option Waiting → List Flit
started_flits home agent None = []
started_flits home agent (Some request) = start_flits agent (started_sends home agent request)

-- RecvSnpResp: the completion that the last answer brings, to the agent that is served
abbrev pub completion_flits : Option Completion → List Flit
completion_flits None = []
completion_flits (Some completion) = flit completion.agent completion.message ∷ []

abbrev pub answered_flits : Home → Agent → Option SnoopAnswer → List Flit
answered_flits home agent None = []
answered_flits home agent (Some answer) = completion_flits (snoop_answered_sends home agent answer)

-- the flits that a step sends
abbrev pub flits_sent : Profile → LineState → Agent → Step → List Flit
flits_sent profile s agent (steps.Issue kind slot) = flit agent (request_message kind slot true) ∷ []
flits_sent profile s agent steps.Retry = flit_of agent (retry_ack profile (cells_of s agent.0).req)
flits_sent profile s agent steps.Resend = flit_of agent (request_again (rn_of s agent.0).pending)
flits_sent profile s agent steps.Start = started_flits s.home agent (waiting_of s.home agent.0)
flits_sent profile s agent steps.RecvSnp = flit_of agent (snoop_answer (rn_of s agent.0) (cells_of s agent.0).snp)
flits_sent profile s agent steps.RecvSnpResp = answered_flits s.home agent (answer_in (cells_of s agent.0))
flits_sent profile s agent steps.RecvData = flit agent (messages.RspUp CompAck) ∷ []
flits_sent profile s agent steps.RecvComp = flit_of agent (completion_ack (cells_of s agent.0).rsp_down)
flits_sent profile s agent steps.RecvDbid = flit agent (messages.DatUp (write_data_of (rn_of s agent.0).state (rn_of s agent.0).words)) ∷ []
flits_sent profile s agent other = []

-- the flits in flight after, with those that were taken, are those before, with those that were sent
abbrev pub Balances : List Flit → List Flit → LineState → LineState → Type 0
Balances taken sent old new = IsPermutation (taken ++ in_flight new.flits) (sent ++ in_flight old.flits)

-- an action loses no flit and makes none
abbrev pub KeepsFlits : Profile → LineState → Action → LineState → Type 0
KeepsFlits profile old action new =
    Balances (flit_taken old action.agent action.step) (flits_sent profile old action.agent action.step) old new
