-- Of the code alone, no public promise cites it: where the flits that an action sent stand after it
-- (docs/PROTOCOL.md, "The actions" and "Messages").
use Rattle.std.specs.Prelude.{ℕ, List, [], ◌∷◌, Bool, true, Option, Some, None, replicate, ◌==◌, if◌then◌else◌}
use Rattle.chi_flit.specs.declared.action.Step.{Step}
use Rattle.chi_flit.specs.declared.action.Step.TheVariants as steps
use Rattle.chi_flit.specs.declared.kind.Kind.{Kind}
use Rattle.chi_flit.specs.declared.message.Channel.{Channel}
use Rattle.chi_flit.specs.declared.message.Channel.TheVariants as channels
use Rattle.chi_flit.specs.declared.message.Msg.{Msg}
use Rattle.chi_flit.specs.declared.message.Msg.TheVariants as messages
use Rattle.chi_flit.specs.declared.message.RspDown.{RspDown}
use Rattle.chi_flit.specs.declared.message.RspUp.{RspUp}
use Rattle.chi_flit.specs.declared.message.RspUp.TheVariants.{CompAck}
use Rattle.chi_flit.specs.declared.numbers.Agent.{Agent}
use Rattle.chi_flit.specs.declared.numbers.Slot.{Slot}
use Rattle.chi_flit.specs.declared.snoop.Snoop.{Snoop}
use Rattle.chi_flit.specs.Kind.{snoop_of}
use Rattle.chi_slice.specs.Servings.{AwaitingCompAck, Snooping}
use Rattle.chi_slice.specs.Words.{Cells, Flit, LineState, Serving, cell_of, cells_of, completion_message, flit, flit_of, snoop_flits}
use Rattle.chi_library.specs.declared.flits.ChiFlit.{ChiFlit}
use Rattle.chi_library.specs.declared.flits.ChiSent.{ChiSent}
use Rattle.chi_library.specs.declared.messages.TheConstants as numbers
use Rattle.chi_library.specs.Flits.{data_told, no_sent, sent_told}

abbrev pub opened_sent : Agent → ℕ → ChiSent
opened_sent agent channel = record no_sent { agent = agent.0; channel = channel }

abbrev pub data_sent : Agent → ℕ → ℕ → List ℕ → ChiSent
data_sent agent channel message words = record { agent = agent.0; channel = channel; reserved = replicate 6 0; flit = data_told message words }

abbrev pub read_data : Bool → List ℕ → Msg
read_data unique words = messages.DatDown (record { unique = unique; words = words })

-- a flit that is told over what was told before, if there is one
abbrev pub told_or : List Flit → ChiSent → ChiSent
told_or [] told = told
told_or (sent ∷ others) told = sent_told sent

abbrev pub message_on : Cells → Option Channel → Option Msg
message_on cells None = None
message_on cells (Some channel) = cell_of cells channel

-- the answer to a snoop, and what a start sends to its own agent
abbrev pub up_on : Option RspUp → Channel
up_on None = channels.DatUp
up_on (Some response) = channels.RspUp

abbrev pub down_on : Option RspDown → Channel
down_on None = channels.DatDown
down_on (Some response) = channels.RspDown

-- the request of an issue, and a CompAck
abbrev pub first_request : Kind → Slot → Msg
first_request kind slot = messages.Req (record { kind = kind; slot = slot; allow_retry = true })

abbrev pub ack_standing : Agent → List Flit
ack_standing agent = flit agent (messages.RspUp CompAck) ∷ []

-- the CompAck that a completion is answered by, if it is
abbrev pub ack_due : Agent → ℕ → List Flit
ack_due agent message = if message == numbers.COMP_UC then ack_standing agent else []

-- what stands on a channel between an agent and the home
abbrev pub cell_standing : Agent → Cells → Channel → List Flit
cell_standing agent cells channel = flit_of agent (cell_of cells channel)

-- what a start sent
abbrev pub snoops_standing : Option Snoop → List Bool → List Flit
snoops_standing None agents = []
snoops_standing (Some snoop) agents = snoop_flits 0 agents snoop

abbrev pub start_standing : Agent → Serving → List Bool → Cells → List Flit
start_standing agent (Snooping served kind slot) awaited cells = snoops_standing (snoop_of kind) awaited
start_standing agent other awaited cells = cell_standing agent cells (down_on cells.rsp_down)

-- the data of a completion that an answer brought: that of SnpRespData_SD where the answer was that, else the memory
-- after it
abbrev pub words_due : ChiFlit → List ℕ → List ℕ
words_due taken memory = if taken.message == numbers.SNP_RESP_DATA_SD then taken.words else memory

-- the completion that an answer brought, by what the home served before it and what it serves after it
abbrev pub completed_standing : Serving → Agent → Kind → Bool → List ℕ → List Flit
completed_standing (AwaitingCompAck served slot) agent kind unique words = flit agent (completion_message kind unique words) ∷ []
completed_standing other agent kind unique words = []

abbrev pub completion_standing : Serving → Serving → Bool → List ℕ → List Flit
completion_standing (Snooping agent kind slot) after unique words = completed_standing after agent kind unique words
completion_standing other after unique words = []

-- what a step sent, by the line after it, what the home served before it, and the message that it took
abbrev pub line_standing : LineState → Agent → Serving → ChiFlit → Step → List Flit
line_standing s agent before taken (steps.Issue kind slot) = flit agent (first_request kind slot) ∷ []
line_standing s agent before taken steps.Retry = cell_standing agent (cells_of s agent.0) channels.RspDown
line_standing s agent before taken steps.Resend = cell_standing agent (cells_of s agent.0) channels.Req
line_standing s agent before taken steps.Start = start_standing agent s.home.serving s.home.awaited (cells_of s agent.0)
line_standing s agent before taken steps.RecvSnp = cell_standing agent (cells_of s agent.0) (up_on (cells_of s agent.0).rsp_up)
line_standing s agent before taken steps.RecvSnpResp =
    completion_standing before s.home.serving s.home.filter.unique (words_due taken s.home.memory)
line_standing s agent before taken steps.RecvData = ack_standing agent
line_standing s agent before taken steps.RecvComp = ack_due agent taken.message
line_standing s agent before taken steps.RecvDbid = cell_standing agent (cells_of s agent.0) channels.DatUp
line_standing s agent before taken other = []
