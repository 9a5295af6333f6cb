-- Which slot's request a step moves, and where to (docs/PROTOCOL.md, "Agreement" and "The actions").
use Rattle.std.specs.Prelude.{Option, Some, None, option_map}
use Rattle.chi_flit.specs.declared.numbers.Agent.{Agent}
use Rattle.chi_flit.specs.declared.numbers.Slot.{Slot}
use Rattle.chi_flit.specs.declared.action.Step.{Step}
use Rattle.chi_flit.specs.declared.action.Step.TheVariants as steps
use Rattle.chi_flit.specs.declared.message.Request.{Request}
use Rattle.chi_flit.specs.declared.message.RspDown.{RspDown}
use Rattle.chi_flit.specs.declared.message.RspDown.TheVariants.{CompUC}
use Rattle.chi_line.specs.declared.position.Position.{Position}
use Rattle.chi_line.specs.declared.position.Position.TheVariants.{Sent, Refused, Retried, Resent, Admitted, Answered, Closing}
use Rattle.chi_line.specs.LineState.{LineState, rn_of, cells_of}
use Rattle.chi_line.specs.Step.{completed_slot, pending_slot, step_effect}

-- the slot of a request in flight
abbrev pub requested_slot : Option Request → Option Slot
requested_slot requested = option_map (λ (request : Request). request.slot) requested

-- the slot of the request that a step moves: of a Start, where it is that of an Evict
abbrev pub moved_slot : LineState → Agent → Step → Option Slot
moved_slot s agent (steps.Issue kind slot) = Some slot
moved_slot s agent steps.Admit = requested_slot (cells_of s agent.0).req
moved_slot s agent steps.Retry = requested_slot (cells_of s agent.0).req
moved_slot s agent steps.RecvRetry = pending_slot (rn_of s agent.0).pending
moved_slot s agent steps.Resend = pending_slot (rn_of s agent.0).pending
moved_slot s agent steps.Cancel = pending_slot (rn_of s agent.0).pending
moved_slot s agent steps.Start = completed_slot (step_effect s agent steps.Start)
moved_slot s agent steps.RecvData = pending_slot (rn_of s agent.0).pending
moved_slot s agent steps.RecvComp = pending_slot (rn_of s agent.0).pending
moved_slot s agent steps.RecvAck = completed_slot (step_effect s agent steps.RecvAck)
moved_slot s agent steps.RecvDbid = pending_slot (rn_of s agent.0).pending
moved_slot s agent steps.RecvWrData = completed_slot (step_effect s agent steps.RecvWrData)
moved_slot s agent other = None

-- where a request is if there is one
abbrev pub if_moved : Option Slot → Position → Option Position
if_moved None at = None
if_moved (Some slot) at = Some at

-- RecvComp: a request that Comp_UC answers is at the home, and Comp_I ends its request
abbrev pub completed_to : Option RspDown → Option Position
completed_to (Some CompUC) = Some Answered
completed_to other = None

-- where the moved request is after the step
abbrev pub moved_to : LineState → Agent → Step → Option Position
moved_to s agent (steps.Issue kind slot) = Some Sent
moved_to s agent steps.Admit = Some Admitted
moved_to s agent steps.Retry = Some Refused
moved_to s agent steps.RecvRetry = Some Retried
moved_to s agent steps.Resend = Some Resent
moved_to s agent steps.Start = if_moved (moved_slot s agent steps.Start) Closing
moved_to s agent steps.RecvData = Some Answered
moved_to s agent steps.RecvComp = completed_to (cells_of s agent.0).rsp_down
moved_to s agent steps.RecvDbid = Some Answered
moved_to s agent other = None
