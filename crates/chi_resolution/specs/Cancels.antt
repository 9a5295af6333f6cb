-- When a retried request is cancelled: it is a copy-back, and an answer to a snoop has left its copy in another state than
-- it needs. Nothing else changes the copy while it is pending (docs/PROTOCOL.md, "The actions", Cancel).
use Rattle.std.specs.Prelude.{◌==◌, ◌&&◌, not, Bool, false, List, Option, Some, None, drop}
use Rattle.std.specs.List.{list_any}
use Rattle.chi_explain.specs.declared.observed.Observed.{Observed}
use Rattle.chi_explain.specs.declared.observed.Observed.TheVariants as observed
use Rattle.chi_flit.specs.Kind.{is_copy_back, is_needed}
use Rattle.chi_flit.specs.declared.kind.Kind.{Kind}
use Rattle.chi_flit.specs.declared.message.DatUp.TheVariants as written
use Rattle.chi_flit.specs.declared.message.Msg.{Msg}
use Rattle.chi_flit.specs.declared.message.Msg.TheVariants as messages
use Rattle.chi_flit.specs.declared.message.RspUp.TheVariants as ups
use Rattle.chi_flit.specs.declared.numbers.Agent.{Agent}
use Rattle.chi_flit.specs.declared.state.State.{State}
use Rattle.chi_flit.specs.declared.state.State.TheVariants as states
use Rattle.chi_resolution.specs.declared.ids.OpenId.{OpenId}
use Rattle.chi_resolution.specs.declared.lines.CacheLine.{CacheLine}
use Rattle.chi_resolution.specs.declared.lines.Resolved.{Resolved}

-- the state in which an answer to a snoop leaves the copy
abbrev pub state_left : Msg → Option State
state_left (messages.RspUp ups.SnpRespI) = Some states.I
state_left (messages.RspUp ups.SnpRespSC) = Some states.SC
state_left (messages.DatUp (written.SnpRespDataIPD words)) = Some states.I
state_left (messages.DatUp (written.SnpRespDataSCPD words)) = Some states.SC
state_left (messages.DatUp (written.SnpRespDataSD words)) = Some states.SD
state_left other = None

abbrev pub left_by : Observed → Option State
left_by (observed.Flit sent) = state_left sent.message
left_by other = None

-- a copy-back isn't resent from a copy in another state than it needs; other requests are
abbrev pub is_unfit : Option Kind → State → Bool
is_unfit None state = false
is_unfit (Some kind) state = is_copy_back kind && not (is_needed kind state)

abbrev pub is_unfit_in : Kind → Option State → Bool
is_unfit_in kind None = false
is_unfit_in kind (Some state) = is_unfit (Some kind) state

-- an answer of the agent at the line takes the copy that the kind needs
abbrev pub acts_by : Agent → Observed → Bool
acts_by agent (observed.Flit sent) = sent.agent.0 == agent.0
acts_by agent other = false

abbrev pub is_loss : Kind → Agent → CacheLine → Resolved → Bool
is_loss kind agent line item = item.line.0 == line.0 && (acts_by agent item.flit && is_unfit_in kind (left_by item.flit))

-- one of those since the request was sent does
abbrev pub is_lost : Kind → Agent → OpenId → List Resolved → Bool
is_lost kind agent found flits = is_copy_back kind && list_any (is_loss kind agent found.line) (drop found.place flits)
