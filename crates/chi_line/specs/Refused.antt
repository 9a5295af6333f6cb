-- Why an action is refused (docs/PROTOCOL.md, "The actions" and "Refusals"): for each, the first number of
-- its row whose condition holds.
use Rattle.std.specs.Prelude.{List, Bool, false, Option, Some, None, is_some, if◌then◌else◌}
use Rattle.std.specs.Option.{option_or}
use Rattle.std.specs.List.{slice_index_or}
use Rattle.chi_flit.specs.declared.numbers.Agent.{Agent}
use Rattle.chi_flit.specs.declared.numbers.Slot.{Slot}
use Rattle.chi_flit.specs.declared.action.Action.{Action}
use Rattle.chi_flit.specs.declared.action.Step.{Step}
use Rattle.chi_flit.specs.declared.action.Step.TheVariants as steps
use Rattle.chi_flit.specs.declared.credit.CreditType.{CreditType}
use Rattle.chi_flit.specs.declared.message.Request.{Request}
use Rattle.chi_flit.specs.declared.refusal.Refusal.{Refusal}
use Rattle.chi_flit.specs.declared.refusal.Refusal.TheVariants as refusals
use Rattle.chi_flit.specs.Credit.{credit_number}
use Rattle.chi_rnline.specs.Rn.{Rn, cancel_refusal, drop_refusal, issue_refusal, load_refusal, resend_refusal, store_refusal}
use Rattle.chi_wires.specs.declared.cells.Cells.{Cells}
use Rattle.chi_homeline.specs.Home.{Home, served_slot, start_refusal, waiting_of}
use Rattle.chi_line.specs.declared.act.Conditions.{Conditions}
use Rattle.chi_line.specs.LineState.{LineState, rn_of, cells_of}
use Rattle.chi_line.specs.Step.{answer_in, completed_effect, is_ack, is_comp, is_dbid, is_retry, is_write_data, slot_unless, waiting_effect}
use Rattle.chi_line.specs.Types.{pending_credit}

abbrev pub no_flit_unless : Bool → Option Refusal
no_flit_unless there = if there then None else Some refusals.NoFlit

abbrev pub full_if : Bool → Option Refusal
full_if full = if full then Some refusals.JournalFull else None

-- Retry: 7 without a request, then 9 where it is without AllowRetry
abbrev pub retry_refusal : Option Request → Option Refusal
retry_refusal None = Some refusals.NoFlit
retry_refusal (Some request) = if request.allow_retry then None else Some refusals.MustAccept

-- Resend: the copy's refusal, then 12 where there is no credit of the request's type
abbrev pub marked_credit_refusal : List Bool → Option CreditType → Option Refusal
marked_credit_refusal credits None = None
marked_credit_refusal credits (Some ty) = if slice_index_or credits (credit_number ty) false then None else Some refusals.NoCredit

abbrev pub resend_step_refusal : Conditions → Rn → Option Refusal
resend_step_refusal c rn = option_or (resend_refusal rn) (marked_credit_refusal c.credits (pending_credit c.profile rn.pending))

-- whether the flit that a step takes is among its agent's
abbrev pub has_flit : Cells → Step → Bool
has_flit cells steps.Admit = is_some cells.req
has_flit cells steps.Retry = is_some cells.req
has_flit cells steps.RecvRetry = is_retry cells.rsp_down
has_flit cells steps.RecvSnp = is_some cells.snp
has_flit cells steps.RecvSnpResp = is_some (answer_in cells)
has_flit cells steps.RecvData = is_some cells.dat_down
has_flit cells steps.RecvComp = is_comp cells.rsp_down
has_flit cells steps.RecvAck = is_ack cells.rsp_up
has_flit cells steps.RecvDbid = is_dbid cells.rsp_down
has_flit cells steps.RecvWrData = is_write_data cells.dat_up
has_flit cells other = false

-- why an action of an agent is refused, its numbers being in range
abbrev pub step_refusal : Conditions → LineState → Agent → Step → Option Refusal
step_refusal c s agent (steps.Load word) = option_or (load_refusal (rn_of s agent.0)) (full_if c.journal_full)
step_refusal c s agent (steps.Store word value) = option_or (store_refusal (rn_of s agent.0)) (full_if c.journal_full)
step_refusal c s agent steps.Drop = drop_refusal (rn_of s agent.0)
step_refusal c s agent (steps.Issue kind slot) = if c.slot_used then Some refusals.Pending else issue_refusal (rn_of s agent.0) kind
step_refusal c s agent steps.Admit = no_flit_unless (is_some (cells_of s agent.0).req)
step_refusal c s agent steps.Retry = retry_refusal (cells_of s agent.0).req
step_refusal c s agent steps.RecvRetry = no_flit_unless (is_retry (cells_of s agent.0).rsp_down)
step_refusal c s agent steps.Resend = resend_step_refusal c (rn_of s agent.0)
step_refusal c s agent steps.Cancel = cancel_refusal (rn_of s agent.0)
step_refusal c s agent steps.Start = start_refusal s.home agent.0
step_refusal c s agent steps.RecvSnp = no_flit_unless (is_some (cells_of s agent.0).snp)
step_refusal c s agent steps.RecvSnpResp = no_flit_unless (is_some (answer_in (cells_of s agent.0)))
step_refusal c s agent steps.RecvData = no_flit_unless (is_some (cells_of s agent.0).dat_down)
step_refusal c s agent steps.RecvComp = no_flit_unless (is_comp (cells_of s agent.0).rsp_down)
step_refusal c s agent steps.RecvAck = no_flit_unless (is_ack (cells_of s agent.0).rsp_up)
step_refusal c s agent steps.RecvDbid = no_flit_unless (is_dbid (cells_of s agent.0).rsp_down)
step_refusal c s agent steps.RecvWrData = no_flit_unless (is_write_data (cells_of s agent.0).dat_up)

abbrev pub line_refusal : Conditions → LineState → Action → Option Refusal
line_refusal c s action = step_refusal c s action.agent action.step

-- the slot of the request that a step of an agent would complete, by the home's part of the line and the
-- agent's flits
abbrev pub completed_at : Home → Cells → Agent → Step → Option Slot
completed_at home cells agent steps.Start = slot_unless (start_refusal home agent.0) (waiting_effect home agent (waiting_of home agent.0))
completed_at home cells agent steps.RecvAck = slot_unless (no_flit_unless (is_ack cells.rsp_up)) (completed_effect (served_slot home.serving))
completed_at home cells agent steps.RecvWrData = slot_unless (no_flit_unless (is_write_data cells.dat_up)) (completed_effect (served_slot home.serving))
completed_at home cells agent other = None
