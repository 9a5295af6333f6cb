-- What a step that isn't refused does to the requests that a line shows: which it moves, from where to where,
-- and that it leaves all others where they are (docs/PROTOCOL.md, "Agreement" and "The actions").
use Rattle.std.proofs.Common.{◌≡◌, ◌≢◌, ℕ, ◌<◌, Bool, true, false, Option, Some, None, is_some, if◌then◌else◌}
use Rattle.chi_flit.specs.declared.numbers.Agent.{Agent}
use Rattle.chi_flit.specs.declared.numbers.Slot.{Slot}
use Rattle.chi_flit.specs.declared.kind.Kind.{Kind}
use Rattle.chi_flit.specs.declared.action.Step.{Step}
use Rattle.chi_flit.specs.declared.action.Step.TheVariants as steps
use Rattle.chi_flit.specs.declared.credit.CreditType.{CreditType}
use Rattle.chi_flit.specs.declared.credit.Profile.{Profile}
use Rattle.chi_flit.specs.declared.message.Request.{Request}
use Rattle.chi_flit.specs.declared.message.RspDown.{RspDown}
use Rattle.chi_flit.specs.declared.message.RspDown.TheVariants.{RetryAck, CompUC, CompI, CompDBIDResp}
use Rattle.chi_flit.specs.Credit.{credit_type_of}
use Rattle.chi_line.specs.declared.position.Position.{Position}
use Rattle.chi_line.specs.declared.position.Position.TheVariants.{Sent, Refused, Retried, Resent, Admitted, Answered, Closing}
use Rattle.chi_line.specs.LineState.{LineState, cells_of}
use Rattle.chi_line.specs.Moves.{if_moved, moved_slot, moved_to}
use Rattle.chi_line.specs.Places.{position_at}
use Rattle.chi_line.specs.Step.{after_step, is_slot, issued_slot}
use Rattle.chi_line.specs.Types.{is_of_type}

-- the steps that move a request whenever they are done
abbrev pub always_moves : Step → Bool
always_moves (steps.Load word) = false
always_moves (steps.Store word value) = false
always_moves steps.Drop = false
always_moves steps.Start = false
always_moves steps.RecvSnp = false
always_moves steps.RecvSnpResp = false
always_moves other = true

-- where a request in flight is
abbrev pub flit_at : Option Request → Option Position
flit_at None = None
flit_at (Some request) = if request.allow_retry then Some Sent else Some Resent

-- RecvComp: Comp_UC answers a request that is at the home, and Comp_I ends one that is closing
abbrev pub completed_from : Option RspDown → Option Position
completed_from None = None
completed_from (Some (RetryAck ty)) = None
completed_from (Some CompUC) = Some Admitted
completed_from (Some CompI) = Some Closing
completed_from (Some CompDBIDResp) = None

-- where the moved request is before the step
abbrev pub moved_from : LineState → Agent → Step → Option Position
moved_from s agent steps.Admit = flit_at (cells_of s agent.0).req
moved_from s agent steps.Retry = Some Sent
moved_from s agent steps.RecvRetry = Some Refused
moved_from s agent steps.Resend = Some Retried
moved_from s agent steps.Cancel = Some Retried
moved_from s agent steps.Start = if_moved (moved_slot s agent steps.Start) Admitted
moved_from s agent steps.RecvData = Some Admitted
moved_from s agent steps.RecvComp = completed_from (cells_of s agent.0).rsp_down
moved_from s agent steps.RecvAck = Some Answered
moved_from s agent steps.RecvDbid = Some Admitted
moved_from s agent steps.RecvWrData = Some Answered
moved_from s agent other = None

-- the kind of the request that a step issues
abbrev pub issued_kind : Step → Option Kind
issued_kind (steps.Issue kind slot) = Some kind
issued_kind other = None

-- what a step that isn't refused does to the requests that a line shows: it moves one of its agent's slots or
-- none, and the kinds that the line keeps have the credit types that they had
pub record Moved (profile : Profile) (s : LineState) (agent : Agent) (step : Step) : Type 0 where
  pub there : always_moves step ≡ true → is_some (moved_slot s agent step) ≡ true
  pub found : (slot : Slot) → is_slot (moved_slot s agent step) slot ≡ true → position_at s agent.0 slot ≡ moved_from s agent step
  pub left : (slot : Slot) → is_slot (moved_slot s agent step) slot ≡ true → position_at (after_step profile s agent step) agent.0 slot ≡ moved_to s agent step
  pub stay : (slot : Slot) → is_slot (moved_slot s agent step) slot ≡ false → position_at (after_step profile s agent step) agent.0 slot ≡ position_at s agent.0 slot
  pub others : (n : ℕ) (slot : Slot) → n < 8 → n ≢ agent.0 → position_at (after_step profile s agent step) n slot ≡ position_at s n slot
  -- an Issue alone gives its slot a kind
  pub types : (slot : Slot) (ty : CreditType) → is_slot (issued_slot step) slot ≡ false → is_of_type profile ty s agent.0 slot ≡ true → is_of_type profile ty (after_step profile s agent step) agent.0 slot ≡ true
  pub other_types : (n : ℕ) (slot : Slot) (ty : CreditType) → n < 8 → n ≢ agent.0 → is_of_type profile ty s n slot ≡ true → is_of_type profile ty (after_step profile s agent step) n slot ≡ true
  pub issued_type : (kind : Kind) (slot : Slot) → issued_kind step ≡ Some kind → is_slot (issued_slot step) slot ≡ true → is_of_type profile (credit_type_of profile kind) (after_step profile s agent step) agent.0 slot ≡ true
