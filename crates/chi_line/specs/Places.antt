-- Where an agent's requests are, by their slots (docs/PROTOCOL.md, "Agreement").
use Rattle.std.specs.Prelude.{ℕ, Bool, true, false, ◌||◌, ◌==◌, Option, Some, None, if◌then◌else◌}
use Rattle.chi_flit.specs.declared.numbers.Slot.{Slot}
use Rattle.chi_flit.specs.declared.message.Request.{Request}
use Rattle.chi_flit.specs.declared.message.RspDown.{RspDown}
use Rattle.chi_flit.specs.declared.message.RspDown.TheVariants.{RetryAck, CompI}
use Rattle.chi_rnline.specs.declared.pending.Pending.{Pending}
use Rattle.chi_rnline.specs.declared.pending.Phase.{Phase}
use Rattle.chi_rnline.specs.declared.pending.Phase.TheVariants as phases
use Rattle.chi_homeline.specs.declared.serving.Waiting.{Waiting}
use Rattle.chi_homeline.specs.Home.{waiting_of}
use Rattle.chi_line.specs.declared.position.Position.{Position}
use Rattle.chi_line.specs.declared.position.Position.TheVariants.{Sent, Refused, Retried, Resent, Admitted, Answered, Closing}
use Rattle.chi_line.specs.LineState.{LineState, rn_of, cells_of}
use Rattle.chi_line.specs.Step.{is_slot, slot_served_for, waiting_slot}

-- what a line shows of an agent's requests: the pending one, the one in flight and the response to it, the
-- one that waits, and the slot of the one that is served
pub record RequestsShown : Type 0 where
  pub pending : Option Pending
  pub request : Option Request
  pub response : Option RspDown
  pub waiting : Option Waiting
  pub served : Option Slot

-- what it shows of the agent n
abbrev pub agent_seen : LineState → ℕ → RequestsShown
agent_seen s n = record {
  pending = (rn_of s n).pending;
  request = (cells_of s n).req;
  response = (cells_of s n).rsp_down;
  waiting = waiting_of s.home n;
  served = slot_served_for s.home.serving n;
}

-- whether the slot waits or is served at the home
abbrev pub is_at_home : RequestsShown → Slot → Bool
is_at_home x slot = is_slot (waiting_slot x.waiting) slot || is_slot x.served slot

-- where a request is that a response refuses or ends
abbrev pub response_at : Option RspDown → Option Position
response_at (Some (RetryAck ty)) = Some Refused
response_at (Some CompI) = Some Closing
response_at other = None

-- where a request is that was sent: in flight, else at the home, else answered by a response
abbrev pub sent_at : Option Request → Bool → Option RspDown → Option Position
sent_at (Some request) at_home response = if request.allow_retry then Some Sent else Some Resent
sent_at None true response = Some Admitted
sent_at None false response = response_at response

-- where a pending request is, by its phase
abbrev pub phase_at : Phase → RequestsShown → Slot → Option Position
phase_at phases.Sent x slot = sent_at x.request (is_at_home x slot) x.response
phase_at phases.Retried x slot = Some Retried

-- where a slot is that no pending request has
abbrev pub unasked_at : RequestsShown → Slot → Option Position
unasked_at x slot = if is_at_home x slot then Some Answered else None

abbrev pub position_by : Option Pending → RequestsShown → Slot → Option Position
position_by None x slot = unasked_at x slot
position_by (Some request) x slot = if request.slot.0 == slot.0 then phase_at request.phase x slot else unasked_at x slot

abbrev pub position_in : RequestsShown → Slot → Option Position
position_in x slot = position_by x.pending x slot

-- where the request of an agent's slot is at a line: None where the line shows nothing of it
abbrev pub position_at : LineState → ℕ → Slot → Option Position
position_at s n slot = position_in (agent_seen s n) slot
