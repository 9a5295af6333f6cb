-- The credit type of an agent's slot at a line (docs/PROTOCOL.md, "Agreement"): wherever the line still keeps
-- the kind of a slot's request, it has this credit type.
use Rattle.std.specs.Prelude.{ℕ, Bool, true, ◌&&◌, ◌==◌, Option, Some, None, if◌then◌else◌, option_map}
use Rattle.chi_flit.specs.declared.numbers.Slot.{Slot}
use Rattle.chi_flit.specs.declared.kind.Kind.{Kind}
use Rattle.chi_flit.specs.declared.credit.CreditType.{CreditType}
use Rattle.chi_flit.specs.declared.credit.Profile.{Profile}
use Rattle.chi_flit.specs.declared.message.Request.{Request}
use Rattle.chi_flit.specs.Credit.{credit_number, credit_type_of}
use Rattle.chi_rnline.specs.declared.pending.Pending.{Pending}
use Rattle.chi_homeline.specs.declared.serving.Serving.{Serving}
use Rattle.chi_homeline.specs.declared.serving.Serving.TheVariants.{Snooping, AwaitingWriteData}
use Rattle.chi_homeline.specs.declared.serving.Waiting.{Waiting}
use Rattle.chi_homeline.specs.Home.{waiting_of}
use Rattle.chi_line.specs.LineState.{LineState, rn_of, cells_of}

-- whether a kind that is kept, if there is one, has the credit type
abbrev pub has_type : Profile → CreditType → Option Kind → Bool
has_type profile ty None = true
has_type profile ty (Some kind) = credit_number (credit_type_of profile kind) == credit_number ty

-- the kind of the slot's request: pending, in flight, waiting at the home, or served there
abbrev pub pending_kind_of : Option Pending → Slot → Option Kind
pending_kind_of None slot = None
pending_kind_of (Some request) slot = if request.slot.0 == slot.0 then Some request.kind else None

abbrev pub requested_kind_of : Option Request → Slot → Option Kind
requested_kind_of None slot = None
requested_kind_of (Some request) slot = if request.slot.0 == slot.0 then Some request.kind else None

abbrev pub waiting_kind_of : Option Waiting → Slot → Option Kind
waiting_kind_of None slot = None
waiting_kind_of (Some request) slot = if request.slot.0 == slot.0 then Some request.kind else None

abbrev pub served_kind_of : Serving → ℕ → Slot → Option Kind
served_kind_of (Snooping agent kind own) n slot = if agent.0 == n && own.0 == slot.0 then Some kind else None
served_kind_of (AwaitingWriteData agent kind own) n slot = if agent.0 == n && own.0 == slot.0 then Some kind else None
served_kind_of other n slot = None

-- whether the slot of agent n has the credit type wherever the line still keeps the kind of its request
abbrev pub is_of_type : Profile → CreditType → LineState → ℕ → Slot → Bool
is_of_type profile ty s n slot =
    has_type profile ty (pending_kind_of (rn_of s n).pending slot)
    && (has_type profile ty (requested_kind_of (cells_of s n).req slot)
    && (has_type profile ty (waiting_kind_of (waiting_of s.home n) slot)
    && has_type profile ty (served_kind_of s.home.serving n slot)))

-- the credit type of a request that is pending
abbrev pub pending_credit : Profile → Option Pending → Option CreditType
pending_credit profile pending = option_map (λ (request : Pending). credit_type_of profile request.kind) pending
