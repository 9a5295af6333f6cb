-- Where the request of an agent's slot is, by the table of docs/PROTOCOL.md, "Agreement": a row is what a line
-- shows, in the words of the table. A RetryAck and a Comp_I name no slot: the one that is in flight for the
-- agent answers its pending request.
use Rattle.std.specs.Prelude.{◌≡◌, ◌≢◌, ◌⊎◌, ℕ, Bool, true, false, Option, Some, None}
use Rattle.chi_flit.specs.declared.numbers.Slot.{Slot}
use Rattle.chi_flit.specs.declared.kind.Kind.TheVariants.{Evict}
use Rattle.chi_flit.specs.declared.credit.CreditType.{CreditType}
use Rattle.chi_flit.specs.declared.message.Request.{Request}
use Rattle.chi_flit.specs.declared.message.RspDown.TheVariants.{RetryAck, CompI}
use Rattle.chi_homeline.specs.Home.{waiting_of}
use Rattle.chi_line.specs.declared.position.Position.{Position}
use Rattle.chi_line.specs.declared.position.Position.TheVariants.{Sent, Refused, Retried, Resent, Admitted, Answered, Closing}
use Rattle.chi_line.specs.LineState.{LineState, rn_of, cells_of}
use Rattle.chi_line.specs.Step.{pending_slot, slot_served_for, waiting_slot}
use Rattle.chi_line.specs.Kept.{is_retried, kind_if}

-- the agent's request of the slot is in flight, with AllowRetry or without
abbrev pub IsInFlight : Bool → LineState → ℕ → Slot → Type 0
IsInFlight allow_retry s n slot =
    (request : Request) × ((cells_of s n).req ≡ Some request) × (request.slot ≡ slot) × (request.allow_retry ≡ allow_retry)

-- the agent's pending request has the slot
abbrev pub IsPending : LineState → ℕ → Slot → Type 0
IsPending s n slot = pending_slot (rn_of s n).pending ≡ Some slot

-- a response for the agent is in flight
abbrev pub HasRetryAck : LineState → ℕ → Type 0
HasRetryAck s n = (ty : CreditType) × ((cells_of s n).rsp_down ≡ Some (RetryAck ty))

abbrev pub HasCompI : LineState → ℕ → Type 0
HasCompI s n = (cells_of s n).rsp_down ≡ Some CompI

-- the slot of the agent waits or is served at the home
abbrev pub IsAtHome : LineState → ℕ → Slot → Type 0
IsAtHome s n slot = (waiting_slot (waiting_of s.home n) ≡ Some slot) ⊎ (slot_served_for s.home.serving n ≡ Some slot)

-- the rows; that of a request at the home is two here, by whether it is still pending or answered
abbrev pub IsAt : LineState → ℕ → Slot → Position → Type 0
IsAt s n slot Sent = IsInFlight true s n slot
IsAt s n slot Refused = IsPending s n slot × HasRetryAck s n
IsAt s n slot Retried = IsPending s n slot × (is_retried (rn_of s n).pending ≡ true)
IsAt s n slot Resent = IsInFlight false s n slot
IsAt s n slot Admitted = IsAtHome s n slot × IsPending s n slot
IsAt s n slot Answered = IsAtHome s n slot × (pending_slot (rn_of s n).pending ≢ Some slot)
IsAt s n slot Closing = IsPending s n slot × (kind_if (rn_of s n).pending ≡ Some Evict) × HasCompI s n

-- nothing of the slot: no pending request, none at the home and none in flight has it
abbrev pub HasNothing : LineState → ℕ → Slot → Type 0
HasNothing s n slot =
    (pending_slot (rn_of s n).pending ≢ Some slot) × (IsAtHome s n slot → ⊥)
    × ((request : Request) → (cells_of s n).req ≡ Some request → request.slot ≢ slot)

-- where the slot is found, or that nothing of it is
abbrev pub IsFound : LineState → ℕ → Slot → Option Position → Type 0
IsFound s n slot None = HasNothing s n slot
IsFound s n slot (Some at) = IsAt s n slot at
