-- One slot of a requester, and what each call makes of it (docs/PROTOCOL.md, "Slots and accounts").
use Rattle.std.specs.Prelude.{◌≡◌, ℕ, Bool, true, false, ◌&&◌, ◌==◌, if◌then◌else◌}
use Rattle.chi_flit.specs.declared.numbers.Line.{Line}
use Rattle.chi_flit.specs.declared.credit.CreditType.{CreditType}
use Rattle.chi_flit.specs.declared.credit.CreditType.TheVariants.{T0}
use Rattle.chi_flit.specs.Credit.{credit_number}
use Rattle.chi_credit.specs.declared.slot.SlotState.{SlotState}
use Rattle.chi_credit.specs.declared.slot.SlotState.TheVariants.{Idle, Sent, Refused, Retried, Riding, Admitted, Closing, Cancelled}
use Rattle.chi_credit.specs.declared.slot.SlotRecord.{SlotRecord}

abbrev pub is_idle_state : SlotState → Bool
is_idle_state Idle = true
is_idle_state other = false

abbrev pub is_riding : SlotState → Bool
is_riding Riding = true
is_riding other = false

abbrev pub is_cancelled : SlotState → Bool
is_cancelled Cancelled = true
is_cancelled other = false

-- a credit is due to the slot: it was refused, and its credit is neither spent nor given back
abbrev pub is_due : SlotState → Bool
is_due Refused = true
is_due Retried = true
is_due Riding = true
is_due Cancelled = true
is_due other = false

abbrev pub is_admitted : SlotState → Bool
is_admitted (Admitted entry) = true
is_admitted other = false

-- the home has the request with entry e
abbrev pub is_admitted_with : ℕ → SlotState → Bool
is_admitted_with e (Admitted entry) = entry.0 == e
is_admitted_with e other = false

-- the requester's part may end now: the home has the request, or has completed the Evict
abbrev pub can_be_answered : SlotState → Bool
can_be_answered (Admitted entry) = true
can_be_answered Closing = true
can_be_answered other = false

-- tests of a slot, by credit type and by entry
abbrev pub is_of_credit : ℕ → SlotRecord → Bool
is_of_credit t slot = credit_number slot.credit == t

abbrev pub is_riding_of : ℕ → SlotRecord → Bool
is_riding_of t slot = is_riding slot.state && is_of_credit t slot

abbrev pub is_cancelled_of : ℕ → SlotRecord → Bool
is_cancelled_of t slot = is_cancelled slot.state && is_of_credit t slot

abbrev pub is_due_of : ℕ → SlotRecord → Bool
is_due_of t slot = is_due slot.state && is_of_credit t slot

abbrev pub has_entry : ℕ → SlotRecord → Bool
has_entry e slot = is_admitted_with e slot.state

-- a free slot
abbrev pub idle_slot : SlotRecord
idle_slot = record { state = Idle; line = record { 0 = 0 }; credit = T0; answered = false }

-- open: the first attempt of a request was sent
abbrev pub opened_slot : Line → CreditType → SlotRecord
opened_slot line ty = record { state = Sent; line = line; credit = ty; answered = false }

-- the state becomes another one, and all else stays
abbrev pub in_state : SlotState → SlotRecord → SlotRecord
in_state state slot = record slot { state = state }

-- answered: the requester's part is over; a request whose other part was over leaves its slot free
abbrev pub after_answer_in : SlotState → SlotRecord → SlotRecord
after_answer_in (Admitted entry) slot = record slot { answered = true }
after_answer_in Closing slot = idle_slot
after_answer_in other slot = slot

abbrev pub after_answer : SlotRecord → SlotRecord
after_answer slot = after_answer_in slot.state slot

-- finished: the home's part is over; a request whose other part was over leaves its slot free
abbrev pub after_finish : SlotRecord → SlotRecord
after_finish slot = if slot.answered then idle_slot else in_state Closing slot

-- only the request that the home has can be answered and keep its slot
abbrev pub IsFit : SlotRecord → Type 0
IsFit slot = slot.answered ≡ true → is_admitted slot.state ≡ true
