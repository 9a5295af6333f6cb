-- What grants and returns of credits do to the ledger (docs/TRACES.md, "Nodes, ids and credits").
use Rattle.std.specs.Prelude.{ℕ, ◌+◌, nat_lt, Bool, Result, Ok, Err, if◌then◌else◌}
use Rattle.chi_trace.specs.declared.fields.NodeId.{NodeId}
use Rattle.chi_trace.specs.declared.fields.PcrdType.{PcrdType}
use Rattle.chi_resolution.specs.declared.ledger.CreditLedger.{CreditLedger}
use Rattle.chi_resolution.specs.declared.ledger.Booking.{Booking}
use Rattle.chi_resolution.specs.declared.ledger.CreditEvent.TheVariants as events
use Rattle.chi_resolution.specs.declared.nodes.Ends.{Ends}
use Rattle.chi_resolution.specs.declared.reasons.IdReason.{IdReason}
use Rattle.chi_resolution.specs.declared.reasons.IdReason.TheVariants as reasons
use Rattle.chi_resolution.specs.declared.resolution.Options.{Options}
use Rattle.chi_resolution.specs.Ledger.{attempts, may_return}
use Rattle.chi_resolution.specs.Tables.{Open, booking_of}

-- with early grants a credit may be granted for a first attempt
abbrev pub early_of : Options → Open → NodeId → PcrdType → ℕ
early_of options table node pcrd = if options.early_grants then attempts options.types node pcrd table.ids else 0

-- G < R, or as far above R as that
abbrev pub may_grant : CreditLedger → ℕ → Bool
may_grant account early = nat_lt account.granted (account.retried + early)

abbrev pub granted_booking : NodeId → PcrdType → ℕ → Booking → Result Booking IdReason
granted_booking node pcrd early booking =
    if may_grant booking.held.account early then Ok booking else Err (reasons.NothingRetried node pcrd)

unfoldable pub granted : Options → Open → Ends → PcrdType → Result Booking IdReason
granted options table ends pcrd = granted_booking ends.requester pcrd (early_of options table ends.requester pcrd) (booking_of table ends.requester pcrd events.Granted)

-- G - S - B > 0, and C > B
abbrev pub returned_by : NodeId → PcrdType → Booking → Result Booking IdReason
returned_by node pcrd booking = if may_return booking.held.account then Ok booking else Err (reasons.NothingToReturn node pcrd)

unfoldable pub given_back : Open → Ends → PcrdType → Result Booking IdReason
given_back table ends pcrd = returned_by ends.requester pcrd (booking_of table ends.requester pcrd events.Returned)
