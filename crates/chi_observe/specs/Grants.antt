-- Credits that are granted and returned (docs/OBSERVER.md, "Ids and credits").
use Rattle.std.specs.Prelude.{ℕ, ◌==◌, ◌&&◌, ◌||◌, not, Bool, false, List, Result, Ok, Err, if◌then◌else◌}
use Rattle.std.specs.List.{count_by}
use Rattle.std.specs.Map.{values_of}
use Rattle.chi_trace.specs.declared.fields.PcrdType.{PcrdType}
use Rattle.chi_observe.specs.declared.credits.Booking.{Booking}
use Rattle.chi_observe.specs.declared.credits.CreditEvent.TheVariants as events
use Rattle.chi_ids.specs.declared.keys.IdKey.{IdKey}
use Rattle.chi_ids.specs.declared.keys.IdKey.TheVariants as keys
use Rattle.chi_ids.specs.declared.keys.KeyNumbers.{KeyNumbers}
use Rattle.chi_observe.specs.declared.ids.OpenId.{OpenId}
use Rattle.chi_observe.specs.declared.ids.Purpose.{Purpose}
use Rattle.chi_observe.specs.declared.ids.Purpose.TheVariants as purposes
use Rattle.chi_ids.specs.declared.keys.Sides.{Sides}
use Rattle.chi_observe.specs.declared.reasons.IdReason.{IdReason}
use Rattle.chi_observe.specs.declared.reasons.IdReason.TheVariants.{NothingRetried, NoCredit}
use Rattle.chi_observe.specs.declared.steps.WatchOptions.{WatchOptions}
use Rattle.chi_observe.specs.Credits.{may_grant, unused_of}
use Rattle.chi_observe.specs.Judges.{is_cut}
use Rattle.chi_observe.specs.Tables.{Table, booking_of}

-- A credit is granted only where a retried request waits for one, or with early grants a first attempt is on its way.
abbrev pub is_between : Sides → IdKey → Bool
is_between sides (keys.Request of txn) = of.home.0 == sides.home.0 && of.requester.0 == sides.requester.0
is_between sides other = false

abbrev pub is_first : Purpose → Bool
is_first (purposes.Request kind first) = first
is_first (purposes.Snoop snoop) = false
is_first (purposes.Unknown first) = first

abbrev pub is_attempt : Sides → OpenId → Bool
is_attempt sides id = is_first id.purpose && is_between sides id.key

abbrev pub attempts : Sides → List (KeyNumbers × OpenId) → ℕ
attempts sides ids = count_by (is_attempt sides) (values_of ids)

abbrev pub early_of : WatchOptions → Table → Sides → ℕ
early_of options table sides = if options.early_grants then attempts sides table.ids else 0

abbrev pub granted_booking : WatchOptions → Sides → PcrdType → ℕ → Booking → Result Booking IdReason
granted_booking options sides pcrd early booking = if is_cut options || may_grant booking.account early then Ok booking else Err (NothingRetried sides pcrd)

abbrev pub granted : WatchOptions → Table → Sides → PcrdType → Result Booking IdReason
granted options table sides pcrd = granted_booking options sides pcrd (early_of options table sides) (booking_of table sides pcrd events.Granted)

-- A credit is returned only where there is one. Of a trace that is cut out of a longer one none is missed.
abbrev pub lacks_credit : WatchOptions → Booking → Bool
lacks_credit options booking = not (is_cut options) && (unused_of booking.account == 0)

abbrev pub returned_booking : WatchOptions → Sides → PcrdType → Booking → Result Booking IdReason
returned_booking options sides pcrd booking = if lacks_credit options booking then Err (NoCredit sides pcrd) else Ok booking

abbrev pub returned : WatchOptions → Table → Sides → PcrdType → Result Booking IdReason
returned options table sides pcrd = returned_booking options sides pcrd (booking_of table sides pcrd events.Returned)
