-- The protocol credits: of each home, requester and type what was retried (R), granted (G), sent again (S) and returned (B)
-- (docs/OBSERVER.md, "Ids and credits").
use Rattle.std.specs.Prelude.{ℕ, ◌+◌, ◌-◌, ◌==◌, ◌&&◌, min, nat_lt, Bool, List, Option, Some, None}
use Rattle.std.specs.Map.{lookup}
use Rattle.std.specs.Option.{unwrap_or}
use Rattle.indexmap.specs.IndexMap.{insert_entry}
use Rattle.chi_observer.specs.declared.kinds.Kind.{Kind}
use Rattle.chi_observer.specs.declared.kinds.Kind.TheVariants as kinds
use Rattle.chi_trace.specs.declared.fields.PcrdType.{PcrdType}
use Rattle.chi_observe.specs.declared.credits.Account.{Account}
use Rattle.chi_observe.specs.declared.credits.AccountNumbers.{AccountNumbers}
use Rattle.chi_observe.specs.declared.credits.Booking.{Booking}
use Rattle.chi_observe.specs.declared.credits.CreditEvent.{CreditEvent}
use Rattle.chi_observe.specs.declared.credits.CreditEvent.TheVariants.{Retried, Granted, Resent, Returned}
use Rattle.chi_observe.specs.declared.credits.CreditTypes.{CreditTypes}
use Rattle.chi_observe.specs.declared.credits.CreditTypes.TheVariants.{Two, Four, Any}
use Rattle.chi_ids.specs.declared.keys.Sides.{Sides}

-- the type of each kind, where there are two and where there are four
abbrev pub type_of_two : Kind → ℕ
type_of_two kinds.WriteBackFull = 1
type_of_two kinds.WriteCleanFull = 1
type_of_two kinds.WriteEvictFull = 1
type_of_two kinds.WriteUniqueFull = 1
type_of_two other = 0

abbrev pub type_of_four : Kind → ℕ
type_of_four kinds.ReadNotSharedDirty = 0
type_of_four kinds.ReadShared = 0
type_of_four kinds.ReadClean = 0
type_of_four kinds.ReadOnce = 0
type_of_four kinds.WriteBackFull = 1
type_of_four kinds.WriteCleanFull = 1
type_of_four kinds.WriteEvictFull = 1
type_of_four kinds.WriteUniqueFull = 1
type_of_four kinds.ReadUnique = 2
type_of_four kinds.CleanUnique = 2
type_of_four kinds.MakeUnique = 2
type_of_four kinds.CleanShared = 2
type_of_four kinds.CleanInvalid = 2
type_of_four kinds.MakeInvalid = 2
type_of_four kinds.Evict = 3

-- the type that a RetryAck has to name, by the kind of its request, if that isn't open
abbrev pub wanted_of : CreditTypes → Kind → Option PcrdType
wanted_of Two kind = Some (record { 0 = type_of_two kind })
wanted_of Four kind = Some (record { 0 = type_of_four kind })
wanted_of Any kind = None

-- an account's key as numbers
abbrev pub account_numbers : Sides → PcrdType → AccountNumbers
account_numbers sides pcrd = record { home = sides.home.0; requester = sides.requester.0; pcrd = pcrd.0 }

abbrev pub is_same_account : AccountNumbers → AccountNumbers → Bool
is_same_account one other = one.home == other.home && (one.requester == other.requester && one.pcrd == other.pcrd)

abbrev pub opened_account : Sides → PcrdType → Account
opened_account sides pcrd = record { sides = sides; pcrd = pcrd; retried = 0; granted = 0; resent = 0; returned = 0 }

-- the account of a requester and a type at a home
abbrev pub account_of : Sides → PcrdType → List (AccountNumbers × Account) → Account
account_of sides pcrd accounts = unwrap_or (lookup (is_same_account (account_numbers sides pcrd)) accounts) (opened_account sides pcrd)

-- credits that a RetryAck has promised, and that were granted, and neither spent nor returned
abbrev pub unused_of : Account → ℕ
unused_of account = min account.granted account.retried - account.resent - account.returned

-- R - G
abbrev pub owed_of : Account → ℕ
owed_of account = account.retried - account.granted

-- G < R, or as far above R as that
abbrev pub may_grant : Account → ℕ → Bool
may_grant account early = nat_lt account.granted (account.retried + early)

-- an account with one more
abbrev pub with_event : CreditEvent → Account → Account
with_event Retried account = record account { retried = account.retried + 1 }
with_event Granted account = record account { granted = account.granted + 1 }
with_event Resent account = record account { resent = account.resent + 1 }
with_event Returned account = record account { returned = account.returned + 1 }

-- an account in the place of the one before
abbrev pub booked : Booking → List (AccountNumbers × Account) → List (AccountNumbers × Account)
booked booking accounts = insert_entry is_same_account accounts (account_numbers booking.account.sides booking.account.pcrd) (with_event booking.event booking.account)

abbrev pub booked_all : Option Booking → List (AccountNumbers × Account) → List (AccountNumbers × Account)
booked_all None accounts = accounts
booked_all (Some booking) accounts = booked booking accounts
