-- The ledger of the protocol credits: of each node and type what was retried (R), granted (G), resent (S), cancelled
-- (C) and returned (B) (docs/TRACES.md, "Nodes, ids and credits").
use Rattle.std.specs.Prelude.{◌≡◌, ℕ, ◌+◌, ◌-◌, ◌≤◌, ◌==◌, ◌&&◌, nat_lt, Bool, true, false, List, [], ◌∷◌, ◌++◌, Option, Some, None, count_by, slice_set}
use Rattle.std.specs.List.{position, slice_get}
use Rattle.std.specs.Map.{values_of}
use Rattle.chi_flit.specs.Credit.{credit_number, credit_type_of}
use Rattle.chi_flit.specs.declared.credit.CreditType.{CreditType}
use Rattle.chi_flit.specs.declared.credit.Profile.TheVariants as profiles
use Rattle.chi_flit.specs.declared.kind.Kind.{Kind}
use Rattle.chi_trace.specs.declared.fields.NodeId.{NodeId}
use Rattle.chi_trace.specs.declared.fields.PcrdType.{PcrdType}
use Rattle.chi_resolution.specs.declared.ids.KeyNumbers.{KeyNumbers}
use Rattle.chi_resolution.specs.declared.ids.OpenId.{OpenId}
use Rattle.chi_resolution.specs.declared.ids.OpenKey.{OpenKey}
use Rattle.chi_resolution.specs.declared.ids.OpenKey.TheVariants.{Request}
use Rattle.chi_resolution.specs.declared.ledger.CreditLedger.{CreditLedger}
use Rattle.chi_resolution.specs.declared.ledger.Booking.{Booking}
use Rattle.chi_resolution.specs.declared.ledger.CreditEvent.{CreditEvent}
use Rattle.chi_resolution.specs.declared.ledger.CreditEvent.TheVariants as events
use Rattle.chi_resolution.specs.declared.ledger.Held.{Held}
use Rattle.chi_resolution.specs.declared.ledger.Types.{Types}
use Rattle.chi_resolution.specs.declared.ledger.Types.TheVariants.{Two, Four, Any}

-- the type of credit that a request of a kind waits for in the protocol
abbrev pub booked_type : Types → Kind → CreditType
booked_type Two kind = credit_type_of profiles.Two kind
booked_type Four kind = credit_type_of profiles.Four kind
booked_type Any kind = credit_type_of profiles.Two kind

-- the type that its RetryAck has to name, if that isn't open
abbrev pub wanted_of : Types → Kind → Option PcrdType
wanted_of Two kind = Some (record { 0 = credit_number (booked_type Two kind) })
wanted_of Four kind = Some (record { 0 = credit_number (booked_type Four kind) })
wanted_of Any kind = None

abbrev pub is_wanted : PcrdType → Option PcrdType → Bool
is_wanted pcrd None = true
is_wanted pcrd (Some wanted) = wanted.0 == pcrd.0

abbrev pub fits : Types → Kind → PcrdType → Bool
fits types kind pcrd = is_wanted pcrd (wanted_of types kind)

-- a first attempt of the node that may be retried with the type
abbrev pub attempt_of : Types → NodeId → PcrdType → OpenKey → Option Kind → Bool
attempt_of types node pcrd (Request requester txn) (Some kind) = requester.0 == node.0 && fits types kind pcrd
attempt_of types node pcrd key kind = false

abbrev pub is_attempt : Types → NodeId → PcrdType → OpenId → Bool
is_attempt types node pcrd id = attempt_of types node pcrd id.key id.may_retry

-- how many of them are open
abbrev pub attempts : Types → NodeId → PcrdType → List (KeyNumbers × OpenId) → ℕ
attempts types node pcrd ids = count_by (is_attempt types node pcrd) (values_of ids)

abbrev pub opened_account : NodeId → PcrdType → CreditLedger
opened_account node pcrd = record { node = node; pcrd = pcrd; retried = 0; granted = 0; resent = 0; cancelled = 0; returned = 0 }

abbrev pub is_account : NodeId → PcrdType → CreditLedger → Bool
is_account node pcrd account = account.node.0 == node.0 && account.pcrd.0 == pcrd.0

-- the account at a place, or a new one
abbrev pub account_or : CreditLedger → Option CreditLedger → CreditLedger
account_or account None = account
account_or account (Some known) = known

abbrev pub account_at : Option ℕ → NodeId → PcrdType → List CreditLedger → CreditLedger
account_at None node pcrd accounts = opened_account node pcrd
account_at (Some place) node pcrd accounts = account_or (opened_account node pcrd) (slice_get accounts place)

-- the account of a node and a type, and its place
abbrev pub held_of : NodeId → PcrdType → List CreditLedger → Held
held_of node pcrd accounts = record {
  place = position (is_account node pcrd) accounts;
  account = account_at (position (is_account node pcrd) accounts) node pcrd accounts;
}

-- G - S - B
abbrev pub unused_of : CreditLedger → ℕ
unused_of account = account.granted - account.resent - account.returned

-- R - G
abbrev pub owed_of : CreditLedger → ℕ
owed_of account = account.retried - account.granted

-- G - S - B > 0, and C > B
abbrev pub may_return : CreditLedger → Bool
may_return account = nat_lt 0 (unused_of account) && nat_lt account.returned account.cancelled

-- an account with one more
abbrev pub with_event : CreditEvent → CreditLedger → CreditLedger
with_event events.Retried account = record account { retried = account.retried + 1 }
with_event events.RetriedInVain account = record account { retried = account.retried + 1; cancelled = account.cancelled + 1 }
with_event events.Granted account = record account { granted = account.granted + 1 }
with_event events.Resent account = record account { resent = account.resent + 1 }
with_event events.Cancelled account = record account { cancelled = account.cancelled + 1 }
with_event events.Returned account = record account { returned = account.returned + 1 }

-- an account in its place, or behind the others
abbrev pub put : Option ℕ → CreditLedger → List CreditLedger → List CreditLedger
put None account accounts = accounts ++ account ∷ []
put (Some place) account accounts = slice_set accounts place account

abbrev pub booked : Booking → List CreditLedger → List CreditLedger
booked booking accounts = put booking.held.place (with_event booking.event booking.held.account) accounts

abbrev pub booked_all : Option Booking → List CreditLedger → List CreditLedger
booked_all None accounts = accounts
booked_all (Some booking) accounts = booked booking accounts

-- what the ledger keeps: S + B ≤ G, B ≤ C, and G ≤ R unless grants may be early
pub record IsLedgerBalanced (early : Bool) (account : CreditLedger) : Type 0 where
  pub spent : account.resent + account.returned ≤ account.granted
  pub cancelled : account.returned ≤ account.cancelled
  pub retried : early ≡ false → account.granted ≤ account.retried
