-- Credits: of each home, requester and type what was retried (R), granted (G), sent again (S) and returned (B)
-- (docs/TRANSACTIONS.md, "Credits").
use Rattle.std.specs.Prelude.{ℕ, ◌+◌, ◌-◌, min, nat_lt, Bool, Option, unwrap_or}
use Rattle.chi_transactions.specs.declared.credits.CreditEvent.{CreditEvent}
use Rattle.chi_transactions.specs.declared.credits.CreditEvent.TheVariants.{Retried, Granted, Resent, Returned}
use Rattle.chi_transactions.specs.declared.entries.Credits.{Credits}

abbrev pub no_credits : Credits
no_credits = record { retried = 0; granted = 0; resent = 0; returned = 0 }

abbrev pub credits_at : Option Credits → Credits
credits_at kept = unwrap_or kept no_credits

-- credits that a RetryAck has promised, and that were granted, and neither spent nor returned
unfoldable pub unused_of : Credits → ℕ
unused_of credits = min credits.granted credits.retried - credits.resent - credits.returned

-- G < R, or as far above R as that
unfoldable pub may_grant : Credits → ℕ → Bool
may_grant credits early = nat_lt credits.granted (credits.retried + early)

abbrev pub with_event : CreditEvent → Credits → Credits
with_event Retried credits = record credits { retried = credits.retried + 1 }
with_event Granted credits = record credits { granted = credits.granted + 1 }
with_event Resent credits = record credits { resent = credits.resent + 1 }
with_event Returned credits = record credits { returned = credits.returned + 1 }
