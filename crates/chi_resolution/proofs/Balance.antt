-- The ledger is kept: what each flit books leaves its account balanced.
use Rattle.std.proofs.Common.{◌≡◌, inl, inr, zero, suc, ℕ, ◌+◌, ◌<◌, ◌≤◌, ◌==◌, ◌&&◌, nat_lt, Bool, true, false, cond, List, [], ◌∷◌, Option, Some, None, Result, Ok, Err, refl, sym, subst, arith}
use Rattle.std.specs.Prelude.{IfOk, IfSome}
use Rattle.std.specs.List.{All, position}
use Rattle.std.proofs.lemmas.Bool.Decides.{nat_tests}
use Rattle.std.proofs.lemmas.List.Elements.{All-append, All-set}
use Rattle.std.proofs.lemmas.Option.{slice_get_cases}
use Rattle.chi_trace.specs.declared.fields.NodeId.{NodeId}
use Rattle.chi_trace.specs.declared.fields.PcrdType.{PcrdType}
use Rattle.chi_resolution.specs.declared.ledger.CreditLedger.{CreditLedger}
use Rattle.chi_resolution.specs.declared.ledger.Booking.{Booking}
use Rattle.chi_resolution.specs.declared.ledger.CreditEvent.TheVariants as events
use Rattle.chi_resolution.specs.declared.reasons.IdReason.{IdReason}
use Rattle.chi_resolution.specs.Ledger.{IsLedgerBalanced, account_at, account_or, booked, booked_all, held_of, is_account, may_return, opened_account, put, unused_of, with_event}
use Rattle.chi_resolution.specs.Reasons.{◌>>=◌}

-- a test that refuses, or else leaves a value
pub if_not : {B : Type 0} (b : Bool) (reason : IdReason) (y : B) (P : B → Type 0) → (b ≡ false → P y) → IfOk (cond b (Err reason) (Ok y)) P
if_not true reason y P h = tt
if_not false reason y P h = h refl

pub if_so : {B : Type 0} (b : Bool) (reason : IdReason) (y : B) (P : B → Type 0) → (b ≡ true → P y) → IfOk (cond b (Ok y) (Err reason)) P
if_so true reason y P h = h refl
if_so false reason y P h = tt

-- what holds behind each step holds of them all
pub each : {A B : Type 0} (step : Result A IdReason) (next : A → Result B IdReason) (P : B → Type 0) → ((x : A) → IfOk (next x) P) → IfOk (step >>= next) P
each (Ok x) next P h = h x
each (Err reason) next P h = tt

-- the same where more is known of the first step
pub each_of : {A B : Type 0} (step : Result A IdReason) (next : A → Result B IdReason) (Q : A → Type 0) (P : B → Type 0) → IfOk step Q → ((x : A) → Q x → IfOk (next x) P) → IfOk (step >>= next) P
each_of (Ok x) next Q P q h = h x q
each_of (Err reason) next Q P q h = tt

pub opened_balanced : (early : Bool) (node : NodeId) (pcrd : PcrdType) → IsLedgerBalanced early (opened_account node pcrd)
opened_balanced early node pcrd = record { spent = omega arith; cancelled = omega arith; retried = λ e. omega arith }

-- the account at a place
got_balanced : (early : Bool) (node : NodeId) (pcrd : PcrdType) (accounts : List CreditLedger) (place : ℕ) → All (IsLedgerBalanced early) accounts → IsLedgerBalanced early (account_at (Some place) node pcrd accounts)
got_balanced early node pcrd accounts place all =
    let found = slice_get_cases accounts place in
    elim found.1 as (λ v. IsLedgerBalanced early (account_at (Some place) node pcrd accounts)) [
      | inl is ↦ subst (λ (got : Option CreditLedger). IsLedgerBalanced early (account_or (opened_account node pcrd) got)) (sym is.2) (subst (IsLedgerBalanced early) is.3 (all place is.0 is.1))
      | inr is ↦ subst (λ (got : Option CreditLedger). IsLedgerBalanced early (account_or (opened_account node pcrd) got)) (sym is.1) (opened_balanced early node pcrd)
    ]

at_balanced : (early : Bool) (node : NodeId) (pcrd : PcrdType) (accounts : List CreditLedger) (place : Option ℕ) → All (IsLedgerBalanced early) accounts → IsLedgerBalanced early (account_at place node pcrd accounts)
at_balanced early node pcrd accounts None all = opened_balanced early node pcrd
at_balanced early node pcrd accounts (Some place) all = got_balanced early node pcrd accounts place all

pub held_balanced : (early : Bool) (node : NodeId) (pcrd : PcrdType) (accounts : List CreditLedger) → All (IsLedgerBalanced early) accounts → IsLedgerBalanced early (held_of node pcrd accounts).account
held_balanced early node pcrd accounts all = at_balanced early node pcrd accounts (position (is_account node pcrd) accounts) all

-- one more of each sort
pub more_retried : (early : Bool) (account : CreditLedger) → IsLedgerBalanced early account → IsLedgerBalanced early (with_event events.Retried account)
more_retried early account is = record { spent = is.spent; cancelled = is.cancelled; retried = λ e. omega (arith, is.retried e) }

pub more_in_vain : (early : Bool) (account : CreditLedger) → IsLedgerBalanced early account → IsLedgerBalanced early (with_event events.RetriedInVain account)
more_in_vain early account is = record { spent = is.spent; cancelled = omega (arith, is.cancelled); retried = λ e. omega (arith, is.retried e) }

pub more_cancelled : (early : Bool) (account : CreditLedger) → IsLedgerBalanced early account → IsLedgerBalanced early (with_event events.Cancelled account)
more_cancelled early account is = record { spent = is.spent; cancelled = omega (arith, is.cancelled); retried = is.retried }

pub more_granted : (early : Bool) (account : CreditLedger) → IsLedgerBalanced early account → (early ≡ false → account.granted < account.retried) → IsLedgerBalanced early (with_event events.Granted account)
more_granted early account is less = record { spent = omega (arith, is.spent); cancelled = is.cancelled; retried = λ e. omega (arith, less e) }

some_unused : (account : CreditLedger) → (unused_of account == 0) ≡ false → account.resent + account.returned + 1 ≤ account.granted
some_unused account e = grind (arith, nat_tests)

both_hold : (one other : Bool) → (one && other) ≡ true → (one ≡ true) × (other ≡ true)
both_hold true true e = (refl, refl)
both_hold true false e = absurd (cc (e))
both_hold false other e = absurd (cc (e))

may_spend : (account : CreditLedger) → may_return account ≡ true → account.resent + account.returned + 1 ≤ account.granted
may_spend account may = let some = (both_hold (nat_lt 0 (unused_of account)) (nat_lt account.returned account.cancelled) may).0 in grind (arith, nat_tests)

may_hand_back : (account : CreditLedger) → may_return account ≡ true → account.returned + 1 ≤ account.cancelled
may_hand_back account may = let less = (both_hold (nat_lt 0 (unused_of account)) (nat_lt account.returned account.cancelled) may).1 in grind (arith, nat_tests)

pub more_resent : (early : Bool) (account : CreditLedger) → IsLedgerBalanced early account → (unused_of account == 0) ≡ false → IsLedgerBalanced early (with_event events.Resent account)
more_resent early account is some = record { spent = omega (arith, some_unused account some); cancelled = is.cancelled; retried = is.retried }

pub more_returned : (early : Bool) (account : CreditLedger) → IsLedgerBalanced early account → may_return account ≡ true → IsLedgerBalanced early (with_event events.Returned account)
more_returned early account is may = record { spent = omega (arith, may_spend account may); cancelled = omega (arith, may_hand_back account may); retried = is.retried }

-- what a booking leaves is balanced
abbrev pub IsKept : Bool → Booking → Type 0
IsKept early booking = IsLedgerBalanced early (with_event booking.event booking.held.account)

one_balanced : (early : Bool) (account : CreditLedger) → IsLedgerBalanced early account → All (IsLedgerBalanced early) (account ∷ [])
one_balanced early account is zero d less = is
one_balanced early account is (suc k) d less = absurd (omega (arith, less))

put_balanced : (early : Bool) (place : Option ℕ) (account : CreditLedger) (accounts : List CreditLedger) → IsLedgerBalanced early account → All (IsLedgerBalanced early) accounts → All (IsLedgerBalanced early) (put place account accounts)
put_balanced early None account accounts is all = All-append (IsLedgerBalanced early) accounts (account ∷ []) all (one_balanced early account is)
put_balanced early (Some place) account accounts is all = All-set (IsLedgerBalanced early) accounts place account is all

pub booked_balanced : (early : Bool) (booking : Booking) (accounts : List CreditLedger) → IsKept early booking → All (IsLedgerBalanced early) accounts → All (IsLedgerBalanced early) (booked booking accounts)
booked_balanced early booking accounts is all = put_balanced early booking.held.place (with_event booking.event booking.held.account) accounts is all

pub booked_all_balanced : (early : Bool) (books : Option Booking) (accounts : List CreditLedger) → IfSome books (IsKept early) → All (IsLedgerBalanced early) accounts → All (IsLedgerBalanced early) (booked_all books accounts)
booked_all_balanced early None accounts is all = all
booked_all_balanced early (Some booking) accounts is all = booked_balanced early booking accounts is all

-- accounts that are known to be these
pub balanced_where : {R E : Type 0} (early : Bool) (result : Result R E) (of : R → List CreditLedger) (accounts : List CreditLedger) → IfOk result (λ r. of r ≡ accounts) → All (IsLedgerBalanced early) accounts → IfOk result (λ r. All (IsLedgerBalanced early) (of r))
balanced_where early (Ok r) of accounts same all = subst (All (IsLedgerBalanced early)) (sym same) all
balanced_where early (Err e) of accounts same all = tt
