-- What is outstanding at a line while it isn't judged (docs/COPIES.md, "A line that comes back").
use Rattle.std.specs.Prelude.{◌≡◌, List, ◌∷◌, ◌++◌, ℕ, zero, suc, ◌+◌, ◌-◌, ◌==◌, Bool, true, false, ◌&&◌, ◌||◌, not, nat_lt, Option, Some, None, if◌then◌else◌}
use Rattle.chi_observer.specs.declared.kinds.Snoop.{Snoop}
use Rattle.chi_observer.specs.declared.flits.Due.{Due}
use Rattle.chi_observer.specs.declared.flits.Due.TheVariants.{Nothing, Resending}
use Rattle.chi_observer.specs.Rules.{is_resending}
use Rattle.chi_observer.specs.declared.flits.Stores.{Stores}
use Rattle.chi_observer.specs.declared.flits.Act.{Act}
use Rattle.chi_observer.specs.declared.flits.Act.TheVariants.{SnpResp, CompAck, CopyBackWrData, NonCopyBackWrData}
use Rattle.chi_observer.specs.declared.flits.Grant.{Grant}
use Rattle.chi_observer.specs.declared.flits.Grant.TheVariants.{RetryAck, Snp}
use Rattle.chi_observer.specs.declared.flits.Flit.{Flit}
use Rattle.chi_observer.specs.declared.flits.Flit.TheVariants.{Up, Down}
use Rattle.chi_copies.specs.Worlds.{Public}
use Rattle.chi_copies.specs.Runs.{Legal, public_of}
use Rattle.chi_copies.specs.Begun.{Begun, asks, begun_with}
use Rattle.chi_copies.specs.Tails.{Call, IsReturn, LeavesOnly, MayMiss, begun_by, flits_of}

-- a request is outstanding. One that was retried isn't: it may be cancelled unseen, or sent again
abbrev pub is_outstanding : Due → Bool
is_outstanding Nothing = false
is_outstanding (Resending kind) = false
is_outstanding other = true

abbrev pub is_snooped : Option Snoop → Bool
is_snooped None = false
is_snooped (Some snoop) = true

abbrev pub one_if : Bool → ℕ
one_if b = if b then 1 else 0

-- how many of an agent's: a request that flits show, and a snoop that it hasn't answered
abbrev pub outstanding_of : Bool → Due → Option Snoop → ℕ
outstanding_of asked due snooped = one_if (not asked && is_outstanding due) + one_if (is_snooped snooped)

-- of each number below one
abbrev pub sum_below : ℕ → (ℕ → ℕ) → ℕ
sum_below zero f = 0
sum_below (suc k) f = f k + sum_below k f

-- how many of a line's
abbrev pub outstanding_in : (ℕ → Bool) → Public → ℕ
outstanding_in asked p = sum_below 32 (λ n. outstanding_of (asked n) (p.due n) (p.snooped n))

-- no agent has a request from before
abbrev pub no_one : ℕ → Bool
no_one n = false

-- a request of the agent may be open that isn't outstanding: from before, or retried
abbrev pub may_be_asked : (ℕ → Bool) → Public → ℕ → Bool
may_be_asked asked p n = asked n || is_resending (p.due n)

-- COUNTS stay where they have reached their end
abbrev pub one_more : ℕ → ℕ
one_more n = if nat_lt n 4294967295 then n + 1 else n

abbrev pub one_less : ℕ → ℕ
one_less n = if nat_lt n 4294967295 then n - 1 else n

-- WHAT A JUDGED LINE HANDS OVER: where nothing is outstanding only that is open which may come back as from before. Of a trace's public
abbrev pub OverLeavesRetried : Type 0
OverLeavesRetried = (p : Public) → outstanding_in no_one p ≡ 0 → LeavesOnly (may_be_asked no_one p) no_one p

-- of a line that began in the middle or came back, whatever was before
abbrev pub over_begun : Begun → Public → Type 0
over_begun b p = outstanding_in b.asked b.seen.public ≡ 0 → LeavesOnly (may_be_asked b.asked b.seen.public) b.snooped p

abbrev pub OverBegunLeavesOnly : Type 0
OverBegunLeavesOnly = (z : Stores) (asked left : ℕ → Bool) (cs : List Call) → MayMiss (begun_with z asked left) cs → (r : IsReturn z asked left (flits_of cs))
    → over_begun (begun_by (begun_with z asked left) cs) (public_of z (flits_of cs ++ r.before))

-- THE CALLS, of flits that have rules: what is said of each
-- it is a request, or one that is sent again
abbrev pub is_request_of : Flit → ℕ → Bool
is_request_of (Up f) n = asks f.act && n == f.agent.0
is_request_of (Down g) n = false

abbrev pub is_snoop : Grant → Bool
is_snoop (Snp snoop) = true
is_snoop other = false

abbrev pub opens : Flit → Bool
opens (Up f) = asks f.act
opens (Down g) = is_snoop g.grant

-- it is an answer, or the last flit of a request; p: behind it
abbrev pub act_ends : Act → Bool
act_ends (SnpResp answer) = true
act_ends CompAck = true
act_ends (CopyBackWrData form) = true
act_ends NonCopyBackWrData = true
act_ends other = false

abbrev pub ends : Public → Flit → Bool
ends p (Up f) = act_ends f.act
ends p (Down g) = not (is_snoop g.grant) && not (is_outstanding (p.due g.agent.0))

-- it retries one
abbrev pub is_retry : Grant → Bool
is_retry RetryAck = true
is_retry other = false

abbrev pub retries : Flit → ℕ → Bool
retries (Up f) n = false
retries (Down g) n = is_retry g.grant && n == g.agent.0

abbrev pub count_after : Public → Flit → ℕ → ℕ
count_after p e count = if opens e then count + 1 else (if ends p e then count - 1 else count)

-- one more or fewer is counted, or as many, and agents are asked or no longer, as what is outstanding is
pub record IsCounted (p q : Public) (e : Flit) : Type 0 where
  pub count : outstanding_in no_one q ≡ count_after q e (outstanding_in no_one p)
  pub asked : (n : ℕ) → may_be_asked no_one q n ≡ ((may_be_asked no_one p n && not (is_request_of e n)) || retries e n)

abbrev pub FlitsAreCounted : Type 0
FlitsAreCounted = (z : Stores) (e : Flit) (es : List Flit) → Legal z (e ∷ es) → IsCounted (public_of z es) (public_of z (e ∷ es)) e
