-- The credits of whole traces.
use Rattle.std.proofs.Common.{◌≡◌, ℕ, ◌+◌, ◌≤◌, ◌==◌, min, Bool, true, false, not, List, [], ◌∷◌, Option, Some, None, eqb, suc, inl, inr, length, cond, arith, ap, refl, sym, ◌∙◌, subst}
use Rattle.std.specs.Prelude.{if◌then◌else◌}
use borrow.Author.Tests.{ltb-true}
use Rattle.std.proofs.lemmas.Bool.Decides.{nat_tests}
use Rattle.std.proofs.lemmas.Bool.{cases_Bool, eqb-true}
use Rattle.chi_issue_b.specs.Flit.{line_of}
use Rattle.chi_issue_b.specs.declared.flit.Flit.{Flit}
use Rattle.chi_issue_b.specs.declared.ids.CacheLine.{CacheLine}
use Rattle.chi_issue_b.specs.declared.roles.Role.{Role}
use Rattle.chi_issue_b.specs.declared.roles.Role.TheVariants as roles
use Rattle.chi_transactions.specs.declared.credits.CreditEvent.{CreditEvent}
use Rattle.chi_transactions.specs.declared.credits.CreditEvent.TheVariants.{Retried, Resent}
use Rattle.chi_transactions.specs.declared.entries.Credits.{Credits}
use Rattle.chi_transactions.specs.declared.entries.OpenId.{OpenId}
use Rattle.chi_transactions.specs.declared.entries.Options.{Options}
use Rattle.chi_transactions.specs.declared.entries.Reason.{Reason}
use Rattle.chi_transactions.specs.declared.entries.Reason.TheVariants.{InUse, NoCredit, NothingRetried}
use Rattle.chi_transactions.specs.Credits.{credits_at, may_grant, no_credits, unused_of, with_event}
use Rattle.chi_transactions.specs.Flits.{account_of, number_at, role}
use Rattle.chi_transactions.specs.History.{Event, IsAccepted, IsCovered, behind, event_by, tally, with_some, CreditsAreCounted, CreditsAreSpentOnce, CreditsAreGrantedOnce}
use Rattle.chi_transactions.specs.Maps.{put, nothing}
use Rattle.chi_transactions.specs.Rule.{is_in_use, or_else, refused_if}
use Rattle.chi_transactions.specs.State.{State}
use Rattle.chi_transactions.specs.Steps.{after_by, allows_retry, booked, credits_of, found, grant_refusal, lacks_credit, naming_after_by, refusal_by, request_after_by, request_refusal_by, resent_refusal, retry_after_by, retry_refusal_by, snoop_after_by}

-- what a flit does to the credits
abbrev pub booked_some : Option CreditEvent → (ℕ → Option Credits) → Flit → ℕ → Option Credits
booked_some None credits f = credits
booked_some (Some event) credits f = booked event credits f

of_request : (b : Bool) (credits : ℕ → Option Credits) (f : Flit) → (if b then credits else booked Resent credits f) ≡ booked_some (if b then None else Some Resent) credits f
of_request true credits f = refl
of_request false credits f = refl

request_credits : (s : State) (f : Flit) (number : ℕ) (line : Option CacheLine) → request_refusal_by s f line ≡ None → (request_after_by s f number line).credits ≡ booked_some (event_by roles.Request f) s.credits f
request_credits s f number None h = cc
request_credits s f number (Some line) h = of_request (allows_retry f) s.credits f

retry_credits : (s : State) (f : Flit) (number : ℕ) (id : Option OpenId) → retry_refusal_by s f id ≡ None → (retry_after_by s f number id).credits ≡ booked Retried s.credits f
retry_credits s f number None h = cc
retry_credits s f number (Some id) h = refl

snoop_credits : (s : State) (f : Flit) (number : ℕ) (line : Option CacheLine) → (snoop_after_by s f number line).credits ≡ s.credits
snoop_credits s f number None = refl
snoop_credits s f number (Some line) = refl

naming_credits : (s : State) (f : Flit) (there number : ℕ) (id : Option OpenId) → (naming_after_by s f there number id).credits ≡ s.credits
naming_credits s f there number None = refl
naming_credits s f there number (Some id) = refl

pub step_credits : (r : Role) (s : State) (f : Flit) (there number : ℕ) → refusal_by r s f there ≡ None → (after_by r s f there number).credits ≡ booked_some (event_by r f) s.credits f
step_credits roles.Request s f there number h = request_credits s f number (line_of f) h
step_credits roles.CreditReturn s f there number h = refl
step_credits roles.Snoop s f there number h = snoop_credits s f number (line_of f)
step_credits roles.Retry s f there number h = retry_credits s f number (found s f) h
step_credits roles.CreditGrant s f there number h = refl
step_credits roles.NoTransaction s f there number h = refl
step_credits roles.Completion s f there number h = naming_credits s f there number (found s f)
step_credits roles.BufferGrant s f there number h = naming_credits s f there number (found s f)
step_credits roles.Receipt s f there number h = naming_credits s f there number (found s f)
step_credits roles.Answer s f there number h = naming_credits s f there number (found s f)
step_credits roles.Acknowledgement s f there number h = naming_credits s f there number (found s f)
step_credits roles.WriteData s f there number h = naming_credits s f there number (found s f)
step_credits roles.WriteCancel s f there number h = naming_credits s f there number (found s f)

-- one account
booked_at : (event : CreditEvent) (credits : ℕ → Option Credits) (n a : ℕ) → credits_at (cond (eqb n a) (Some (with_event event (credits_at (credits n)))) (credits a)) ≡ cond (eqb n a) (with_event event (credits_at (credits a))) (credits_at (credits a))
booked_at event credits n a =
    elim (cases_Bool (eqb n a)) [
      | inl here ↦ let same : n ≡ a = eqb-true n a here in rw here (ap (λ m. with_event event (credits_at (credits m))) same)
      | inr there ↦ rw there refl
    ]

same_either : (b : Bool) (credits : Credits) → credits ≡ cond b credits credits
same_either true credits = refl
same_either false credits = refl

booked_here : (event : Option CreditEvent) (credits : ℕ → Option Credits) (f : Flit) (a : ℕ) → credits_at (booked_some event credits f a) ≡ cond (eqb (account_of f) a) (with_some event (credits_at (credits a))) (credits_at (credits a))
unfolding put
booked_here None credits f a = same_either (eqb (account_of f) a) (credits_at (credits a))
booked_here (Some event) credits f a = booked_at event credits (account_of f) a

-- the credits that are kept are those of the list
nothing_there : (a : ℕ) → credits_at (nothing {K = ℕ} {V = Credits} a) ≡ no_credits
unfolding nothing
nothing_there a = refl

pub counted : CreditsAreCounted
unfolding behind IsAccepted tally
counted options [] h a = nothing_there a
counted options (e ∷ past) h a =
    let known : credits_at ((behind options past).credits a) ≡ tally past a = counted options past h.0 a in
    let step = step_credits (role e.flit) (behind options past) e.flit e.there (suc (length past)) h.1 in
    ap (λ (credits : ℕ → Option Credits). credits_at (credits a)) step
    ∙ booked_here (event_by (role e.flit) e.flit) (behind options past).credits e.flit a
    ∙ ap (λ (credits : Credits). cond (eqb (account_of e.flit) a) (with_some (event_by (role e.flit) e.flit) credits) credits) known

-- the options stay
request_options : (s : State) (f : Flit) (number : ℕ) (line : Option CacheLine) → (request_after_by s f number line).options ≡ s.options
request_options s f number None = refl
request_options s f number (Some line) = refl

retry_options : (s : State) (f : Flit) (number : ℕ) (id : Option OpenId) → (retry_after_by s f number id).options ≡ s.options
retry_options s f number None = refl
retry_options s f number (Some id) = refl

snoop_options : (s : State) (f : Flit) (number : ℕ) (line : Option CacheLine) → (snoop_after_by s f number line).options ≡ s.options
snoop_options s f number None = refl
snoop_options s f number (Some line) = refl

naming_options : (s : State) (f : Flit) (there number : ℕ) (id : Option OpenId) → (naming_after_by s f there number id).options ≡ s.options
naming_options s f there number None = refl
naming_options s f there number (Some id) = refl

step_options : (r : Role) (s : State) (f : Flit) (there number : ℕ) → (after_by r s f there number).options ≡ s.options
step_options roles.Request s f there number = request_options s f number (line_of f)
step_options roles.CreditReturn s f there number = refl
step_options roles.Snoop s f there number = snoop_options s f number (line_of f)
step_options roles.Retry s f there number = retry_options s f number (found s f)
step_options roles.CreditGrant s f there number = refl
step_options roles.NoTransaction s f there number = refl
step_options roles.Completion s f there number = naming_options s f there number (found s f)
step_options roles.BufferGrant s f there number = naming_options s f there number (found s f)
step_options roles.Receipt s f there number = naming_options s f there number (found s f)
step_options roles.Answer s f there number = naming_options s f there number (found s f)
step_options roles.Acknowledgement s f there number = naming_options s f there number (found s f)
step_options roles.WriteData s f there number = naming_options s f there number (found s f)
step_options roles.WriteCancel s f there number = naming_options s f there number (found s f)

pub same_options : (options : Options) (flits : List Event) → (behind options flits).options ≡ options
unfolding behind
same_options options [] = refl
same_options options (e ∷ past) = step_options (role e.flit) (behind options past) e.flit e.there (suc (length past)) ∙ same_options options past

-- what isn't refused
pub if_none : (b : Bool) (reason : Reason) (rest : Option Reason) → refused_if b reason rest ≡ None → (b ≡ false) × (rest ≡ None)
if_none true reason rest h = cc
if_none false reason rest h = (refl, h)

or_none : (one other : Option Reason) → or_else one other ≡ None → other ≡ None
or_none (Some reason) other h = cc
or_none None other h = h

has_unused : (options : Options) (credits : Credits) → options.begins_in_middle ≡ false → lacks_credit options credits ≡ false → (unused_of credits == 0) ≡ false
has_unused options credits whole h = let h' = rw whole at h in h'

spends : (credits : Credits) → (unused_of credits == 0) ≡ false → credits.resent + credits.returned + 1 ≤ min credits.granted credits.retried
unfolding unused_of
spends credits h = grind (arith, nat_tests)

resent_covered : (s : State) (f : Flit) (line : CacheLine) → s.options.begins_in_middle ≡ false → resent_refusal s f line ≡ None → (unused_of (credits_of s f) == 0) ≡ false
unfolding resent_refusal
resent_covered s f line whole h = has_unused s.options (credits_of s f) whole (if_none (lacks_credit s.options (credits_of s f)) NoCredit None (or_none _ _ h)).0

request_covered_by : (b : Bool) (s : State) (f : Flit) (line : CacheLine) → s.options.begins_in_middle ≡ false → (if b then None else resent_refusal s f line) ≡ None → IsCovered (credits_of s f) → IsCovered (with_some (if b then None else Some Resent) (credits_of s f))
request_covered_by true s f line whole h c = c
request_covered_by false s f line whole h c = let left = spends (credits_of s f) (resent_covered s f line whole h) in omega arith

request_covered : (s : State) (f : Flit) (line : Option CacheLine) → s.options.begins_in_middle ≡ false → request_refusal_by s f line ≡ None → IsCovered (credits_of s f) → IsCovered (with_some (event_by roles.Request f) (credits_of s f))
request_covered s f None whole h c = cc
request_covered s f (Some line) whole h c = request_covered_by (allows_retry f) s f line whole (if_none (is_in_use (s.ids (number_at f))) InUse _ h).1 c

step_covered : (r : Role) (s : State) (f : Flit) (there : ℕ) → s.options.begins_in_middle ≡ false → refusal_by r s f there ≡ None → IsCovered (credits_of s f) → IsCovered (with_some (event_by r f) (credits_of s f))
step_covered roles.Request s f there whole h c = request_covered s f (line_of f) whole h c
step_covered roles.CreditReturn s f there whole h c = let left = spends (credits_of s f) (has_unused s.options (credits_of s f) whole (if_none _ NoCredit None h).0) in omega arith
step_covered roles.Snoop s f there whole h c = c
step_covered roles.Retry s f there whole h c = omega arith
step_covered roles.CreditGrant s f there whole h c = omega arith
step_covered roles.NoTransaction s f there whole h c = c
step_covered roles.Completion s f there whole h c = c
step_covered roles.BufferGrant s f there whole h c = c
step_covered roles.Receipt s f there whole h c = c
step_covered roles.Answer s f there whole h c = c
step_covered roles.Acknowledgement s f there whole h c = c
step_covered roles.WriteData s f there whole h c = c
step_covered roles.WriteCancel s f there whole h c = c

-- what holds of an account before each flit, and then behind it, holds of all
kept_of : (P : Credits → Type 0) (event : Option CreditEvent) (n a : ℕ) (s : State) (before : Credits) → credits_at (s.credits a) ≡ before → P before → (P (credits_at (s.credits n)) → P (with_some event (credits_at (s.credits n)))) → P (cond (eqb n a) (with_some event before) before)
kept_of P event n a s before known p step =
    elim (cases_Bool (eqb n a)) [
      | inl here ↦
          let same : n ≡ a = eqb-true n a here in
          let there : credits_at (s.credits n) ≡ before = ap (λ m. credits_at (s.credits m)) same ∙ known in
          rw here (subst (λ (credits : Credits). P (with_some event credits)) there (step (subst P (sym there) p)))
      | inr there ↦ rw there p
    ]

nothing_covered : IsCovered no_credits
nothing_covered = omega arith

pub spent_once : CreditsAreSpentOnce
unfolding IsAccepted tally
spent_once options [] whole h a = nothing_covered
spent_once options (e ∷ past) whole h a =
    kept_of IsCovered (event_by (role e.flit) e.flit) (account_of e.flit) a (behind options past) (tally past a) (counted options past h.0 a) (spent_once options past whole h.0 a)
    (step_covered (role e.flit) (behind options past) e.flit e.there (ap (λ (o : Options). o.begins_in_middle) (same_options options past) ∙ whole) h.1)

-- grants
abbrev IsGranted : Credits → Type 0
IsGranted credits = credits.granted ≤ credits.retried

grants : (credits : Credits) → may_grant credits 0 ≡ true → credits.granted + 1 ≤ credits.retried
unfolding may_grant
grants credits h = let below = ltb-true _ _ h in omega arith

granted_by : (options : Options) (s : State) (f : Flit) → s.options ≡ options → options.begins_in_middle ≡ false → options.early_grants ≡ false → grant_refusal s f ≡ None → may_grant (credits_of s f) 0 ≡ true
granted_by options s f same whole late h =
    let whole' : s.options.begins_in_middle ≡ false = ap (λ (o : Options). o.begins_in_middle) same ∙ whole in
    let late' : s.options.early_grants ≡ false = ap (λ (o : Options). o.early_grants) same ∙ late in
    let open' = (if_none _ NothingRetried None h).0 in
    let judged = rw (whole', late') at open' in
    not_not (may_grant (credits_of s f) 0) judged
  where
    not_not : (b : Bool) → not b ≡ false → b ≡ true
    not_not true h = refl
    not_not false h = cc

step_granted : (r : Role) (options : Options) (s : State) (f : Flit) (there : ℕ) → s.options ≡ options → options.begins_in_middle ≡ false → options.early_grants ≡ false → refusal_by r s f there ≡ None → IsGranted (credits_of s f) → IsGranted (with_some (event_by r f) (credits_of s f))
step_granted roles.Request options s f there same whole late h c = by_retry (allows_retry f)
  where
    by_retry : (b : Bool) → IsGranted (with_some (if b then None else Some Resent) (credits_of s f))
    by_retry true = c
    by_retry false = c
step_granted roles.CreditReturn options s f there same whole late h c = c
step_granted roles.Snoop options s f there same whole late h c = c
step_granted roles.Retry options s f there same whole late h c = omega arith
step_granted roles.CreditGrant options s f there same whole late h c = let left = grants (credits_of s f) (granted_by options s f same whole late h) in omega arith
step_granted roles.NoTransaction options s f there same whole late h c = c
step_granted roles.Completion options s f there same whole late h c = c
step_granted roles.BufferGrant options s f there same whole late h c = c
step_granted roles.Receipt options s f there same whole late h c = c
step_granted roles.Answer options s f there same whole late h c = c
step_granted roles.Acknowledgement options s f there same whole late h c = c
step_granted roles.WriteData options s f there same whole late h c = c
step_granted roles.WriteCancel options s f there same whole late h c = c

pub granted_once : CreditsAreGrantedOnce
unfolding IsAccepted tally
granted_once options [] whole late h a = omega arith
granted_once options (e ∷ past) whole late h a =
    kept_of IsGranted (event_by (role e.flit) e.flit) (account_of e.flit) a (behind options past) (tally past a) (counted options past h.0 a) (granted_once options past whole late h.0 a)
    (step_granted (role e.flit) options (behind options past) e.flit e.there (same_options options past) whole late h.1)
