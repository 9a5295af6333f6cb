-- A trace with a flit that isn't allowed has that fault whatever follows it.
use Rattle.std.proofs.Common.{◌≡◌, ℕ, ◌+◌, List, [], ◌∷◌, ◌++◌, Option, Some, None, Result, Ok, Err, length, refl, sym, subst, ap, ◌∙◌, arith}
use Rattle.std.specs.Prelude.{IfOk, IfSome}
use Rattle.chi_trace.specs.declared.flits.Seen.{Seen}
use Rattle.chi_resolution.specs.declared.reasons.IdFault.{IdFault}
use Rattle.chi_resolution.specs.declared.reasons.IdReason.{IdReason}
use Rattle.chi_resolution.specs.declared.resolution.Allowed.{Allowed}
use Rattle.chi_resolution.specs.declared.resolution.Options.{Options}
use Rattle.chi_resolution.specs.Resolution.{IdOutcome, IdProgress, IsFirstRefused, allowed_of, ended, nothing, resolution_of, resolved_from, taken}
use Rattle.chi_resolution.proofs.Steps.{none_left}

-- the same from a flit on, of number at
record Refuses (options : Options) (at : ℕ) (progress : IdProgress) (seen : List Seen) (fault : IdFault) : Type 0 where
  before : List Seen
  one : Seen
  after : List Seen
  is : seen ≡ before ++ one ∷ after
  place : fault.at ≡ at + length before
  ever : (more : List Seen) → (resolved_from options at progress (before ++ one ∷ more)).fault ≡ Some fault

-- the next flit is allowed, or isn't
next_is : (options : Options) (at : ℕ) (progress : IdProgress) (first : Seen) (rest : List Seen) (next : Result Allowed IdReason) → allowed_of options progress first ≡ next
    → resolved_from options at progress (first ∷ rest) ≡ ended at progress next (λ allowed. resolved_from options (at + 1) (taken at allowed progress) rest)
unfolding resolved_from
next_is options at progress first rest next is = ap (λ (n : Result Allowed IdReason). ended at progress n (λ allowed. resolved_from options (at + 1) (taken at allowed progress) rest)) is

later : (options : Options) (at : ℕ) (progress : IdProgress) (first : Seen) (rest : List Seen) (fault : IdFault) (step : Allowed) → allowed_of options progress first ≡ Ok step → Refuses options (at + 1) (taken at step progress) rest fault
    → Refuses options at progress (first ∷ rest) fault
later options at progress first rest fault step is r = record {
  before = first ∷ r.before;
  one = r.one;
  after = r.after;
  is = ap (λ (l : List Seen). first ∷ l) r.is;
  place = omega (arith, r.place);
  ever = λ more. ap (λ (o : IdOutcome). o.fault) (next_is options at progress first (r.before ++ r.one ∷ more) (Ok step) is) ∙ r.ever more;
}

now : (options : Options) (at : ℕ) (progress : IdProgress) (first : Seen) (rest : List Seen) (reason : IdReason) → allowed_of options progress first ≡ Err reason → Refuses options at progress (first ∷ rest) (record { at = at; reason = reason })
now options at progress first rest reason is = record {
  before = [];
  one = first;
  after = rest;
  is = refl;
  place = omega arith;
  ever = λ more. ap (λ (o : IdOutcome). o.fault) (next_is options at progress first more (Err reason) is);
}

same_fault : (a b : IdFault) → ◌≡◌ {A = Option IdFault} (Some a) (Some b) → a ≡ b
same_fault a b e = cc (e)

refuses : (options : Options) (at : ℕ) (progress : IdProgress) (seen : List Seen) (fault : IdFault) → (resolved_from options at progress seen).fault ≡ Some fault → Refuses options at progress seen fault
refuses options at progress [] fault e = absurd (cc (sym (ap (λ (o : IdOutcome). o.fault) (none_left options at progress)) ∙ e))
refuses options at progress (first ∷ rest) fault e = go (allowed_of options progress first) refl (λ step. refuses options (at + 1) (taken at step progress) rest fault)
  where
    go : (next : Result Allowed IdReason) → allowed_of options progress first ≡ next → ((step : Allowed) → (resolved_from options (at + 1) (taken at step progress) rest).fault ≡ Some fault → Refuses options (at + 1) (taken at step progress) rest fault)
        → Refuses options at progress (first ∷ rest) fault
    go (Ok step) is more = later options at progress first rest fault step is (more step (sym (ap (λ (o : IdOutcome). o.fault) (next_is options at progress first rest (Ok step) is)) ∙ e))
    go (Err reason) is more =
        subst (Refuses options at progress (first ∷ rest))
        (same_fault (record { at = at; reason = reason }) fault (sym (ap (λ (o : IdOutcome). o.fault) (next_is options at progress first rest (Err reason) is)) ∙ e))
        (now options at progress first rest reason is)

first_refused : (options : Options) (seen : List Seen) (fault : Option IdFault) → (resolution_of options seen).fault ≡ fault → IfSome fault (IsFirstRefused options seen)
first_refused options seen None e = tt
first_refused options seen (Some fault) e =
    let r = refuses options 0 nothing seen fault e in
    record { before = r.before; one = r.one; after = r.after; is = r.is; place = omega (arith, r.place); ever = r.ever }

pub refused_where : {R E : Type 0} (options : Options) (seen : List Seen) (result : Result R E) (of : R → Option IdFault) → IfOk result (λ r. of r ≡ (resolution_of options seen).fault) → IfOk result (λ r. IfSome (of r) (IsFirstRefused options seen))
refused_where options seen (Ok r) of same = subst (λ (f : Option IdFault). IfSome f (IsFirstRefused options seen)) (sym same) (first_refused options seen (resolution_of options seen).fault refl)
refused_where options seen (Err e) of same = tt
