-- The flits are taken one after the other, as a loop does.
use Rattle.std.proofs.Common.{◌≡◌, ℕ, ◌+◌, ◌<◌, ◌≤◌, List, [], ◌∷◌, ◌++◌, Result, Ok, Err, Option, Some, None, length, drop, get_or, refl, sym, ap, ◌∙◌, drop-cons, add-one, arith}
use Rattle.std.proofs.lemmas.List.{drop_all}
use Rattle.chi_trace.specs.declared.flits.Seen.{Seen}
use Rattle.chi_resolution.specs.declared.reasons.IdReason.{IdReason}
use Rattle.chi_resolution.specs.declared.resolution.Options.{Options}
use Rattle.chi_resolution.specs.declared.resolution.Allowed.{Allowed}
use Rattle.chi_resolution.specs.Resolution.{IdOutcome, IdProgress, allowed_of, ended, nothing, resolution_of, resolved_from, more_by, resolved_more, stepped, stepped_by, taken, told_of}

-- no flit is left
pub none_left : (options : Options) (at : ℕ) (progress : IdProgress) → resolved_from options at progress [] ≡ record { progress = progress; fault = None }
unfolding resolved_from
none_left options at progress = refl

-- the next is allowed
allowed_case : (at : ℕ) (progress next : IdProgress) (allowed : Result Allowed IdReason) (rest : IdProgress → IdOutcome) → ◌≡◌ {A = IdProgress × Option IdReason} (next, None) (stepped_by at progress allowed) → ended at progress allowed (λ step. rest (taken at step progress)) ≡ rest next
allowed_case at progress next (Ok step) rest e = ap (λ (p : IdProgress × Option IdReason). rest p.0) (sym e)
allowed_case at progress next (Err reason) rest e = let no : None ≡ Some reason = ap (λ (p : IdProgress × Option IdReason). p.1) e in cc

pub one_more : (options : Options) (at : ℕ) (progress next : IdProgress) (seen : Seen) (rest : List Seen) → ◌≡◌ {A = IdProgress × Option IdReason} (next, None) (stepped options at progress seen)
    → resolved_from options at progress (seen ∷ rest) ≡ resolved_from options (at + 1) next rest
unfolding resolved_from
one_more options at progress next seen rest e = allowed_case at progress next (allowed_of options progress seen) (λ p. resolved_from options (at + 1) p rest) e

-- the next isn't
refused_case : (at : ℕ) (progress next : IdProgress) (reason : IdReason) (allowed : Result Allowed IdReason) (rest : Allowed → IdOutcome) → ◌≡◌ {A = IdProgress × Option IdReason} (next, Some reason) (stepped_by at progress allowed)
    → ended at progress allowed rest ≡ record { progress = next; fault = Some (record { at = at; reason = reason }) }
refused_case at progress next reason (Ok step) rest e = let no : Some reason ≡ None = ap (λ (p : IdProgress × Option IdReason). p.1) e in cc
refused_case at progress next reason (Err told) rest e =
    let first : next ≡ progress = ap (λ (p : IdProgress × Option IdReason). p.0) e in
    let second : Some reason ≡ Some told = ap (λ (p : IdProgress × Option IdReason). p.1) e in
    let same : reason ≡ told = cc in
    λ i. record { progress = sym first i; fault = Some (record { at = at; reason = sym same i }) }

pub one_refused : (options : Options) (at : ℕ) (progress next : IdProgress) (reason : IdReason) (seen : Seen) (rest : List Seen) → ◌≡◌ {A = IdProgress × Option IdReason} (next, Some reason) (stepped options at progress seen)
    → resolved_from options at progress (seen ∷ rest) ≡ record { progress = next; fault = Some (record { at = at; reason = reason }) }
unfolding resolved_from
one_refused options at progress next reason seen rest e = refused_case at progress next reason (allowed_of options progress seen) (λ step. resolved_from options (at + 1) (taken at step progress) rest) e

-- the flits from a place on: the one there, and those behind it
first_of : (seen : List Seen) (at : ℕ) (d : Seen) → at < length seen → drop at seen ≡ get_or seen at d ∷ drop (at + 1) seen
first_of seen at d low = rw add-one (drop-cons seen at d low)

-- as far as a loop has come, and one flit further
pub goes_on : (options : Options) (seen : List Seen) (at : ℕ) (progress next : IdProgress) (d : Seen) (total : IdOutcome) → at < length seen
    → ◌≡◌ {A = IdProgress × Option IdReason} (next, None) (stepped options at progress (get_or seen at d))
    → resolved_from options at progress (drop at seen) ≡ total → resolved_from options (at + 1) next (drop (at + 1) seen) ≡ total
goes_on options seen at progress next d total low takes so_far =
    sym (one_more options at progress next (get_or seen at d) (drop (at + 1) seen) takes) ∙ (ap (resolved_from options at progress) (sym (first_of seen at d low)) ∙ so_far)

-- the first flit that isn't allowed ends it
pub stops : (options : Options) (seen : List Seen) (at : ℕ) (progress next : IdProgress) (reason : IdReason) (d : Seen) (total : IdOutcome) → at < length seen
    → ◌≡◌ {A = IdProgress × Option IdReason} (next, Some reason) (stepped options at progress (get_or seen at d))
    → resolved_from options at progress (drop at seen) ≡ total → record { progress = next; fault = Some (record { at = at; reason = reason }) } ≡ total
stops options seen at progress next reason d total low refuses so_far =
    sym (one_refused options at progress next reason (get_or seen at d) (drop (at + 1) seen) refuses) ∙ (ap (resolved_from options at progress) (sym (first_of seen at d low)) ∙ so_far)

-- so does the last
pub is_done : (options : Options) (seen : List Seen) (at : ℕ) (progress : IdProgress) (total : IdOutcome) → length seen ≤ at
    → resolved_from options at progress (drop at seen) ≡ total → record { progress = progress; fault = None } ≡ total
is_done options seen at progress total past so_far =
    sym (none_left options at progress) ∙ (ap (resolved_from options at progress) (sym (drop_all at seen past)) ∙ so_far)

-- one flit more behind those that were taken
last_case : (at : ℕ) (progress : IdProgress) (allowed : Result Allowed IdReason) (rest : Allowed → IdOutcome) → ((step : Allowed) → rest step ≡ record { progress = taken at step progress; fault = None })
    → ended at progress allowed rest ≡ told_of at (stepped_by at progress allowed).0 (stepped_by at progress allowed).1
last_case at progress (Ok step) rest h = h step
last_case at progress (Err reason) rest h = refl

last_one : (options : Options) (at : ℕ) (progress : IdProgress) (seen : Seen) → resolved_from options at progress (seen ∷ []) ≡ more_by options at progress seen None
unfolding resolved_from
last_one options at progress seen = last_case at progress (allowed_of options progress seen) (λ step. resolved_from options (at + 1) (taken at step progress) []) (λ step. none_left options (at + 1) (taken at step progress))

ended_more : (options : Options) (at n : ℕ) (progress : IdProgress) (seen : Seen) (allowed : Result Allowed IdReason) (rest shorter : Allowed → IdOutcome) → ((step : Allowed) → rest step ≡ resolved_more options n (shorter step) seen)
    → ended at progress allowed rest ≡ resolved_more options n (ended at progress allowed shorter) seen
ended_more options at n progress seen (Ok step) rest shorter h = h step
ended_more options at n progress seen (Err reason) rest shorter h = refl

more_from : (options : Options) (at : ℕ) (progress : IdProgress) (front : List Seen) (seen : Seen) → resolved_from options at progress (front ++ (seen ∷ [])) ≡ resolved_more options (at + length front) (resolved_from options at progress front) seen
unfolding resolved_from
more_from options at progress [] seen =
    let same : at ≡ at + length {A = Seen} [] = omega arith in
    last_one options at progress seen ∙ ap (λ (n : ℕ). more_by options n progress seen None) same
more_from options at progress (first ∷ front) seen =
    let same : at + 1 + length front ≡ at + length (first ∷ front) = omega arith in
    ended_more options at (at + length (first ∷ front)) progress seen (allowed_of options progress first) (λ step. resolved_from options (at + 1) (taken at step progress) (front ++ (seen ∷ []))) (λ step. resolved_from options (at + 1) (taken at step progress) front)
    (λ step. more_from options (at + 1) (taken at step progress) front seen ∙ ap (λ (n : ℕ). resolved_more options n (resolved_from options (at + 1) (taken at step progress) front) seen) same)

pub resolution_more : (options : Options) (front : List Seen) (seen : Seen) → resolution_of options (front ++ (seen ∷ [])) ≡ resolved_more options (length front) (resolution_of options front) seen
resolution_more options front seen =
    let same : 0 + length front ≡ length front = omega arith in
    more_from options 0 nothing front seen ∙ ap (λ (n : ℕ). resolved_more options n (resolution_of options front) seen) same
