-- Of each delivery whether it is enabled; and each is a call of the requester's own.
use Rattle.std.proofs.Common.{◌≡◌, ℕ, ◌<◌, ◌&&◌, List, [], ◌∷◌, Bool, true, false, not, All, map, length, get_or, Option, Some, None, is_some, refl, sym, subst, if◌then◌else◌, nat_lt, slice_get}
use Rattle.std.specs.Bool.{⊤}
use Rattle.std.specs.List.{filter}
use Rattle.std.proofs.lemmas.List.Elements.{All-cons, All-filter, All-get_or, All-nil}
use Rattle.std.proofs.lemmas.Option.{slice_get-get_or, slice_get_within}
use Rattle.chi_flit.specs.declared.action.Step.{Step}
use Rattle.chi_flit.specs.declared.action.Step.TheVariants as steps
use Rattle.chi_flit.specs.declared.numbers.Line.{Line}
use Rattle.chi_flit.specs.declared.refusal.Refusal.{Refusal}
use Rattle.chi_flit.specs.declared.refusal.Refusal.TheVariants.{OutOfRange}
use Rattle.chi_slice.specs.Words.{Cells, cells_of, has_flit, no_flit_unless, step_refusal}
use Rattle.chi_slice.specs.Slice.{SliceState, are_in_range, conditions_under, is_line_in_range, line, each_credit}
use Rattle.chi_agent.specs.Choice.{IsOwnCall, deliveries, is_enabled}
use Rattle.chi_agent.specs.declared.choice.Call.{Call}

-- a flit to or from an agent that is there, at a line that is there
flit : (a b there : Bool) → (a && b) ≡ true → there ≡ not (is_some (if a && (b && true) then no_flit_unless there else Some OutOfRange))
flit true true true inside = refl
flit true true false inside = refl
flit true false there inside = absurd (cc (inside))
flit false b there inside = absurd (cc (inside))

start : (a b : Bool) (refusal : Option Refusal) → (a && b) ≡ true → not (is_some refusal) ≡ not (is_some (if a && (b && true) then refusal else Some OutOfRange))
start true true refusal inside = refl
start true false refusal inside = absurd (cc (inside))
start false b refusal inside = absurd (cc (inside))

pub cons : {X : Type 0} {x y : X} {xs ys : List X} → x ≡ y → xs ≡ ys → x ∷ xs ≡ y ∷ ys
cons one others = λ i. one i ∷ others i

abbrev pub start_refused : SliceState → ℕ → Line → Option Refusal
start_refused s n l =
    step_refusal (conditions_under each_credit s (record { agent = record { 0 = n }; line = l; step = steps.Start })) (line s l.0) (record { 0 = n }) steps.Start

abbrev marks_of : Cells → Bool → List Bool
marks_of cells startable =
    has_flit cells steps.RecvSnp ∷ has_flit cells steps.RecvRetry ∷ has_flit cells steps.RecvData ∷ has_flit cells steps.RecvComp ∷ has_flit cells steps.RecvDbid
    ∷ has_flit cells steps.Admit ∷ startable
    ∷ has_flit cells steps.RecvSnpResp ∷ has_flit cells steps.RecvAck ∷ has_flit cells steps.RecvWrData ∷ []

here : (s : SliceState) (n : ℕ) (l : Line) → are_in_range s n l.0 ≡ true → marks_of (cells_of (line s l.0) n) (not (is_some (start_refused s n l))) ≡ map (is_enabled s n l) deliveries
here s n l inside =
    let there : (step : Step) → has_flit (cells_of (line s l.0) n) step
    ≡ not (is_some (if nat_lt n s.config.agents && (is_line_in_range s l.0 && true) then no_flit_unless (has_flit (cells_of (line s l.0) n) step) else Some OutOfRange)) =
    λ step. flit (nat_lt n s.config.agents) (is_line_in_range s l.0) (has_flit (cells_of (line s l.0) n) step) inside in
    cons (there steps.RecvSnp) (cons (there steps.RecvRetry) (cons (there steps.RecvData) (cons (there steps.RecvComp) (cons (there steps.RecvDbid)
    (cons (there steps.Admit) (cons (start (nat_lt n s.config.agents) (is_line_in_range s l.0) (start_refused s n l) inside)
    (cons (there steps.RecvSnpResp) (cons (there steps.RecvAck) (cons (there steps.RecvWrData) refl)))))))))

-- the marks at a line that is there, by its flits and by whether a start is refused
pub marks_are : (s : SliceState) (n : ℕ) (l : Line) (cells : Cells) (startable : Bool) → are_in_range s n l.0 ≡ true → cells ≡ cells_of (line s l.0) n → startable ≡ not (is_some (start_refused s n l))
    → marks_of cells startable ≡ map (is_enabled s n l) deliveries
marks_are s n l cells startable inside is may =
    subst (λ (b : Bool). marks_of cells b ≡ map (is_enabled s n l) deliveries) (sym may)
    (subst (λ (c : Cells). marks_of c (not (is_some (start_refused s n l))) ≡ map (is_enabled s n l) deliveries) (sym is) (here s n l inside))

-- each delivery is a call of the requester's own
abbrev AreOwn : List Call → Type 0
AreOwn [] = ⊤
AreOwn (call ∷ others) = IsOwnCall call × AreOwn others

all_own : (these : List Call) → AreOwn these → All IsOwnCall these
all_own [] own = All-nil IsOwnCall
all_own (call ∷ others) own = All-cons IsOwnCall call others own.0 (all_own others own.1)

each_own : All IsOwnCall deliveries
each_own = all_own deliveries (refl, (refl, (refl, (refl, (refl, (tt, (refl, (refl, (refl, (refl, tt))))))))))

pub own_call : (f : Call → Bool) (i : ℕ) (call : Call) → slice_get (filter f deliveries) i ≡ Some call → IsOwnCall call
own_call f i call is =
    let low : i < length (filter f deliveries) = slice_get_within (filter f deliveries) i call is in
    let at : slice_get (filter f deliveries) i ≡ Some (get_or (filter f deliveries) i call) = slice_get-get_or (filter f deliveries) i call low in
    let same : get_or (filter f deliveries) i call ≡ call = cc (at, is) in
    subst IsOwnCall same (All-get_or IsOwnCall (filter f deliveries) i call low (All-filter f IsOwnCall deliveries each_own))
