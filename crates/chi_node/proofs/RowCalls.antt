-- A call in a row that the slice was asked for: what refuses it is what refuses the call.
use Rattle.std.proofs.Common.{◌≡◌, ◌∙◌, ℕ, ◌&&◌, List, Bool, true, false, nat_lt, Some, None, is_some, refl, sym, ap, subst, if◌then◌else◌}
use Rattle.chi_flit.specs.declared.action.Action.{Action}
use Rattle.chi_flit.specs.declared.action.Step.TheVariants as steps
use Rattle.chi_flit.specs.declared.message.Request.{Request}
use Rattle.chi_flit.specs.declared.numbers.Line.{Line}
use Rattle.chi_flit.specs.declared.refusal.Refusal.{Refusal}
use Rattle.chi_flit.specs.declared.refusal.Refusal.TheVariants.{OutOfRange, Pending}
use Rattle.chi_slice.specs.Protocol.{refused_with}
use Rattle.chi_slice.specs.Words.{cells_of, is_step_in_range, line_refusal, no_flit_unless}
use Rattle.chi_slice.specs.Slice.{IsRowOf, SliceKept, SliceState, are_in_range, conditions_under, flits_refusal, is_line_in_range, line, line_in_row, each_credit, is_in_range, refused_under}
use Rattle.chi_slice.specs.Index.{SlotsInRange}
use Rattle.chi_slice.proofs.AgentRows.{with_step}
use Rattle.chi_slice.proofs.Refused.{refused_is, with_credits_is}
use Rattle.chi_node.specs.Calls.{BothKept}
use Rattle.chi_node.specs.Requester.{RequesterKept, RequesterState}
use Rattle.chi_node.specs.Outstanding.{Outstanding, arrival_refusal, credits_for, names_taken, step_refusal}

-- the Admit that an arrival is refused as
abbrev pub admission : ℕ → ℕ → Action
admission n l = record { agent = record { 0 = n }; line = record { 0 = l }; step = steps.Admit }

-- what is refused in a row is the want of a flit
pub flit_wanted : (s : SliceState) (n l : ℕ) → are_in_range s n l ≡ true → arrival_refusal s n l ≡ no_flit_unless (is_some (cells_of (line s l) n).req)
flit_wanted s n l inside =
    sym (refused_is s (admission n l))
    ∙ ap (λ (b : Bool). if b then no_flit_unless (is_some (cells_of (line s l) n).req) else Some OutOfRange) (with_step (nat_lt n s.config.agents) (is_line_in_range s l) true inside refl)

pub refused_there : (s : SliceState) (n l row : ℕ) → IsRowOf s n l row → arrival_refusal s n l ≡ no_flit_unless (is_some (cells_of (line_in_row s row) n).req)
refused_there s n l row at = flit_wanted s n l at.inside ∙ ap (λ (r : ℕ). no_flit_unless (is_some (cells_of (line_in_row s r) n).req)) (sym at.is)

-- what is known where the request of an arrival isn't refused
pub record CanArriveOn (s : SliceState) (r : RequesterState) (l : Line) (request : Request) : Type 0 where
  pub kept : SliceKept s
  pub numbers : SlotsInRange s
  pub inside : are_in_range s r.number l.0 ≡ true
  pub flit : (cells_of (line s l.0) r.number).req ≡ Some request
  pub requester : RequesterKept r.port.shape.sizes r

pub arrival_there : (s : SliceState) (r : RequesterState) (l : Line) (row : ℕ) (request : Request) → BothKept s r → IsRowOf s r.number l.0 row → (cells_of (line_in_row s row) r.number).req ≡ Some request → CanArriveOn s r l request
arrival_there s r l row request kept at flit = record {
  kept = kept.slice;
  numbers = kept.slots;
  inside = at.inside;
  flit = subst (λ (n : ℕ). (cells_of (line_in_row s n) r.number).req ≡ Some request) at.is flit;
  requester = kept.requester;
}

-- an action whose agent or line isn't there
outside : (credits : List Bool) (s : SliceState) (action : Action) (refusal : Refusal) → Some refusal ≡ flits_refusal s action.agent.0 action.line.0 → refused_under credits s action ≡ Some refusal
outside credits s action refusal told = go (nat_lt action.agent.0 s.config.agents) (is_line_in_range s action.line.0) (is_step_in_range action.step) told
  where
    go : (a b c : Bool) → Some refusal ≡ (if a && b then None else Some OutOfRange)
        → (if a && (b && c) then line_refusal (conditions_under credits s action) (line s action.line.0) action else Some OutOfRange) ≡ Some refusal
    go true true c told = absurd (cc (told))
    go true false c told = sym told
    go false b c told = sym told

-- a step that names no slot which isn't Idle
free_refusal : (s : SliceState) (r : Outstanding) (action : Action) → (is_in_range s action && names_taken r.slots action.step) ≡ false → step_refusal s r action ≡ refused_with (credits_for r action.step) s action
free_refusal s r action free = ap (λ (b : Bool). if b then Some Pending else refused_with (credits_for r action.step) s action) free

none_taken : (inside taken : Bool) → taken ≡ false → (inside && taken) ≡ false
none_taken true taken free = free
none_taken false taken free = refl

pub idle_refusal : (s : SliceState) (r : Outstanding) (action : Action) → names_taken r.slots action.step ≡ false → step_refusal s r action ≡ refused_with (credits_for r action.step) s action
idle_refusal s r action free = free_refusal s r action (none_taken (is_in_range s action) (names_taken r.slots action.step) free)

-- what isn't refused to the requester isn't refused with its credits
pub allowed_with : (s : SliceState) (r : Outstanding) (action : Action) → step_refusal s r action ≡ None → refused_with (credits_for r action.step) s action ≡ None
allowed_with s r action may = go (is_in_range s action && names_taken r.slots action.step) may
  where
    go : (b : Bool) → (if b then Some Pending else refused_with (credits_for r action.step) s action) ≡ None → refused_with (credits_for r action.step) s action ≡ None
    go true may = absurd (cc (may))
    go false may = may

pub row_refused : (s : SliceState) (r : Outstanding) (action : Action) (refusal : Refusal) → Some refusal ≡ flits_refusal s action.agent.0 action.line.0 → step_refusal s r action ≡ Some refusal
row_refused s r action refusal told =
    free_refusal s r action (out (nat_lt action.agent.0 s.config.agents) (is_line_in_range s action.line.0) (is_step_in_range action.step) (names_taken r.slots action.step) told)
    ∙ (sym (with_credits_is (credits_for r action.step) s action) ∙ outside (credits_for r action.step) s action refusal told)
  where
    out : (a b c taken : Bool) → Some refusal ≡ (if a && b then None else Some OutOfRange) → ((a && (b && c)) && taken) ≡ false
    out true true c taken told = absurd (cc (told))
    out true false c taken told = refl
    out false b c taken told = refl

pub arrival_refused : (s : SliceState) (n l : ℕ) (refusal : Refusal) → Some refusal ≡ flits_refusal s n l → arrival_refusal s n l ≡ Some refusal
arrival_refused s n l refusal told = sym (refused_is s (admission n l)) ∙ outside each_credit s (admission n l) refusal told
