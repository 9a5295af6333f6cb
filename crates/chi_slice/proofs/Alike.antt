-- What lets one line refuse another's action.
use Rattle.std.proofs.Common.{◌≡◌, ◌≢◌, ℕ, ◌%◌, ◌==◌, nat_lt, List, [], ◌∷◌, Bool, true, false, not, ◌&&◌, Option, Some, None, refl, sym, ◌∙◌, ap}
use Rattle.std.specs.Option.{option_or}
use Rattle.chi_flit.specs.declared.action.Action.{Action}
use Rattle.chi_flit.specs.declared.credit.Profile.{Profile}
use Rattle.chi_flit.specs.declared.refusal.Refusal.{Refusal}
use Rattle.chi_flit.specs.declared.refusal.Refusal.TheVariants.{NoCredit, OutOfRange}
use Rattle.chi_line.specs.Meaning.{standing_of}
use Rattle.chi_line.specs.Protocol.{Standing}
use Rattle.chi_line.specs.RefusalRows.{Room, refusal_row, refused_if}
use Rattle.chi_line.specs.Step.{is_step_in_range}
use Rattle.chi_flit.specs.Config.{Sizes}
use Rattle.chi_slice.specs.Run.{AreAlike, AreElsewhere, IsRun, IsSameRoom, IsTried}
use Rattle.chi_slice.specs.Protocol.{lacks_credit, refused, refused_with, room_for}
use Rattle.chi_slice.specs.Slice.{SliceState, is_in_range, is_line_in_range, line}
use Rattle.chi_slice.proofs.Rows.{both}
use Rattle.chi_slice.proofs.Runs.{run_keeps, tried_keeps}

-- the refusal by what it depends on
abbrev refusal_by : List Bool → Action → Bool → Room → Profile → Standing → Option Refusal
refusal_by credits action inside room profile l =
    option_or (refused_if (not inside) OutOfRange (refusal_row room l action.agent action.step))
    (refused_if (lacks_credit credits profile (l.pending action.agent) action.step) NoCredit None)

refusal_same : (credits : List Bool) (action : Action) (i i' : Bool) (r r' : Room) (p p' : Profile) (l l' : Standing) → i ≡ i' → r ≡ r' → p ≡ p' → l ≡ l'
    → refusal_by credits action i r p l ≡ refusal_by credits action i' r' p' l'
refusal_same credits action i i' r r' p p' l l' is rs ps ls =
    ap (λ (x : Bool). refusal_by credits action x r p l) is
    ∙ (ap (λ (x : Room). refusal_by credits action i' x p l) rs
    ∙ (ap (λ (x : Profile). refusal_by credits action i' r' x l) ps
    ∙ ap (λ (x : Standing). refusal_by credits action i' r' p' x) ls))

pub alike_refused : (credits : List Bool) (s t : SliceState) (action : Action) → AreAlike s t action → refused_with credits t action ≡ refused_with credits s action
alike_refused credits s t action alike = refusal_same credits action _ _ _ _ _ _ _ _ alike.range alike.room alike.profile alike.line

out_of_range : (credits : List Bool) (s : SliceState) (action : Action) → is_in_range s action ≡ false → refused_with credits s action ≡ Some OutOfRange
out_of_range credits s action out = ap (λ (b : Bool). refusal_by credits action b (room_for s action.agent action.step) s.config.profile (standing_of (line s action.line.0))) out

-- a line that is in the slice stays through a run of actions on others
tried_stays : (refusal : Option Refusal) (old : SliceState) (other : Action) (new : SliceState) (l : ℕ) → IsTried refusal old other new → is_line_in_range old l ≡ true → l ≢ other.line.0 → line new l ≡ line old l
tried_stays None old other new l done here apart = done.1.others l here apart
tried_stays (Some refusal) old other new l same here apart = ap (λ (v : SliceState). line v l) same

range_stays : (s t : SliceState) (l : ℕ) → t.config ≡ s.config → t.index ≡ s.index → is_line_in_range t l ≡ is_line_in_range s l
range_stays s t l config index =
    ap (λ (c : Sizes). nat_lt l c.lines && (l % c.slices == t.index)) config ∙ ap (λ (n : ℕ). nat_lt l s.config.lines && (l % s.config.slices == n)) index

run_stays : (old : SliceState) (actions : List Action) (done : ℕ) (new : SliceState) (action : Action) → IsRun old actions done new → AreElsewhere actions action → is_line_in_range old action.line.0 ≡ true → line new action.line.0 ≡ line old action.line.0
run_stays old [] done new action run away here = ap (λ (v : SliceState). line v action.line.0) run.1
run_stays old (other ∷ others) done new action run away here =
    let kept = tried_keeps (refused old other) old other run.0 run.2 in
    run_stays run.0 others run.1 new action run.3 away.1 (range_stays old run.0 action.line.0 kept.0 kept.1 ∙ here)
    ∙ tried_stays (refused old other) old other run.0 action.line.0 run.2 here away.0

-- so it refuses an action as before, where there is room for it as before
pub run_refused : (credits : List Bool) (old new : SliceState) (actions : List Action) (done : ℕ) (action : Action) → IsRun old actions done new → AreElsewhere actions action → IsSameRoom old new action
    → refused_with credits new action ≡ refused_with credits old action
run_refused credits old new actions done action run away room = go (is_in_range old action) refl
  where
    kept : (new.config ≡ old.config) × (new.index ≡ old.index)
    kept = run_keeps old actions done new run

    range : is_in_range new action ≡ is_in_range old action
    range =
        ap (λ (c : Sizes). nat_lt action.agent.0 c.agents && (is_line_in_range new action.line.0 && is_step_in_range action.step)) kept.0
        ∙ ap (λ (b : Bool). nat_lt action.agent.0 old.config.agents && (b && is_step_in_range action.step)) (range_stays old new action.line.0 kept.0 kept.1)

    go : (b : Bool) → is_in_range old action ≡ b → refused_with credits new action ≡ refused_with credits old action
    go true inside =
        let here = both (is_line_in_range old action.line.0) (is_step_in_range action.step) (both (nat_lt action.agent.0 old.config.agents) _ inside).1 in
        alike_refused credits old new action (record { range = range; line = ap standing_of (run_stays old actions done new action run away here.0); profile = ap (λ (c : Sizes). c.profile) kept.0; room = room })
    go false out = out_of_range credits new action (range ∙ out) ∙ sym (out_of_range credits old action out)
