-- What an action that was done gives and leaves.
use Rattle.std.proofs.Common.{◌≡◌, ℕ, Bool, List, None, Some, Option, Ok, Err, refl, sym, ◌∙◌, ap, subst, set, get_or}
use Rattle.std.proofs.lemmas.List.{set-get_or}
use Rattle.chi_flit.specs.declared.numbers.Slot.{Slot}
use Rattle.chi_flit.specs.declared.action.Action.{Action}
use Rattle.chi_flit.specs.declared.action.Effect.{Effect}
use Rattle.chi_flit.specs.declared.refusal.Refusal.{Refusal}
use Rattle.chi_journal.specs.Journal.{Log}
use Rattle.chi_line.specs.declared.act.Conditions.{Conditions}
use Rattle.chi_line.specs.declared.position.ActionOutcome.{ActionOutcome}
use Rattle.chi_line.specs.LineState.{LineState}
use Rattle.chi_line.specs.Moves.{moved_slot, moved_to}
use Rattle.chi_line.specs.Step.{effect_of}
use Rattle.chi_slice.specs.declared.places.RequestPlace.{RequestPlace}
use Rattle.chi_slice.specs.Index.{Indexed, moved_in}
use Rattle.chi_slice.specs.Recorded.{record_by}
use Rattle.chi_slice.specs.Slice.{Computed, ComputedUnder, KeepsSliceFlits, OtherLinesStay, SliceKept, SliceState, slice_after, line, log_after, each_credit, refused_under}
use Rattle.chi_slice.specs.Protocol.{HasLastValue, SliceStep, refused_with}
use Rattle.chi_slice.specs.Run.{IsDone}
use Rattle.chi_slice.proofs.Acts.{Allowed, Call, Ready, acted_others, acted_protocol, allowed_here, balanced, changed, entry_fits, kept_acted, load_effect, refused_here}
use Rattle.chi_slice.proofs.Refused.{with_credits_is}
use Rattle.chi_slice.proofs.Follows.{followed_by, index_after, indexed_acted}

-- of the slice as it was, and as it is then
pub record Ended (old : SliceState) (credits : List Bool) (action : Action) (outcome : ActionOutcome) (new : SliceState) (places : List (Option RequestPlace)) : Type 0 where
  pub kept : SliceKept new
  pub indexed : Indexed new places
  pub refused : None ≡ refused_with credits old action
  pub protocol : IsDone old action outcome.effect new
  pub loads : HasLastValue old action outcome.effect
  pub computed : ComputedUnder credits old action (Ok outcome) new

-- what the outcome says of the line
pub record Move (action : Action) (at : LineState) (outcome : ActionOutcome) : Type 0 where
  pub slot_is : outcome.slot ≡ moved_slot at action.agent action.step
  pub to_is : outcome.to ≡ moved_to at action.agent action.step

followed : (places : List (Option RequestPlace)) (action : Action) (at at' : LineState) (outcome : ActionOutcome) → Move action at outcome → at ≡ at' → moved_in places action.agent.0 action.line outcome.slot outcome.to ≡ followed_by places at' action
followed places action at at' outcome move same =
    ap (λ (x : Option Slot). moved_in places action.agent.0 action.line x outcome.to) move.slot_is
    ∙ (ap (moved_in places action.agent.0 action.line (moved_slot at action.agent action.step)) move.to_is
    ∙ ap (λ (l : LineState). followed_by places l action) same)

end_of : {s : SliceState} {credits : List Bool} {action : Action} {row : ℕ} {conditions : Conditions} {at at' : LineState} {outcome : ActionOutcome} (places places' : List (Option RequestPlace)) (journal' : Log)
    → Indexed s places → Ready s credits action row conditions at → Call conditions action at at' outcome.effect → Move action at outcome → places' ≡ moved_in places action.agent.0 action.line outcome.slot outcome.to
    → journal' ≡ log_after s.journal (record_by action outcome.effect) → Ended s credits action outcome (record s { lines = set s.lines row at'; journal = journal' }) places'
end_of {s} {credits} {action} {row} {conditions} {at} {at'} {outcome} places places' journal' i r call move follows noted =
    let may : Allowed s action = allowed_here r call.refusal in
    let left : SliceState = record s { lines = set s.lines row at'; journal = journal' } in
    let new : left ≡ slice_after s action = changed journal' r call noted in
    let effect_is : outcome.effect ≡ effect_of (line s action.line.0) action = call.effect_is ∙ ap (λ (l : LineState). effect_of l action) r.line_is in
    let places_are : places' ≡ index_after s places action = follows ∙ followed places action at (line s action.line.0) outcome move r.line_is in
    record {
      kept = subst SliceKept (sym new) (kept_acted s action r.kept may);
      indexed = subst (λ (v : SliceState). Indexed v places') (sym new) (subst (Indexed (slice_after s action)) (sym places_are) (indexed_acted s places action r.kept i may));
      refused = call.refusal ∙ (refused_here r ∙ with_credits_is credits s action);
      protocol = record {
        step = subst (λ (e : Effect). SliceStep s action e left) (sym effect_is) (subst (λ (v : SliceState). SliceStep s action (effect_of (line s action.line.0) action) v) (sym new) (acted_protocol s action r.kept may (balanced r call)));
        others = subst (λ (v : SliceState). OtherLinesStay s v action.line.0) (sym new) (acted_others s action r.kept may);
        config = refl;
        index = refl;
      };
      loads = λ word is. effect_is ∙ load_effect s.journal (line s action.line.0) action.agent action.line action.step (entry_fits s action r.kept may).0 word is;
      computed = record {
        refusal = call.refusal ∙ refused_here r;
        effect = effect_is;
        slot = move.slot_is ∙ ap (λ (l : LineState). moved_slot l action.agent action.step) r.line_is;
        to = move.to_is ∙ ap (λ (l : LineState). moved_to l action.agent action.step) r.line_is;
        journal = ap (λ (v : SliceState). v.journal) new;
        flits = subst (λ (v : SliceState). KeepsSliceFlits s action v) (sym new) (balanced r call);
        after = new;
      };
    }

pub ended : {s : SliceState} {row : ℕ} {conditions : Conditions} {at at' : LineState} {outcome : ActionOutcome} (now : SliceState) (credits : List Bool) (action : Action) (places places' : List (Option RequestPlace)) (journal' : Log)
    → s ≡ now → Indexed s places → Ready s credits action row conditions at → Call conditions action at at' outcome.effect → Move action at outcome → places' ≡ moved_in places action.agent.0 action.line outcome.slot outcome.to
    → journal' ≡ log_after s.journal (record_by action outcome.effect) → Ended now credits action outcome (record s { lines = set s.lines row at'; journal = journal' }) places'
ended {s} {row} {conditions} {at} {at'} {outcome} now credits action places places' journal' same i r call move follows noted =
    subst (λ (v : SliceState). Ended v credits action outcome (record s { lines = set s.lines row at'; journal = journal' }) places') same (end_of places places' journal' i r call move follows noted)

-- a line that is put back as it was leaves the slice as it was
pub put_back : {at : LineState} (now s : SliceState) (row : ℕ) (new : LineState) → s ≡ now → at ≡ get_or s.lines row at → new ≡ at → record s { lines = set s.lines row new } ≡ now
put_back {at} now s row new same read stays =
    ap (λ (l : LineState). record s { lines = set s.lines row l }) (stays ∙ read)
    ∙ (ap (λ (lines : List LineState). record s { lines = lines }) (set-get_or s.lines row at) ∙ same)

-- a call that is refused says why
pub err_computed : (credits : List Bool) (old new : SliceState) (action : Action) (refusal : Refusal) → Some refusal ≡ refused_under credits old action → ComputedUnder credits old action (Err refusal) new
err_computed credits old new action refusal is = record { refusal = is; effect = tt; slot = tt; to = tt; journal = tt; flits = tt; after = tt }

-- what a call with a credit of each type says is what the slice alone says
pub alone_ok : (old new : SliceState) (action : Action) (outcome : ActionOutcome) → ComputedUnder each_credit old action (Ok outcome) new → Computed old action (Ok outcome.effect) new
alone_ok old new action outcome by = record { refusal = by.refusal; effect = by.effect; journal = by.journal; flits = by.flits; after = by.after }

pub alone_err : (old new : SliceState) (action : Action) (refusal : Refusal) → ComputedUnder each_credit old action (Err refusal) new → Computed old action (Err refusal) new
alone_err old new action refusal by = record { refusal = by.refusal; effect = by.effect; journal = by.journal; flits = by.flits; after = by.after }
