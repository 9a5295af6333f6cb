-- What the functions of an action that isn't refused give is the protocol's: it is done by its row.
use Rattle.std.proofs.Common.{◌≡◌, ℕ, ◌<◌, true, None, refl, sym, ◌∙◌, subst}
use Rattle.chi_flit.specs.declared.action.Action.{Action}
use Rattle.chi_flit.specs.Config.{Sizes, are_in_limits}
use Rattle.chi_line.specs.LineState.{LineState}
use Rattle.chi_line.specs.Step.{after, effect_of}
use Rattle.chi_line.specs.Traffic.{KeepsFlits}
use Rattle.chi_slice.specs.Protocol.{refused}
use Rattle.chi_slice.specs.Run.{IsDone}
use Rattle.chi_slice.specs.Slice.{KeepsSliceFlits, SliceKept, SliceState, last_of, line, opening_slice, row_of_line, slice_after}
use Rattle.chi_slice.proofs.Acts.{Allowed, acted_others, acted_protocol, allowed, kept_acted}
use Rattle.chi_slice.proofs.Balances.{step_balances}
use Rattle.chi_slice.proofs.Refused.{refused_is}
use Rattle.chi_slice.proofs.Refusing.{conditions_of}
use Rattle.chi_slice.proofs.Rows.{InRange, in_range}
use Rattle.chi_slice.proofs.Slices.{line_in_row-with_line, opening_slice_kept}

-- no flit is lost or made
keeps_flits : (s : SliceState) (action : Action) → SliceKept s → Allowed s action → KeepsSliceFlits s action (slice_after s action)
keeps_flits s action k may =
    let inside : InRange s action = in_range s action k may.inside in
    let old : LineState = line s action.line.0 in
    let left : line (slice_after s action) action.line.0 ≡ after s.config.profile old action = line_in_row-with_line s (row_of_line s action.line.0) (after s.config.profile old action) inside.row k in
    subst (λ (l : LineState). KeepsFlits s.config.profile old action l) (sym left)
    (step_balances (conditions_of s action) (last_of s action.line.0) old action.agent action.step inside.agent may.by_line (k.lines action.line.0 inside.line))

may_act : (s : SliceState) (action : Action) → refused s action ≡ None → Allowed s action
may_act s action none = allowed s action (refused_is s action ∙ none)

pub done_by_row : (s : SliceState) (action : Action) → SliceKept s → refused s action ≡ None → IsDone s action (effect_of (line s action.line.0) action) (slice_after s action)
done_by_row s action k none =
    let may : Allowed s action = may_act s action none in
    record {
      step = acted_protocol s action k may (keeps_flits s action k may);
      others = acted_others s action k may;
      config = refl;
      index = refl;
    }

-- and keeps what a slice keeps, as a new slice does
pub keeps_on : (s : SliceState) (action : Action) → SliceKept s → refused s action ≡ None → SliceKept (slice_after s action)
keeps_on s action k none = kept_acted s action k (may_act s action none)

pub keeps_at_first : (config : Sizes) (index : ℕ) → are_in_limits config ≡ true → index < config.slices → SliceKept (opening_slice config index)
keeps_at_first config index limits inside = opening_slice_kept config index _ _ limits inside refl refl
