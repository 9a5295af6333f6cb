-- An action that isn't refused moves requests at its line alone.
use Rattle.std.proofs.Common.{◌≡◌, None}
use Rattle.chi_flit.specs.declared.action.Action.{Action}
use Rattle.chi_line.specs.LineState.{LineState}
use Rattle.chi_line.specs.Step.{after}
use Rattle.chi_line.proofs.MoveLaw.{Moved}
use Rattle.chi_line.proofs.RequestMoves.{moves}
use Rattle.chi_slice.specs.Slice.{OtherLinesStay, SliceKept, SliceState, slice_after, last_of, line, action_refusal, row_of_line}
use Rattle.chi_slice.proofs.Acts.{Allowed, allowed, names_unused}
use Rattle.chi_slice.proofs.Rows.{InRange, in_range, rows_apart}
use Rattle.chi_slice.proofs.Slices.{line_in_row-with_line, line_in_row-with_other}
use Rattle.chi_slice.proofs.Refusing.{conditions_of}

-- what an action that isn't refused does to the requests that a slice shows: at its line what its step does,
-- and nothing at the others
pub record SliceMoved (s : SliceState) (action : Action) : Type 0 where
  pub moved : Moved s.config.profile (line s action.line.0) action.agent action.step
  pub here : line (slice_after s action) action.line.0 ≡ after s.config.profile (line s action.line.0) action
  pub elsewhere : OtherLinesStay s (slice_after s action) action.line.0

pub moved_at : (s : SliceState) (action : Action) → SliceKept s → Allowed s action → Moved s.config.profile (line s action.line.0) action.agent action.step
moved_at s action k by =
    let inside : InRange s action = in_range s action k by.inside in
    moves (conditions_of s action) (last_of s action.line.0) (line s action.line.0) action.agent action.step inside.agent (k.lines action.line.0 inside.line) by.by_line
    (names_unused s action k by)

pub slice_moves : (s : SliceState) (action : Action) → SliceKept s → action_refusal s action ≡ None → SliceMoved s action
slice_moves s action k may =
    let by : Allowed s action = allowed s action may in
    let inside : InRange s action = in_range s action k by.inside in
    let new : LineState = after s.config.profile (line s action.line.0) action in
    record {
      moved = moved_at s action k by;
      here = line_in_row-with_line s (row_of_line s action.line.0) new inside.row k;
      elsewhere = λ other there apart. line_in_row-with_other s (row_of_line s action.line.0) (row_of_line s other) new (rows_apart s action.line.0 other k inside.line there apart);
    }
