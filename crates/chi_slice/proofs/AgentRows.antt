-- The row of a line that is in the slice, for an agent that is in the node.
use Rattle.std.proofs.Common.{◌≡◌, ℕ, ◌&&◌, Bool, true, false, nat_lt, refl, arith}
use Rattle.std.proofs.Math.ListN.{length-set}
use Rattle.chi_flit.specs.declared.action.Action.{Action}
use Rattle.chi_flit.specs.declared.action.Step.TheVariants as steps
use Rattle.chi_line.specs.Step.{after, is_step_in_range}
use Rattle.chi_slice.specs.Slice.{IsRowOf, SliceKept, SliceState, are_in_range, is_in_range, is_line_in_range, line, row_of_line, slice_after}
use Rattle.chi_slice.proofs.Rows.{InRange, in_range}

-- each step whose numbers are in their ranges is in range where agent and line are there
pub with_step : (a b c : Bool) → (a && b) ≡ true → c ≡ true → (a && (b && c)) ≡ true
with_step true true c there fits = fits
with_step true false c there fits = there
with_step false b c there fits = there

pub step_inside : (s : SliceState) (action : Action) (row : ℕ) → IsRowOf s action.agent.0 action.line.0 row → is_step_in_range action.step ≡ true → is_in_range s action ≡ true
step_inside s action row at fits = with_step (nat_lt action.agent.0 s.config.agents) (is_line_in_range s action.line.0) (is_step_in_range action.step) at.inside fits

pub row_there : (s : SliceState) (n l row : ℕ) → SliceKept s → are_in_range s n l ≡ true → row ≡ row_of_line s l → IsRowOf s n l row
row_there s n l row k there is =
    let action : Action = record { agent = record { 0 = n }; line = record { 0 = l }; step = steps.Drop } in
    let inside : InRange s action = in_range s action k (with_step (nat_lt n s.config.agents) (is_line_in_range s l) true there refl) in
    record { is = is; low = omega (arith, inside.row, k.rows, is); agent = inside.agent; inside = there }

-- an action leaves each line its row
pub row_stays : (s : SliceState) (action : Action) (n l row : ℕ) → IsRowOf s n l row → IsRowOf (slice_after s action) n l row
row_stays s action n l row at = record {
  is = at.is;
  low = omega (arith, at.low, length-set s.lines (row_of_line s action.line.0) (after s.config.profile (line s action.line.0) action));
  agent = at.agent;
  inside = at.inside;
}
