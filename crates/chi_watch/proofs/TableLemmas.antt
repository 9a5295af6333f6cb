-- The table of lines behind one line of it.
use Rattle.std.proofs.Common.{◌≡◌, ℕ, Bool, true, false, cond, List, refl, sym, ap, ◌∙◌}
use Rattle.std.specs.Prelude.{Option, Some, None, Ok, if◌then◌else◌, nat_eq, option_map, unwrap_or}
use Rattle.std.specs.Map.{lookup}
use Rattle.chi_issue_b.specs.declared.ids.CacheLine.{CacheLine}
use Rattle.chi_issue_b.specs.declared.ids.NodeId.{NodeId}
use Rattle.chi_watch.specs.declared.held.HeldFlit.{HeldFlit}
use Rattle.chi_watch.specs.declared.lines.Before.{Before}
use Rattle.chi_watch.specs.declared.lines.Drained.{Drained}
use Rattle.chi_watch.specs.declared.lines.LineSeen.{LineSeen}
use Rattle.chi_watch.specs.Lines.{IsArrived, IsDone, IsHeard, LineState, Outcome, behind, heard_line, line_state, lines_by, lines_in, opened_line, put_line, state_at}

module _ {A : Type 0} where
  -- the lines of a table in which one was written
  pub written : (before : Before) (line : CacheLine) (seen : LineSeen A) (es fs : List (ℕ × LineSeen A))
      → ((l : ℕ) → lookup (nat_eq l) fs ≡ cond (nat_eq line.address l) (Some seen) (lookup (nat_eq l) es))
      → lines_by before fs ≡ put_line line (line_state seen) (lines_by before es)
  written before line seen es fs h = λ i. record { start = before.start; stores = before.stores; strays = before.strays; at = λ l. (ap (option_map line_state) (h l) ∙ by (nat_eq line.address l) l) i }
    where
      by : (b : Bool) (l : ℕ) → option_map line_state (cond b (Some seen) (lookup (nat_eq l) es)) ≡ (if b then Some (line_state seen) else lines_in es l)
      by true l = refl
      by false l = refl

  -- what came of a flit, of a line that is as these are
  pub heard_at : (before : Before) (es fs : List (ℕ × LineSeen A)) (line : CacheLine) (old new : LineSeen A) (s : LineState) (outcome : LineState → Outcome) (done : Drained)
      → line_state old ≡ s → lines_by before fs ≡ put_line line (line_state new) (lines_by before es)
      → IsDone (line_state old) (line_state new) (outcome (line_state old)) done → IsHeard (lines_by before es) (lines_by before fs) line s (outcome s) done
  heard_at before es fs line old new s outcome done state put is = record {
    is = is.is ∙ ap (λ (t : LineState). (outcome t).done) state;
    after = put ∙ ap (λ (t : LineState). put_line line t (lines_by before es)) (is.after ∙ ap (λ (t : LineState). behind t (outcome t)) state);
  }

  -- the first flit of a line
  pub arrived_new : (before : Before) (es fs : List (ℕ × LineSeen A)) (line : CacheLine) (home : NodeId) (flit : HeldFlit) (opened new : LineSeen A) (done : Drained)
      → lookup (nat_eq line.address) es ≡ None → line_state opened ≡ opened_line before.start before.stores home flit.number
      → lines_by before fs ≡ put_line line (line_state new) (lines_by before es)
      → IsDone (line_state opened) (line_state new) (heard_line before.strays (line_state opened) home flit) done
      → IsArrived (lines_by before es) (lines_by before fs) line home flit (Ok done)
  arrived_new before es fs line home flit opened new done absent is_opened put is =
      let here : LineState = opened_line before.start before.stores home flit.number in
      let state : line_state opened ≡ state_at (lines_by before es) line home flit.number
      = is_opened ∙ sym (ap (λ (o : Option LineState). unwrap_or o here) (ap (option_map line_state) absent)) in
      heard_at before es fs line opened new (state_at (lines_by before es) line home flit.number) (λ s. heard_line before.strays s home flit) done state put is

  -- one of a line that is there
  pub arrived_found : (before : Before) (es fs : List (ℕ × LineSeen A)) (line : CacheLine) (home : NodeId) (flit : HeldFlit) (old new : LineSeen A) (done : Drained)
      → lookup (nat_eq line.address) es ≡ Some old → lines_by before fs ≡ put_line line (line_state new) (lines_by before es)
      → IsDone (line_state old) (line_state new) (heard_line before.strays (line_state old) home flit) done
      → IsArrived (lines_by before es) (lines_by before fs) line home flit (Ok done)
  arrived_found before es fs line home flit old new done found put is =
      let state : line_state old ≡ state_at (lines_by before es) line home flit.number
      = sym (ap (λ (o : Option LineState). unwrap_or o (opened_line before.start before.stores home flit.number)) (ap (option_map line_state) found)) in
      heard_at before es fs line old new (state_at (lines_by before es) line home flit.number) (λ s. heard_line before.strays s home flit) done state put is
