-- A line that is in the table is told of something.
--     written       the table behind what was written through what it lent
--     told_found    what comes of it, among all lines
use Rattle.std.proofs.Common.{◌≡◌, ◌==◌, ℕ, Bool, true, false, cond, List, Option, Some, Result, Ok, Err, IfOk, is_none, refl, sym, ap, subst, ◌∙◌, eqb-true}
use Rattle.std.specs.Prelude.{if◌then◌else◌, nat_eq, option_map, unwrap_or}
use Rattle.std.specs.Map.{lookup}
use Rattle.chi_trace.specs.declared.fields.NodeId.{NodeId}
use Rattle.chi_ids.specs.declared.keys.CacheLine.{CacheLine}
use Rattle.chi_observe.specs.declared.lines.LineSeen.{LineSeen}
use Rattle.chi_observe.specs.declared.lines.LineNews.{LineNews}
use Rattle.chi_observe.specs.declared.lines.LineStop.{LineStop}
use Rattle.chi_observe.specs.declared.lines.LineStop.TheVariants.{Refused, NoMemory}
use Rattle.chi_observe.specs.declared.lines.LineTold.{LineTold}
use Rattle.chi_observe.specs.Judges.{Before}
use Rattle.chi_observe.specs.Lines.{IsLineTold, IsTold, LineState, is_line_reason, line_next, line_state, lines_in, opened_line, put_line, state_at, takes_line, told_as}

-- a line that is put where it stands
same : (line : CacheLine) (s : LineState) (lines : ℕ → Option LineState) → lines line.0 ≡ Some s → put_line line s lines ≡ lines
same line s lines at = λ i l. by l (line.0 == l) refl i
  where
    by : (l : ℕ) (b : Bool) → (line.0 == l) ≡ b → (if b then Some s else lines l) ≡ lines l
    by l true p = sym at ∙ ap lines (eqb-true line.0 l p)
    by l false p = refl

module _ {A : Type 0} where
  pub written : (line : CacheLine) (seen : LineSeen A) (es fs : List (ℕ × LineSeen A)) → ((l : ℕ) → lookup (nat_eq l) fs ≡ cond (nat_eq line.0 l) (Some seen) (lookup (nat_eq l) es))
      → lines_in fs ≡ put_line line (line_state seen) (lines_in es)
  written line seen es fs h = λ i l. (ap (option_map line_state) (h l) ∙ by (nat_eq line.0 l) l) i
    where
      by : (b : Bool) (l : ℕ) → option_map line_state (cond b (Some seen) (lookup (nat_eq l) es)) ≡ (if b then Some (line_state seen) else lines_in es l)
      by true l = refl
      by false l = refl

  pub told_found : (before : Before) (es fs : List (ℕ × LineSeen A)) (number : ℕ) (line : CacheLine) (home : NodeId) (news : LineNews) (old new : LineSeen A) (r : Result LineTold LineStop)
      → lookup (nat_eq line.0) es ≡ Some old → lines_in fs ≡ put_line line (line_state new) (lines_in es) → IsLineTold before (line_state old) (line_state new) number home news r
      → IfOk r (λ done. done ≡ told_as false (line_state old) (line_state new)) → IsTold before (lines_in es) (lines_in fs) number line home news r
  told_found before es fs number line home news old new (Ok done) found put told is =
      let at : lines_in es line.0 ≡ Some (line_state old) = ap (option_map line_state) found in
      let state : line_state old ≡ state_at before (lines_in es) number line home = sym (ap (λ (o : Option LineState). unwrap_or o (opened_line before number home)) at) in
      let fresh : false ≡ is_none (lines_in es line.0) = sym (ap is_none at) in
      let next : line_state new ≡ line_next before (state_at before (lines_in es) number line home) number news = told.after ∙ ap (λ (s : LineState). line_next before s number news) state in
      record {
        is = is ∙ (λ i. told_as (fresh i) (state i) (next i));
        taken = subst (λ (s : LineState). takes_line before s home number news ≡ true) state told.taken;
        after = put ∙ ap (λ (s : LineState). put_line line s (lines_in es)) next;
      }
  told_found before es fs number line home news old new (Err (Refused reason)) found put told is =
      let at : lines_in es line.0 ≡ Some (line_state old) = ap (option_map line_state) found in
      let state : line_state old ≡ state_at before (lines_in es) number line home = sym (ap (λ (o : Option LineState). unwrap_or o (opened_line before number home)) at) in
      record {
        refused = subst (λ (s : LineState). takes_line before s home number news ≡ false) state told.refused;
        holds = subst (λ (s : LineState). is_line_reason before s home news reason ≡ true) state told.holds;
        kept = put ∙ (ap (λ (s : LineState). put_line line s (lines_in es)) told.kept ∙ same line (line_state old) (lines_in es) at);
      }
  told_found before es fs number line home news old new (Err NoMemory) found put told is = tt
