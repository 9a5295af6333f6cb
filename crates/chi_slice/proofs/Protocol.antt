-- What an action leaves of a slice is one.
use Rattle.std.proofs.Common.{◌≡◌, true, ap, sym, ◌∙◌, Option}
use Rattle.chi_flit.specs.declared.action.Action.{Action}
use Rattle.chi_flit.specs.declared.action.Effect.{Effect}
use Rattle.chi_journal.specs.declared.record.Record.{Record}
use Rattle.chi_line.specs.Meaning.{standing_of}
use Rattle.chi_line.proofs.Law.{one_step}
use Rattle.chi_line.proofs.OneFlit.{orderly}
use Rattle.chi_slice.specs.Protocol.{SliceStep, LeavesOne}
use Rattle.chi_slice.specs.Slice.{SliceKept, SliceState, is_line_in_range, last_of, line, log_after}

pub leaves_one : (old new new' : SliceState) (action : Action) (effect effect' : Effect) → SliceKept old → is_line_in_range old action.line.0 ≡ true
    → SliceStep old action effect new → SliceStep old action effect' new' → LeavesOne old action effect effect' new new'
leaves_one old new new' action effect effect' k inside x y =
    let l = action.line.0 in
    let both = one_step old.config.profile action.line action.agent action.step (standing_of (line old l)) (standing_of (line new l)) (standing_of (line new' l)) effect effect' x.0 y.0
    (orderly (last_of old l) (line old l) (k.lines l inside)) x.2 y.2 in
    (both.0, x.1 ∙ (ap (λ (entry : Option Record). log_after old.journal entry) both.1 ∙ sym y.1), both.2)
