-- What refuses the action is what the protocol says, and it is done exactly where it is enabled.
use Rattle.std.proofs.Common.{rules, ◌≡◌, ◌∙◌, true, None, Some, Err, refl, sym}
use Rattle.chi_flit.specs.Refusal.{refusal_of}
use Rattle.chi_line.specs.RefusalRows.{is_of_actions}
use Rattle.chi_slice.specs.Protocol.{SliceStep, refused}
use Rattle.chi_slice.specs.Slice.{Computed, action_refusal}
use Rattle.chi_slice.proofs.Ends.{alone_err, alone_ok}
use Rattle.chi_slice.proofs.Refused.{done_enabled, enabled_done, own_number, refused_is}
use Rattle.chi_slice.proofs.slice.Slice.act.Goals as goal

pub returns-in_err-outcome-clause-refused : goal.returns-in_err-outcome-clause-refused
returns-in_err-outcome-clause-refused g c =
    let plain : Some c.in_err-outcome.field-0.0 ≡ action_refusal c.args.self.now c.args.action = search (rules, c.in_err-outcome.ensures.computed.refusal) in
    let by : Some c.in_err-outcome.field-0.0 ≡ refused c.args.self.now c.args.action = plain ∙ refused_is c.args.self.now c.args.action in
    search (rules, by)

pub returns-in_err-outcome-clause-numbers : goal.returns-in_err-outcome-clause-numbers
returns-in_err-outcome-clause-numbers g c =
    let plain : Some c.in_err-outcome.field-0.0 ≡ action_refusal c.args.self.now c.args.action = search (rules, c.in_err-outcome.ensures.computed.refusal) in
    let own : is_of_actions c.in_err-outcome.field-0.0 ≡ true = own_number c.args.self.now c.args.action c.in_err-outcome.field-0.0 plain in
    search (rules, own)

pub returns-in_err-outcome-clause-enabled : goal.returns-in_err-outcome-clause-enabled
returns-in_err-outcome-clause-enabled g c =
    let plain : Some c.in_err-outcome.field-0.0 ≡ action_refusal c.args.self.now c.args.action = search (rules, c.in_err-outcome.ensures.computed.refusal) in
    let is : refusal_of c.from_residual.result ≡ Some c.in_err-outcome.field-0.0 = search rules in
    (λ e. let none : action_refusal c.args.self.now c.args.action ≡ None = enabled_done c.args.self.now c.args.action e in absurd (cc (plain, none)), λ none. absurd (cc (is, none)))

pub returns-clause-refused : goal.returns-clause-refused
returns-clause-refused g c =
    let plain : None ≡ action_refusal c.args.self.now c.args.action = search (rules, c.in_ok-outcome.ensures.computed.refusal) in
    plain ∙ refused_is c.args.self.now c.args.action

pub returns-clause-enabled : goal.returns-clause-enabled
returns-clause-enabled g c =
    let plain : None ≡ action_refusal c.args.self.now c.args.action = search (rules, c.in_ok-outcome.ensures.computed.refusal) in
    let step : SliceStep c.args.self.now c.args.action c.in_ok-outcome.outcome.effect c.act_with.new.self = search (rules, c.in_ok-outcome.ensures.protocol.step) in
    (λ e. refl, λ none. done_enabled c.args.self.now c.act_with.new.self c.args.action c.in_ok-outcome.outcome.effect (sym plain) step)

pub returns-clause-computed : goal.returns-clause-computed
returns-clause-computed g c = alone_ok c.args.self.now c.act_with.new.self c.args.action c.in_ok-outcome.outcome (search (rules, c.in_ok-outcome.ensures.computed))

pub returns-in_err-outcome-clause-computed : goal.returns-in_err-outcome-clause-computed
returns-in_err-outcome-clause-computed g c =
    let by : Computed c.args.self.now c.args.action (Err c.in_err-outcome.field-0.0) c.act_with.new.self = alone_err c.args.self.now c.act_with.new.self c.args.action c.in_err-outcome.field-0.0 (search (rules, c.in_err-outcome.ensures.computed)) in
    search (rules, by)
