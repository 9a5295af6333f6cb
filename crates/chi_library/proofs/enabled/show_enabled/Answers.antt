-- All steps are tried, with the lowest free slot.
use Rattle.std.proofs.Common.{rules, ◌≡◌, ◌∙◌, ap, None}
use Rattle.chi_slice.specs.Slice.{flits_refusal}
use Rattle.chi_library.specs.Enabled.{all_steps}
use Rattle.chi_library.proofs.EnabledLists.{shown}
use Rattle.chi_library.proofs.enabled.show_enabled.Goals as goal

pub returns-in-Ok-clause-listed : goal.returns-in-Ok-clause-listed
returns-in-Ok-clause-listed c =
    let there : None ≡ flits_refusal c.args.slice.now c.args.agent.0 c.args.line.0 = search (rules, c.in-Ok.ensures.refusal) in
    shown c.args.slice.now c.args.agent c.args.line c.all_steps-steps.result c.args.actions.now c.list_enabled.new.actions c.list_enabled.result there (c.all_steps-steps.ensures ∙ ap all_steps c.lowest_idle.ensures) c.list_enabled.ensures
