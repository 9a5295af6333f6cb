-- What the call says, with its action as the choice names it.
use Rattle.chi_agent.proofs.Tried.{step_done, step_refused}
use Rattle.chi_agent.proofs.calls.try_step.Goals as goal

pub returns-in-Ok-clause-tried : goal.returns-in-Ok-clause-tried
returns-in-Ok-clause-tried g c =
    let e = c.in-Ok.ensures in
    step_done c.args.slice.now c.step_on.new.slice (record { agent = c.number-agent.result; line = c.args.line; step = c.args.step }) c.args.requester.now c.step_on.new.requester c.in-Ok.field-0 c.number-agent.ensures.is e.refusal e.call.ok e.call.history

pub returns-in-Err-clause-tried : goal.returns-in-Err-clause-tried
returns-in-Err-clause-tried g c =
    let e = c.in-Err.ensures in
    step_refused c.args.slice.now c.step_on.new.slice (record { agent = c.number-agent.result; line = c.args.line; step = c.args.step }) c.args.requester.now c.step_on.new.requester c.in-Err.refusal c.number-agent.ensures.is e.refusal e.call.err
