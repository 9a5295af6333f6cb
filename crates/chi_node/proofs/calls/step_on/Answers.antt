-- An agent or a line that isn't there refuses the step.
use Rattle.std.proofs.Common.{rules}
use Rattle.chi_node.specs.Outstanding.{outstanding_of}
use Rattle.chi_node.proofs.RowCalls.{row_refused}
use Rattle.chi_node.proofs.calls.step_on.Goals as goal

pub returns-in_err-row-clause-refusal : goal.returns-in_err-row-clause-refusal
returns-in_err-row-clause-refusal g c =
    let told = row_refused c.args.slice.now (outstanding_of c.args.requester.now) c.args.action c.in_err-row.field-0.0 c.in_err-row.ensures.refusal in
    search (rules, told)
