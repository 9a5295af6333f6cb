-- An agent or a line that isn't there refuses the arrival, and then the want of a flit.
use Rattle.std.proofs.Common.{ℕ, ◌∙◌, ap, rules, subst}
use Rattle.chi_slice.specs.Slice.{IsRowOf, flits_refusal}
use Rattle.chi_node.proofs.RowCalls.{arrival_refused, refused_there}
use Rattle.chi_node.proofs.calls.arrive_on.Goals as goal

pub returns-in_err-row-clause-refusal : goal.returns-in_err-row-clause-refusal
returns-in_err-row-clause-refusal g c =
    let told = arrival_refused c.args.slice.now c.args.requester.now.number c.args.line.0 c.in_err-row.field-0.0
    (c.in_err-row.ensures.refusal ∙ ap (λ (n : ℕ). flits_refusal c.args.slice.now n c.args.line.0) c.number.ensures.is) in
    search (rules, told)

pub returns-in_err-arrival-clause-refusal : goal.returns-in_err-arrival-clause-refusal
returns-in_err-arrival-clause-refusal g c =
    let at = subst (λ (n : ℕ). IsRowOf c.args.slice.now n c.args.line.0 c.in_ok-row.row) c.number.ensures.is c.in_ok-row.ensures.row in
    let told = refused_there c.args.slice.now c.args.requester.now.number c.args.line.0 c.in_ok-row.row at in
    search (rules, told)

pub returns-clause-refusal : goal.returns-clause-refusal
returns-clause-refusal g c =
    let at = subst (λ (n : ℕ). IsRowOf c.args.slice.now n c.args.line.0 c.in_ok-row.row) c.number.ensures.is c.in_ok-row.ensures.row in
    let told = refused_there c.args.slice.now c.args.requester.now.number c.args.line.0 c.in_ok-row.row at in
    search (rules, told)
