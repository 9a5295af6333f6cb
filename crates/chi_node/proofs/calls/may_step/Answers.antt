-- A step that names no slot which isn't Idle is refused as the slice refuses it.
use Rattle.std.proofs.Common.{List, Bool, ◌∙◌, ap, sym}
use Rattle.chi_slice.specs.Protocol.{refused_with}
use Rattle.chi_node.specs.Outstanding.{outstanding_of}
use Rattle.chi_node.proofs.RowCalls.{idle_refusal}
use Rattle.chi_node.proofs.calls.may_step.Goals as goal

pub returns-in-Some : goal.returns-in-Some
returns-in-Some g c =
    c.in-Some.ensures.refused
    ∙ (ap (λ (z : List Bool). refused_with z c.args.slice.now c.args.action) c.credits_for.ensures ∙ sym (idle_refusal c.args.slice.now (outstanding_of c.args.requester.now) c.args.action (sym c.if-is_taken.ensures)))

pub returns-in-None : goal.returns-in-None
returns-in-None g c =
    c.in-None.ensures.refused
    ∙ (ap (λ (z : List Bool). refused_with z c.args.slice.now c.args.action) c.credits_for.ensures ∙ sym (idle_refusal c.args.slice.now (outstanding_of c.args.requester.now) c.args.action (sym c.if-is_taken.ensures)))
