-- The locks are as many as the slices, and the requesters are those that were made.
use Rattle.std.proofs.Common.{ap, ◌∙◌, arith}
use Rattle.chi_tracker.specs.declared.shape.Shape.{Shape}
use Rattle.chi_node.specs.Node.{NodeState}
use Rattle.chi_node.proofs.Nodes.{all_own, as_many, has_types, some_slice}
use Rattle.chi_node.proofs.node.Node.new.Goals as goal

pub invariant_of-node : goal.invariant_of-node
invariant_of-node g c =
    let config = c.args.config.now in
    let made = c.in_ok-made.made in
    let count = as_many config made.items made.len made.ok.0 c.in_ok-made.ensures.slices in
    let room = c.in_ok-ended.ensures.exact in (
      c.in_ok-slices.ensures ∙ count,
      some_slice config c.parts.ensures.limits,
      ap (λ (z : Shape). z.agents) c.in_ok-made.ensures.tracker,
      has_types config c.in_ok-made.tracker.shape c.in_ok-made.ensures.types,
      c.in_ok-ended.ensures.len,
      omega (arith, room, count, c.len.ensures),
    )

pub returns-clause-own : goal.returns-clause-own
returns-clause-own g c =
    let node : NodeState = record { config = c.args.config.now; tracker = c.in_ok-made.tracker } in
    all_own node c.in_ok-made.requesters.items c.in_ok-made.ensures.tracker c.in_ok-made.ensures.requesters
