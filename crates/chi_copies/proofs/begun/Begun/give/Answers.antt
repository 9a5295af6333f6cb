-- It leaves all in order.
use Rattle.std.proofs.Common.{refl, ◌∙◌}
use Rattle.std.specs.Prelude.{None}
use Rattle.chi_observer.specs.declared.flits.Flit.TheVariants.{Down}
use Rattle.chi_copies.specs.BegunLines.{begun}
use Rattle.chi_copies.specs.Sets.{members}
use Rattle.chi_copies.proofs.BegunLines.{apart_as_given, given_left, settled_behind}
use Rattle.chi_copies.proofs.begun.Begun.give.Goals as goal

pub keeps_order-requires-clause-apart : goal.keeps_order-requires-clause-apart
keeps_order-requires-clause-apart c =
    let s = c.args.self.now in
    let g = c.args.flit in
    apart_as_given s g (members c.got-own.result) c.is_sure_given-sure.result c.needs_alone-alone.result c.due_of.result (members c.apart_beside-apart.result) c.given_may-others.result c.is_sure_given-sure.ensures c.got-own.ensures c.due_of.ensures c.needs_alone-alone.ensures c.apart_beside-apart.ensures c.given_may-others.ensures

pub grant-requires-clause-may : goal.grant-requires-clause-may
grant-requires-clause-may c =
    let s = c.args.self.now in
    let g = c.args.flit in
    given_left s g (members c.got-own.result) c.is_sure_given-sure.result c.needs_alone-alone.result c.due_of.result (members c.apart_beside-apart.result) c.given_may-others.result c.is_sure_given-sure.ensures c.got-own.ensures c.due_of.ensures c.needs_alone-alone.ensures c.apart_beside-apart.ensures c.given_may-others.ensures c.each_left-may.result c.each_left-may.ensures

pub returns-in-Ok-clause-after : goal.returns-in-Ok-clause-after
returns-in-Ok-clause-after c = c.settle.ensures ∙ settled_behind (begun c.args.self.now) (Down c.args.flit) c.grant.new.self c.args.self.now.shown None c.grant.ensures.after c.grant.ensures.shown refl (λ k. refl)
