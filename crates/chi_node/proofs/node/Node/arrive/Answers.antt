-- The slice that is lent is the line's, and `arrive_on` says what is done there.
use Rattle.std.proofs.Common.{inr, sym, subst}
use Rattle.chi_node.specs.Node.{IsSliceOf}
use Rattle.chi_node.proofs.node.Node.arrive.Goals as goal

pub returns-clause-done : goal.returns-clause-done
returns-clause-done g c =
    let own : IsSliceOf c.args.self.now.config c.args.line.0 c.deref_mut.result.now = subst (IsSliceOf c.args.self.now.config c.args.line.0) (sym c.deref_mut.ensures.value) c.in_ok-slice.ensures.slice in
    let e = c.arrive_on.ensures in
    inr (record { before = c.deref_mut.result.now; after = c.arrive_on.new.slice; own = own; done = (e.refusal, e.call) })
