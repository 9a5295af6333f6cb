use Rattle.std.proofs.Common.{sym, ap, ◌∙◌, subst}
use Rattle.chi_tracker.specs.Shape.{IsOf}
use Rattle.chi_tracker.specs.Steps.{shown, port_of}
use Rattle.chi_tracker.specs.Calls.{Owner, owner_in}
use Rattle.chi_tracker.specs.Conduct.{Does, EndActs, ReleaseActs}
use Rattle.chi_tracker.proofs.Upkeep.{held_of, owner_is, ended_held}
use Rattle.chi_tracker.proofs.port.Port.release.Goals as goal

pub invariant_of-self : goal.invariant_of-self
invariant_of-self g c =
    let i = c.self.inside in let seat = c.in-Some.port_seat in let ends = c.release_entry-released in
    let held = held_of i.port_seat seat i.number i.shape i.seen i.due (sym c.take.ensures.value ∙ c.in-Some.is) c.self.invariant in
    ended_held ends.new.port_seat.me.0.history (shown seat.me) (shown ends.new.port_seat.me) i.number i.shape i.seen i.due c.kind_of-kind.result c.from-entry.result ends.result held ends.ensures.alone ends.ensures.view ends.ensures.after

pub returns-clause-acts : goal.returns-clause-acts
returns-clause-acts g c =
    let i = c.self.inside in let seat = c.in-Some.port_seat in let ends = c.release_entry-released in let t = c.kind_of-kind.result in let q = owner_in ends.new.port_seat in
    let held = held_of i.port_seat seat i.number i.shape i.seen i.due (sym c.take.ensures.value ∙ c.in-Some.is) c.self.invariant in
    let own = owner_is i.port_seat seat c.args.self.now (sym c.take.ensures.value ∙ c.in-Some.is) c.self.view_is in
    let here : Does (owner_in seat) (EndActs (port_of (shown seat.me)).shape.agents t c.args.entry.0 ends.result) q = rw (sym held.shape_is, c.from-entry.ensures) at ends.ensures.acts in
    let of : IsOf (port_of (shown seat.me)).shape t c.args.entry.0 = rw (sym held.shape_is, c.from-entry.ensures) at c.kind_of-kind.ensures.1 in
    record {
      table = ends.ensures.table ∙ ap (λ o. o.table) (sym own);
      acts = subst (λ (w : Owner). Does w (ReleaseActs w.port c.args.entry.0 ends.result) q) (sym own) (here.0, here.1, (t, c.kind_of-kind.ensures.0, of, here.2), here.3);
      running = ends.ensures.after;
    }
