use Rattle.std.proofs.Common.{refl, sym, ap, ◌∙◌, subst}
use Rattle.chi_tracker.specs.declared.step.AtomicStep.TheVariants.{Free}
use Rattle.chi_tracker.specs.Steps.{shown, port_of, frees}
use Rattle.chi_tracker.specs.Calls.{Owner, owner_in}
use Rattle.chi_tracker.specs.Conduct.{Does, One}
use Rattle.chi_tracker.proofs.Conduct.{does_one}
use Rattle.chi_tracker.proofs.Upkeep.{held_of, held_after, owner_is}
use Rattle.chi_tracker.proofs.port.Port.free.Goals as goal

pub returns-clause-acts : goal.returns-clause-acts
returns-clause-acts g c =
    let i = c.self.inside in let seat = c.in-Some.port_seat in let e = c.args.entry.0 in
    let own = owner_is i.port_seat seat c.args.self.now (sym c.take.ensures.value ∙ c.in-Some.is) c.self.view_is in
    record {
      table = c.free_step.ensures.table ∙ ap (λ o. o.table) (sym own);
      acts = subst (λ (w : Owner). Does w (One (Free e)) (owner_in c.free_step.new.port_seat)) (sym own)
          (does_one (owner_in seat) (owner_in c.free_step.new.port_seat) (Free e) c.free_step.result (rw (sym c.from.ensures) c.free_step.ensures.acts));
      running = c.free_step.ensures.after;
    }

pub invariant_of-self : goal.invariant_of-self
invariant_of-self g c =
    let i = c.self.inside in let seat = c.in-Some.port_seat in let step = c.free_step in
    let held = held_of i.port_seat seat i.number i.shape i.seen i.due (sym c.take.ensures.value ∙ c.in-Some.is) c.self.invariant in
    held_after step.new.port_seat.me.0.history (shown seat.me) (shown step.new.port_seat.me) (frees c.from.result (port_of (shown seat.me))) i.number i.shape i.seen i.seen i.due i.due held step.ensures.view refl refl held.seen_is held.no_duty held.no_note held.due_is held.few step.ensures.after
