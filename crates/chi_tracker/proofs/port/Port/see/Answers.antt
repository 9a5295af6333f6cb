use Rattle.std.proofs.Common.{◌≡◌, length, sym, ap, ◌∙◌, subst, arith}
use Rattle.chi_tracker.specs.History.{port_in}
use Rattle.chi_tracker.specs.Calls.{Owner, owner_in}
use Rattle.chi_tracker.specs.Conduct.{Does, SeeActs}
use Rattle.chi_tracker.proofs.Conduct.{saw_four}
use Rattle.chi_tracker.proofs.Upkeep.{held_of, owner_is}
use Rattle.chi_tracker.proofs.port.Port.see.Goals as goal

pub returns-clause-acts : goal.returns-clause-acts
returns-clause-acts g c =
    let i = c.self.inside in let seat = c.in-Some.port_seat in
    let held = held_of i.port_seat seat i.number i.shape i.seen i.due (sym c.take.ensures.value ∙ c.in-Some.is) c.self.invariant in
    let own = owner_is i.port_seat seat c.args.self.now (sym c.take.ensures.value ∙ c.in-Some.is) c.self.view_is in
    let four : length i.seen ≡ 4 = omega arith in
    record {
      table = c.see_step-4.ensures.is.table ∙ c.see_step-3.ensures.is.table ∙ c.see_step-2.ensures.is.table ∙ c.see_step.ensures.is.table ∙ ap (λ o. o.table) (sym own);
      acts = subst (λ (w : Owner). Does w (SeeActs (port_in c.see_step-4.new.port_seat.me).seen) (owner_in c.see_step-4.new.port_seat)) (sym own)
          (saw_four seat c.see_step.new.port_seat c.see_step-2.new.port_seat c.see_step-3.new.port_seat c.see_step-4.new.port_seat c.see_step.result c.see_step-2.result c.see_step-3.result c.see_step-4.result (ap (λ ws. length ws) held.seen_is ∙ four)
          c.see_step.ensures.is c.see_step-2.ensures.is c.see_step-3.ensures.is c.see_step-4.ensures.is);
      running = c.see_step-4.ensures.is.after;
    }
