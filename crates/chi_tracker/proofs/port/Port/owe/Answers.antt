use Rattle.std.proofs.Common.{ℕ, sym, ap, ◌∙◌, subst, arith}
use Rattle.chi_flit.specs.Credit.{credit_number}
use Rattle.chi_tracker.specs.Steps.{shown}
use Rattle.chi_tracker.specs.Calls.{Owner, owner_in, owed_one}
use Rattle.chi_tracker.specs.Conduct.{Does, OweActs}
use Rattle.chi_tracker.proofs.Entries.{credit_below}
use Rattle.chi_tracker.proofs.Upkeep.{held_of, owner_is, owed_held, owed_view}
use Rattle.chi_tracker.proofs.port.Port.owe.Goals as goal

pub invariant_of-self : goal.invariant_of-self
invariant_of-self g c =
    let i = c.self.inside in let seat = c.in-Some.port_seat in let t = c.number-kind.result in
    let held = held_of i.port_seat seat i.number i.shape i.seen i.due (sym c.take.ensures.value ∙ c.in-Some.is) c.self.invariant in
    let at = ap (λ w. w.port) (owner_is i.port_seat seat c.args.self.now (sym c.take.ensures.value ∙ c.in-Some.is) c.self.view_is) in
    let few = rw (sym c.number-kind.ensures) at (rw at at c.requires.few) in
    owed_held (shown seat.me) (shown c.owe_one.new.port_seat.me) i.number i.shape i.seen i.due t held (omega (arith, c.number-kind.ensures, credit_below c.args.ty)) (omega arith) few c.owe_one.ensures.view c.owe_one.new.port_seat.me.0.history c.owe_one.ensures.after

pub returns-clause-port : goal.returns-clause-port
returns-clause-port g c =
    let i = c.self.inside in let seat = c.in-Some.port_seat in let t = c.number-kind.result in
    let held = held_of i.port_seat seat i.number i.shape i.seen i.due (sym c.take.ensures.value ∙ c.in-Some.is) c.self.invariant in
    let at = ap (λ w. w.port) (owner_is i.port_seat seat c.args.self.now (sym c.take.ensures.value ∙ c.in-Some.is) c.self.view_is) in
    let few = rw (sym c.number-kind.ensures) at (rw at at c.requires.few) in
    owed_view (shown seat.me) (shown c.owe_one.new.port_seat.me) i.number i.shape i.seen i.due t held (omega (arith, c.number-kind.ensures, credit_below c.args.ty)) (omega arith) few c.owe_one.ensures.view c.owe_one.new.port_seat.me.0.history c.owe_one.ensures.after
    ∙ ap (λ p. owed_one t p) (sym at) ∙ ap (λ u. owed_one u c.args.self.now.port) c.number-kind.ensures

pub returns-clause-acts : goal.returns-clause-acts
returns-clause-acts g c =
    let i = c.self.inside in let seat = c.in-Some.port_seat in let did = c.owe_one in let q = owner_in did.new.port_seat in
    let own = owner_is i.port_seat seat c.args.self.now (sym c.take.ensures.value ∙ c.in-Some.is) c.self.view_is in
    record {
      table = did.ensures.table ∙ ap (λ o. o.table) (sym own);
      acts = subst (λ (w : Owner). Does w (OweActs (credit_number c.args.ty)) q) (sym own) (subst (λ (t : ℕ). Does (owner_in seat) (OweActs t) q) c.number-kind.ensures did.ensures.acts);
      running = did.ensures.after;
    }
