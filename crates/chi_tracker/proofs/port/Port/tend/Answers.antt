use Rattle.std.proofs.Common.{ℕ, sym, ap, ◌∙◌, subst}
use Rattle.chi_tracker.specs.Steps.{shown, port_of}
use Rattle.chi_tracker.specs.Calls.{Owner, owner_in}
use Rattle.chi_tracker.specs.Conduct.{Does, TendActs}
use Rattle.chi_flit.specs.Credit.{credit_number}
use Rattle.chi_tracker.proofs.Entries.{credit_below}
use Rattle.chi_tracker.proofs.Upkeep.{held_of, owner_is, scan_range}
use Rattle.chi_tracker.proofs.port.Port.tend.Goals as goal

pub tend_type-released-requires-clause-range : goal.tend_type-released-requires-clause-range
tend_type-released-requires-clause-range g c =
    let i = c.self.inside in let seat = c.in-Some.port_seat in
    let held = held_of i.port_seat seat i.number i.shape i.seen i.due (sym c.take.ensures.value ∙ c.in-Some.is) c.self.invariant in
    let at = ap (λ w. w.port) (owner_is i.port_seat seat c.args.self.now (sym c.take.ensures.value ∙ c.in-Some.is) c.self.view_is) in
    scan_range c.args.self.now.port (shown seat.me) i.number i.shape i.seen i.due (credit_number c.args.ty) c.number.result c.first-first.result c.count-count.result held at c.number.ensures (credit_below c.args.ty) c.first-first.ensures c.count-count.ensures c.requires.entries

pub returns-clause-acts : goal.returns-clause-acts
returns-clause-acts g c =
    let i = c.self.inside in let seat = c.in-Some.port_seat in let did = c.tend_type-released in let q = owner_in did.new.port_seat in
    let own = owner_is i.port_seat seat c.args.self.now (sym c.take.ensures.value ∙ c.in-Some.is) c.self.view_is in
    record {
      table = did.ensures.table ∙ ap (λ o. o.table) (sym own);
      acts = subst (λ (w : Owner). Does w (TendActs w.port (credit_number c.args.ty) did.result) q) (sym own)
          (subst (λ (t : ℕ). Does (owner_in seat) (TendActs (port_of (shown seat.me)) t did.result) q) c.number.ensures did.ensures.acts);
      running = did.ensures.after;
    }
