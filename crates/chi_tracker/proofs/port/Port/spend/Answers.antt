use Rattle.std.proofs.Common.{◌≡◌, ℕ, sym, ap, ◌∙◌, subst, arith}
use Rattle.chi_flit.specs.Credit.{credit_number}
use Rattle.chi_tracker.specs.Views.{PortView, has}
use Rattle.chi_tracker.specs.Steps.{shown, port_of, spends}
use Rattle.chi_tracker.specs.declared.step.AtomicStep.TheVariants.{Spend}
use Rattle.chi_tracker.specs.Calls.{Owner, owner_in, IsLowestSeen}
use Rattle.chi_tracker.specs.Conduct.{Does, One}
use Rattle.chi_tracker.proofs.Entries.{credit_below}
use Rattle.chi_tracker.proofs.Upkeep.{held_of, owner_is, one_due, in_bounds, word_of, as_byte, kind_below, spent_held, lowest_seen, spent_less}
use Rattle.chi_tracker.proofs.port.Port.spend.Goals as goal

pub first-requires : goal.first-requires
first-requires g c =
    let i = c.self.inside in
    (held_of i.port_seat c.in-Some.port_seat i.number i.shape i.seen i.due (sym c.take.ensures.value ∙ c.in-Some.is) c.self.invariant).shaped

pub count-requires : goal.count-requires
count-requires g c =
    let i = c.self.inside in
    (held_of i.port_seat c.in-Some.port_seat i.number i.shape i.seen i.due (sym c.take.ensures.value ∙ c.in-Some.is) c.self.invariant).shaped

pub bounds-self-inside-entry : goal.bounds-self-inside-entry
bounds-self-inside-entry g c =
    let i = c.self.inside in let seat = c.in-Some.port_seat in
    let held = held_of i.port_seat seat i.number i.shape i.seen i.due (sym c.take.ensures.value ∙ c.in-Some.is) c.self.invariant in
    word_of c.lowest-entry.result (in_bounds i.shape (credit_number c.args.ty) c.first.result c.count.result c.lowest-entry.result held.shaped (credit_below c.args.ty) c.first.ensures c.count.ensures c.lowest-entry.ensures.within.1)

pub bounds-self-inside-kind : goal.bounds-self-inside-kind
bounds-self-inside-kind g c = kind_below c.number-kind.result c.args.ty c.number-kind.ensures

pub overflow_sub-self : goal.overflow_sub-self
overflow_sub-self g c =
    let i = c.self.inside in let seat = c.in-Some.port_seat in
    let held = held_of i.port_seat seat i.number i.shape i.seen i.due (sym c.take.ensures.value ∙ c.in-Some.is) c.self.invariant in
    one_due (shown seat.me) i.number i.shape i.seen i.due c.number-kind.result held (kind_below c.number-kind.result c.args.ty c.number-kind.ensures) c.pay.ensures.due

pub overflow_cast-result : goal.overflow_cast-result
overflow_cast-result g c =
    let i = c.self.inside in let seat = c.in-Some.port_seat in
    let held = held_of i.port_seat seat i.number i.shape i.seen i.due (sym c.take.ensures.value ∙ c.in-Some.is) c.self.invariant in
    as_byte c.lowest-entry.result (in_bounds i.shape (credit_number c.args.ty) c.first.result c.count.result c.lowest-entry.result held.shaped (credit_below c.args.ty) c.first.ensures c.count.ensures c.lowest-entry.ensures.within.1)

pub invariant_of-self : goal.invariant_of-self
invariant_of-self g c =
    let i = c.self.inside in let seat = c.in-Some.port_seat in let t = c.number-kind.result in
    let held = held_of i.port_seat seat i.number i.shape i.seen i.due (sym c.take.ensures.value ∙ c.in-Some.is) c.self.invariant in
    rw c.others.ensures (spent_held (shown seat.me) (shown c.pay.new.port_seat.me) i.number i.shape i.seen i.due t c.lowest-entry.result held (omega (arith, c.number-kind.ensures, credit_below c.args.ty)) (omega arith) c.pay.ensures.due c.pay.new.port_seat.me.0.history c.pay.ensures.after c.pay.ensures.view)

pub returns-clause-lowest : goal.returns-clause-lowest
returns-clause-lowest g c =
    let i = c.self.inside in let seat = c.in-Some.port_seat in let t = credit_number c.args.ty in
    let held = held_of i.port_seat seat i.number i.shape i.seen i.due (sym c.take.ensures.value ∙ c.in-Some.is) c.self.invariant in
    let at = ap (λ w. w.port) (owner_is i.port_seat seat c.args.self.now (sym c.take.ensures.value ∙ c.in-Some.is) c.self.view_is) in
    let found = c.lowest-entry.ensures in
    subst (λ (p : PortView). IsLowestSeen p t c.lowest-entry.result) (sym at)
    (lowest_seen (shown seat.me) i.number i.shape i.seen i.due t c.lowest-entry.result held (omega (arith, found.within.0, c.first.ensures), omega (arith, found.within.1, c.first.ensures, c.count.ensures)) found.set (λ k le. found.lowest k (omega (arith, le, c.first.ensures))))

pub returns-clause-held : goal.returns-clause-held
returns-clause-held g c =
    let i = c.self.inside in let seat = c.in-Some.port_seat in let e = c.lowest-entry.result in
    let at = ap (λ w. w.port) (owner_is i.port_seat seat c.args.self.now (sym c.take.ensures.value ∙ c.in-Some.is) c.self.view_is) in
    subst (λ (p : PortView). has e p ≡ 0) (sym at) c.pay.ensures.held

pub returns-clause-port : goal.returns-clause-port
returns-clause-port g c =
    let i = c.self.inside in let seat = c.in-Some.port_seat in let e = c.lowest-entry.result in
    let at = ap (λ w. w.port) (owner_is i.port_seat seat c.args.self.now (sym c.take.ensures.value ∙ c.in-Some.is) c.self.view_is) in
    ap port_of c.pay.ensures.view ∙ ap (λ t. spends t e (port_of (shown seat.me))) c.number-kind.ensures ∙ ap (λ p. spends (credit_number c.args.ty) e p) (sym at)

pub returns-clause-fewer : goal.returns-clause-fewer
returns-clause-fewer g c =
    let i = c.self.inside in let seat = c.in-Some.port_seat in let t = credit_number c.args.ty in let e = c.lowest-entry.result in
    let held = held_of i.port_seat seat i.number i.shape i.seen i.due (sym c.take.ensures.value ∙ c.in-Some.is) c.self.invariant in
    let at = ap (λ w. w.port) (owner_is i.port_seat seat c.args.self.now (sym c.take.ensures.value ∙ c.in-Some.is) c.self.view_is) in
    let found = returns-clause-lowest g c in
    spent_less c.args.self.now.port (shown seat.me) (shown c.pay.new.port_seat.me) i.number i.shape i.seen i.due t e held (omega arith) at (credit_below c.args.ty) found.0 found.1
    (ap (λ m. (port_of m).shape) c.pay.ensures.view) (ap (λ m. (port_of m).seen) c.pay.ensures.view)

pub returns-clause-acts : goal.returns-clause-acts
returns-clause-acts g c =
    let i = c.self.inside in let seat = c.in-Some.port_seat in let e = c.lowest-entry.result in let q = owner_in c.pay.new.port_seat in
    let own = owner_is i.port_seat seat c.args.self.now (sym c.take.ensures.value ∙ c.in-Some.is) c.self.view_is in
    let here : Does (owner_in seat) (One (Spend c.number-kind.result e)) q = c.pay.ensures.acts in
    record {
      table = c.pay.ensures.table ∙ ap (λ o. o.table) (sym own);
      acts = subst (λ (w : Owner). Does w (One (Spend (credit_number c.args.ty) e)) q) (sym own) (subst (λ (t : ℕ). Does (owner_in seat) (One (Spend t e)) q) c.number-kind.ensures here);
      running = c.pay.ensures.after;
    }
