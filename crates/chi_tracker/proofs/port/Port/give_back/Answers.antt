use Rattle.std.proofs.Common.{ℕ, refl, sym, ap, ◌∙◌, subst, arith}
use Rattle.chi_tracker.specs.Sums.{one_more}
use Rattle.chi_flit.specs.Credit.{credit_number}
use Rattle.chi_tracker.specs.Shape.{IsOf}
use Rattle.chi_tracker.specs.Views.{PortView, has}
use Rattle.chi_tracker.specs.Steps.{shown, port_of}
use Rattle.chi_tracker.specs.Calls.{IsLowestSeen}
use Rattle.chi_tracker.proofs.Entries.{credit_below}
use Rattle.chi_tracker.proofs.Upkeep.{held_of, owner_is, one_due, in_bounds, word_of, kind_below, returned_held, ended_held, can_pick, lowest_seen, paid_in_hand, paid_in_range, spent_less}
use Rattle.chi_tracker.proofs.Sweeps.{ended_same, paid_hand}
use Rattle.chi_tracker.specs.Calls.{Owner, owner_in}
use Rattle.chi_tracker.specs.Conduct.{Does, ReturnActs}
use Rattle.chi_tracker.proofs.Conduct.{give_release}
use Rattle.chi_tracker.proofs.port.Port.give_back.Goals as goal

pub first-requires : goal.first-requires
first-requires g c =
    let i = c.self.inside in
    (held_of i.port_seat c.in-Some.port_seat i.number i.shape i.seen i.due (sym c.take.ensures.value ∙ c.in-Some.is) c.self.invariant).shaped

pub count-requires : goal.count-requires
count-requires g c =
    let i = c.self.inside in
    (held_of i.port_seat c.in-Some.port_seat i.number i.shape i.seen i.due (sym c.take.ensures.value ∙ c.in-Some.is) c.self.invariant).shaped

pub lowest-entry-requires : goal.lowest-entry-requires
lowest-entry-requires g c =
    let i = c.self.inside in let seat = c.in-Some.port_seat in
    let held = held_of i.port_seat seat i.number i.shape i.seen i.due (sym c.take.ensures.value ∙ c.in-Some.is) c.self.invariant in
    let at = ap (λ w. w.port) (owner_is i.port_seat seat c.args.self.now (sym c.take.ensures.value ∙ c.in-Some.is) c.self.view_is) in
    can_pick c.args.self.now.port (shown seat.me) i.number i.shape i.seen i.due (credit_number c.args.ty) c.first.result c.count.result held at (credit_below c.args.ty) c.first.ensures c.count.ensures c.requires.credit

pub pay-requires-clause-seen : goal.pay-requires-clause-seen
pay-requires-clause-seen g c =
    let i = c.self.inside in let seat = c.in-Some.port_seat in let e = c.lowest-entry.result in
    let held = held_of i.port_seat seat i.number i.shape i.seen i.due (sym c.take.ensures.value ∙ c.in-Some.is) c.self.invariant in
    let found = c.lowest-entry.ensures in
    let low = lowest_seen (shown seat.me) i.number i.shape i.seen i.due (credit_number c.args.ty) e held (omega (arith, found.within.0, c.first.ensures), omega (arith, found.within.1, c.first.ensures, c.count.ensures)) found.set (λ k le. found.lowest k (omega (arith, le, c.first.ensures))) in
    (subst (λ (u : ℕ). IsOf (port_of (shown seat.me)).shape u e) (sym c.number-kind.ensures) low.0, low.1)

pub release_entry-released-requires-clause-held : goal.release_entry-released-requires-clause-held
release_entry-released-requires-clause-held g c =
    let i = c.self.inside in let seat = c.in-Some.port_seat in
    let held = held_of i.port_seat seat i.number i.shape i.seen i.due (sym c.take.ensures.value ∙ c.in-Some.is) c.self.invariant in
    let paid = paid_in_hand (shown seat.me) (shown c.pay.new.port_seat.me) i.number i.shape i.seen i.due c.number-kind.result c.lowest-entry.result held c.pay.ensures.view in (paid.1, paid.2)

pub release_entry-released-requires-clause-range : goal.release_entry-released-requires-clause-range
release_entry-released-requires-clause-range g c =
    let i = c.self.inside in let seat = c.in-Some.port_seat in let t = c.number-kind.result in let found = c.lowest-entry.ensures in
    let held = held_of i.port_seat seat i.number i.shape i.seen i.due (sym c.take.ensures.value ∙ c.in-Some.is) c.self.invariant in
    let of : IsOf i.shape t c.lowest-entry.result = rw c.number-kind.ensures (omega (arith, found.within.0, c.first.ensures), omega (arith, found.within.1, c.first.ensures, c.count.ensures)) in
    paid_in_range (shown seat.me) (shown c.pay.new.port_seat.me) i.number i.shape i.seen i.due t c.lowest-entry.result held c.pay.ensures.view (omega (arith, c.number-kind.ensures, credit_below c.args.ty)) of

pub bounds-self-inside-entry : goal.bounds-self-inside-entry
bounds-self-inside-entry g c =
    let i = c.self.inside in let seat = c.in-Some.port_seat in
    let held = held_of i.port_seat seat i.number i.shape i.seen i.due (sym c.take.ensures.value ∙ c.in-Some.is) c.self.invariant in
    word_of c.lowest-entry.result (in_bounds i.shape (credit_number c.args.ty) c.first.result c.count.result c.lowest-entry.result held.shaped (credit_below c.args.ty) c.first.ensures c.count.ensures c.lowest-entry.ensures.within.1)

pub bounds-self-inside-kind : goal.bounds-self-inside-kind
bounds-self-inside-kind g c = kind_below c.number-kind.result c.args.ty c.number-kind.ensures

pub overflow_sub-self : goal.overflow_sub-self
overflow_sub-self g c =
    let i = c.self.inside in let seat = c.in-Some.port_seat in
    let held = held_of i.port_seat seat i.number i.shape i.seen i.due (sym c.take.ensures.value ∙ c.in-Some.is) c.self.invariant in
    one_due (shown seat.me) i.number i.shape i.seen i.due c.number-kind.result held (kind_below c.number-kind.result c.args.ty c.number-kind.ensures) c.pay.ensures.due

pub invariant_of-self : goal.invariant_of-self
invariant_of-self g c =
    let i = c.self.inside in let seat = c.in-Some.port_seat in let t = c.number-kind.result in let e = c.lowest-entry.result in
    let held = held_of i.port_seat seat i.number i.shape i.seen i.due (sym c.take.ensures.value ∙ c.in-Some.is) c.self.invariant in
    rw c.others.ensures (ended_held c.release_entry-released.new.port_seat.me.0.history (shown c.pay.new.port_seat.me) (shown c.release_entry-released.new.port_seat.me) i.number i.shape _ _ t e c.release_entry-released.result
    (returned_held (shown seat.me) (shown c.pay.new.port_seat.me) i.number i.shape i.seen i.due t e held (omega (arith, c.number-kind.ensures, credit_below c.args.ty)) (omega arith) c.pay.ensures.due c.pay.new.port_seat.me.0.history c.pay.ensures.after c.pay.ensures.view)
    c.release_entry-released.ensures.alone c.release_entry-released.ensures.view c.release_entry-released.ensures.after)

pub returns-clause-hand : goal.returns-clause-hand
returns-clause-hand g c =
    let i = c.self.inside in let seat = c.in-Some.port_seat in let t = c.number-kind.result in let e = c.lowest-entry.result in
    let at = ap (λ w. w.port) (owner_is i.port_seat seat c.args.self.now (sym c.take.ensures.value ∙ c.in-Some.is) c.self.view_is) in
    λ k. paid_hand (port_of (shown seat.me)) (port_of (shown c.pay.new.port_seat.me)) t e c.release_entry-released.result (port_of (shown c.release_entry-released.new.port_seat.me))
    (ap (λ m. (port_of m).hand) c.pay.ensures.view) c.pay.ensures.held c.release_entry-released.ensures.view k ∙ ap (λ p. has k p) (sym at)

pub returns-clause-credits : goal.returns-clause-credits
returns-clause-credits g c =
    let i = c.self.inside in let seat = c.in-Some.port_seat in let view = c.pay.ensures.view in let kind = c.number-kind.ensures in
    let at = ap (λ w. w.port) (owner_is i.port_seat seat c.args.self.now (sym c.take.ensures.value ∙ c.in-Some.is) c.self.view_is) in
    let kept = ended_same (port_of (shown c.pay.new.port_seat.me)) c.number-kind.result c.lowest-entry.result c.release_entry-released.result (port_of (shown c.release_entry-released.new.port_seat.me)) c.release_entry-released.ensures.view in (
      kept.0 ∙ ap (λ m. (port_of m).who) view ∙ ap (λ (p : PortView). p.who) (sym at),
      kept.1 ∙ ap (λ m. (port_of m).shape) view ∙ ap (λ (p : PortView). p.shape) (sym at),
      refl,
      kept.3 ∙ ap (λ m. (port_of m).retries) view ∙ ap (λ (p : PortView). p.retries) (sym at),
      kept.4 ∙ ap (λ m. (port_of m).spent) view ∙ ap (λ (p : PortView). p.spent) (sym at),
      kept.5 ∙ ap (λ m. (port_of m).returned) view ∙ ap (λ (t : ℕ). one_more (port_of (shown seat.me)).returned t) kind ∙ ap (λ (p : PortView). one_more p.returned (credit_number c.args.ty)) (sym at),
    )

pub returns-clause-fewer : goal.returns-clause-fewer
returns-clause-fewer g c =
    let i = c.self.inside in let seat = c.in-Some.port_seat in let t = credit_number c.args.ty in let e = c.lowest-entry.result in let found = c.lowest-entry.ensures in
    let held = held_of i.port_seat seat i.number i.shape i.seen i.due (sym c.take.ensures.value ∙ c.in-Some.is) c.self.invariant in
    let at = ap (λ w. w.port) (owner_is i.port_seat seat c.args.self.now (sym c.take.ensures.value ∙ c.in-Some.is) c.self.view_is) in
    let low = subst (λ (p : PortView). IsLowestSeen p t e) (sym at)
    (lowest_seen (shown seat.me) i.number i.shape i.seen i.due t e held (omega (arith, found.within.0, c.first.ensures), omega (arith, found.within.1, c.first.ensures, c.count.ensures)) found.set (λ k le. found.lowest k (omega (arith, le, c.first.ensures)))) in
    let kept = ended_same (port_of (shown c.pay.new.port_seat.me)) c.number-kind.result e c.release_entry-released.result (port_of (shown c.release_entry-released.new.port_seat.me)) c.release_entry-released.ensures.view in
    spent_less c.args.self.now.port (shown seat.me) (shown c.release_entry-released.new.port_seat.me) i.number i.shape i.seen i.due t e held (omega arith) at (credit_below c.args.ty) low.0 low.1
    (kept.1 ∙ ap (λ m. (port_of m).shape) c.pay.ensures.view) (kept.2 ∙ ap (λ m. (port_of m).seen) c.pay.ensures.view)

pub returns-clause-acts : goal.returns-clause-acts
returns-clause-acts g c =
    let i = c.self.inside in let seat = c.in-Some.port_seat in let t = credit_number c.args.ty in let e = c.lowest-entry.result in let released = c.release_entry-released.result in let found = c.lowest-entry.ensures in
    let held = held_of i.port_seat seat i.number i.shape i.seen i.due (sym c.take.ensures.value ∙ c.in-Some.is) c.self.invariant in
    let own = owner_is i.port_seat seat c.args.self.now (sym c.take.ensures.value ∙ c.in-Some.is) c.self.view_is in
    let low = lowest_seen (shown seat.me) i.number i.shape i.seen i.due t e held (omega (arith, found.within.0, c.first.ensures), omega (arith, found.within.1, c.first.ensures, c.count.ensures)) found.set (λ k le. found.lowest k (omega (arith, le, c.first.ensures))) in
    let d = give_release (owner_in seat) (owner_in c.pay.new.port_seat) (owner_in c.release_entry-released.new.port_seat) t c.number-kind.result i.shape.agents (port_of (shown seat.me)).shape.agents e released
    (ap (λ s. (port_of s).who) c.pay.ensures.view) c.number-kind.ensures (sym (ap (λ s. s.agents) held.shape_is)) c.pay.ensures.acts c.release_entry-released.ensures.acts in
    record {
      table = c.release_entry-released.ensures.table ∙ c.pay.ensures.table ∙ ap (λ w. w.table) (sym own);
      acts = subst (λ (w : Owner). Does w (ReturnActs w.port t released) (owner_in c.release_entry-released.new.port_seat)) (sym own) (d.0, d.1, (e, low, c.pay.ensures.held, d.2), d.3);
      running = c.release_entry-released.ensures.after;
    }
