use Rattle.std.proofs.Common.{◌≡◌, Option, refl, sym, ap, ◌∙◌, subst}
use Rattle.chi_flit.specs.declared.numbers.Entry.{Entry}
use Rattle.chi_tracker.specs.Sums.{with_bit}
use Rattle.chi_tracker.specs.Views.{PortView}
use Rattle.chi_tracker.specs.Steps.{SeatPorts, shown, port_of}
use Rattle.chi_tracker.specs.Calls.{owner_in, hand_with, HasSameCredits}
use Rattle.chi_tracker.specs.Conduct.{Does, ClaimActs}
use Rattle.chi_tracker.proofs.Conduct.{claim_some, claim_none}
use Rattle.chi_flit.specs.Credit.{credit_number}
use Rattle.chi_tracker.proofs.Entries.{credit_below}
use Rattle.chi_tracker.proofs.Upkeep.{held_of, owner_is, scan_range, entry_as_byte, scanned_held}
use Rattle.chi_tracker.proofs.port.Port.claim.Goals as goal
use Rattle.chi_tracker.proofs.port.Port.claim.Goals.{in-Some-found, in-None}

pub scan-found-requires-clause-range : goal.scan-found-requires-clause-range
scan-found-requires-clause-range g c =
    let i = c.self.inside in let seat = c.in-Some.port_seat in
    let held = held_of i.port_seat seat i.number i.shape i.seen i.due (sym c.take.ensures.value ∙ c.in-Some.is) c.self.invariant in
    let at = ap (λ w. w.port) (owner_is i.port_seat seat c.args.self.now (sym c.take.ensures.value ∙ c.in-Some.is) c.self.view_is) in
    scan_range c.args.self.now.port (shown seat.me) i.number i.shape i.seen i.due (credit_number c.args.ty) c.number.result c.first-first.result c.count-count.result held at c.number.ensures (credit_below c.args.ty) c.first-first.ensures c.count-count.ensures c.requires.entries

pub overflow_cast-result : goal.overflow_cast-result
overflow_cast-result g c =
    let i = c.self.inside in let seat = c.in-Some.port_seat in
    let held = held_of i.port_seat seat i.number i.shape i.seen i.due (sym c.take.ensures.value ∙ c.in-Some.is) c.self.invariant in
    entry_as_byte (shown seat.me) i.number i.shape i.seen i.due (credit_number c.args.ty) c.number.result c.in-Some-found.entry held c.number.ensures (credit_below c.args.ty) c.in-Some-found.ensures.some.0

pub invariant_of-self : goal.invariant_of-self
invariant_of-self g c =
    let i = c.self.inside in let seat = c.in-Some.port_seat in let found = c.scan-found in
    let held = held_of i.port_seat seat i.number i.shape i.seen i.due (sym c.take.ensures.value ∙ c.in-Some.is) c.self.invariant in
    scanned_held found.new.port_seat.me.0.history (shown seat.me) (shown found.new.port_seat.me) i.number i.shape i.seen i.due c.number.result c.first-first.result c.count-count.result found.result held found.ensures.some found.ensures.none found.ensures.after

pub returns-clause-hand : goal.returns-clause-hand
returns-clause-hand g c =
    let i = c.self.inside in let seat = c.in-Some.port_seat in let q = port_of (shown c.scan-found.new.port_seat.me) in
    let at = ap (λ w. w.port) (owner_is i.port_seat seat c.args.self.now (sym c.take.ensures.value ∙ c.in-Some.is) c.self.view_is) in
    elim c.match-found.branch [
      | in-Some-found w ↦ subst (λ (o : Option Entry). q.hand ≡ hand_with o c.args.self.now.port.hand) (sym w.result-is)
          (ap (λ m. (port_of m).hand) w.in-Some-found.ensures.some.2 ∙ ap (λ (p : PortView). with_bit p.hand w.in-Some-found.entry) (sym at))
      | in-None w ↦ subst (λ (o : Option Entry). q.hand ≡ hand_with o c.args.self.now.port.hand) (sym w.result-is)
          (ap (λ m. (port_of m).hand) w.in-None.ensures.none ∙ ap (λ (p : PortView). p.hand) (sym at))
    ]

pub returns-clause-credits : goal.returns-clause-credits
returns-clause-credits g c =
    let i = c.self.inside in let seat = c.in-Some.port_seat in let q = port_of (shown c.scan-found.new.port_seat.me) in
    let at = ap (λ w. w.port) (owner_is i.port_seat seat c.args.self.now (sym c.take.ensures.value ∙ c.in-Some.is) c.self.view_is) in
    subst (λ (p : PortView). HasSameCredits p q) (sym at) (elim c.match-found.branch [
      | in-Some-found w ↦ subst (λ (m : SeatPorts). HasSameCredits (port_of (shown seat.me)) (port_of m)) (sym w.in-Some-found.ensures.some.2) (refl, refl, refl, refl, refl, refl)
      | in-None w ↦ subst (λ (m : SeatPorts). HasSameCredits (port_of (shown seat.me)) (port_of m)) (sym w.in-None.ensures.none) (refl, refl, refl, refl, refl, refl)
    ])

pub returns-clause-acts : goal.returns-clause-acts
returns-clause-acts g c =
    let i = c.self.inside in let seat = c.in-Some.port_seat in let t = credit_number c.args.ty in let q = owner_in c.scan-found.new.port_seat in let w = c.args.self.now in
    let held = held_of i.port_seat seat i.number i.shape i.seen i.due (sym c.take.ensures.value ∙ c.in-Some.is) c.self.invariant in
    let own = owner_is i.port_seat seat w (sym c.take.ensures.value ∙ c.in-Some.is) c.self.view_is in
    let range = scan_range w.port (shown seat.me) i.number i.shape i.seen i.due t c.number.result c.first-first.result c.count-count.result held (ap (λ o. o.port) own) c.number.ensures (credit_below c.args.ty) c.first-first.ensures c.count-count.ensures c.requires.entries in
    record {
      table = c.scan-found.ensures.table ∙ ap (λ o. o.table) (sym own);
      acts = elim c.match-found.branch [
        | in-Some-found b ↦ subst (λ (o : Option Entry). Does w (ClaimActs w.port t o) q) (sym b.result-is)
            (claim_some w (owner_in seat) q t c.number.result c.first-first.result own c.number.ensures range.0 (record { 0 = b.in-Some-found.entry }) b.in-Some-found.ensures.some.0 b.in-Some-found.ensures.some.1 b.in-Some-found.ensures.free)
        | in-None b ↦ subst (λ (o : Option Entry). Does w (ClaimActs w.port t o) q) (sym b.result-is)
            (claim_none w (owner_in seat) q t c.number.result c.first-first.result own c.number.ensures range.0 c.count-count.result range.1 range.2 b.in-None.ensures.taken)
      ];
      running = c.scan-found.ensures.after;
    }
