use Rattle.std.proofs.Common.{◌+◌, ◌-◌, sym, ap, ◌∙◌, arith, length}
use Rattle.chi_tracker.specs.Views.{new_port, new_ports}
use Rattle.chi_tracker.proofs.Deals.{first_left, owners-length, dealt_left, dealt_more}
use Rattle.chi_tracker.proofs.Seats.{deals}
use Rattle.chi_tracker.proofs.tracker.Tracker.deal.Goals as goal

pub split_seat-own-requires : goal.split_seat-own-requires
split_seat-own-requires g c =
    let s = c.self.inside.shape in let n = c.loop-number.number in
    let is = first_left s n s.agents c.loop-number.port_seat.me c.loop-number-test.true c.loop-number.invariant.left in (
      c.loop-number.invariant.table ∙ sym (ap (λ h. h.table) c.self.view_is),
      omega arith,
      deals c.self.inside.table.shared.key c.loop-number.port_seat.id c.loop-number.port_seat.me.0 (new_port s n) (new_ports s (n + 1) (s.agents - (n + 1))) is,
    )

pub push-requires : goal.push-requires
push-requires g c =
    let l = ap (λ os. length os) c.loop-number.invariant.dealt in
    (omega arith, omega (arith, owners-length c.args.self.now.table c.self.inside.shape 0 c.loop-number.number, l))

pub loop-number-preserved : goal.loop-number-preserved
loop-number-preserved g c =
    let s = c.self.inside.shape in let n = c.loop-number.number in let cut = c.split_seat-own.ensures in
    record {
      table = cut.0 ∙ c.loop-number.invariant.table;
      left = dealt_left s n s.agents c.loop-number.port_seat.me c.split_seat-own.new.seat.me c.loop-number-test.true c.loop-number.invariant.left cut.2;
      dealt = dealt_more c.args.self.now.table c.split_seat-own.result.table_id s n c.loop-number.ports.items c.push.new.self.items c.on_seat.result c.loop-number.invariant.dealt c.push.ensures.items c.on_seat.ensures (cut.3 ∙ c.loop-number.invariant.table);
    }
