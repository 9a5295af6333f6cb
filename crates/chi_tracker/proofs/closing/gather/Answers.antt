use Rattle.std.proofs.Common.{rules, ◌≡◌, [], ap, ◌∙◌, subst, arith}
use Rattle.chi_tracker.proofs.Start.{zeros}
use Rattle.chi_tracker.proofs.Seats.{enters}
use Rattle.chi_tracker.proofs.Gathering.{gathered_all, gathered_few, gathered_follow, popped_own, gathering_first, gathering_more}
use Rattle.chi_tracker.proofs.Together.{meets, knows_port}
use Rattle.chi_tracker.specs.Witness.{IsKnown}
use Rattle.chi_tracker.proofs.closing.gather.Goals as goal

pub load_new_seat-port_seat-requires : goal.load_new_seat-port_seat-requires
load_new_seat-port_seat-requires c = (omega arith, enters c.args.board.now.key c.args.board.now.table_id.slots)

pub loop-port-init : goal.loop-port-init
loop-port-init c = gathering_first c.args.board.now.table_id c.args.ports.items _ _ c.load_new_seat-port_seat.ensures.0 c.requires.table.1 c.load_new_seat-port_seat.ensures.2 (λ i l. zeros 32 i)

pub into_seated-own-requires : goal.into_seated-own-requires
into_seated-own-requires c =
    let own = popped_own c.args.board.now.table_id c.args.ports.items c.loop-port.ports.items c.pop.new.self.items c.loop-port.port_seat c.loop-port.dues c.in-Some.port c.loop-port.invariant c.in-Some.ensures.items in
    omega (arith, ap (λ z. z.words) own, c.requires.table.0)

pub add_due-sums-requires-clause-small : goal.add_due-sums-requires-clause-small
add_due-sums-requires-clause-small c = gathered_few c.args.board.now.table_id c.args.ports.items c.loop-port.ports.items c.loop-port.port_seat c.loop-port.dues c.requires.few c.loop-port.invariant

pub join_seat-requires : goal.join_seat-requires
join_seat-requires c =
    let own = popped_own c.args.board.now.table_id c.args.ports.items c.loop-port.ports.items c.pop.new.self.items c.loop-port.port_seat c.loop-port.dues c.in-Some.port c.loop-port.invariant c.in-Some.ensures.items in
    let seated = c.into_seated-own.ensures in (
      c.loop-port.invariant.table,
      seated.port_seat.0 ∙ own,
      ap (λ m. m.1) seated.port_seat.1,
      omega arith,
      meets c.args.board.now.key c.loop-port.port_seat.id c.loop-port.port_seat.me.0 c.into_seated-own.result.port_seat.id c.into_seated-own.result.port_seat.me.0,
    )

pub load-requires : goal.load-requires
load-requires c =
    let seat = c.join_seat.new.seat in
    (c.join_seat.ensures.0 ∙ c.loop-port.invariant.table, omega arith, knows_port c.args.board.now.key c.args.board.now.table_id.slots seat.id seat.me)

pub loop-port-preserved : goal.loop-port-preserved
loop-port-preserved c =
    let seated = c.into_seated-own.ensures in let joined = c.join_seat.ensures in let loaded = c.load.ensures in
    gathering_more c.args.board.now.table_id c.args.ports.items c.loop-port.ports.items c.pop.new.self.items c.loop-port.port_seat c.load.new.seat c.into_seated-own.result.port_seat.me c.loop-port.dues c.add_due-sums.result c.in-Some.port c.into_seated-own.result.number c.into_seated-own.result.due
    c.loop-port.invariant c.in-Some.ensures.items (loaded.0 ∙ joined.0) seated.port_seat.1 seated.port_seat.2 (subst IsKnown (ap (λ m. m.0) joined.2) loaded.2.1) (loaded.2.0 ∙ joined.2) seated.number.0 seated.number.1 seated.due c.add_due-sums.ensures.sum c.add_due-sums.ensures.small

pub returns-clause-history : goal.returns-clause-history
returns-clause-history c =
    let none : c.loop-port.ports.items ≡ [] = search rules in
    gathered_all c.args.board.now.table_id c.args.ports.items c.loop-port.ports.items c.loop-port.port_seat c.loop-port.dues c.loop-port.invariant none

pub returns-clause-later : goal.returns-clause-later
returns-clause-later c =
    let none : c.loop-port.ports.items ≡ [] = search rules in
    gathered_follow c.args.board.now.table_id c.args.ports.items c.loop-port.ports.items c.loop-port.port_seat c.loop-port.dues c.loop-port.invariant none
