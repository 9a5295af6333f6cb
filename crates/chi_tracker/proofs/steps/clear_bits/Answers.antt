use Rattle.std.proofs.Common.{subst, arith}
use Rattle.chi_tracker.specs.declared.step.AtomicStep.{AtomicStep}
use Rattle.chi_tracker.specs.History.{act, port_in, GoesOn}
use Rattle.chi_tracker.specs.Conduct.{HasStepped}
use Rattle.chi_tracker.proofs.Advance.{allowed_at, stepped}
use Rattle.chi_tracker.proofs.steps.clear_bits.Goals as goal

pub fetch_and-requires : goal.fetch_and-requires
fetch_and-requires g c =
    let board = c.args.board.now in let seat = c.args.port_seat.now in
    (c.requires.seat.0, omega arith, allowed_at board.key board.table_id.slots seat.id seat.me g.T.Pick.step c.args.step c.args.word _ c.requires.picked c.requires.seat.2 c.requires.may c.requires.word.0 c.requires.written)

pub returns-clause-is : goal.returns-clause-is
returns-clause-is g c = subst (λ (k : AtomicStep). HasStepped k c.args.port_seat.now c.fetch_and.result c.fetch_and.new.seat) c.requires.picked (stepped g.T.Pick.step c.args.port_seat.now c.fetch_and.result c.fetch_and.new.seat c.fetch_and.ensures.0 c.fetch_and.ensures.2)

pub returns-clause-goes : goal.returns-clause-goes
returns-clause-goes g c = let seat = c.args.port_seat.now in subst (λ (k : AtomicStep). GoesOn (port_in seat.me) (act (port_in seat.me).who k c.fetch_and.result) seat.me.0.history c.fetch_and.new.seat.me.0.history) c.requires.picked c.fetch_and.ensures.2.1
