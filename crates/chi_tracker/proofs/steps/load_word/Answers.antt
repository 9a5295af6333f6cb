use Rattle.std.proofs.Common.{subst, arith}
use Rattle.chi_tracker.specs.declared.step.AtomicStep.{AtomicStep}
use Rattle.chi_tracker.specs.History.{act, port_in, GoesOn}
use Rattle.chi_tracker.specs.Conduct.{HasStepped}
use Rattle.chi_tracker.proofs.Advance.{allowed_at, stepped}
use Rattle.chi_tracker.proofs.steps.load_word.Goals as goal

pub load-requires : goal.load-requires
load-requires g c =
    let board = c.args.board.now in let seat = c.args.port_seat.now in
    (c.requires.seat.0, omega arith, allowed_at board.key board.table_id.slots seat.id seat.me g.T.Pick.step c.args.step c.args.word _ c.requires.picked c.requires.seat.2 c.requires.may c.requires.word.0 c.requires.written)

pub returns-clause-is : goal.returns-clause-is
returns-clause-is g c = subst (λ (k : AtomicStep). HasStepped k c.args.port_seat.now c.load.result c.load.new.seat) c.requires.picked (stepped g.T.Pick.step c.args.port_seat.now c.load.result c.load.new.seat c.load.ensures.0 c.load.ensures.2)

pub returns-clause-goes : goal.returns-clause-goes
returns-clause-goes g c = let seat = c.args.port_seat.now in subst (λ (k : AtomicStep). GoesOn (port_in seat.me) (act (port_in seat.me).who k c.load.result) seat.me.0.history c.load.new.seat.me.0.history) c.requires.picked c.load.ensures.2.1
