-- It may be sent, and leaves all in order.
use Rattle.std.specs.Prelude.{is_ok}
use Rattle.chi_copies.specs.BegunLines.{begun}
use Rattle.chi_copies.specs.BegunRefusals.{given_refusal, order_refusal}
use Rattle.chi_copies.proofs.Refusals.{err_as}
use Rattle.chi_copies.proofs.BegunTaken.{given_not, given_passes, given_taken}
use Rattle.chi_copies.proofs.begun.Begun.take_given.Goals as goal

pub returns-in-Err-clause-taken : goal.returns-in-Err-clause-taken
returns-in-Err-clause-taken c = given_not (begun c.args.self.now) c.args.flit c.in-Err.ensures.may

pub returns-in-Err-clause-why : goal.returns-in-Err-clause-why
returns-in-Err-clause-why c = c.in-Err.ensures.why (order_refusal (begun c.args.self.now) c.args.flit)

pub returns-in-Ok-clause-taken : goal.returns-in-Ok-clause-taken
returns-in-Ok-clause-taken c = given_taken (begun c.args.self.now) c.args.flit (is_ok c.give.result) c.in-Ok.ensures.may c.give.ensures.taken

pub returns-in-Ok-clause-why : goal.returns-in-Ok-clause-why
returns-in-Ok-clause-why c =
    let b = begun c.args.self.now in
    err_as c.give.result (order_refusal b c.args.flit) (given_refusal b c.args.flit) (given_passes b c.args.flit (order_refusal b c.args.flit) c.in-Ok.ensures.may) c.give.ensures.why
