-- It may be sent, and leaves all in order.
use Rattle.std.specs.Prelude.{is_ok}
use Rattle.chi_copies.specs.Lines.{observed}
use Rattle.chi_copies.specs.Refusals.{copy_refusal, due_refusal}
use Rattle.chi_copies.proofs.Lines.{home_refused, home_taken}
use Rattle.chi_copies.proofs.Refusals.{due_passes, err_as}
use Rattle.chi_copies.proofs.line.Line.is_safe.Goals as goal

pub returns-in-Err : goal.returns-in-Err
returns-in-Err c = record {
  takes = home_refused (observed c.args.self.now) c.args.flit c.in-Err.ensures.may;
  why = c.in-Err.ensures.why (copy_refusal (observed c.args.self.now) c.args.flit);
}

pub returns-in-Ok : goal.returns-in-Ok
returns-in-Ok c =
    let o = observed c.args.self.now in
    let copies = copy_refusal o c.args.flit in
    record {
      takes = home_taken o c.args.flit (is_ok c.keeps_order.result) c.in-Ok.ensures.may c.keeps_order.ensures.keeps;
      why = err_as c.keeps_order.result copies (due_refusal o c.args.flit copies) (due_passes o c.args.flit copies c.in-Ok.ensures.may) c.keeps_order.ensures.why;
    }
