-- There was its moment, and it is safe.
use Rattle.std.proofs.Common.{sym, ◌∙◌}
use Rattle.std.specs.Prelude.{is_ok, not}
use Rattle.chi_copies.specs.declared.line.Reason.TheVariants.{NoMoment}
use Rattle.chi_copies.specs.Lines.{observed, shown_at}
use Rattle.chi_copies.specs.Moments.{has_moment}
use Rattle.chi_copies.specs.Refusals.{copy_refusal, due_refusal, refused_if}
use Rattle.chi_copies.proofs.Finite.{flip}
use Rattle.chi_copies.proofs.Lines.{timely, untimely}
use Rattle.chi_copies.proofs.Refusals.{err_as, first, kept_not, skip}
use Rattle.chi_copies.proofs.line.Line.is_timely.Goals as goal

pub returns-then-has_moment : goal.returns-then-has_moment
returns-then-has_moment c =
    let o = observed c.args.self.now in
    let shown = shown_at c.args.self.now.shown in
    let rest = due_refusal o c.args.flit (copy_refusal o c.args.flit) in
    let moment = has_moment o shown c.args.flit in
    record {
      takes = timely o c.args.flit shown c.has_moment.result (is_ok c.is_safe.result) c.has_moment.ensures c.if-has_moment.true c.is_safe.ensures.takes;
      why = err_as c.is_safe.result rest (refused_if (not moment) NoMoment rest) (skip (not moment) NoMoment rest (kept_not moment (sym c.has_moment.ensures ∙ c.if-has_moment.true))) c.is_safe.ensures.why;
    }

pub returns-else-has_moment : goal.returns-else-has_moment
returns-else-has_moment c =
    let o = observed c.args.self.now in
    let shown = shown_at c.args.self.now.shown in
    let moment = has_moment o shown c.args.flit in
    record {
      takes = untimely o c.args.flit shown c.has_moment.result c.has_moment.ensures c.if-has_moment.false;
      why = first (not moment) NoMoment (due_refusal o c.args.flit (copy_refusal o c.args.flit)) (flip moment (sym c.has_moment.ensures ∙ c.if-has_moment.false));
    }
