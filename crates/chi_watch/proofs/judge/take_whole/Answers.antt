-- The flit is one of a cache or of the home.
use Rattle.std.proofs.Common.{◌≡◌, OnOk, sym, ap, ◌∙◌, subst}
use Rattle.chi_observer.specs.declared.flits.Flit.{Flit}
use Rattle.chi_copies.specs.Lines.{observed, shown_at}
use Rattle.chi_watch.specs.Judges.{line_after, line_refusal, whole_judged}
use Rattle.chi_watch.proofs.judge.take_whole.Goals as goal

pub returns-in-Up-clause-why : goal.returns-in-Up-clause-why
returns-in-Up-clause-why c =
    c.take_sent.ensures.why ∙ ap (line_refusal (observed c.args.line.now) (shown_at c.args.line.now.shown)) (sym c.in-Up.is)

pub returns-in-Up-clause-after : goal.returns-in-Up-clause-after
returns-in-Up-clause-after c =
    subst (λ (f : Flit). OnOk c.take_sent.result (whole_judged c.take_sent.new.line ≡ line_after (observed c.args.line.now) (shown_at c.args.line.now.shown) f))
    (sym c.in-Up.is) c.take_sent.ensures.after

pub returns-in-Down-clause-why : goal.returns-in-Down-clause-why
returns-in-Down-clause-why c =
    c.take_given.ensures.why ∙ ap (line_refusal (observed c.args.line.now) (shown_at c.args.line.now.shown)) (sym c.in-Down.is)

pub returns-in-Down-clause-after : goal.returns-in-Down-clause-after
returns-in-Down-clause-after c =
    subst (λ (f : Flit). OnOk c.take_given.result (whole_judged c.take_given.new.line ≡ line_after (observed c.args.line.now) (shown_at c.args.line.now.shown) f))
    (sym c.in-Down.is) c.take_given.ensures.after
