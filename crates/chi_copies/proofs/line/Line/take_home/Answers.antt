-- It is what the observer keeps then.
use Rattle.std.proofs.Common.{refl, ap, ◌∙◌}
use Rattle.std.specs.Prelude.{true, false, nat_lt, not, None}
use Rattle.chi_copies.specs.declared.line.Reason.TheVariants.{NoAgent}
use Rattle.chi_copies.proofs.Finite.{flip}
use Rattle.chi_copies.proofs.Refusals.{first, kept_not, skip}
use Rattle.chi_copies.specs.Observed.{loose}
use Rattle.chi_copies.specs.Lines.{observed, shown_at}
use Rattle.chi_observer.specs.declared.flits.Flit.TheVariants.{Down}
use Rattle.chi_copies.proofs.Lines.{high_is, low_is, shown_is, taken_low, taken_high}
use Rattle.chi_copies.proofs.line.Line.take_home.Goals as goal

pub returns-then-flit-ge32-clause-taken : goal.returns-then-flit-ge32-clause-taken
returns-then-flit-ge32-clause-taken c = taken_high (observed c.args.self.now) c.args.flit (shown_at c.args.self.now.shown) c.if-flit-ge32.true

pub returns-in-Err-clause-taken : goal.returns-in-Err-clause-taken
returns-in-Err-clause-taken c = taken_low (observed c.args.self.now) c.args.flit (shown_at c.args.self.now.shown) false c.if-flit-ge32.false c.in-Err.ensures.takes

pub returns-in-Ok-clause-taken : goal.returns-in-Ok-clause-taken
returns-in-Ok-clause-taken c = taken_low (observed c.args.self.now) c.args.flit (shown_at c.args.self.now.shown) true c.if-flit-ge32.false c.in-Ok.ensures.takes

pub returns-in-Ok-clause-after : goal.returns-in-Ok-clause-after
returns-in-Ok-clause-after c = c.loosen.ensures.after ∙ ap (loose c.args.flit.agent.0) c.give.ensures.after

pub returns-in-Ok-clause-moments : goal.returns-in-Ok-clause-moments
returns-in-Ok-clause-moments c = λ n. ap (λ s. shown_at s n) c.loosen.ensures.shown
    ∙ shown_is c.give.new.self (observed c.args.self.now) (Down c.args.flit) None c.args.self.now.shown c.shown_behind-self.result n c.give.ensures.after c.give.ensures.shown refl (c.shown_behind-self.ensures n)

pub returns-then-flit-ge32-clause-why : goal.returns-then-flit-ge32-clause-why
returns-then-flit-ge32-clause-why c = first (not (nat_lt c.args.flit.agent.0 32)) NoAgent _ (flip (nat_lt c.args.flit.agent.0 32) (high_is c.args.flit.agent.0 c.if-flit-ge32.true))

pub returns-in-Err-clause-why : goal.returns-in-Err-clause-why
returns-in-Err-clause-why c = skip (not (nat_lt c.args.flit.agent.0 32)) NoAgent _ (kept_not (nat_lt c.args.flit.agent.0 32) (low_is c.args.flit.agent.0 c.if-flit-ge32.false)) ∙ c.in-Err.ensures.why
