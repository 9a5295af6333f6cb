-- An agent beyond the last is refused.
use Rattle.std.proofs.Common.{rules, arith, ◌≡◌, sym, subst}
use Rattle.std.specs.Prelude.{◌&&◌, false, nat_lt}
use Rattle.chi_observer.specs.declared.flits.Flit.{Flit}
use Rattle.chi_observer.specs.Moments.{has_moment}
use Rattle.chi_observer.specs.Observed.{takes_home}
use Rattle.chi_observer.specs.Lines.{takes_flit, watched}
use Rattle.chi_observer.proofs.Lines.{refused}
use Rattle.chi_observer.proofs.observer.Observer.take_told.Goals as goal

pub returns-then-given-ge32-clause-taken : goal.returns-then-given-ge32-clause-taken
returns-then-given-ge32-clause-taken c =
    let old = watched c.args.self.now in
    let given = c.in-Down.given in
    let high : nat_lt given.agent.0 32 ≡ false = search (rules, arith, c.if-given-ge32) in
    subst (λ (f : Flit). false ≡ takes_flit old f) (sym c.in-Down.is) (refused (nat_lt given.agent.0 32) (has_moment old.seen old.shown given && takes_home old.seen given) high)
