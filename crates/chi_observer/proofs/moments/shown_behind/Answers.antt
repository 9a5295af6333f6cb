-- Where none can be open none is shown.
use Rattle.std.proofs.Common.{rules, arith, ◌≡◌, sym, ap, ◌∙◌}
use Rattle.std.specs.Prelude.{Bool, true, false, ◌&&◌}
use Rattle.chi_observer.specs.Lines.{shown_of, shown_here}
use Rattle.chi_observer.proofs.Lines.{none_shown}
use Rattle.chi_observer.proofs.moments.shown_behind.Goals as goal

pub returns-then-not-waits : goal.returns-then-not-waits
returns-then-not-waits c =
    let none : c.args.waits ≡ false = search (rules, arith, c.if-not-waits) in
    λ n. none_shown c.args.stores c.args.waits c.args.agents.now c.args.current c.args.shown.now c.args.flit n none

pub returns : goal.returns
returns c =
    let some : c.args.waits ≡ true = search (rules, arith, c.if-not-waits) in
    λ n. c.each_shown.ensures n ∙ sym (ap (λ (b : Bool). b && shown_here c.args.stores c.args.agents.now c.args.current c.args.flit (shown_of c.args.shown.now n) n) some)
