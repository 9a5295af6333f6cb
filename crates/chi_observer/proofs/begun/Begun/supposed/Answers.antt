-- What is set is what is supposed.
use Rattle.std.proofs.Common.{rules, arith, ◌<◌, length, ap, ◌∙◌}
use Rattle.std.specs.Prelude.{Bool, None, if◌then◌else◌}
use Rattle.chi_observer.proofs.Middle.{supposed_is}
use Rattle.chi_observer.specs.Begun.{mark_of}
use Rattle.chi_observer.proofs.begun.Begun.supposed.Goals as goal

pub returns : goal.returns
returns c =
    let old = c.args.self.now in
    let n = c.args.at in
    let low : n < length old.observer.agents = search (rules, arith) in
    let low_shown : n < length old.observer.shown = search (rules, arith) in
    supposed_is old.observer n (mark_of old.agents n) c.args.flit c.supposed.result c.words_unless.result c.is_either.result low low_shown
    c.supposed.ensures (c.words_unless.ensures ∙ ap (λ (b : Bool). if b then None else old.observer.home) c.blurs.ensures) c.is_either.ensures
