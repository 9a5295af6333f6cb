-- What is set is what is forgotten.
use Rattle.std.proofs.Common.{rules, arith, ◌<◌, length}
use Rattle.chi_observer.proofs.Middle.{forgotten_is}
use Rattle.chi_observer.proofs.begun.Begun.forget_at.Goals as goal

pub returns : goal.returns
returns c =
    let old = c.args.self.now in
    let n = c.args.at in
    let low : n < length old.observer.agents = search (rules, arith) in
    let low_marks : n < length old.agents = search (rules, arith) in
    forgotten_is old n low low_marks
