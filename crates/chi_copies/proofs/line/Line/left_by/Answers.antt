-- A flit is taken where it leaves a copy.
use Rattle.std.proofs.Common.{rules, arith, ◌≡◌, sym, ap, ◌∙◌}
use Rattle.std.specs.Prelude.{true}
use Rattle.chi_observer.specs.Rules.{allows}
use Rattle.chi_copies.proofs.Lines.{takes_is}
use Rattle.chi_copies.proofs.line.Line.left_by.Goals as goal

pub returns-then-any-clause-taken : goal.returns-then-any-clause-taken
returns-then-any-clause-taken c =
    let a : c.allows.result ≡ true = search (rules, arith, c.if-not-allows) in
    let p : c.is_placed.result ≡ true = search (rules, arith, c.if-not-is_placed) in
    sym c.if-any.true ∙ takes_is c.args.self.now c.args.flit c.left_of-left.result c.any.result
    (sym (c.allows.ensures ∙ ap (allows c.args.flit.act) c.snooped_of-snooped.ensures) ∙ a) (sym c.is_placed.ensures ∙ p)
    c.left_of-left.ensures c.any.ensures

pub returns-else-any-clause-taken : goal.returns-else-any-clause-taken
returns-else-any-clause-taken c =
    let a : c.allows.result ≡ true = search (rules, arith, c.if-not-allows) in
    let p : c.is_placed.result ≡ true = search (rules, arith, c.if-not-is_placed) in
    sym c.if-any.false ∙ takes_is c.args.self.now c.args.flit c.left_of-left.result c.any.result
    (sym (c.allows.ensures ∙ ap (allows c.args.flit.act) c.snooped_of-snooped.ensures) ∙ a) (sym c.is_placed.ensures ∙ p)
    c.left_of-left.ensures c.any.ensures
