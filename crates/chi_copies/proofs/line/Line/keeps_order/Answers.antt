-- Each rule is tested.
use Rattle.std.proofs.Common.{rules, arith, ◌≡◌}
use Rattle.std.specs.Prelude.{true, false}
use Rattle.chi_copies.specs.Lines.{observed}
use Rattle.chi_copies.proofs.Lines.{order_words, order_lost, order_copy, order_kept}
use Rattle.chi_copies.proofs.Refusals.{other_copy, other_words, value_lost}
use Rattle.chi_copies.proofs.line.Line.keeps_order.Goals as goal

pub returns-then-not-fits_shown : goal.returns-then-not-fits_shown
returns-then-not-fits_shown c =
    let none : c.fits_shown.result ≡ false = search (rules, arith, c.if-not-fits_shown) in
    record {
      keeps = order_words (observed c.args.self.now) c.args.flit c.fits_shown.result c.fits_shown.ensures none;
      why = other_words (observed c.args.self.now) c.args.flit c.fits_shown.result c.fits_shown.ensures none;
    }

pub returns-then-fills_stored : goal.returns-then-fills_stored
returns-then-fills_stored c =
    let fits : c.fits_shown.result ≡ true = search (rules, arith, c.if-not-fits_shown) in
    record {
      keeps = order_lost (observed c.args.self.now) c.args.flit c.fills_stored.result c.fills_stored.ensures c.if-fills_stored.true;
      why = value_lost (observed c.args.self.now) c.args.flit c.fits_shown.result c.fills_stored.result c.fits_shown.ensures fits c.fills_stored.ensures c.if-fills_stored.true;
    }

pub returns-then-not-goes : goal.returns-then-not-goes
returns-then-not-goes c =
    let fits : c.fits_shown.result ≡ true = search (rules, arith, c.if-not-fits_shown) in
    let none : c.goes.result ≡ false = search (rules, arith, c.if-not-goes) in
    record {
      keeps = order_copy (observed c.args.self.now) c.args.flit c.goes.result c.goes.ensures none;
      why = other_copy (observed c.args.self.now) c.args.flit c.fits_shown.result c.fills_stored.result c.goes.result c.fits_shown.ensures fits c.fills_stored.ensures c.if-fills_stored.false c.goes.ensures none;
    }

pub returns-clause-keeps : goal.returns-clause-keeps
returns-clause-keeps c =
    let fits : c.fits_shown.result ≡ true = search (rules, arith, c.if-not-fits_shown) in
    let goes : c.goes.result ≡ true = search (rules, arith, c.if-not-goes) in
    order_kept (observed c.args.self.now) c.args.flit c.fits_shown.result c.fills_stored.result c.goes.result c.fits_shown.ensures c.fills_stored.ensures c.goes.ensures fits c.if-fills_stored.false goes
