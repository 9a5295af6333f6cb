-- Each rule is tested.
use Rattle.std.proofs.Common.{rules, arith, ◌≡◌, subst}
use Rattle.std.specs.Prelude.{true, false}
use Rattle.chi_copies.specs.Begun.{apart_given, others_begun}
use Rattle.chi_copies.specs.BegunLines.{begun, keeps_order_begun, sets_of}
use Rattle.chi_copies.specs.Sets.{members}
use Rattle.chi_copies.proofs.BegunTaken.{copy_reason, lost_reason, order_lost, order_stands, order_words, stands_is, words_reason}
use Rattle.chi_copies.proofs.begun.Begun.keeps_order.Goals as goal

pub returns-then-not-fits_shown : goal.returns-then-not-fits_shown
returns-then-not-fits_shown c =
    let none : c.fits_shown.result ≡ false = search (rules, arith, c.if-not-fits_shown) in
    record {
      keeps = order_words (begun c.args.self.now) c.args.flit c.fits_shown.result c.fits_shown.ensures none;
      why = words_reason (begun c.args.self.now) c.args.flit c.fits_shown.result c.fits_shown.ensures none;
    }

pub returns-then-fills_stored : goal.returns-then-fills_stored
returns-then-fills_stored c =
    let fits : c.fits_shown.result ≡ true = search (rules, arith, c.if-not-fits_shown) in
    record {
      keeps = order_lost (begun c.args.self.now) c.args.flit c.fills_stored.result c.fills_stored.ensures c.if-fills_stored.true;
      why = lost_reason (begun c.args.self.now) c.args.flit c.fits_shown.result c.fills_stored.result c.fits_shown.ensures fits c.fills_stored.ensures c.if-fills_stored.true;
    }

pub returns-then-not-stands : goal.returns-then-not-stands
returns-then-not-stands c =
    let b = begun c.args.self.now in
    let f = c.args.flit in
    let fits : c.fits_shown.result ≡ true = search (rules, arith, c.if-not-fits_shown) in
    let none : c.stands.result ≡ false = search (rules, arith, c.if-not-stands) in
    let is = stands_is f.agent.0 (members c.args.apart) (apart_given b f) b.sure (sets_of c.args.others.now) (others_begun b f) c.stands.result c.requires.apart c.requires.others c.stands.ensures in
    record {
      keeps = subst (λ x. x ≡ keeps_order_begun b f) none (order_stands b f c.fits_shown.result c.fills_stored.result c.stands.result c.fits_shown.ensures fits c.fills_stored.ensures c.if-fills_stored.false is);
      why = copy_reason b f c.fits_shown.result c.fills_stored.result c.stands.result c.fits_shown.ensures fits c.fills_stored.ensures c.if-fills_stored.false is none;
    }

pub returns-clause-keeps : goal.returns-clause-keeps
returns-clause-keeps c =
    let b = begun c.args.self.now in
    let f = c.args.flit in
    let fits : c.fits_shown.result ≡ true = search (rules, arith, c.if-not-fits_shown) in
    let some : c.stands.result ≡ true = search (rules, arith, c.if-not-stands) in
    let is = stands_is f.agent.0 (members c.args.apart) (apart_given b f) b.sure (sets_of c.args.others.now) (others_begun b f) c.stands.result c.requires.apart c.requires.others c.stands.ensures in
    subst (λ x. x ≡ keeps_order_begun b f) some (order_stands b f c.fits_shown.result c.fills_stored.result c.stands.result c.fits_shown.ensures fits c.fills_stored.ensures c.if-fills_stored.false is)
