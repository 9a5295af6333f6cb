-- A flit is sent where it leaves a copy.
use Rattle.std.proofs.Common.{rules, arith, ◌≡◌, sym, ap, ◌∙◌}
use Rattle.std.specs.Prelude.{true}
use Rattle.chi_observer.specs.Rules.{allows}
use Rattle.chi_copies.specs.Sets.{members}
use Rattle.chi_copies.specs.BegunLines.{begun}
use Rattle.chi_copies.proofs.BegunTaken.{may_send_is}
use Rattle.chi_copies.proofs.begun.Begun.left_by.Goals as goal

pub returns-then-any-clause-sent : goal.returns-then-any-clause-sent
returns-then-any-clause-sent c =
    let a : c.allows.result ≡ true = search (rules, arith, c.if-not-allows) in
    let p : c.is_placed.result ≡ true = search (rules, arith, c.if-not-is_placed) in
    sym c.if-any.true ∙ may_send_is (begun c.args.self.now) c.args.flit (members c.sent-left.result) c.any.result
    (sym (c.allows.ensures ∙ ap (allows c.args.flit.act) c.snooped_of-snooped.ensures) ∙ a) (sym c.is_placed.ensures ∙ p) c.sent-left.ensures c.any.ensures

pub returns-else-any-clause-sent : goal.returns-else-any-clause-sent
returns-else-any-clause-sent c =
    let a : c.allows.result ≡ true = search (rules, arith, c.if-not-allows) in
    let p : c.is_placed.result ≡ true = search (rules, arith, c.if-not-is_placed) in
    sym c.if-any.false ∙ may_send_is (begun c.args.self.now) c.args.flit (members c.sent-left.result) c.any.result
    (sym (c.allows.ensures ∙ ap (allows c.args.flit.act) c.snooped_of-snooped.ensures) ∙ a) (sym c.is_placed.ensures ∙ p) c.sent-left.ensures c.any.ensures
