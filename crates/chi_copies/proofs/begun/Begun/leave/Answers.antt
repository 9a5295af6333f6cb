-- Its copies go with the others'.
use Rattle.std.proofs.Common.{rules, arith, ◌≡◌, length, refl, sym, subst, ◌∙◌}
use Rattle.std.specs.Prelude.{true, false}
use Rattle.chi_observer.specs.declared.flits.Flit.TheVariants.{Up}
use Rattle.chi_copies.specs.Begun.{takes_sent}
use Rattle.chi_copies.specs.BegunLines.{begun}
use Rattle.chi_copies.specs.Sets.{members}
use Rattle.chi_copies.proofs.BegunLines.{sent_beside, sent_left, settled_behind}
use Rattle.chi_copies.proofs.BegunTaken.{other_copy_reason, sent_stands}
use Rattle.chi_copies.proofs.begun.Begun.leave.Goals as goal

pub returns-then-not-stands-clause-taken : goal.returns-then-not-stands-clause-taken
returns-then-not-stands-clause-taken c =
    let s = c.args.self.now in
    let f = c.args.flit in
    let sets : length s.may ≡ 32 = search (rules, arith) in
    let others : length c.others_may-others.result ≡ 32 = search (rules, arith) in
    let none : c.stands.result ≡ false = search (rules, arith, c.if-not-stands) in
    subst (λ x. x ≡ takes_sent (begun s) f) none (sent_stands (begun s) f true c.stands.result (sym c.requires.sent) refl
    (sent_beside s f (members c.args.own) c.is_sure_sent-sure.result c.tells_words.result (members c.apart_from-apart.result) c.others_may-others.result sets others c.is_sure_sent-sure.ensures c.requires.own c.apart_from-apart.ensures c.tells_words.ensures c.others_may-others.ensures c.stands.result c.stands.ensures))

pub returns-then-not-stands-clause-why : goal.returns-then-not-stands-clause-why
returns-then-not-stands-clause-why c =
    let s = c.args.self.now in
    let f = c.args.flit in
    let sets : length s.may ≡ 32 = search (rules, arith) in
    let others : length c.others_may-others.result ≡ 32 = search (rules, arith) in
    let none : c.stands.result ≡ false = search (rules, arith, c.if-not-stands) in
    other_copy_reason (begun s) f c.requires.sent (sym (sent_beside s f (members c.args.own) c.is_sure_sent-sure.result c.tells_words.result (members c.apart_from-apart.result) c.others_may-others.result sets others c.is_sure_sent-sure.ensures c.requires.own c.apart_from-apart.ensures c.tells_words.ensures c.others_may-others.ensures c.stands.result c.stands.ensures) ∙ none)

pub move_to-requires-clause-may : goal.move_to-requires-clause-may
move_to-requires-clause-may c =
    let s = c.args.self.now in
    let f = c.args.flit in
    let sets : length s.may ≡ 32 = search (rules, arith) in
    let others : length c.others_may-others.result ≡ 32 = search (rules, arith) in
    sent_left s f (members c.args.own) c.is_sure_sent-sure.result c.tells_words.result (members c.apart_from-apart.result) c.others_may-others.result sets others c.is_sure_sent-sure.ensures c.requires.own c.apart_from-apart.ensures c.tells_words.ensures c.others_may-others.ensures c.each_left-may.result c.each_left-may.ensures

pub returns-clause-taken : goal.returns-clause-taken
returns-clause-taken c =
    let s = c.args.self.now in
    let f = c.args.flit in
    let sets : length s.may ≡ 32 = search (rules, arith) in
    let others : length c.others_may-others.result ≡ 32 = search (rules, arith) in
    let some : c.stands.result ≡ true = search (rules, arith, c.if-not-stands) in
    subst (λ x. x ≡ takes_sent (begun s) f) some (sent_stands (begun s) f true c.stands.result (sym c.requires.sent) refl
    (sent_beside s f (members c.args.own) c.is_sure_sent-sure.result c.tells_words.result (members c.apart_from-apart.result) c.others_may-others.result sets others c.is_sure_sent-sure.ensures c.requires.own c.apart_from-apart.ensures c.tells_words.ensures c.others_may-others.ensures c.stands.result c.stands.ensures))

pub returns-clause-after : goal.returns-clause-after
returns-clause-after c = c.settle.ensures ∙ settled_behind (begun c.args.self.now) (Up c.args.flit) c.move_to.new.self c.args.self.now.shown c.issuer_of.result c.move_to.ensures.after c.move_to.ensures.shown refl c.issuer_of.ensures
