-- It is what the observer keeps then.
use Rattle.std.proofs.Common.{rules, arith, ◌≡◌, ℕ, ◌<◌, length, subst, sym, ap, ◌∙◌}
use Rattle.chi_observer.specs.Rules.{due_granted}
use Rattle.chi_copies.specs.Lines.{due_at}
use Rattle.chi_copies.proofs.Lines.{given_by, given_is}
use Rattle.chi_copies.proofs.line.Line.give.Goals as goal

pub returns-clause-after : goal.returns-clause-after
returns-clause-after c =
    let s = c.args.self.now in let n = c.from-at.result in
    let low : n < 32 = search (rules, arith) in
    let dues : length s.due ≡ 32 = search (rules, arith) in
    let snoops : length s.snooped ≡ 32 = search (rules, arith) in
    let copies : length c.show_others.new.may ≡ 32 = search (rules, arith) in
    given_by s.stores s.due s.snooped s.duty s.may s.home s.news c.args.flit n c.code_granted.result c.due_of-due.result c.snooped_granted.result c.snooped_of-snooped.result c.duty_granted-self.result c.is_shown-shows.result c.makes-makes.result c.args.got c.show_others.new.may c.tell.new.home c.forget.new.news
    c.from-at.ensures (subst (λ (k : ℕ). n < k) (sym dues) low) (subst (λ (k : ℕ). n < k) (sym snoops) low) (subst (λ (k : ℕ). n < k) (sym copies) low)
    c.due_of-due.ensures c.snooped_of-snooped.ensures (c.code_granted.ensures ∙ ap (due_granted c.args.flit.grant) (ap (due_at s.due) c.from-at.ensures ∙ sym c.due_of-due.ensures)) c.snooped_granted.ensures c.duty_granted-self.ensures c.is_shown-shows.ensures c.makes-makes.ensures
    (given_is s c.args.flit c.due_of-due.result c.renews-renews.result c.show_others.new.may c.due_of-due.ensures c.renews-renews.ensures c.show_others.ensures) c.requires.got c.tell.ensures c.forget.ensures
