-- It is what the observer keeps then.
use Rattle.std.proofs.Common.{rules, arith, ◌≡◌, ℕ, ◌<◌, length, subst, sym, ap, ◌∙◌, slice_set}
use Rattle.std.specs.Prelude.{◌||◌, Some, if◌then◌else◌}
use Rattle.chi_observer.specs.Rules.{due_after, passes_duty, snooped_after}
use Rattle.chi_copies.specs.declared.line.Line.{Line}
use Rattle.chi_copies.specs.Lines.{due_at, observed, others_may, snooped_at}
use Rattle.chi_copies.proofs.Lines.{line_of, moved_by}
use Rattle.chi_copies.proofs.line.Line.move_to.Goals as goal

pub returns-clause-after : goal.returns-clause-after
returns-clause-after c =
    let s = c.args.self.now in let n = c.from-at.result in let act = c.args.flit.act in
    let rest = c.learn.ensures.rest in
    let low : n < 32 = search (rules, arith) in
    let dues : length s.due ≡ 32 = search (rules, arith) in
    let snoops : length s.snooped ≡ 32 = search (rules, arith) in
    let copies : length c.show_others.new.may ≡ 32 = search (rules, arith) in
    ap (λ (x : Line). observed (line_of x.stores (slice_set x.due n c.code_after.result) (slice_set x.snooped n c.snooped_after.result) c.duty_after-self.result (slice_set c.show_others.new.may n c.args.left) c.tell.new.home c.learn.new.self.news)) rest
    ∙ moved_by s.stores s.due s.snooped s.duty s.may s.home s.news c.args.flit n c.code_after.result c.snooped_after.result c.duty_after-self.result c.tells_words-tells.result c.args.left c.show_others.new.may c.tell.new.home c.learn.new.self.news
    c.from-at.ensures (subst (λ (k : ℕ). n < k) (sym dues) low) (subst (λ (k : ℕ). n < k) (sym snoops) low) (subst (λ (k : ℕ). n < k) (sym copies) low)
    (c.code_after.ensures ∙ ap (λ (x : Line). due_after act (due_at x.due n)) rest)
    (c.snooped_after.ensures ∙ ap (λ (x : Line). snooped_after act (snooped_at x.snooped n)) rest)
    (c.duty_after-self.ensures ∙ ap (λ (x : Line). x.duty || passes_duty act) rest)
    c.tells_words-tells.ensures
    (λ k h. c.show_others.ensures k h ∙ ap (λ (x : Line). others_may c.tells_words-tells.result x.may k h) rest)
    c.requires.left
    (c.tell.ensures ∙ ap (λ (x : Line). if c.tells_words-tells.result then Some c.args.flit.shown else x.home) rest)
    c.learn.ensures.news
